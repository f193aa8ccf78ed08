use Rattle.std.proofs.Common.{◌≡◌, Bool, true, false, cond, sym, ◌∙◌, ap}
use Rattle.world_face.specs.Journal.{call_of}
use Rattle.replay.specs.Fitting.{has_failed, raised}
use Rattle.replay.specs.Names.{name_of}
use Rattle.replay.specs.Script.{Script}
use Rattle.replay.proofs.Following.{used_up}
use Rattle.replay.proofs.Completing.{its_entry}
use Rattle.replay.proofs.world.ScriptWorld.advance.Goals as goal

pub returns-then-failed : goal.returns-then-failed
returns-then-failed c = λ e next is.
    let done = c.complete.ensures e next is in
    let w = c.self.inside in
    let entry = its_entry w.rows.items w.used c.index.result.now _ _ _ c.args.self.now c.complete.new.self e c.self.view_is c.index.ensures next done in
    let failed : has_failed e ≡ true = ap has_failed (sym entry) ∙ sym c.has_failed-failed.ensures ∙ c.if-failed.true in
    let name = c.name_of-name.ensures ∙ ap (λ x. name_of (call_of x)) entry in
    let mid = c.complete.new.self in
    used_up c.args.self.now mid c.count.new.self e next done
    (ap (λ (s : Script). s.lines) (c.count.ensures ∙ ap (λ (s : Script). record s { faults = raised c.name_of-name.result s.faults }) c.go_on.ensures))
    (ap (λ (s : Script). s.used) (c.count.ensures ∙ ap (λ (s : Script). record s { faults = raised c.name_of-name.result s.faults }) c.go_on.ensures))
    (ap (λ (s : Script). s.live) (c.count.ensures ∙ ap (λ (s : Script). record s { faults = raised c.name_of-name.result s.faults }) c.go_on.ensures))
    (ap (λ (s : Script). s.stop) (c.count.ensures ∙ ap (λ (s : Script). record s { faults = raised c.name_of-name.result s.faults }) c.go_on.ensures))
    (ap (λ (s : Script). s.faults) (c.count.ensures ∙ ap (λ (s : Script). record s { faults = raised c.name_of-name.result s.faults }) c.go_on.ensures)
    ∙ ap (λ n. raised n mid.faults) name ∙ ap (λ (b : Bool). cond b (raised (name_of (call_of e)) mid.faults) mid.faults) (sym failed))

pub returns-else-failed : goal.returns-else-failed
returns-else-failed c = λ e next is.
    let done = c.complete.ensures e next is in
    let w = c.self.inside in
    let entry = its_entry w.rows.items w.used c.index.result.now _ _ _ c.args.self.now c.complete.new.self e c.self.view_is c.index.ensures next done in
    let failed : has_failed e ≡ false = ap has_failed (sym entry) ∙ sym c.has_failed-failed.ensures ∙ c.if-failed.false in
    let mid = c.complete.new.self in
    used_up c.args.self.now mid c.go_on.new.self e next done
    (ap (λ (s : Script). s.lines) c.go_on.ensures)
    (ap (λ (s : Script). s.used) c.go_on.ensures)
    (ap (λ (s : Script). s.live) c.go_on.ensures)
    (ap (λ (s : Script). s.stop) c.go_on.ensures)
    (ap (λ (s : Script). s.faults) c.go_on.ensures ∙ ap (λ (b : Bool). cond b (raised (name_of (call_of e)) mid.faults) mid.faults) (sym failed))
