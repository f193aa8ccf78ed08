use Rattle.std.proofs.Common.{◌<◌, length, sym, ◌∙◌, ap, subst, arith}
use Rattle.std.proofs.lemmas.List.{length-map}
use Rattle.replay.specs.Lines.{row_of, rows_of}
use Rattle.replay.specs.Script.{Script}
use Rattle.replay.proofs.Entries.{moment_more, not_stopped}
use Rattle.replay.proofs.world.ScriptWorld.go_on.Goals as goal

pub invariant_of-self : goal.invariant_of-self
invariant_of-self c =
    let w = c.self.inside in
    let kept = c.self.invariant in
    let live = ap (λ (s : Script). s.live) c.self.view_is ∙ c.requires.live in
    let told : w.used < length (rows_of w.rows.items) = subst (λ (s : Script). s.used < length s.lines) (sym c.self.view_is) c.requires.within in
    let within : w.used < length w.rows.items = omega (arith, told, length-map w.rows.items row_of) in (
      omega arith,
      kept.1,
      kept.2,
      kept.3,
      λ call is. absurd (not_stopped w.stop w.octets.items w.wants.items call live is),
      c.moment_after-self-inside.ensures ∙ moment_more w.rows.items w.used w.moment c.index.result.now within c.index.ensures kept.5,
      kept.6,
      kept.7,
    )
