use Rattle.std.proofs.Common.{◌≡◌, ℕ, ◌≤◌, ◌==◌, false, List, [], ◌∷◌, ◌++◌, length, refl, sym, ◌∙◌, ap, subst, arith, codes}
use Rattle.std.proofs.lemmas.Bool.Decides.{nat_tests}
use Rattle.std.proofs.lemmas.List.{length-append}
use Rattle.spec_flows.specs.Book.{book}
use Rattle.slirp_core.specs.Holds.{after}
use Rattle.serve_loop.specs.Turns.{AttendsNow}
use Rattle.rules_control.specs.Talk.{Talk, with_left}
use Rattle.spec_control.specs.ControlServer.{flows_in_use}
use Rattle.spec_control.specs.Replies.{flow_lines, reply_line}
use Rattle.control_loop.specs.Standing.{Says}
use Rattle.control_loop.specs.declared.control_server.ControlServer.{ControlServer}
use Rattle.control_loop.proofs.control_server.ControlServer.list.Goals as goal

-- the connection to which so much was said
abbrev says_more : List ℕ → Talk → Talk
says_more more t = record t { left = t.left ++ more }

some_left : (left : List ℕ) (c : ℕ) (more : List ℕ) → (length (left ++ (c ∷ more)) == 0) ≡ false
some_left left c more = let many = length-append left (c ∷ more) in let some : 1 ≤ length (c ∷ more) = omega arith in grind (arith, nat_tests, many, some)

pub returns-clause-listed : goal.returns-clause-listed
returns-clause-listed c settings count past attended =
    let old = c.args.self.now in
    let ports = c.list_ports.new.self in
    let flows = c.list_flows.new.self in
    let ok = reply_line (codes "ok") in
    let more = flow_lines (flows_in_use (book settings past).flows) in
    let there = subst (λ (x : ControlServer). AttendsNow settings (after count) false x.service.slirp x.service.link past) (sym c.list_ports.ensures.told) attended in
    c.reply.ensures ∙ ap (says_more ok) (c.list_flows.ensures.told settings count past there)
    ∙ ap (λ (x : ControlServer). says_more ok (with_left (x.session.left ++ more) x.session)) c.list_ports.ensures.told

pub returns-clause-says : goal.returns-clause-says
returns-clause-says c =
    let old = c.args.self.now in
    subst (λ (t : Talk). Says old.session t)
    (sym (c.reply.ensures ∙ ap (says_more (reply_line (codes "ok"))) (c.list_flows.ensures.talk ∙ ap (λ (x : ControlServer). with_left (c.list_flows.new.self).session.left x.session) c.list_ports.ensures.told)))
    (record { listening = refl; peer = refl; had = refl; kept = refl; some = some_left (c.list_flows.new.self).session.left 111 (107 ∷ 10 ∷ []) })

pub returns-clause-others : goal.returns-clause-others
returns-clause-others c =
    ap (λ (x : ControlServer). record x { session = c.reply.new.self }) (c.list_flows.ensures.others ∙ ap (λ (x : ControlServer). record x { session = (c.list_flows.new.self).session }) c.list_ports.ensures.told)
