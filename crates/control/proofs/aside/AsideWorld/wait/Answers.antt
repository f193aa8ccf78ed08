use Rattle.std.proofs.Common.{◌∷◌, refl, sym, ◌∙◌, ap, subst}
use Rattle.poll_list.specs.Listing.{AreWants}
use Rattle.poll_list.specs.Picks.{as_list}
use Rattle.world_face.specs.Journal.{Allowed, Wait}
use Rattle.rules_control.specs.Apart.{reported_of}
use Rattle.control.proofs.Passing.{wait_told, waited_on}
use Rattle.control.proofs.Putting.{are_wanted, wait_seen}
use Rattle.control.proofs.aside.AsideWorld.wait.Goals as goal

pub wait-answer-requires-clause-some : goal.wait-answer-requires-clause-some
wait-answer-requires-clause-some g c = subst AreWants (sym c.gather.ensures.items) (are_wanted c.self.inside.item c.args.wants.now.items c.self.invariant.wanted c.requires.some)

pub invariant_of-self : goal.invariant_of-self
invariant_of-self g c =
    waited_on c.self.invariant c.wait-answer.ensures.answers c.gather.ensures.items c.then-self-inside.ensures
    (ap (λ wants. Wait wants c.args.timeout c.wait-answer.result c.items-reported.result.now) c.items-wanted.ensures
    ∙ ap (λ ready. Wait c.args.wants.now.items c.args.timeout c.wait-answer.result ready) c.items-reported.ensures)
    c.put_others.ensures.items (c.part_reported-self-inside.ensures ∙ ap (reported_of (as_list c.self.inside.item)) c.items.ensures) c.gather.ensures.capacity c.wait-answer.ensures.capacity

pub returns-clause-answers : goal.returns-clause-answers
returns-clause-answers g c =
    let inside = c.self.inside in
    let wants = c.args.wants.now.items in
    let answer = c.wait-answer.result in
    let ready = c.wait-answer.new.ready.items in
    let among = ap (λ l. Wait l c.args.timeout answer ready) c.gather.ensures.items in
    wait_told g.W.World.tells
    (record { world = c.wait-answer.new.self; began = inside.began.value; item = inside.item; reported = as_list c.part_reported-self-inside.result; seen = c.then-self-inside.result.entries })
    c.self.view_is c.wait-answer.ensures.answers refl refl
    (c.then-self-inside.ensures
    ∙ ap (λ l. Wait l c.args.timeout answer c.items-reported.result.now ∷ inside.seen.entries) c.items-wanted.ensures
    ∙ ap (λ l. Wait wants c.args.timeout answer l ∷ inside.seen.entries) c.items-reported.ensures)
    (subst (λ l. Allowed (Wait wants c.args.timeout answer l)) (sym c.put_others.ensures.items)
    (wait_seen inside.item wants c.args.timeout answer ready c.self.invariant.own c.requires.some (subst Allowed among c.wait-answer.ensures.answers.allowed)))
