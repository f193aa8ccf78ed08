use Rattle.std.proofs.Common.{◌≡◌, Bool, true, refl, subst, sym, ◌∙◌}
use Rattle.rules_flow.proofs.Works.{when_end, when_join, when_nothing, when_octets}
use Rattle.flow_splice.specs.Hosts.{serves_write, some_is}
use Rattle.flow_splice.proofs.Calls.{reads_on_yet}
use Rattle.flow_splice.proofs.Events.{goes_none}
use Rattle.flow_splice.proofs.Hosting.{connects_unread, idle_unwritten, shut_unwritten}
use Rattle.flow_splice.proofs.Shaping.{ending_writes, unless_idle}
use Rattle.world_face.proofs.Telling.{makes_as, makes_none}
use Rattle.flow_splice.proofs.Spliced.serve_writing.Goals.{then-not-ready-via-then-not-ready, then-not-ready-via-else-not-ready+then-not-is_open}
use Rattle.flow_splice.proofs.Spliced.serve_writing.Goals as goal

pub returns-then-not-ready-clause-makes : goal.returns-then-not-ready-clause-makes
returns-then-not-ready-clause-makes g c =
    makes_none _ _ (
      goes_none c.args.self.now _ c.args.now,
      refl,
      λ none. refl,
      λ ready waits.
          elim c.then-not-ready.branch [
            | then-not-ready-via-then-not-ready w ↦ let not_it = sym ready ∙ w.if-not-ready.true in cc
            | then-not-ready-via-else-not-ready+then-not-is_open w ↦ absurd (shut_unwritten c.args.self.now (sym w.is_open.ensures ∙ w.if-not-is_open.true) waits)
          ],
      reads_on_yet c.args.self.now,
    )

-- what connects isn't read
pub returns-in-Join-clause-makes : goal.returns-in-Join-clause-makes
returns-in-Join-clause-makes g c =
    let connects = sym c.connects.ensures ∙ when_join _ _ _ c.in-Join.ensures in
    makes_as _ _ _ _ c.connect.ensures.makes
    (λ made goes. (
      goes.0,
      goes.1,
      unless_idle c.args.ready made c.if-not-ready.false,
      λ ready waits. subst (λ (b : Bool). some_is (serves_write b) made ≡ true) (sym connects) goes.2,
      λ reading. absurd (connects_unread c.args.self.now connects reading),
    ))

pub returns-in-Join-clause-passes_end : goal.returns-in-Join-clause-passes_end
returns-in-Join-clause-passes_end g c ready connected = absurd (let connects = sym c.connects.ensures ∙ when_join _ _ _ c.in-Join.ensures in let not_so = sym connects ∙ connected in cc)

pub returns-in-Octets-clause-makes : goal.returns-in-Octets-clause-makes
returns-in-Octets-clause-makes g c = makes_as _ _ _ _ c.write.ensures.makes
    (λ made goes. (
      goes.0,
      goes.1,
      unless_idle c.args.ready made c.if-not-ready.false,
      λ ready waits. subst (λ (b : Bool). some_is (serves_write b) made ≡ true)
          (sym (sym c.connects.ensures ∙ (when_octets _ _ _ c.in-Octets.ensures).0)) goes.2,
      goes.3,
    ))

pub returns-in-End-clause-makes : goal.returns-in-End-clause-makes
returns-in-End-clause-makes g c =
    makes_as _ _ _ _ c.end.ensures.makes (λ made goes. (
      goes.0,
      ending_writes made goes.1,
      unless_idle c.args.ready made c.if-not-ready.false,
      λ ready waits. subst
          (λ (b : Bool). some_is (serves_write b) made ≡ true) (sym (sym c.connects.ensures ∙ (when_end _ _ _ c.in-End.ensures).0)) goes.2,
      goes.3,
    ))

pub returns-in-Nothing-clause-makes : goal.returns-in-Nothing-clause-makes
returns-in-Nothing-clause-makes g c =
    let none = when_nothing _ _ _ c.in-Nothing.ensures in
    makes_none _ _ (
      goes_none c.args.self.now _ c.args.now,
      refl,
      λ none. refl,
      λ ready waits.
          absurd
          (idle_unwritten c.args.self.now (sym c.connects.ensures ∙ none.0) (sym c.owes_octets.ensures ∙ none.1) (sym c.owes_end.ensures ∙ none.2) waits),
      reads_on_yet c.args.self.now,
    )
