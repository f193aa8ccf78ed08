-- Waits, and the moment that is asked for after one.
use Rattle.slirp_core.proofs.Given.{stays_in_force}
use Rattle.std.proofs.Common.{◌≡◌, ℕ, ◌+◌, ◌^◌, ◌<◌, ◌≤◌, nat_lt, min, max, true, false, List, [], ◌∷◌, length, Option, Some, None, refl, sym, ◌∙◌, ap, arith, if◌then◌else◌}
use Rattle.std.proofs.lemmas.Bool.Decides.{nat_tests}
use Rattle.poll_list.specs.Listing.{writes}
use Rattle.poll_list.specs.declared.Want.{Want}
use Rattle.poll_list.specs.declared.Who.TheVariants.{Link as TheLink}
use Rattle.world_face.specs.Journal.{Entry, Allowed, Now, Wait}
use Rattle.world_face.specs.declared.Waited.{Waited}
use Rattle.world_face.specs.declared.Waited.TheVariants.{Ready}
use Rattle.world_face.specs.Frames.{Ending, wait_ending}
use Rattle.slirp_settings.specs.Addresses.{Config}
use Rattle.spec_trace.specs.Moments.{waits}
use Rattle.spec_trace.specs.Shape.{Started, Over, By, phase, phase_after, unless_over, may_turn}
use Rattle.spec_trace.specs.Sockets.{next_number}
use Rattle.spec_run.specs.Datagrams.{Step, NeedsNothing, due_for}
use Rattle.spec_run.specs.Laws.{Lawful, due, most_wanted}
use Rattle.spec_run.proofs.Deeds.{asks, waits_now}
use Rattle.stream_netdev.specs.State.{LinkState, under_way}
use Rattle.rules_forward.specs.Opened.{forward_sockets}
use Rattle.slirp_core.specs.Holds.{after, standing, AreOpen, carriers, holders_with, Begins, Ended, Holds, OfFlows, Stands, Turns, flowing}
use Rattle.slirp_core.specs.State.{SlirpState}
use Rattle.slirp_core.proofs.Guests.{guests_stay}
use Rattle.slirp_core.proofs.Parts.{errand_for, asked_for, due_in_phase, due_is, two_in}
use Rattle.slirp_core.proofs.Owing.{owed_told, owed_waited}
use Rattle.slirp_core.proofs.Services.{none_due_for_services}
use Rattle.rules_tftp.specs.Transfers.{next_again}
use Rattle.tcp_flows.specs.Kept.{Kept}
use Rattle.slirp_core.proofs.Flows.{flows_ask_nothing, flows_paused, flows_stay_open, flows_told}
use Rattle.slirp_core.proofs.Open.{are_open}

not_before : (told now : ℕ) → now ≤ max (min told (2 ^ 62)) now
not_before told now = omega arith

module _ (config : Config) (count : ℕ) (slirp : SlirpState) (kept : Kept) (old : LinkState) (past : List Entry) (wants : List Want) (timeout : Option ℕ)
    (few : count < config.turns) (most : length wants ≤ most_wanted) (none_again : slirp.pending ≡ [] → next_again slirp.moment slirp.transfers ≡ None) (holds : Holds config (after count) slirp (flowing true kept) old past) where
  -- a wait may begin a turn, the first or a later one
  none_due : Stands config NeedsNothing slirp kept old past → due config past ≡ None
  none_due (Turns turn) = due_is config past NeedsNothing turn.working (none_due_for_services config past holds.relayed.heard holds.services.quest) holds.flows.holds.asked
      (asked_for config (after count) NeedsNothing None slirp (flowing true kept) old past holds)
  none_due (Begins unbegun free unrested) =
      due_in_phase config past Started unbegun.started (none_due_for_services config past holds.relayed.heard holds.services.quest) holds.flows.holds.asked
      ∙ ap (λ (t : Step). due_for config t (next_number past)) (asked_for config (after count) NeedsNothing None slirp (flowing true kept) old past holds)

  turns_on : Stands config NeedsNothing slirp kept old past → may_turn (phase config past) ≡ true
  turns_on (Turns turn) = ap may_turn turn.working
  turns_on (Begins unbegun free unrested) = ap may_turn unbegun.started

  waits_on : nat_lt (waits past) config.turns ≡ true
  waits_on = let counted : waits past ≡ count = holds.clock.counted in grind (arith, nat_tests, few, counted)

  waited : (answer : Waited) (ready : List Want) → Lawful config (Wait wants timeout answer ready ∷ past)
  waited answer ready = (
    waits_now config past wants timeout (none_due holds.stands) (flows_stay_open config (flowing true kept) slirp.moment past holds.flows) (turns_on holds.stands) waits_on (grind (arith, nat_tests, most)) holds.open_yet,
    holds.lawful,
  )

  ends : (why : Ending) → Stands config NeedsNothing slirp kept old past → unless_over (phase config past) why ≡ Over (By why)
  ends why (Turns turn) = ap (λ p. unless_over p why) turn.working
  ends why (Begins unbegun free unrested) = ap (λ p. unless_over p why) unbegun.started

  flows_then : (answer : Waited) (ready : List Want) → OfFlows config (flowing false kept) slirp.moment (Wait wants timeout answer ready ∷ past)
  flows_then answer ready = flows_paused config kept slirp.moment wants timeout answer ready past holds.flows

  now_open : AreOpen (forward_sockets slirp.forwards) (carriers (holders_with slirp kept)) kept.flows.slots past
  now_open = are_open config (after count) NeedsNothing None slirp (flowing true kept) old past holds

  pub wait_ends_it : (answer : Waited) (ready : List Want) (why : Ending) → wait_ending answer ≡ Some why → Ended config (count + 1) why slirp.forwards (holders_with slirp kept)
      (Wait wants timeout answer ready ∷ past) × (next_number (Wait wants timeout answer ready ∷ past) ≡ slirp.number)
  wait_ends_it answer ready why is = (
    record {
      lawful = waited answer ready;
      over = ap (λ o. phase_after (Wait wants timeout answer ready) o (phase config past)) is ∙ ends why holds.stands;
      waited = ap (λ n. n + 1) holds.clock.counted;
      errand = errand_for config NeedsNothing None slirp past holds.relayed;
      served = none_due_for_services config (Wait wants timeout answer ready ∷ past) refl holds.services.quest;
      idle = (flows_then answer ready).holds.asked;
      stay = flows_stay_open config (flowing false kept) slirp.moment (Wait wants timeout answer ready ∷ past) (flows_then answer ready);
      sockets = record { each = now_open.each; forward = now_open.forward; carry = now_open.carry; flow = now_open.flow; apart = now_open.apart; rising = now_open.rising; others = now_open.others };
      two = two_in config slirp past holds.lawful holds.relayed.list holds.relayed.questions;
    },
    holds.sockets.number,
  )

  pub wait_wakes : (ready : List Want) (told : ℕ) (new : LinkState) → Allowed (Wait wants timeout Ready ready) → Allowed (Now told) → under_way new ≡ under_way old → new.tail ≡ old.tail
      → new.blocked ≡ (if writes TheLink ready then false else old.blocked)
      → Holds config (standing (count + 1) wants ready) (record slirp { moment = max (min told (2 ^ 62)) slirp.moment }) (flowing false kept) new (Now told ∷ Wait wants timeout Ready ready ∷ past)
  wait_wakes ready told new allowed_wait allowed_now same_in same_out free = record {
    lawful = (
      asks config (Wait wants timeout Ready ready ∷ past) refl (flows_ask_nothing config (flowing false kept) slirp.moment (Wait wants timeout Ready ready ∷ past)
          (flows_then Ready ready)) holds.open_yet,
      waited Ready ready,
    );
    allowed = (allowed_now, (allowed_wait, holds.allowed));
    keeps = record {
      framed = (tt, (tt, holds.keeps.framed));
      partly = holds.keeps.partly ∙ sym same_in;
      rest = holds.keeps.rest ∙ sym same_out;
      blocked = ap (λ b. if writes TheLink ready then false else b) holds.keeps.blocked ∙ sym free;
    };
    answers = record {
      sent = holds.answers.sent;
      owed = owed_told config slirp (record slirp { moment = max (min told (2 ^ 62)) slirp.moment }) (Wait wants timeout Ready ready ∷ past)
          (Now told ∷ Wait wants timeout Ready ready ∷ past) refl refl refl refl refl refl
          (owed_waited config slirp past wants timeout Ready ready holds.clock.moment none_again holds.answers.owed);
    };
    guests = guests_stay config slirp (record slirp { moment = max (min told (2 ^ 62)) slirp.moment }) (Now told) (Wait wants timeout Ready ready ∷ past) refl refl
        (guests_stay config slirp slirp (Wait wants timeout Ready ready) past refl refl holds.guests);
    relayed = record { list = holds.relayed.list; questions = holds.relayed.questions; asks = holds.relayed.asks; heard = refl };
    services = record { leases = holds.services.leases; quest = holds.services.quest };
    forwards = stays_in_force config slirp.forwards (Wait wants timeout Ready ready ∷ past) (waited Ready ready)
        (stays_in_force config slirp.forwards past holds.lawful holds.forwards (Wait wants timeout Ready ready) (waited Ready ready).0 tt) (Now told)
        (asks config (Wait wants timeout Ready ready ∷ past) refl (flows_ask_nothing config (flowing false kept) slirp.moment (Wait wants timeout Ready ready ∷ past)
        (flows_then Ready ready)) holds.open_yet) tt;
    flows = flows_told config kept slirp.moment (max (min told (2 ^ 62)) slirp.moment) told (Wait wants timeout Ready ready ∷ past) (not_before told slirp.moment) (flows_then Ready ready);
    sockets = record { number = holds.sockets.number; kinds = holds.sockets.kinds };
    clock = record { moment = ap (max (min told (2 ^ 62))) holds.clock.moment; counted = ap (λ n. n + 1) holds.clock.counted };
    stands = Turns (record { working = refl; waited = omega arith });
    agenda = ([], refl);
    open_yet = holds.open_yet;
  }
