-- Which sockets are open: those of the forwards, of the associations and questions, and of the flows.
use Rattle.std.proofs.Common.{◌≡◌, ℕ, ◌||◌, ◌⊎◌, Bool, true, false, List, Option, Some, None, inl, inr, refl, sym, ◌∙◌, ap, subst}
use Rattle.world_face.specs.Journal.{Entry}
use Rattle.slirp_settings.specs.Addresses.{Config}
use Rattle.spec_flow.specs.Flow.{is_closed}
use Rattle.spec_flows.specs.Book.{book}
use Rattle.spec_flows.specs.Flows.{Book, Flow, flow_of}
use Rattle.spec_flows.specs.SegmentVerdicts.{connects_to, due_by, due_for_flows}
use Rattle.spec_trace.specs.Sockets.{Kind, Association as OfAssociation, DnsSocket, Flow as OfFlow, Forward as OfForward, Listener, is_among, is_association, is_flow, kind_of, next_number, open_sockets}
use Rattle.spec_run.specs.Datagrams.{Step}
use Rattle.spec_run.specs.Laws.{Lawful, carries, joins}
use Rattle.spec_run.specs.Names.{questions}
use Rattle.spec_run.specs.Relayed.{associations}
use Rattle.spec_run.proofs.Bools.{and_both, first_of, second_of}
use Rattle.stream_netdev.specs.State.{LinkState}
use Rattle.slirp_core.specs.Forwards.{AreInForce, is_given}
use Rattle.rules_forward.specs.Opened.{forward_sockets}
use Rattle.slirp_core.specs.Holds.{Standing, AreOpen, Flowing, HoldsOn, IsOf, carriers, holders_with, is_ours}
use Rattle.slirp_core.specs.State.{SlirpState}
use Rattle.sim_flows.specs.Core.{CoreHolds, number_of}
use Rattle.sim_flows.proofs.Open.{joins_carries_none, open_flow, open_seat, seat_open}
use Rattle.tcp_flows.specs.Reading.{HasSocket}
use Rattle.sim_flows.proofs.Options.{true_false}
use Rattle.slirp_core.proofs.Given.{in_force_among}
use Rattle.slirp_core.proofs.Parts.{carried}

-- where flows ask for no call, none is doomed
none_doomed : (config : Config) (b : Book) (next : ℕ) (n : ℕ) → due_for_flows config b next ≡ None → b.doomed ≡ Some n → ⊥
none_doomed config b next n asked is = cc (sym asked ∙ ap (λ d. due_by d (connects_to config b) next) is)

module _ (config : Config) (slirp : SlirpState) (f : Flowing) (now : ℕ) (past : List Entry) (lawful : Lawful config past) (is_list : associations config past ≡ slirp.associations)
    (is_named : questions config past ≡ slirp.questions)
    (holds : CoreHolds config now f.aged None f.kept.flows past) (kinds : (n : ℕ) → is_among n (open_sockets past) ≡ true → is_ours (kind_of n past) ≡ true)
    (has : AreInForce config slirp.forwards past) where
  abbrev all : List ℕ
  all = carriers (holders_with slirp f.kept)

  carries_all : (n : ℕ) → carries past n ≡ is_among n all
  carries_all n = carried config slirp past lawful is_list is_named n

  has_flow : (n : ℕ) → joins past n ≡ true → HasSocket n f.kept.flows.slots (λ p. Unit {0})
  has_flow n joined = by (open_flow config past n lawful joined)
    where
      by : ((g : Flow) × (flow_of n (book config past).flows ≡ Some g) × (is_closed g.story ≡ false)) ⊎ ((book config past).doomed ≡ Some n) → HasSocket n f.kept.flows.slots (λ p. Unit {0})
      by (inl (g, found, open_yet)) =
          let seat = open_seat config now f.aged None f.kept.flows past n g holds found open_yet in
          (seat.0, seat.1, record { here = seat.2; open_yet = seat.3 }, seat.4, tt)
      by (inr doomed) = absurd (none_doomed config (book config past) (next_number past) n holds.asked doomed)

  by_kind : (n : ℕ) → is_among n (open_sockets past) ≡ true → (a b c : Bool) → is_association (kind_of n past) ≡ a → is_flow (kind_of n past) ≡ b → is_given (kind_of n past) ≡ c → (a || b || c) ≡ true
      → (is_among n (forward_sockets slirp.forwards) ≡ true) ⊎ IsOf all f.kept.flows.slots n
  by_kind n among true b c one two three is = inr (inl (sym (carries_all n) ∙ and_both (is_among n (open_sockets past)) (is_association (kind_of n past)) among one))
  by_kind n among false true c one two three is = inr (inr (has_flow n (and_both (is_among n (open_sockets past)) (is_flow (kind_of n past)) among two)))
  by_kind n among false false true one two three is = inl (has.all n among three)
  by_kind n among false false false one two three is = cc

  -- its socket isn't one of theirs
  no_carrier : (k : Option Kind) → is_association k ≡ true → is_given k ≡ false
  no_carrier None is = refl
  no_carrier (Some OfAssociation) is = refl
  no_carrier (Some DnsSocket) is = refl
  no_carrier (Some OfForward) is = cc
  no_carrier (Some Listener) is = cc
  no_carrier (Some OfFlow) is = refl

  no_joined : (k : Option Kind) → is_flow k ≡ true → is_given k ≡ false
  no_joined None is = refl
  no_joined (Some OfAssociation) is = refl
  no_joined (Some DnsSocket) is = refl
  no_joined (Some OfForward) is = cc
  no_joined (Some Listener) is = cc
  no_joined (Some OfFlow) is = refl

  not_given : (m : ℕ) → IsOf all f.kept.flows.slots m → is_given (kind_of m past) ≡ false
  not_given m (inl among) = no_carrier (kind_of m past) (second_of (is_among m (open_sockets past)) (is_association (kind_of m past)) (carries_all m ∙ among))
  not_given m (inr (k, p, at_k, number, u)) =
      let joined = seat_open config now f.aged None f.kept.flows past holds lawful k p at_k.here at_k.open_yet in
      subst (λ n. is_given (kind_of n past) ≡ false) number (no_joined (kind_of (number_of p) past) (second_of (is_among (number_of p) (open_sockets past)) (is_flow (kind_of (number_of p) past)) joined))

  pub open_by : AreOpen (forward_sockets slirp.forwards) all f.kept.flows.slots past
  open_by = record {
    each = λ n among. by_kind n among (is_association (kind_of n past)) (is_flow (kind_of n past)) (is_given (kind_of n past)) refl refl refl (kinds n among);
    forward = λ n among. (in_force_among config slirp.forwards past has n among).0;
    carry = λ n among. first_of (is_among n (open_sockets past)) (is_association (kind_of n past)) (carries_all n ∙ among);
    flow = λ k p at_k. first_of (is_among (number_of p) (open_sockets past)) (is_flow (kind_of (number_of p) past))
        (seat_open config now f.aged None f.kept.flows past holds lawful k p at_k.here at_k.open_yet);
    apart = λ k p at_k. sym (carries_all (number_of p)) ∙ joins_carries_none past (number_of p) (seat_open config now f.aged None f.kept.flows past holds lawful k p at_k.here at_k.open_yet);
    rising = (next_number past, has.rising);
    others = λ n among of. true_false (sym (in_force_among config slirp.forwards past has n among).1 ∙ not_given n of);
  }

pub are_open : (config : Config) (at : Standing) (step : Step) (heard : Option ℕ) (slirp : SlirpState) (f : Flowing) (link : LinkState) (past : List Entry) →
    HoldsOn config at step heard slirp f link past
    → AreOpen (forward_sockets slirp.forwards) (carriers (holders_with slirp f.kept)) f.kept.flows.slots past
are_open config at step heard slirp f link past holds =
    open_by config slirp f slirp.moment past holds.lawful holds.relayed.list holds.relayed.questions holds.flows.holds holds.sockets.kinds holds.forwards
