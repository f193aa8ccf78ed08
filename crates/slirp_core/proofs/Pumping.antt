-- Writes of a pump that sends what is owed for the frame or datagram that came last.
use Rattle.slirp_core.specs.Forwards.{AreInForce}
use Rattle.slirp_core.proofs.Given.{stays_in_force}
use Rattle.std.proofs.Common.{◌≡◌, ℕ, ◌+◌, ◌%◌, ◌^◌, ◌<◌, ◌==◌, ◌&&◌, Bool, true, false, List, [], ◌∷◌, ◌++◌, drop, length, bytes_eq, Some, None, inl, inr, if◌then◌else◌, sym, ◌∙◌, ap}
use Rattle.std.proofs.Common.{subst, arith, refl}
use Rattle.std.proofs.lemmas.Bool.Decides.{nat_tests}
use Rattle.world_face.specs.Journal.{Entry, Allowed, AreAllowed, LinkWrite}
use Rattle.world_face.specs.declared.Io.{Io}
use Rattle.world_face.specs.declared.Io.TheVariants.{Done, End, NotYet, Failed}
use Rattle.world_face.specs.Frames.{LinkFailed, goes_out, tail, encoding, opens}
use Rattle.slirp_settings.specs.Addresses.{Config}
use Rattle.spec_run.specs.Sending.{requests, requests_by}
use Rattle.spec_run.specs.Answers.{identification, datagrams_in, datagrams_out, with_datagrams, again_frames, left, serving, taken, is_first, is_out}
use Rattle.spec_flows.specs.Book.{book}
use Rattle.spec_flows.specs.Doings.{doing_by}
use Rattle.spec_flows.specs.Laws.{MaySend, WritesBy, MustSend, flow_settings}
use Rattle.spec_trace.specs.Moments.{moment}
use Rattle.spec_run.specs.Datagrams.{NeedsNothing}
use Rattle.spec_run.specs.Sending.{is_beside, is_explained}
use Rattle.spec_run.specs.Laws.{Lawful, may_begin}
use Rattle.spec_trace.specs.Shape.{phase, is_working, unless_over}
use Rattle.stream_netdev.specs.Keeps.{Keeps, Writes, Settles}
use Rattle.stream_netdev.specs.Offers.{offered}
use Rattle.stream_netdev.specs.State.{LinkState}
use Rattle.stream_netdev.specs.declared.Offered.{Offered}
use Rattle.rules_forward.specs.Opened.{forward_sockets}
use Rattle.slirp_core.specs.Holds.{Standing, InTurn, AfterPump, AreOpen, AreTwo, carriers, holders_with, Flowing, Holds, OfFlows, Turns, LeavesBehind, LeavesRest}
use Rattle.slirp_core.specs.Outgoing.{sent_after}
use Rattle.slirp_core.specs.Pumps.{keep}
use Rattle.stream_netdev.specs.Offers.{pumped_of}
use Rattle.slirp_core.specs.State.{SlirpState}
use Rattle.stream_netdev.specs.declared.Pumped.{Pumped}
use Rattle.spec_run.specs.Errands.{errand_left}
use Rattle.spec_run.proofs.Deeds.{FlowsLetWrite, writes}
use Rattle.slirp_core.proofs.Guests.{guests_stay, of_guests}
use Rattle.slirp_core.proofs.Parts.{asks_nothing, asked_for, due_is, errand_for, in_turn, or_first, two_in}
use Rattle.slirp_core.specs.Owed.{IsOwed, OfFile, OfLeft}
use Rattle.slirp_core.proofs.Again.{again_gone, asks_nobody, may_write_again, nothing_to_flows}
use Rattle.slirp_core.proofs.Owing.{again_stays, files_stay, left_then, owed_as, owed_on, quest_written, unbegun}
use Rattle.spec_run.proofs.FileTurns.{MayGoAgain, is_explained_again}
use Rattle.slirp_core.proofs.Services.{none_due_for_services}
use Rattle.slirp_core.proofs.Flows.{answer_goes, flows_answered, flows_stay, flows_stay_open}
use Rattle.slirp_core.proofs.Open.{are_open}
use Rattle.stream_netdev.specs.declared.Offered.TheVariants.{Taken, Blocked as OfferBlocked, Failed as OfferFailed}

-- what is owed after a write is what the network then has
record Left (config : Config) (aged : Bool) (past : List Entry) (octets : List ℕ) (answer : Io) (slirp : SlirpState) : Type 0 where
  sent : identification (LinkWrite octets answer ∷ past) ≡ slirp.sent
  owed : IsOwed config aged slirp (LinkWrite octets answer ∷ past)

-- after a lawful write in a turn, by its answer
after_write : (config : Config) (at : Standing) (slirp new_slirp : SlirpState) (f : Flowing) (old new : LinkState) (past : List Entry) (octets : List ℕ) (answer : Io) (blocked : Bool)
    → Holds config at slirp f old past → InTurn config past → Keeps new (LinkWrite octets answer ∷ past) → Allowed (LinkWrite octets answer) → may_begin config past (tail past) octets ≡ true
    → FlowsLetWrite config past octets → ((a : Io) → OfFlows config f slirp.moment (LinkWrite octets a ∷ past))
    → Left config f.aged past octets answer new_slirp → new_slirp ≡ record slirp { pending = new_slirp.pending; sent = new_slirp.sent }
    → AfterPump (pumped_of (offered answer) blocked) config at new_slirp f new (LinkWrite octets answer ∷ past)
after_write config at slirp new_slirp f old new past octets answer blocked holds turn keeps allowed may sent flows remains same = by_answer answer blocked keeps allowed remains
  where
    lawful : (a : Io) → Keeps new (LinkWrite octets a ∷ past) → Lawful config (LinkWrite octets a ∷ past)
    lawful a k = (
      writes config past octets k.framed.0 (due_is config past NeedsNothing turn.working
          (none_due_for_services config past holds.relayed.heard holds.services.quest) holds.flows.holds.asked (asked_for config at NeedsNothing None slirp f old past holds))
          (flows_stay_open config f slirp.moment past holds.flows) (ap is_working turn.working) may holds.open_yet sent,
      holds.lawful,
    )

    goes : (a : Io) → Keeps new (LinkWrite octets a ∷ past) → Allowed (LinkWrite octets a) → phase config (LinkWrite octets a ∷ past) ≡ phase config past →
        Left config f.aged past octets a new_slirp → Holds config at new_slirp f new (LinkWrite octets a ∷ past)
    goes a k fine on l = record {
      lawful = lawful a k;
      allowed = (fine, holds.allowed);
      keeps = k;
      answers = record { sent = l.sent; owed = l.owed };
      guests = guests_stay config slirp new_slirp (LinkWrite octets a) past refl (ap of_guests same) holds.guests;
      relayed = record {
        list = holds.relayed.list ∙ sym (ap (λ (s : SlirpState). s.associations) same);
        questions = holds.relayed.questions ∙ sym (ap (λ (s : SlirpState). s.questions) same);
        asks = asks_nothing config new_slirp (errand_left config past) (errand_for config NeedsNothing None slirp past holds.relayed);
        heard = refl;
      };
      services = record { leases = holds.services.leases ∙ sym (ap (λ (s : SlirpState). s.leases) same); quest = quest_written config octets a past holds.services.quest };
      forwards = subst (λ l. AreInForce config l (LinkWrite octets a ∷ past)) (sym (ap (λ (s : SlirpState). s.forwards) same))
          (stays_in_force config slirp.forwards past holds.lawful holds.forwards (LinkWrite octets a) (lawful a k).0 tt);
      flows = subst (λ m. OfFlows config f m (LinkWrite octets a ∷ past)) (sym (ap (λ (s : SlirpState). s.moment) same)) (flows a);
      sockets = record { number = holds.sockets.number ∙ sym (ap (λ (s : SlirpState). s.number) same); kinds = holds.sockets.kinds };
      clock = record { moment = holds.clock.moment ∙ sym (ap (λ (s : SlirpState). s.moment) same); counted = holds.clock.counted };
      stands = Turns (record { working = on ∙ turn.working; waited = turn.waited });
      agenda = holds.agenda;
      open_yet = holds.open_yet;
    }

    now_open : AreOpen (forward_sockets slirp.forwards) (carriers (holders_with slirp f.kept)) f.kept.flows.slots past
    now_open = are_open config at NeedsNothing None slirp f old past holds

    by_answer : (a : Io) (b : Bool) → Keeps new (LinkWrite octets a ∷ past) → Allowed (LinkWrite octets a) → Left config f.aged past octets a new_slirp → AfterPump
        (pumped_of (offered a) b) config at new_slirp f new (LinkWrite octets a ∷ past)
    by_answer (Done n) true k fine l = goes (Done n) k fine refl l
    by_answer (Done n) false k fine l = goes (Done n) k fine refl l
    by_answer End true k fine l = goes End k fine refl l
    by_answer End false k fine l = goes End k fine refl l
    by_answer NotYet true k fine l = goes NotYet k fine refl l
    by_answer NotYet false k fine l = goes NotYet k fine refl l
    by_answer Failed b k fine l = (
      record {
        lawful = lawful Failed k;
        over = ap (λ p. unless_over p LinkFailed) turn.working;
        waited = holds.clock.counted;
        errand = errand_for config NeedsNothing None slirp past holds.relayed;
        served = none_due_for_services config (LinkWrite octets Failed ∷ past) refl (quest_written config octets Failed past holds.services.quest);
        idle = (flows Failed).holds.asked;
        stay = flows_stay_open config f slirp.moment (LinkWrite octets Failed ∷ past) (flows Failed);
        sockets = subst (λ (s : SlirpState). AreOpen (forward_sockets s.forwards) (carriers (holders_with s f.kept)) f.kept.flows.slots (LinkWrite octets Failed ∷ past))
            (sym same) (record {
              each = now_open.each;
              forward = now_open.forward;
              carry = now_open.carry;
              flow = now_open.flow;
              apart = now_open.apart;
              rising = now_open.rising;
              others = now_open.others;
            });
        two = subst (λ (s : SlirpState). AreTwo (holders_with s f.kept)) (sym same) (two_in config slirp past holds.lawful holds.relayed.list holds.relayed.questions);
      },
      holds.sockets.number ∙ sym (ap (λ (s : SlirpState). s.number) same),
    )

-- a write of the rest of a frame
pub after_flush : (config : Config) (at : Standing) (slirp : SlirpState) (f : Flowing) (old new : LinkState) (made past : List Entry) (result : Offered) (pumped : Pumped) →
    0 < length old.tail → Writes result old.tail made
    → ((past : List Entry) → Keeps old past → Keeps new (made ++ past)) → pumped ≡ pumped_of result new.blocked
    → AreAllowed made → Holds config at slirp f old past → AfterPump pumped config at slirp f new (made ++ past)
after_flush config at slirp f old new made past result pumped some (answer, is, was) keeps comes allowed holds =
    let Goal : List Entry → Type 0 = λ made. AfterPump pumped config at slirp f new (made ++ past) in
    let k = subst (λ m. Keeps new (m ++ past)) is (keeps past holds.keeps) in
    subst Goal (sym is)
    (subst (λ p. AfterPump p config at slirp f new (LinkWrite old.tail answer ∷ past)) (sym (comes ∙ ap (λ r. pumped_of r new.blocked) was))
    (after_write config at slirp slirp f old new past old.tail answer new.blocked holds (in_turn holds.stands (λ u. some_tail old.tail some u.empty)) k (subst AreAllowed is allowed).0
    (begins (tail past) old.tail some holds.keeps.rest)
    (goes_on (tail past) old.tail some holds.keeps.rest)
    (λ a. flows_stay config f slirp.moment (LinkWrite old.tail a) past (ap (λ o. doing_by None o (LinkWrite old.tail a)) (none_opens a old.tail (tail past) some holds.keeps.rest))
    (ap (λ o. requests_by (left config past) o (requests config past)) (none_opens a old.tail (tail past) some holds.keeps.rest)) (omega arith) refl holds.flows)
    (remains answer (none_opens answer old.tail (tail past) some holds.keeps.rest)) refl))
  where
    some_tail : (octets : List ℕ) → 0 < length octets → octets ≡ [] → ⊥
    some_tail octets some is = omega (arith, some, ap length is)

    begins : (t rest : List ℕ) → 0 < length rest → t ≡ rest → may_begin config past t rest ≡ true
    begins [] rest some is = absurd (omega (arith, ap length is))
    begins (x ∷ t) rest some is = refl

    goes_on : (t rest : List ℕ) → 0 < length rest → t ≡ rest
        → WritesBy (MaySend (flow_settings config) (moment past)) (book config past).flows t rest × WritesBy (MustSend (flow_settings config) (moment past)) (book config past).flows t rest
    goes_on [] rest some is = absurd (omega (arith, ap length is))
    goes_on (x ∷ t) rest some is = (tt, tt)

    none_opens : (a : Io) (rest t : List ℕ) → 0 < length rest → t ≡ rest → opens (LinkWrite rest a) t ≡ None
    none_opens a rest [] some is = absurd (omega (arith, ap length is))
    none_opens a rest (x ∷ t) some is = refl

    remains : (a : Io) → opens (LinkWrite old.tail a) (tail past) ≡ None → Left config f.aged past old.tail a slirp
    remains a none =
        let same = unbegun config old.tail a past none in
        record { sent = same.ident ∙ holds.answers.sent; owed = owed_on config f.aged slirp past (LinkWrite old.tail a ∷ past) same holds.answers.owed }

same : (n : ℕ) → (n == n) ≡ true
same n = grind (arith, nat_tests)

same_octets : (octets : List ℕ) → bytes_eq octets octets ≡ true
same_octets [] = refl
same_octets (x ∷ octets) = ap (λ b. b && bytes_eq octets octets) (same x) ∙ same_octets octets

encoded : (frame : List ℕ) → drop 4 (encoding frame) ≡ frame
unfolding encoding
encoded frame = refl

is_the_first : (frame : List ℕ) (rest : List (List ℕ)) → is_first (drop 4 (encoding frame)) (frame ∷ rest) ≡ true
is_the_first frame rest = ap (λ f. bytes_eq f frame) (encoded frame) ∙ same_octets frame

counts_on : (more out : ℕ) → (more + out) % 2 ^ 16 ≡ (more + out % 2 ^ 16) % 2 ^ 16
counts_on more out = omega arith

-- the frame may go out, flows are as they should be after it, and what is owed then is what the network has
record Offers (config : Config) (f : Flowing) (slirp : SlirpState) (past : List Entry) (frame : List ℕ) (rest : List (List ℕ)) : Type 0 where
  explained : is_explained config past (drop 4 (encoding frame)) ≡ true
  goes : FlowsLetWrite config past (encoding frame)
  flows : (a : Io) → OfFlows config f slirp.moment (LinkWrite (encoding frame) a ∷ past)
  owed : (a : Io) (next : SlirpState) → tail past ≡ [] → next.pending ≡ keep (offered a) (frame ∷ rest) → next.transfers ≡ slirp.transfers → IsOwed config f.aged next
      (LinkWrite (encoding frame) a ∷ past)

-- a write of the frame that is next
pub after_offer : (config : Config) (at : Standing) (slirp new_slirp : SlirpState) (f : Flowing) (old new : LinkState) (made past : List Entry) (frame : List ℕ)
    (rest : List (List ℕ)) (result : Offered) (pumped : Pumped)
    → old.tail ≡ [] → slirp.pending ≡ frame ∷ rest → Writes result (encoding frame) made
    → ((past : List Entry) → Keeps old past → Keeps new (made ++ past)) → pumped ≡ pumped_of result new.blocked
    → new_slirp ≡ record slirp { pending = keep result slirp.pending; sent = sent_after result slirp.pending slirp.sent }
    → AreAllowed made → Holds config at slirp f old past → AfterPump pumped config at new_slirp f new (made ++ past)
after_offer config at slirp new_slirp f old new made past frame rest result pumped none is_pending (answer, is, was) keeps comes changed allowed holds =
    let kept = ap (λ (s : SlirpState). s.pending) changed in
    let counted = ap (λ (s : SlirpState). s.sent) changed in
    let same = changed ∙ ap (λ p. record slirp { pending = p; sent = sent_after result slirp.pending slirp.sent }) (sym kept) ∙ ap
    (λ n. record slirp { pending = new_slirp.pending; sent = n }) (sym counted) in
    let Goal : List Entry → Type 0 = λ made. AfterPump pumped config at new_slirp f new (made ++ past) in
    let k = subst (λ m. Keeps new (m ++ past)) is (keeps past holds.keeps) in
    let tail_is : tail past ≡ [] = holds.keeps.rest ∙ none in
    let new_pending : new_slirp.pending ≡ keep (offered answer) (frame ∷ rest) = kept ∙ ap (λ r. keep r slirp.pending) was ∙ ap (keep (offered answer)) is_pending in
    let new_sent : new_slirp.sent ≡ sent_after (offered answer) (frame ∷ rest) (identification past) =
    counted ∙ ap (λ r. sent_after r slirp.pending slirp.sent) was ∙ ap (λ p. sent_after (offered answer) p slirp.sent) is_pending ∙ ap (sent_after (offered answer) (frame ∷ rest))
    (sym holds.answers.sent) in
    subst Goal (sym is)
    (subst (λ p. AfterPump p config at new_slirp f new (LinkWrite (encoding frame) answer ∷ past)) (sym (comes ∙ ap (λ r. pumped_of r new.blocked) was))
    (after_write config at slirp new_slirp f old new past (encoding frame) answer new.blocked holds (in_turn holds.stands (λ u. cc (sym is_pending ∙ u.nothing))) k (subst AreAllowed is allowed).0
    (ap (λ t. may_begin config past t (encoding frame)) tail_is ∙ (offers holds.answers.owed).explained) (offers holds.answers.owed).goes (offers holds.answers.owed).flows
    (record {
      sent = ap (λ t. with_datagrams (opens (LinkWrite (encoding frame) answer) t) (datagrams_out past) % 2 ^ 16) tail_is ∙ sent_by answer ∙ sym new_sent;
      owed = (offers holds.answers.owed).owed answer new_slirp tail_is new_pending (ap (λ (s : SlirpState). s.transfers) changed);
    }) same))
  where
    sent_by : (a : Io) → with_datagrams (opens (LinkWrite (encoding frame) a) []) (datagrams_out past) % 2 ^ 16 ≡ sent_after (offered a) (frame ∷ rest) (identification past)
    sent_by (Done n) = ap (λ f. (datagrams_in f + datagrams_out past) % 2 ^ 16) (encoded frame) ∙ counts_on (datagrams_in frame) (datagrams_out past)
    sent_by End = refl
    sent_by NotYet = refl
    sent_by Failed = refl

    left_by : (a : Io) (before again : List (List ℕ)) → before ≡ frame ∷ rest → taken (opens (LinkWrite (encoding frame) a) []) again before ≡ keep (offered a) (frame ∷ rest)
    left_by (Done n) before again only = ap (taken (Some (drop 4 (encoding frame))) again) only ∙ ap (λ (b : Bool). if b then rest else frame ∷ rest) (is_the_first frame rest)
    left_by End before again only = only
    left_by NotYet before again only = only
    left_by Failed before again only = only

    -- of an answer
    offers_left : OfLeft config f.aged slirp past → Offers config f slirp past frame rest
    offers_left l =
        let only : left config past ≡ frame ∷ rest = l.left ∙ is_pending in
        record {
          explained = or_first (is_first (drop 4 (encoding frame)) (left config past)) (is_out (left config past) && is_beside config past (drop 4 (encoding frame)))
              (ap (is_first (drop 4 (encoding frame))) only ∙ is_the_first frame rest);
          goes = answer_goes config f slirp.moment past holds.lawful holds.allowed holds.flows frame rest only (encoding frame) (encoded frame);
          flows = λ a. flows_answered config f slirp.moment past holds.lawful holds.allowed holds.flows holds.clock.moment frame rest only (encoding frame) a (encoded frame);
          owed = λ a next tail_is pending transfers. inl (left_then config f.aged slirp next (LinkWrite (encoding frame) a) past
              (files_stay config (encoding frame) a past frame rest only) (again_stays config (encoding frame) a past frame rest only) refl transfers
              (ap (λ t. taken (opens (LinkWrite (encoding frame) a) t) (again_frames config (identification past) (serving config past)) (left config past)) tail_is
              ∙ left_by a (left config past) (again_frames config (identification past) (serving config past)) only ∙ sym pending) l);
        }

    -- of a packet of a file that goes again
    offers_file : OfFile config f.aged slirp past → Offers config f slirp past frame rest
    offers_file file =
        let m : MayGoAgain config past file.said frame rest = record { nothing = file.left; may = file.may; frames = sym file.pending ∙ is_pending } in
        record {
          explained = ap (is_explained config past) (encoded frame) ∙ is_explained_again config past file.said frame rest holds.flows.unit m;
          goes = may_write_again config past file.said frame rest holds.flows.unit m (encoding frame) (encoded frame);
          flows = λ a. flows_stay config f slirp.moment (LinkWrite (encoding frame) a) past (nothing_to_flows config past file.said frame rest holds.flows.unit m (encoding frame)
              (encoded frame) a) (asks_nobody config past file.said frame rest holds.flows.unit m (encoding frame) (encoded frame) a) (omega arith) refl holds.flows;
          owed = λ a next tail_is pending transfers. by m a next tail_is pending transfers;
        }
      where
        unless_out : (a : Io) (next : SlirpState) → goes_out (LinkWrite (encoding frame) a) past ≡ None → next.pending ≡ frame ∷ rest → next.transfers ≡ slirp.transfers →
            IsOwed config f.aged next (LinkWrite (encoding frame) a ∷ past)
        unless_out a next none pending transfers =
            owed_as config f.aged slirp next (LinkWrite (encoding frame) a ∷ past) (pending ∙ sym is_pending) transfers
            (owed_on config f.aged slirp past (LinkWrite (encoding frame) a ∷ past) (unbegun config (encoding frame) a past none) (inr file))

        by : MayGoAgain config past file.said frame rest → (a : Io) (next : SlirpState) → tail past ≡ [] → next.pending ≡ keep (offered a) (frame ∷ rest) →
            next.transfers ≡ slirp.transfers → IsOwed config f.aged next (LinkWrite (encoding frame) a ∷ past)
        by m (Done n) next tail_is pending transfers =
            inl (again_gone config past file.said frame rest holds.flows.unit m (encoding frame) (Done n) holds.lawful (ap (opens (LinkWrite (encoding frame) (Done n))) tail_is
            ∙ ap Some (encoded frame)) f.aged next pending file.on_its_way (transfers ∙ file.files))
        by m End next tail_is pending transfers = unless_out End next (ap (opens (LinkWrite (encoding frame) End)) tail_is) pending transfers
        by m NotYet next tail_is pending transfers = unless_out NotYet next (ap (opens (LinkWrite (encoding frame) NotYet)) tail_is) pending transfers
        by m Failed next tail_is pending transfers = unless_out Failed next (ap (opens (LinkWrite (encoding frame) Failed)) tail_is) pending transfers

    offers : IsOwed config f.aged slirp past → Offers config f slirp past frame rest
    offers (inl l) = offers_left l
    offers (inr file) = offers_file file

pub leaves_rest : (new : LinkState) (result : Offered) → Settles result new → LeavesRest (pumped_of result new.blocked) new
leaves_rest new Taken settles = elim new.blocked as (λ b. (b ≡ false → new.tail ≡ []) → new.blocked ≡ b → LeavesRest (pumped_of Taken b) new) [
  | true ↦ λ s is. is
  | false ↦ λ s is.
      (is, s refl)
] settles refl
leaves_rest new OfferBlocked settles = elim new.blocked as (λ b. b ≡ true → new.blocked ≡ b → LeavesRest (pumped_of OfferBlocked b) new) [ true ↦ λ s is. is | false ↦ λ s is. cc ] settles refl
leaves_rest new OfferFailed settles = tt

pub leaves_behind : (slirp new_slirp : SlirpState) (new : LinkState) (result : Offered) → Settles result new → new_slirp.pending ≡ keep result slirp.pending → LeavesBehind
    (pumped_of result new.blocked) slirp new_slirp new
leaves_behind slirp new_slirp new Taken settles kept = elim new.blocked as (λ b. (b ≡ false → new.tail ≡ []) → new.blocked ≡ b → LeavesBehind
    (pumped_of Taken b) slirp new_slirp new) [ true ↦ λ s is. is | false ↦ λ s is. (is, s refl, kept) ] settles refl
leaves_behind slirp new_slirp new OfferBlocked settles kept = elim new.blocked as (λ b. b ≡ true → new.blocked ≡ b → LeavesBehind
    (pumped_of OfferBlocked b) slirp new_slirp new) [ true ↦ λ s is. is | false ↦ λ s is. cc ] settles refl
leaves_behind slirp new_slirp new OfferFailed settles kept = tt
