-- What is left of the reports of a wait, from item to item.
use Rattle.std.proofs.Common.{◌≡◌, ◌⊎◌, inl, inr, ℕ, ◌≤◌, ◌==◌, ◌&&◌, ◌||◌, not, nat_lt, if◌then◌else◌, Bool, true, false, List, [], ◌∷◌, ◌++◌, length, slice_get, Option, Some, refl}
use Rattle.std.proofs.Common.{sym, ap, ◌∙◌, subst, arith}
use Rattle.std.specs.List.{list_any}
use Rattle.poll_list.specs.Listing.{differ, number_of as socket_number, reads, same_number, same_who, writes}
use Rattle.poll_list.specs.declared.Want.{Want}
use Rattle.poll_list.specs.declared.Who.{Who}
use Rattle.poll_list.specs.declared.Who.TheVariants.{Link as TheLink, Listener, Tcp, Udp}
use Rattle.world_face.specs.Journal.{Entry, Now, Wait}
use Rattle.world_face.specs.Frames.{is_blocked}
use Rattle.world_face.specs.declared.Waited.TheVariants.{Ready}
use Rattle.slirp_settings.specs.Addresses.{Config}
use Rattle.spec_trace.specs.Moments.{waits}
use Rattle.spec_run.specs.Agenda.{all_wanted}
use Rattle.spec_run.proofs.Bools.{first_of, same, second_of}
use Rattle.spec_duties.specs.Serving.{AllServed, IsServed, is_left_to_read, is_left_to_write}
use Rattle.spec_duties.specs.Waiting.{WaitsFor, is_all_sent, is_read, is_written, takes_datagrams}
use Rattle.spec_duties.proofs.Checks.{same_is}
use Rattle.spec_duties.proofs.Serving.{read_left, reading_on, served_on, unread, write_left, writing_on}
use Rattle.flow_splice.specs.Splice.{Splice}
use Rattle.sim_flows.specs.Core.{number_of}
use Rattle.stream_netdev.specs.State.{LinkState}
use Rattle.slirp_core.specs.Holds.{Standing, flowing}
use Rattle.slirp_core.specs.Marks.{KeepsMarks}
use Rattle.slirp_core.specs.Pumps.{is_settled}
use Rattle.slirp_core.specs.State.{SlirpState}
use Rattle.slirp_core.proofs.Unserved.{unopened, unsent}
use Rattle.serve_loop.specs.Turns.{AllSent, CanTake, HoldsNow, IsLeftAmong, NoneTold, comes_in, is_frame_due, still}

-- ---- truth values

pub true_false : {A : Type 0} (b : Bool) → b ≡ true → b ≡ false → A
true_false true is isnt = absurd cc
true_false false is isnt = absurd cc

pub unless : (b : Bool) → (b ≡ true → b ≡ false) → b ≡ false
unless true f = f refl
unless false f = refl

pub both_true : (a b : Bool) → a ≡ true → b ≡ true → (a && b) ≡ true
both_true true true one two = refl
both_true true false one two = absurd cc
both_true false b one two = absurd cc

-- ---- the first item, or one behind it

module _ (wants : List Want) (item : Want) (items : List Want) where
  pub read_or_behind : (who : Who) → reads who (all_wanted wants (item ∷ items)) ≡ true → ((item.of ≡ who) × (item.read ≡ true) × (reads item.of wants ≡ true)) ⊎
      (reads who (all_wanted wants items) ≡ true)
  read_or_behind who is = by (same_who who item.of) refl item.read refl (reads item.of wants) refl is
    where
      by : (s : Bool) → same_who who item.of ≡ s → (r : Bool) → item.read ≡ r → (w : Bool) → reads item.of wants ≡ w → ((s && (r && w)) || reads who (all_wanted wants items)) ≡ true
          → ((item.of ≡ who) × (item.read ≡ true) × (reads item.of wants ≡ true)) ⊎ (reads who (all_wanted wants items) ≡ true)
      by true one true two true three it = inl (sym (same_is who item.of one), two, three)
      by true one true two false three it = inr it
      by true one false two w three it = inr it
      by false one r two w three it = inr it

  pub write_or_behind : (who : Who) → writes who (all_wanted wants (item ∷ items)) ≡ true → ((item.of ≡ who) × (item.write ≡ true) × (writes item.of wants ≡ true)) ⊎
      (writes who (all_wanted wants items) ≡ true)
  write_or_behind who is = by (same_who who item.of) refl item.write refl (writes item.of wants) refl is
    where
      by : (s : Bool) → same_who who item.of ≡ s → (r : Bool) → item.write ≡ r → (w : Bool) → writes item.of wants ≡ w → ((s && (r && w)) || writes who (all_wanted wants items)) ≡ true
          → ((item.of ≡ who) × (item.write ≡ true) × (writes item.of wants ≡ true)) ⊎ (writes who (all_wanted wants items) ≡ true)
      by true one true two true three it = inl (sym (same_is who item.of one), two, three)
      by true one true two false three it = inr it
      by true one false two w three it = inr it
      by false one r two w three it = inr it

-- items that name no socket twice name that of the first no more behind it
unnamed_read : (wants items : List Want) (m : ℕ) (of : Who) → of ≡ Tcp m → list_any (λ w. same_number (socket_number of) (socket_number w.of)) items ≡ false → reads (Tcp m)
    (all_wanted wants items) ≡ false
unnamed_read wants [] m of is none = refl
unnamed_read wants (x ∷ items) m of is none = by (same_who (Tcp m) x.of) refl (same_number (socket_number of) (socket_number x.of)) refl none (unnamed_read wants items m of is)
  where
    alike : same_who (Tcp m) x.of ≡ true → same_number (socket_number of) (socket_number x.of) ≡ true
    alike one = ap (λ w. same_number (socket_number w) (socket_number x.of)) is ∙ ap (λ w. same_number (Some m) (socket_number w)) (sym (same_is (Tcp m) x.of one)) ∙ same m

    by : (s : Bool) → same_who (Tcp m) x.of ≡ s → (t : Bool) → same_number (socket_number of) (socket_number x.of) ≡ t →
        (t || list_any (λ w. same_number (socket_number of) (socket_number w.of)) items) ≡ false
        → (list_any (λ w. same_number (socket_number of) (socket_number w.of)) items ≡ false → reads (Tcp m) (all_wanted wants items) ≡ false)
        → ((s && (x.read && reads x.of wants)) || reads (Tcp m) (all_wanted wants items)) ≡ false
    by s one true two all rest = absurd cc
    by true one false two all rest = true_false _ (alike one) two
    by false one false two all rest = rest all

unnamed_written : (wants items : List Want) (m : ℕ) (of : Who) → of ≡ Tcp m → list_any (λ w. same_number (socket_number of) (socket_number w.of)) items ≡ false → writes (Tcp m)
    (all_wanted wants items) ≡ false
unnamed_written wants [] m of is none = refl
unnamed_written wants (x ∷ items) m of is none = by (same_who (Tcp m) x.of) refl (same_number (socket_number of) (socket_number x.of)) refl none (unnamed_written wants items m of is)
  where
    alike : same_who (Tcp m) x.of ≡ true → same_number (socket_number of) (socket_number x.of) ≡ true
    alike one = ap (λ w. same_number (socket_number w) (socket_number x.of)) is ∙ ap (λ w. same_number (Some m) (socket_number w)) (sym (same_is (Tcp m) x.of one)) ∙ same m

    by : (s : Bool) → same_who (Tcp m) x.of ≡ s → (t : Bool) → same_number (socket_number of) (socket_number x.of) ≡ t →
        (t || list_any (λ w. same_number (socket_number of) (socket_number w.of)) items) ≡ false
        → (list_any (λ w. same_number (socket_number of) (socket_number w.of)) items ≡ false → writes (Tcp m) (all_wanted wants items) ≡ false)
        → ((s && (x.write && writes x.of wants)) || writes (Tcp m) (all_wanted wants items)) ≡ false
    by s one true two all rest = absurd cc
    by true one false two all rest = true_false _ (alike one) two
    by false one false two all rest = rest all

not_true : (b : Bool) → not b ≡ true → b ≡ false
not_true true is = absurd cc
not_true false is = refl

none_like_first : (item : Want) (items : List Want) → differ (item ∷ items) ≡ true → list_any (λ w. same_number (socket_number item.of) (socket_number w.of)) items ≡ false
none_like_first item items is = not_true _ (first_of (not (list_any (λ w. same_number (socket_number item.of) (socket_number w.of)) items)) (differ items) is)

-- ---- an item is served

module _ (config : Config) (wants : List Want) (item : Want) (items : List Want) (to_read : Bool) (slirp : SlirpState) (made past : List Entry) (same : waits (made ++ past) ≡ waits past)
    (left : IsLeftAmong config wants (item ∷ items) to_read slirp past)
    (read : item.read ≡ true → reads item.of wants ≡ true → is_left_to_read config (made ++ past) item.of ≡ false)
    (write : item.write ≡ true → writes item.of wants ≡ true → is_left_to_write config (made ++ past) item.of ≡ false) where
  reading_behind : (who : Who) → is_left_to_read config (made ++ past) who ≡ true → reads who (all_wanted wants items) ≡ true
  reading_behind who is = by (read_or_behind wants item items who (left.reading who (read_left config made past who same is)))
    where
      by : ((item.of ≡ who) × (item.read ≡ true) × (reads item.of wants ≡ true)) ⊎ (reads who (all_wanted wants items) ≡ true) → reads who (all_wanted wants items) ≡ true
      by (inl it) = true_false (is_left_to_read config (made ++ past) who) is (ap (is_left_to_read config (made ++ past)) (sym it.0) ∙ read it.1 it.2)
      by (inr rest) = rest

  writing_behind : (who : Who) → is_left_to_write config (made ++ past) who ≡ true → writes who (all_wanted wants items) ≡ true
  writing_behind who is = by (write_or_behind wants item items who (left.writing who (write_left config made past who same is)))
    where
      by : ((item.of ≡ who) × (item.write ≡ true) × (writes item.of wants ≡ true)) ⊎ (writes who (all_wanted wants items) ≡ true) → writes who (all_wanted wants items) ≡ true
      by (inl it) = true_false (is_left_to_write config (made ++ past) who) is (ap (is_left_to_write config (made ++ past)) (sym it.0) ∙ write it.1 it.2)
      by (inr rest) = rest

  -- nothing is left of the flow whose item it was
  pub its_flow : (m : ℕ) → item.of ≡ Tcp m → IsServed config (made ++ past) (Tcp m)
  its_flow m of = record {
    reading = unless (is_left_to_read config (made ++ past) (Tcp m)) (λ is. true_false _ (reading_behind (Tcp m) is) (unnamed_read wants items m item.of of (none_like_first item items left.differ)));
    writing = unless (is_left_to_write config (made ++ past) (Tcp m)) (λ is. true_false _ (writing_behind (Tcp m) is)
        (unnamed_written wants items m item.of of (none_like_first item items left.differ)));
  }

  -- no frame is to be read behind the link's item for reading
  frame_read : (wanted : to_read ≡ true → reads TheLink wants ≡ true) → item.of ≡ TheLink → still to_read item ≡ false → is_left_to_read config (made ++ past) TheLink ≡ false
  frame_read wanted of none = by to_read refl item.read refl (same_who TheLink item.of) (ap (same_who TheLink) of) none
    where
      by : (t : Bool) → to_read ≡ t → (r : Bool) → item.read ≡ r → (s : Bool) → s ≡ true → (t && not (s && r)) ≡ false → is_left_to_read config (made ++ past) TheLink ≡ false
      by false is r reads_is s here it = reading_on config made past TheLink same (left.frame is)
      by true is true reads_is s here it = ap (is_left_to_read config (made ++ past)) (sym of) ∙ read reads_is (ap (λ w. reads w wants) of ∙ wanted is)
      by true is false reads_is true here it = absurd cc
      by true is false reads_is false here it = absurd cc

  pub left_behind : (new : SlirpState) (later : Bool) → (later ≡ false → is_left_to_read config (made ++ past) TheLink ≡ false)
      → ((k : ℕ) (p : Splice) → slice_get new.flows.flows.slots k ≡ Some (Some p) → slice_get new.flows.served k ≡ Some new.flows.turn → IsServed config (made ++ past) (Tcp (number_of p)))
      → IsLeftAmong config wants items later new (made ++ past)
  left_behind new later frame told = record {
    reading = reading_behind;
    writing = writing_behind;
    frame = frame;
    freed = writing_on config made past TheLink same left.freed;
    told = told;
    differ = second_of (not (list_any (λ w. same_number (socket_number item.of) (socket_number w.of)) items)) (differ items) left.differ;
  }

  -- behind an item of a socket, and behind one of the link
  pub left_behind_socket : (new : SlirpState) → ((k : ℕ) (p : Splice) → slice_get new.flows.flows.slots k ≡ Some (Some p) → slice_get new.flows.served k ≡ Some new.flows.turn →
      IsServed config (made ++ past) (Tcp (number_of p)))
      → IsLeftAmong config wants items to_read new (made ++ past)
  left_behind_socket new told = left_behind new to_read (λ none. reading_on config made past TheLink same (left.frame none)) told

  pub left_behind_link : (new : SlirpState) → (to_read ≡ true → reads TheLink wants ≡ true) → item.of ≡ TheLink
      → ((k : ℕ) (p : Splice) → slice_get new.flows.flows.slots k ≡ Some (Some p) → slice_get new.flows.served k ≡ Some new.flows.turn → IsServed config (made ++ past) (Tcp (number_of p)))
      → IsLeftAmong config wants items (still to_read item) new (made ++ past)
  left_behind_link new wanted of told = left_behind new (still to_read item) (frame_read wanted of) told

-- ---- the marks of flows

-- calls that keep the marks leave what is said of those that were told
pub still_told : (config : Config) (at : Standing) (aged : Bool) (slirp new : SlirpState) (link : LinkState) (made past : List Entry) → waits (made ++ past) ≡ waits past →
    HoldsNow config at aged slirp link past → KeepsMarks slirp.number slirp.flows new.flows
    → ((k : ℕ) (p : Splice) → slice_get slirp.flows.flows.slots k ≡ Some (Some p) → slice_get slirp.flows.served k ≡ Some slirp.flows.turn → IsServed config past (Tcp (number_of p)))
    → (k : ℕ) (p : Splice) → slice_get new.flows.flows.slots k ≡ Some (Some p) → slice_get new.flows.served k ≡ Some new.flows.turn → IsServed config (made ++ past) (Tcp (number_of p))
still_told config at aged slirp new link made past same holds marks told k p here mark = served_on config made past (Tcp (number_of p)) same (by (marks.numbers k p here))
  where
    was_marked : slice_get slirp.flows.served k ≡ Some slirp.flows.turn
    was_marked = ap (λ l. slice_get l k) (sym marks.served) ∙ mark ∙ ap Some marks.turn

    by : ((q : Splice) × (slice_get slirp.flows.flows.slots k ≡ Some (Some q)) × (number_of p ≡ number_of q)) ⊎ (slirp.number ≤ number_of p) → IsServed config past (Tcp (number_of p))
    by (inl it) = subst (λ n. IsServed config past (Tcp n)) (sym it.2) (told k it.0 it.1 was_marked)
    by (inr drawn) = let next = holds.sockets.number in unopened config past (number_of p) holds.lawful (omega (arith, drawn, next))

-- calls that keep the marks, with no item between
pub left_on : (config : Config) (at : Standing) (aged : Bool) (wants items : List Want) (to_read : Bool) (slirp new : SlirpState) (link : LinkState) (made past : List Entry) →
    waits (made ++ past) ≡ waits past → HoldsNow config at aged slirp link past
    → KeepsMarks slirp.number slirp.flows new.flows → IsLeftAmong config wants items to_read slirp past → IsLeftAmong config wants items to_read new (made ++ past)
left_on config at aged wants items to_read slirp new link made past same holds marks left = record {
  reading = λ who is. left.reading who (read_left config made past who same is);
  writing = λ who is. left.writing who (write_left config made past who same is);
  frame = λ none. reading_on config made past TheLink same (left.frame none);
  freed = writing_on config made past TheLink same left.freed;
  told = still_told config at aged slirp new link made past same holds marks left.told;
  differ = left.differ;
}

-- ---- frames and datagrams are taken in only where nothing is left to be sent

-- what isn't taken in where something is left to be sent and the link is blocked is where nothing is
taken_in : (config : Config) (at : Standing) (aged : Bool) (slirp : SlirpState) (link : LinkState) (past : List Entry) → HoldsNow config at aged slirp link past → AllSent slirp link
    → (who : Who) → comes_in who ≡ true → is_read config past who ≡ true → is_settled slirp link ≡ true
taken_in config at aged slirp link past holds sent who comes is = by (is_settled slirp link) refl
  where
    by : (b : Bool) → is_settled slirp link ≡ b → b ≡ true
    by true settled = refl
    by false unsettled = true_false (is_read config past who) is (none who comes)
      where
        blocked : (b : Bool) → link.blocked ≡ b → b ≡ true
        blocked true is_so = refl
        blocked false is_so = true_false (is_settled slirp link) (sent is_so) unsettled

        takes : (not (is_blocked past) || is_all_sent config past) ≡ false
        takes = ap (λ b. not b || is_all_sent config past) (holds.keeps.blocked ∙ blocked link.blocked refl) ∙ unsent config at slirp (flowing aged slirp.flows) link past holds unsettled

        ends_false : (a b : Bool) → b ≡ false → (a && b) ≡ false
        ends_false true b one = one
        ends_false false b one = refl

        none : (w : Who) → comes_in w ≡ true → is_read config past w ≡ false
        none TheLink one = takes
        none (Udp n) one = ends_false (takes_datagrams past n) (not (is_blocked past) || is_all_sent config past) takes
        none (Listener n) one = absurd cc
        none (Tcp n) one = absurd cc

pub can_take : (config : Config) (at : Standing) (aged : Bool) (slirp : SlirpState) (link : LinkState) (past : List Entry) → HoldsNow config at aged slirp link past →
    AllSent slirp link → CanTake config slirp link past
can_take config at aged slirp link past holds sent who comes is = taken_in config at aged slirp link past holds sent who comes (waited (is_read config past who) refl)
  where
    waited : (b : Bool) → is_read config past who ≡ b → b ≡ true
    waited true one = refl
    waited false one = true_false (is_left_to_read config past who) is (unread config past who one)

-- ---- at the end of a turn

-- where no item is left, each report is served
pub served_at_end : (config : Config) (wants : List Want) (to_read : Bool) (slirp : SlirpState) (past : List Entry) → IsLeftAmong config wants [] to_read slirp past → AllServed config past
served_at_end config wants to_read slirp past left who = record {
  reading = unless (is_left_to_read config past who) (λ is. true_false _ (left.reading who is) refl);
  writing = unless (is_left_to_write config past who) (λ is. true_false _ (left.writing who is) refl);
}

-- ---- before a wait

-- where no flow was told in this turn, none was after calls that keep the marks
pub none_told : (number : ℕ) (slirp new : SlirpState) → KeepsMarks number slirp.flows new.flows → NoneTold slirp → NoneTold new
none_told number slirp new marks none k mark = none k (ap (λ l. slice_get l k) (sym marks.served) ∙ mark ∙ ap Some marks.turn)

-- ---- after a wait that was woken

-- what was wanted and reported is among what was wanted of the report
wanted_read : (who : Who) (wants ready : List Want) → reads who wants ≡ true → reads who ready ≡ true → reads who (all_wanted wants ready) ≡ true
wanted_read who wants [] wanted is = absurd cc
wanted_read who wants (item ∷ ready) wanted is = by (same_who who item.of) refl item.read refl is (wanted_read who wants ready wanted)
  where
    by : (s : Bool) → same_who who item.of ≡ s → (r : Bool) → item.read ≡ r → ((s && r) || reads who ready) ≡ true → (reads who ready ≡ true → reads who (all_wanted wants ready) ≡ true)
        → ((s && (r && reads item.of wants)) || reads who (all_wanted wants ready)) ≡ true
    by true one true two it rest = ap (λ b. b || reads who (all_wanted wants ready)) (ap (λ w. reads w wants) (sym (same_is who item.of one)) ∙ wanted)
    by true one false two it rest = rest it
    by false one r two it rest = rest it

wanted_write : (who : Who) (wants ready : List Want) → writes who wants ≡ true → writes who ready ≡ true → writes who (all_wanted wants ready) ≡ true
wanted_write who wants [] wanted is = absurd cc
wanted_write who wants (item ∷ ready) wanted is = by (same_who who item.of) refl item.write refl is (wanted_write who wants ready wanted)
  where
    by : (s : Bool) → same_who who item.of ≡ s → (r : Bool) → item.write ≡ r → ((s && r) || writes who ready) ≡ true → (writes who ready ≡ true → writes who (all_wanted wants ready) ≡ true)
        → ((s && (r && writes item.of wants)) || writes who (all_wanted wants ready)) ≡ true
    by true one true two it rest = ap (λ b. b || writes who (all_wanted wants ready)) (ap (λ w. writes w wants) (sym (same_is who item.of one)) ∙ wanted)
    by true one false two it rest = rest it
    by false one r two it rest = rest it

module _ (config : Config) (past : List Entry) (wants : List Want) (timeout : Option ℕ) (ready : List Want) (told : ℕ) where
  abbrev pub woken : List Entry
  woken = Now told ∷ Wait wants timeout Ready ready ∷ past

  both_read : (who : Who) → is_left_to_read config woken who ≡ true → (reads who wants ≡ true) × (reads who ready ≡ true)
  both_read who is =
      let at_wait = first_of (is_left_to_read config (Wait wants timeout Ready ready ∷ past) who) _ (first_of _ (is_read config woken who) is) in
      let both = first_of (reads who wants && reads who ready) _ at_wait in
      (first_of (reads who wants) (reads who ready) both, second_of (reads who wants) (reads who ready) both)

  both_written : (who : Who) → is_left_to_write config woken who ≡ true → (writes who wants ≡ true) × (writes who ready ≡ true) × (is_written config (Wait wants timeout Ready ready ∷ past) who ≡ true)
  both_written who is =
      let at_wait = first_of (is_left_to_write config (Wait wants timeout Ready ready ∷ past) who) _ (first_of _ (is_written config woken who) is) in
      let both = first_of (writes who wants && writes who ready) _ at_wait in
      (first_of (writes who wants) (writes who ready) both, second_of (writes who wants) (writes who ready) both, second_of (writes who wants && writes who ready) _ at_wait)

  -- a link that was reported to take more isn't waited for any more
  unblocked : (b : Bool) → (if b then false else is_blocked past) ≡ true → b ≡ true → ⊥
  unblocked true is one = absurd cc
  unblocked false is one = absurd cc

  -- the reports that are to be served are those of the wait
  pub left_at_first : (slirp : SlirpState) → NoneTold slirp → differ ready ≡ true → IsLeftAmong config wants ready (is_frame_due wants ready) slirp woken
  left_at_first slirp none apart = record {
    reading = λ who is. let both = both_read who is in wanted_read who wants ready both.0 both.1;
    writing = λ who is. let both = both_written who is in wanted_write who wants ready both.0 both.1;
    frame = λ not_due. unless (is_left_to_read config woken TheLink) (λ is. let both = both_read TheLink is in true_false (is_frame_due wants ready)
        (both_true (reads TheLink wants) (reads TheLink ready) both.0 both.1) not_due);
    freed = unless (is_left_to_write config woken TheLink) (λ is. let both = both_written TheLink is in absurd (unblocked (writes TheLink ready) both.2 both.1));
    told = λ k p here mark. absurd (none k mark);
    differ = apart;
  }

  -- and where a frame or a datagram is left, nothing is left to be sent
  pub can_take_at_first : (at : Standing) (aged : Bool) (slirp new : SlirpState) (link next : LinkState) → HoldsNow config at aged slirp link past → AllSent slirp link →
      WaitsFor config past wants → next.tail ≡ link.tail → new.pending ≡ slirp.pending
      → CanTake config new next woken
  can_take_at_first at aged slirp new link next holds sent waits_for tail_same pending_same who comes is =
      (λ i. (length (tail_same i) == 0) && not (nat_lt 0 (length (pending_same i))))
      ∙ taken_in config at aged slirp link past holds sent who comes (sym (waits_for.to_read who) ∙ (both_read who is).0)
