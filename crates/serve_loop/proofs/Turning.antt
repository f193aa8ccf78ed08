-- The parts of a turn, and the items that it serves.
use Rattle.std.proofs.Common.{◌≡◌, ℕ, zero, suc, ◌+◌, ◌<◌, ◌≤◌, ◌==◌, ◌&&◌, ◌||◌, not, nat_lt, Bool, true, false, List, [], ◌∷◌, ◌++◌, drop, length, get_or, inl, inr, map, sym, ◌∙◌, ap}
use Rattle.std.proofs.Common.{arith, refl, if◌then◌else◌}
use Rattle.std.proofs.lemmas.Bool.Decides.{nat_tests}
use Rattle.poll_list.specs.Listing.{same_who, reads, writes}
use Rattle.poll_list.specs.declared.Want.{Want}
use Rattle.poll_list.specs.declared.Who.{Who}
use Rattle.poll_list.specs.declared.Who.TheVariants.{Link as TheLink, Listener, Udp}
use Rattle.world_face.specs.Journal.{Entry}
use Rattle.world_face.specs.Frames.{Ending, LinkFailed}
use Rattle.world_face.specs.Tells.{Brings, Telling}
use Rattle.slirp_settings.specs.Addresses.{Config}
use Rattle.spec_trace.specs.Moments.{waits}
use Rattle.spec_trace.specs.Sockets.{next_number}
use Rattle.spec_duties.specs.Duties.{Dutiful}
use Rattle.spec_duties.proofs.Going.{goes_on}
use Rattle.spec_duties.proofs.Serving.{all_served_on}
use Rattle.spec_run.specs.Agenda.{agenda, is_to_read, is_to_write, wanted_of}
use Rattle.stream_netdev.specs.State.{LinkState, under_way}
use Rattle.slirp_core.specs.Holds.{Standing, after, standing, flowing, Ended, AfterPump, Leaves, holders_of}
use Rattle.slirp_core.specs.Calm.{AreClear}
use Rattle.slirp_core.specs.Pumps.{WantsOf, is_settled, listeners_of}
use Rattle.sim_flows.specs.Wants.{link_want, listener_want, socket_wants}
use Rattle.tcp_flows.specs.Reading.{NoneInSlots}
use Rattle.slirp_core.specs.State.{SlirpState}
use Rattle.stream_netdev.specs.declared.Pumped.{Pumped}
use Rattle.stream_netdev.specs.declared.Pumped.TheVariants.{Clear, Blocked, Failed as PumpFailed}
use Rattle.slirp_core.proofs.Associating.{with_agenda}
use Rattle.slirp_core.proofs.Parts.{or_second}
use Rattle.spec_run.proofs.Bools.{same}
use Rattle.serve_loop.specs.Ends.{end_by, turn_of}
use Rattle.serve_loop.specs.Turns.{all_passed_over, is_passed_over, is_read_now, still, AfterTurn, AllSent, AttendsAfterTaking, AttendsAfterTurn, AttendsNow, EndedAs, HoldsNow, IsAttended}
use Rattle.serve_loop.specs.Turns.{IsAttendedAfter, IsCalm, IsCalmAfter, IsInTime, MayRest, ServedAfter, ServesNow, is_frame_due}
use Rattle.serve_loop.specs.declared.service.Turn.{Turn}
use Rattle.serve_loop.specs.declared.service.Turn.TheVariants.{Again, Ended as TurnEnded}

none : {A : Type 0} (xs : List A) → nat_lt 0 (length xs) ≡ false → xs ≡ []
none [] is = refl
none (x ∷ xs) is = absurd (grind (arith, nat_tests, is))

none_at : {A : Type 0} (xs : List A) → (length xs == 0) ≡ true → xs ≡ []
none_at [] is = refl
none_at (x ∷ xs) is = absurd (grind (arith, nat_tests, is))

and_both : (a b : Bool) → (a && b) ≡ true → (a ≡ true) × (b ≡ true)
and_both true true is = (refl, refl)
and_both true false is = cc
and_both false b is = cc

not_true : (b : Bool) → not b ≡ true → b ≡ false
not_true true is = cc
not_true false is = refl

-- nothing is left to be sent
pub settled : (slirp : SlirpState) (link : LinkState) → is_settled slirp link ≡ true → (link.tail ≡ []) × (slirp.pending ≡ [])
settled slirp link is =
    let both = and_both (length link.tail == 0) (not (nat_lt 0 (length slirp.pending))) is in
    (none_at link.tail both.0, none slirp.pending (not_true (nat_lt 0 (length slirp.pending)) both.1))

-- the run has ended
pub ended_as : (config : Config) (count : ℕ) (why : Ending) (slirp : SlirpState) (past : List Entry)
    → Ended config count why slirp.forwards (holders_of slirp) past × (next_number past ≡ slirp.number)
    → EndedAs config count (end_by why) slirp.forwards (holders_of slirp) slirp.number past
ended_as config count why slirp past over = record { why = why; ended = over.0; is = refl; drawn = over.1 }

-- a pump is a part of a turn
pub pumped : (answer : Pumped) (config : Config) (at : Standing) (aged : Bool) (slirp : SlirpState) (link : LinkState) (past : List Entry) → AfterPump answer config at slirp
    (flowing aged slirp.flows) link past
    → AfterTurn (turn_of answer) config at aged slirp link past
pumped Clear config at aged slirp link past holds = holds
pumped Blocked config at aged slirp link past holds = holds
pumped PumpFailed config at aged slirp link past ended = ended_as config at.count LinkFailed slirp past ended

-- the same octets are under way
pub same_under_way : (old new : LinkState) → new.octets ≡ old.octets → new.whole ≡ old.whole → under_way new ≡ under_way old
same_under_way old new octets whole = ap (λ b. if b then [] else new.octets) whole ∙ ap (λ l. if old.whole then [] else l) octets

-- a socket isn't the link
pub still_by_socket : (to_read : Bool) (item : Want) → same_who TheLink item.of ≡ false → still to_read item ≡ to_read
still_by_socket to_read item other = ap (λ b. to_read && not (b && item.read)) other ∙ and_true to_read
  where
    and_true : (b : Bool) → (b && true) ≡ b
    and_true true = refl
    and_true false = refl

-- the frame that is to be read
pub read_now : (to_read : Bool) (item : Want) → is_read_now to_read item ≡ true → (to_read ≡ true) × (item.read ≡ true)
read_now to_read item is = by to_read (same_who TheLink item.of) item.read is
  where
    by : (a b d : Bool) → (a && b && d) ≡ true → (a ≡ true) × (d ≡ true)
    by true true true is = (refl, refl)
    by true true false is = cc
    by true false d is = cc
    by false b d is = cc

-- an item of the link, or of a socket, that was waited for
pub of_link : (wants : List Want) (item : Want) → item.of ≡ TheLink → item.read ≡ true → reads TheLink wants ≡ true → is_to_read TheLink (wanted_of wants item) ≡ true
of_link wants item of read wanted =
    ap (λ (who : Who). same_who TheLink who && (item.read && reads who wants)) of ∙ ap (λ (b : Bool). b && reads TheLink wants) read ∙ wanted

pub of_socket : (number : ℕ) (wants : List Want) (item : Want) → item.of ≡ Udp number → item.read ≡ true → reads (Udp number) wants ≡ true → is_to_read (Udp number) (wanted_of wants item) ≡ true
of_socket number wants item of read wanted =
    ap (λ (who : Who). same_who (Udp number) who && (item.read && reads who wants)) of
    ∙ ap (λ (b : Bool). b && (item.read && reads (Udp number) wants)) (same number) ∙ ap (λ (b : Bool). b && reads (Udp number) wants) read ∙ wanted

pub of_listener : (number : ℕ) (wants : List Want) (item : Want) → item.of ≡ Listener number → item.read ≡ true → reads (Listener number) wants ≡ true → is_to_read
    (Listener number) (wanted_of wants item) ≡ true
of_listener number wants item of read wanted =
    ap (λ (who : Who). same_who (Listener number) who && (item.read && reads who wants)) of
    ∙ ap (λ (b : Bool). b && (item.read && reads (Listener number) wants)) (same number) ∙ ap (λ (b : Bool). b && reads (Listener number) wants) read ∙ wanted

-- none is left from the end on
pub drop_all : (items : List Want) (n : ℕ) → length items ≤ n → drop n items ≡ []
drop_all [] zero all = refl
drop_all [] (suc n) all = refl
drop_all (x ∷ items) zero all = absurd (omega (arith, all))
drop_all (x ∷ items) (suc n) all = drop_all items n (omega (arith, all))

-- the items from a place on
pub item_at : (items : List Want) (n : ℕ) (other : Want) → n < length items → drop n items ≡ get_or items n other ∷ drop (n + 1) items
item_at [] n other few = absurd (omega (arith, few))
item_at (x ∷ items) zero other few = refl
item_at (x ∷ items) (suc n) other few =
    let one : suc n + 1 ≡ suc (n + 1) = omega arith in
    item_at items n other (omega (arith, few)) ∙ ap (λ k. get_or items n other ∷ drop k (x ∷ items)) (sym one)

pub both_of : (a b : Bool) → (a && b) ≡ true → (a ≡ true) × (b ≡ true)
both_of a b is = and_both a b is

-- a frame that is still to be read was to be read before
pub still_reads : (to_read : Bool) (item : Want) → still to_read item ≡ true → to_read ≡ true
still_reads true item is = refl
still_reads false item is = is

-- so often the run waited
waited_so : (turn : Turn) (config : Config) (at : Standing) (aged : Bool) (slirp : SlirpState) (link : LinkState) (past : List Entry) →
    AfterTurn turn config at aged slirp link past → waits past ≡ at.count
waited_so Again config at aged slirp link past holds = holds.clock.counted
waited_so (TurnEnded end) config at aged slirp link past ended = ended.ended.waited

-- what was attended so far is after a part of a turn that doesn't wait
attended_after : (turn : Turn) (config : Config) (past : List Entry) → IsAttended config past → IsAttendedAfter turn config past
attended_after Again config past now = now
attended_after (TurnEnded end) config past now = now.0

-- a part of a turn that doesn't wait attends on
pub attends_on : (turn : Turn) (config : Config) (at later : Standing) (aged then_aged : Bool) (slirp new : SlirpState) (link next : LinkState) (a b : Telling) → at.count ≡ later.count
    → Brings a b (HoldsNow config at aged slirp link) (AfterTurn turn config later then_aged new next) → Brings a b (AttendsNow config at aged slirp link)
    (AttendsAfterTurn turn config later then_aged new next)
attends_on turn config at later aged then_aged slirp new link next a b same brings = record {
  made = brings.made;
  same = brings.same;
  allowed = brings.allowed;
  told = brings.told;
  counted = brings.counted;
  brings = λ past now.
      let after = brings.brings past now.0 in
      let as_often = waited_so turn config later then_aged new next (brings.made ++ past) after ∙ sym same ∙ sym now.0.clock.counted in
      (after, attended_after turn config (brings.made ++ past) (goes_on config brings.made past as_often now.1.0, all_served_on config brings.made past as_often now.1.1));
}

-- the reports of a wait are served after it
pub attends_to_reports : (turn : Turn) (config : Config) (count : ℕ) (wants ready : List Want) (slirp new : SlirpState) (link next : LinkState) (a b : Telling)
    → Brings a b (ServesNow config count wants ready (is_frame_due wants ready) slirp link) (λ past. AfterTurn turn config (after count) false new next past × ServedAfter turn config past)
    → Brings a b (λ past. ServesNow config count wants ready (is_frame_due wants ready) slirp link past × Dutiful config past) (AttendsAfterTurn turn config (after count) false new next)
attends_to_reports turn config count wants ready slirp new link next a b brings = record {
  made = brings.made;
  same = brings.same;
  allowed = brings.allowed;
  told = brings.told;
  counted = brings.counted;
  brings = λ past now.
      let after_it = brings.brings past now.0 in
      let as_often = waited_so turn config (after count) false new next (brings.made ++ past) after_it.0 ∙ sym now.0.holds.clock.counted in
      (after_it.0, by turn (brings.made ++ past) after_it.1 (goes_on config brings.made past as_often now.1));
}
  where
    by : (t : Turn) (past : List Entry) → ServedAfter t config past → Dutiful config past → IsAttendedAfter t config past
    by Again past served dutiful = (dutiful, served)
    by (TurnEnded end) past served dutiful = dutiful

-- a part of a turn after which it may wait, where it did what has a time
pub rests_after : (config : Config) (at : Standing) (aged : Bool) (slirp new : SlirpState) (link next : LinkState) (a b : Telling) → Brings a b
    (AttendsNow config at aged slirp link) (AttendsNow config at true new next)
    → ((past : List Entry) → HoldsNow config at aged slirp link past → IsInTime new next) → Brings a b (AttendsNow config at aged slirp link) (MayRest config at new next)
rests_after config at aged slirp new link next a b brings early = record {
  made = brings.made;
  same = brings.same;
  allowed = brings.allowed;
  told = brings.told;
  counted = brings.counted;
  brings = λ past now. (brings.brings past now, early past now.0);
}

-- and one after which it may where it might before
pub rests_on : (config : Config) (at : Standing) (slirp new : SlirpState) (link next : LinkState) (a b : Telling) → Brings a b (AttendsNow config at true slirp link)
    (AttendsNow config at true new next)
    → ((past : List Entry) → HoldsNow config at true slirp link past → IsInTime slirp link → IsInTime new next) → Brings a b (MayRest config at slirp link) (MayRest config at new next)
rests_on config at slirp new link next a b brings early = record {
  made = brings.made;
  same = brings.same;
  allowed = brings.allowed;
  told = brings.told;
  counted = brings.counted;
  brings = λ past now. (brings.brings past now.0, early past now.0.0 now.1);
}

-- a whole turn, where its wait was made
pub taken : (turn : Turn) (config : Config) (count : ℕ) (slirp : SlirpState) (link : LinkState) (past : List Entry) → AttendsAfterTurn turn config
    (after (count + 1)) false slirp link past → AttendsAfterTaking turn config count slirp link past
taken Again config count slirp link past now = now
taken (TurnEnded end) config count slirp link past now = ((count + 1, omega arith, now.0), now.1)

-- nothing is left to be sent after a pump that found the link free
pub sent_by : (answer : Pumped) (slirp : SlirpState) (link : LinkState) → Leaves answer slirp link → turn_of answer ≡ Again → AllSent slirp link
sent_by Clear slirp link left again free =
    let none : nat_lt 0 (length slirp.pending) ≡ false = ap (λ (frames : List (List ℕ)). nat_lt 0 (length frames)) left.2 in
    (λ i. (length (left.1 i) == 0) && not (none i))
sent_by Blocked slirp link left again free = absurd (let never : true ≡ false = sym left ∙ free in cc)
sent_by PumpFailed slirp link left again free = cc

-- no flow owes a frame after a pump that goes on, unless the link is blocked
pub calm_by : (answer : Pumped) (slirp : SlirpState) (link : LinkState) → Leaves answer slirp link → (answer ≡ Clear → AreClear slirp.known slirp.flows.flows) →
    turn_of answer ≡ Again → IsCalm slirp link
calm_by Clear slirp link left clear again free = clear refl
calm_by Blocked slirp link left clear again free = absurd (let never : true ≡ false = sym left ∙ free in cc)
calm_by PumpFailed slirp link left clear again free = cc

-- and all is out after one that leaves the link free
pub clear_by : (answer : Pumped) (slirp : SlirpState) (link : LinkState) → Leaves answer slirp link → turn_of answer ≡ Again → link.blocked ≡ false → answer ≡ Clear
clear_by Clear slirp link left again free = refl
clear_by Blocked slirp link left again free = absurd (let never : true ≡ false = sym left ∙ free in cc)
clear_by PumpFailed slirp link left again free = cc

-- an item that doesn't free the link leaves what is calm, or is once the link is freed
pub calm_behind : (wants items : List Want) (item : Want) (slirp : SlirpState) (link : LinkState) → (same_who TheLink item.of && item.write) ≡ false → IsCalmAfter wants
    (item ∷ items) slirp link → IsCalmAfter wants items slirp link
calm_behind wants items item slirp link other (inl calm) = inl calm
calm_behind wants items item slirp link other (inr freed) = inr (record { wanted = freed.wanted; reported = ap (λ (b : Bool). b || writes TheLink items) (sym other) ∙ freed.reported })

-- once no item is left it is calm
pub calm_at_end : (wants : List Want) (slirp : SlirpState) (link : LinkState) → IsCalmAfter wants [] slirp link → IsCalm slirp link
calm_at_end wants slirp link (inl calm) = calm
calm_at_end wants slirp link (inr freed) = absurd (let never : false ≡ true = freed.reported in cc)

-- a wait that frees the link was for it
pub calm_after_wait : (wants items : List Want) (slirp : SlirpState) (link next : LinkState) (frees : Bool) → writes TheLink items ≡ frees → next.blocked ≡
    (if frees then false else link.blocked) → (link.blocked ≡ true → writes TheLink wants ≡ true)
    → IsCalm slirp link → IsCalmAfter wants items slirp next
calm_after_wait wants items slirp link next false unfreed stays waited calm = inl (λ free. calm (sym stays ∙ free))
calm_after_wait wants items slirp link next true frees stays waited calm = by link.blocked refl
  where
    by : (b : Bool) → link.blocked ≡ b → IsCalmAfter wants items slirp next
    by true blocked = inr (record { wanted = waited blocked; reported = frees })
    by false open_yet = inl (λ free. calm open_yet)

-- a link that is blocked is waited for to take more
front_written : (read : Bool) (wants : List Want) → writes TheLink (link_want read true ++ wants) ≡ true
front_written true wants = refl
front_written false wants = refl

pub link_written : (slirp : SlirpState) (link : LinkState) (wants : List Want) → WantsOf slirp link wants → link.blocked ≡ true → writes TheLink wants ≡ true
link_written slirp link wants of blocked =
    ap (writes TheLink) of.is
    ∙ written_behind (link_want (is_settled slirp link) link.blocked ++ map listener_want (listeners_of slirp))
    (socket_wants (is_settled slirp link) of.sockets) of.flows
    (ap (λ (b : Bool). writes TheLink (link_want (is_settled slirp link) b ++ map listener_want (listeners_of slirp))) blocked ∙ front_written (is_settled slirp link)
    (map listener_want (listeners_of slirp)))
  where
    first_written : (front rest : List Want) → writes TheLink front ≡ true → writes TheLink (front ++ rest) ≡ true
    first_written [] rest is = absurd cc
    first_written (w ∷ front) rest is = by (same_who TheLink w.of && w.write) is (first_written front rest)
      where
        by : (b : Bool) → (b || writes TheLink front) ≡ true → (writes TheLink front ≡ true → writes TheLink (front ++ rest) ≡ true) → (b || writes TheLink (front ++ rest)) ≡ true
        by true is more = refl
        by false is more = more is

    written_behind : (front middle rest : List Want) → writes TheLink front ≡ true → writes TheLink ((front ++ middle) ++ rest) ≡ true
    written_behind front middle rest is = first_written (front ++ middle) rest (first_written front middle is)

-- no flow stands before the first turn
pub none_is_calm : (slirp : SlirpState) (link : LinkState) → NoneInSlots slirp.flows.flows.slots → IsCalm slirp link
none_is_calm slirp link none free = record { clear = λ k p here. absurd (none k p here); slots = λ k p here. absurd (none k p here); told = λ k p here unknown. absurd (none k p here) }

pub still_sent : (slirp new : SlirpState) (link : LinkState) → new.pending ≡ slirp.pending → AllSent slirp link → AllSent new link
still_sent slirp new link same sent free = ap (λ (frames : List (List ℕ)). (length link.tail == 0) && not (nat_lt 0 (length frames))) same ∙ sent free

-- no report is left any more
pub weaker : (config : Config) (count : ℕ) (wants items : List Want) (aged : Bool) (slirp : SlirpState) (link : LinkState) (past : List Entry) → HoldsNow config
    (standing count wants items) aged slirp link past
    → HoldsNow config (after count) aged slirp link past
weaker config count wants items aged slirp link past holds =
    with_agenda config (standing count wants items) (after count) slirp (flowing aged slirp.flows) link past refl holds (agenda past, at_end (agenda past))
  where
    at_end : (xs : List Want) → xs ≡ xs ++ []
    at_end [] = refl
    at_end (x ∷ xs) = ap (λ l. x ∷ l) (at_end xs)

-- ---- items that are passed over

no_first : (a b : Bool) → a ≡ true → (not a && not b) ≡ true → ⊥
no_first true b is passed = absurd cc
no_first false b is passed = absurd cc

no_second : (a b : Bool) → b ≡ true → (not a && not b) ≡ true → ⊥
no_second true b is passed = absurd cc
no_second false true is passed = absurd cc
no_second false false is passed = absurd cc

-- what was waited for isn't
pub read_counts : (wants : List Want) (item : Want) (who : Who) → item.of ≡ who → item.read ≡ true → reads who wants ≡ true → is_passed_over wants item ≡ true → ⊥
read_counts wants item who of read wanted =
    no_first (item.read && reads item.of wants) (item.write && writes item.of wants) (ap (λ (b : Bool). b && reads item.of wants) read ∙ ap (λ (w : Who). reads w wants) of ∙ wanted)

pub write_counts : (wants : List Want) (item : Want) (who : Who) → item.of ≡ who → item.write ≡ true → writes who wants ≡ true → is_passed_over wants item ≡ true → ⊥
write_counts wants item who of write wanted =
    no_second (item.read && reads item.of wants) (item.write && writes item.of wants) (ap (λ (b : Bool). b && writes item.of wants) write ∙ ap (λ (w : Who). writes w wants) of ∙ wanted)

pub some_counts : (wants : List Want) (item w : Want) → w ≡ wanted_of wants item → (w.read || w.write) ≡ true → is_passed_over wants item ≡ true → ⊥
some_counts wants item w is some passed = by (wanted_of wants item).read (wanted_of wants item).write (ap (λ (x : Want). x.read || x.write) (sym is) ∙ some) passed
  where
    by : (a b : Bool) → (a || b) ≡ true → (not a && not b) ≡ true → ⊥
    by true b either none = absurd cc
    by false true either none = absurd cc
    by false false either none = absurd cc

-- each of them, where all are
pub passed_at : (wants items : List Want) (n : ℕ) (item : Want) (rest : List Want) → all_passed_over wants items ≡ true → drop n items ≡ item ∷ rest → is_passed_over wants item ≡ true
passed_at wants [] zero item rest all is = absurd cc
passed_at wants [] (suc n) item rest all is = absurd cc
passed_at wants (x ∷ items) zero item rest all is = let same : x ≡ item = cc in ap (is_passed_over wants) (sym same) ∙ (and_both (is_passed_over wants x) (all_passed_over wants items) all).0
passed_at wants (x ∷ items) (suc n) item rest all is = passed_at wants items n item rest (and_both (is_passed_over wants x) (all_passed_over wants items) all).1 is
