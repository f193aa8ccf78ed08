-- What is waited for of the parts of a core is what is to be waited for of the flows of the trace.
use Rattle.std.proofs.Common.{◌≡◌, ℕ, zero, suc, ◌<◌, ◌==◌, ◌&&◌, ◌||◌, not, nat_lt, Bool, true, false, List, [], ◌∷◌, length, slice_get, slice_index_or, Option, Some, None, Contains}
use Rattle.std.proofs.Common.{refl, sym, ap, ◌∙◌, subst, arith}
use Rattle.poll_list.specs.Listing.{reads, same_who, writes}
use Rattle.poll_list.specs.declared.Want.{Want}
use Rattle.poll_list.specs.declared.Who.TheVariants.{Tcp as OnTcp}
use Rattle.world_face.specs.Journal.{Entry}
use Rattle.slirp_settings.specs.Addresses.{Config}
use Rattle.flow_table.specs.Slots.{Flows}
use Rattle.spec_flow.specs.Event.{Story}
use Rattle.spec_flow.specs.Close.{is_in_use, owes_reset}
use Rattle.spec_flow.specs.Dutiful.{MayWaitToWrite, must_wait_to_write, waits_to_read}
use Rattle.spec_flow.specs.Flow.{guest, has_connected, is_accepted, is_closed, is_connecting}
use Rattle.spec_flow.specs.Guest.{ackd, has_ended, written}
use Rattle.spec_flows.specs.Book.{book}
use Rattle.spec_flows.specs.Flows.{Flow, TimeWait, flow_of}
use Rattle.spec_flows.specs.Laws.{flow_settings}
use Rattle.sim_flows.specs.Seats.{Seats}
use Rattle.spec_run.proofs.Bools.{equal, first_of, same}
use Rattle.spec_duties.specs.Waiting.{MayBeWritten, MayWriteFlow, is_read, is_written, reads_flow, writes_flow}
use Rattle.sim_flows.proofs.Placing.{flow_at, no_flow, placed}

-- ---- tests

alike : (a b : Bool) → (a ≡ true → b ≡ true) → (b ≡ true → a ≡ true) → a ≡ b
alike true b f g = sym (f refl)
alike false true f g = g refl
alike false false f g = refl

first_true : (a b : Bool) → (a || b) ≡ false → (a ≡ true → ⊥)
first_true true b is one = absurd cc
first_true false b is one = absurd cc

or_left : (a b : Bool) → a ≡ true → (a || b) ≡ true
or_left true b is = refl
or_left false b is = absurd cc

or_right : (a b : Bool) → b ≡ true → (a || b) ≡ true
or_right true b is = refl
or_right false b is = is

open_story : (story : Story) (x y z : Bool) → (x && not (is_closed story) && y && z) ≡ true → is_in_use story ≡ true
open_story story x y z is = by (is_closed story) is refl
  where
    by : (b : Bool) → (x && not b && y && z) ≡ true → is_closed story ≡ b → is_in_use story ≡ true
    by true one at = absurd (shut x y z one)
      where
        shut : (p q r : Bool) → (p && false && q && r) ≡ true → ⊥
        shut true q r bad = absurd cc
        shut false q r bad = absurd cc
    by false one at = rw at refl

reads_open : (config : Config) (story : Story) → waits_to_read (flow_settings config) story ≡ true → is_in_use story ≡ true
reads_open config story is = open_story story (has_connected story || is_accepted story) _ _ is

unless_closed : (story : Story) → not (is_closed story) ≡ true → is_in_use story ≡ true
unless_closed story is = or_left (not (is_closed story)) (owes_reset story) is

writes_open : (story : Story) → must_wait_to_write story ≡ true → is_in_use story ≡ true
writes_open story is = unless_closed story (first_of (not (is_closed story))
    (is_connecting story || (nat_lt (length (written (guest story))) (ackd (guest story)) && not (has_ended (guest story)))) is)

-- ---- a list of wants

module _ {P : Type 0} (number : P → ℕ) (wants_to_read wants_to_write : P → Bool) where
  abbrev pub want : P → Want
  want p = record { of = OnTcp (number p); read = wants_to_read p; write = wants_to_write p }

  -- one that is read is one of them, and the other way
  read_one : (n : ℕ) (wants : List Want) → reads (OnTcp n) wants ≡ true → (w : Want) × Contains wants w × (same_who (OnTcp n) w.of ≡ true) × (w.read ≡ true)
  read_one n [] is = absurd cc
  read_one n (w ∷ wants) is = by (same_who (OnTcp n) w.of) refl w.read refl is (read_one n wants)
    where
      by : (s : Bool) → same_who (OnTcp n) w.of ≡ s → (r : Bool) → w.read ≡ r → ((s && r) || reads (OnTcp n) wants) ≡ true
          → (reads (OnTcp n) wants ≡ true → (v : Want) × Contains wants v × (same_who (OnTcp n) v.of ≡ true) × (v.read ≡ true))
          → (v : Want) × Contains (w ∷ wants) v × (same_who (OnTcp n) v.of ≡ true) × (v.read ≡ true)
      by true one true two it rest = (w, (0, omega arith, refl), one, two)
      by true one false two it rest = let found = rest it in (found.0, (suc found.1.0, (let low = found.1.1 in omega (arith, low)), found.1.2), found.2, found.3)
      by false one r two it rest = let found = rest it in (found.0, (suc found.1.0, (let low = found.1.1 in omega (arith, low)), found.1.2), found.2, found.3)

  write_one : (n : ℕ) (wants : List Want) → writes (OnTcp n) wants ≡ true → (w : Want) × Contains wants w × (same_who (OnTcp n) w.of ≡ true) × (w.write ≡ true)
  write_one n [] is = absurd cc
  write_one n (w ∷ wants) is = by (same_who (OnTcp n) w.of) refl w.write refl is (write_one n wants)
    where
      by : (s : Bool) → same_who (OnTcp n) w.of ≡ s → (r : Bool) → w.write ≡ r → ((s && r) || writes (OnTcp n) wants) ≡ true
          → (writes (OnTcp n) wants ≡ true → (v : Want) × Contains wants v × (same_who (OnTcp n) v.of ≡ true) × (v.write ≡ true))
          → (v : Want) × Contains (w ∷ wants) v × (same_who (OnTcp n) v.of ≡ true) × (v.write ≡ true)
      by true one true two it rest = (w, (0, omega arith, refl), one, two)
      by true one false two it rest = let found = rest it in (found.0, (suc found.1.0, (let low = found.1.1 in omega (arith, low)), found.1.2), found.2, found.3)
      by false one r two it rest = let found = rest it in (found.0, (suc found.1.0, (let low = found.1.1 in omega (arith, low)), found.1.2), found.2, found.3)

  one_read : (n : ℕ) (wants : List Want) (w : Want) (k : ℕ) → k < length wants → slice_index_or wants k w ≡ w → same_who (OnTcp n) w.of ≡ true → w.read ≡ true → reads (OnTcp n) wants ≡ true
  one_read n [] w k low at one two = absurd (omega (arith, low))
  one_read n (v ∷ wants) w zero low at one two =
      let here : v ≡ w = at in
      or_left (same_who (OnTcp n) v.of && v.read) (reads (OnTcp n) wants) (subst (λ (u : Want). (same_who (OnTcp n) u.of && u.read) ≡ true) (sym here) (rw one two))
  one_read n (v ∷ wants) w (suc k) low at one two = or_right (same_who (OnTcp n) v.of && v.read) (reads (OnTcp n) wants) (one_read n wants w k (omega (arith, low)) at one two)

  one_written : (n : ℕ) (wants : List Want) (w : Want) (k : ℕ) → k < length wants → slice_index_or wants k w ≡ w → same_who (OnTcp n) w.of ≡ true → w.write ≡ true → writes (OnTcp n) wants ≡ true
  one_written n [] w k low at one two = absurd (omega (arith, low))
  one_written n (v ∷ wants) w zero low at one two =
      let here : v ≡ w = at in
      or_left (same_who (OnTcp n) v.of && v.write) (writes (OnTcp n) wants) (subst (λ (u : Want). (same_who (OnTcp n) u.of && u.write) ≡ true) (sym here) (rw one two))
  one_written n (v ∷ wants) w (suc k) low at one two = or_right (same_who (OnTcp n) v.of && v.write) (writes (OnTcp n) wants) (one_written n wants w k (omega (arith, low)) at one two)

  -- ---- the wants of the parts

  module _ (config : Config) (Follows : P → Story → Type 0) (table : Flows) (parts : List (Option P)) (next : ℕ) (past : List Entry) (time_waits : List TimeWait)
      (seats : Seats number Follows table parts next (book config past).flows time_waits)
      (by_reads : (k : ℕ) (p : P) (story : Story) → slice_get parts k ≡ Some (Some p) → Follows p story → waits_to_read (flow_settings config) story ≡ wants_to_read p)
      (by_must : (k : ℕ) (p : P) (story : Story) → slice_get parts k ≡ Some (Some p) → Follows p story → must_wait_to_write story ≡ true → wants_to_write p ≡ true)
      (by_may : (k : ℕ) (p : P) (story : Story) → slice_get parts k ≡ Some (Some p) → Follows p story → wants_to_write p ≡ true → MayWaitToWrite story)
      (wants : List Want)
      (all : (k : ℕ) (p : P) → slice_get parts k ≡ Some (Some p) → (wants_to_read p || wants_to_write p) ≡ true → Contains wants (want p))
      (only : (w : Want) → Contains wants w → (k : ℕ) × (p : P) × (slice_get parts k ≡ Some (Some p)) × (w ≡ want p)) where
    part_has : (n : ℕ) (p : P) (w : Want) → w ≡ want p → same_who (OnTcp n) w.of ≡ true → number p ≡ n
    part_has n p w is one = sym (equal n (number p) (subst (λ (v : Want). same_who (OnTcp n) v.of ≡ true) is one))

    read_then : (n : ℕ) → reads (OnTcp n) wants ≡ true → reads_flow config (flow_of n (book config past).flows) ≡ true
    read_then n is = by (flow_of n (book config past).flows) refl
      where
        found : (w : Want) × Contains wants w × (same_who (OnTcp n) w.of ≡ true) × (w.read ≡ true)
        found = read_one n wants is

        slot : (k : ℕ) × (p : P) × (slice_get parts k ≡ Some (Some p)) × (found.0 ≡ want p)
        slot = only found.0 found.1

        by : (o : Option Flow) → flow_of n (book config past).flows ≡ o → reads_flow config o ≡ true
        by None none = absurd (no_flow number Follows table parts next (book config past).flows time_waits seats n slot.0 slot.1 none slot.2 (part_has n slot.1 found.0 slot.3 found.2))
        by (Some f) at = by_reads slot.0 slot.1 f.story slot.2 (flow_at number Follows table parts next (book config past).flows time_waits seats n f slot.0 slot.1 at slot.2
            (part_has n slot.1 found.0 slot.3 found.2))
            ∙ sym (ap (λ (w : Want). w.read) slot.3) ∙ found.3

    then_read : (n : ℕ) → reads_flow config (flow_of n (book config past).flows) ≡ true → reads (OnTcp n) wants ≡ true
    then_read n is = by (flow_of n (book config past).flows) refl is
      where
        by : (o : Option Flow) → flow_of n (book config past).flows ≡ o → reads_flow config o ≡ true → reads (OnTcp n) wants ≡ true
        by None none it = absurd cc
        by (Some f) at it =
            let part = placed number Follows table parts next (book config past).flows time_waits seats n f at (reads_open config f.story it) in
            let reading = sym (by_reads part.slot part.part f.story part.here part.follows) ∙ it in
            let there = all part.slot part.part part.here (or_left (wants_to_read part.part) (wants_to_write part.part) reading) in
            one_read n wants (want part.part) there.0 there.1 there.2 (ap (λ (m : ℕ). n == m) part.numbered ∙ same n) reading

    -- octets of a host are waited for exactly where the trace says so
    pub flows_read : (n : ℕ) → reads (OnTcp n) wants ≡ is_read config past (OnTcp n)
    flows_read n = alike (reads (OnTcp n) wants) (reads_flow config (flow_of n (book config past).flows)) (read_then n) (then_read n)

    -- a host is waited for to take some where it must be, and only where it may be
    pub flows_written : (n : ℕ) → is_written config past (OnTcp n) ≡ true → writes (OnTcp n) wants ≡ true
    flows_written n is = by (flow_of n (book config past).flows) refl is
      where
        by : (o : Option Flow) → flow_of n (book config past).flows ≡ o → writes_flow o ≡ true → writes (OnTcp n) wants ≡ true
        by None none it = absurd cc
        by (Some f) at it =
            let part = placed number Follows table parts next (book config past).flows time_waits seats n f at (writes_open f.story it) in
            let writing = by_must part.slot part.part f.story part.here part.follows it in
            let there = all part.slot part.part part.here (or_right (wants_to_read part.part) (wants_to_write part.part) writing) in
            one_written n wants (want part.part) there.0 there.1 there.2 (ap (λ (m : ℕ). n == m) part.numbered ∙ same n) writing

    pub flows_may : (n : ℕ) → writes (OnTcp n) wants ≡ true → MayBeWritten config past (OnTcp n)
    flows_may n is = by (flow_of n (book config past).flows) refl
      where
        found : (w : Want) × Contains wants w × (same_who (OnTcp n) w.of ≡ true) × (w.write ≡ true)
        found = write_one n wants is

        slot : (k : ℕ) × (p : P) × (slice_get parts k ≡ Some (Some p)) × (found.0 ≡ want p)
        slot = only found.0 found.1

        by : (o : Option Flow) → flow_of n (book config past).flows ≡ o → MayWriteFlow o
        by None none = no_flow number Follows table parts next (book config past).flows time_waits seats n slot.0 slot.1 none slot.2 (part_has n slot.1 found.0 slot.3 found.2)
        by (Some f) at = by_may slot.0 slot.1 f.story slot.2 (flow_at number Follows table parts next (book config past).flows time_waits seats n f slot.0 slot.1 at slot.2
            (part_has n slot.1 found.0 slot.3 found.2))
            (sym (ap (λ (w : Want). w.write) slot.3) ∙ found.3)
