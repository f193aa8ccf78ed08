-- An item of a report is served, and what is then owed is sent: nothing is left of it.
use Rattle.std.proofs.Common.{◌≡◌, inl, inr, ℕ, ◌||◌, not, Bool, true, false, List, [], ◌∷◌, ◌++◌, drop, slice_get, slice_set, None, Some, if◌then◌else◌, refl, sym, ap, ◌∙◌, subst}
use Rattle.poll_list.specs.Listing.{reads, writes}
use Rattle.poll_list.specs.declared.Want.{Want}
use Rattle.poll_list.specs.declared.Who.{Who}
use Rattle.poll_list.specs.declared.Who.TheVariants.{Link as TheLink, Tcp}
use Rattle.world_face.specs.Frames.{arrived, is_whole, partial}
use Rattle.world_face.specs.Journal.{Entry, LinkRead}
use Rattle.world_face.specs.Tells.{Brings, Telling}
use Rattle.world_face.specs.declared.Io.TheVariants.{Done as IoDone, End as IoEnd, NotYet as IoNotYet, Failed as IoFailed}
use Rattle.slirp_settings.specs.Addresses.{Config}
use Rattle.spec_trace.specs.Moments.{waits}
use Rattle.spec_run.specs.Agenda.{wanted_of}
use Rattle.spec_duties.specs.Said.{some_reads}
use Rattle.spec_duties.specs.Serving.{IsServed, is_left_to_read, is_left_to_write}
use Rattle.spec_duties.specs.Waiting.{is_written}
use Rattle.spec_duties.proofs.Serving.{read_since, reading_on, served_on, unwritten, writing_on}
use Rattle.flow_splice.specs.Splice.{Splice}
use Rattle.sim_flows.specs.Core.{number_of}
use Rattle.tcp_flows.specs.Kept.{Kept}
use Rattle.tcp_flows.specs.Reading.{IsOpenAt, NoneOpen, Stays}
use Rattle.tcp_flows.specs.Told.{ServesOnce, WasTold}
use Rattle.stream_netdev.specs.Keeps.{EndsBy, ReadsFrame}
use Rattle.stream_netdev.specs.State.{LinkState, frame_of}
use Rattle.stream_netdev.specs.declared.Arrived.TheVariants.{Frame, NotYet}
use Rattle.slirp_core.specs.Holds.{after, flowing, standing}
use Rattle.slirp_core.specs.Marks.{KeepsMarks}
use Rattle.slirp_core.specs.State.{SlirpState}
use Rattle.slirp_core.proofs.Associating.{passes_over}
use Rattle.slirp_core.proofs.Unserved.{told_then}
use Rattle.slirp_core.proofs.Telling.{from_more}
use Rattle.slirp_core.proofs.Brought.{reads_wait}
use Rattle.serve_loop.specs.Turns.{AfterItem, AfterTurn, AllSent, CanTake, HoldsNow, IsLeftAmong, ServesNow, still}
use Rattle.serve_loop.specs.declared.service.Turn.{Turn}
use Rattle.serve_loop.specs.declared.service.Turn.TheVariants.{Again, Ended as TurnEnded}
use Rattle.serve_loop.proofs.Left.{both_true, can_take, its_flow, left_behind_link, left_behind_socket, left_on, still_told}

-- flows that stay as they were keep their marks
pub same_marks : (number : ℕ) (old new : Kept) → new ≡ old → KeepsMarks number old new
same_marks number old new same = record {
  served = ap (λ (k : Kept). k.served) same;
  turn = ap (λ (k : Kept). k.turn) same;
  numbers = λ k p here. inl (p, ap (λ (f : Kept). slice_get f.flows.slots k) (sym same) ∙ here, refl);
}

module _ (config : Config) (count : ℕ) (wants : List Want) (items : List Want) where
  same_waits : (old new : List Want) (slirp mid : SlirpState) (link next : LinkState) (made past : List Entry) → HoldsNow config (standing count wants old) false slirp link past →
      HoldsNow config (standing count wants new) false mid next (made ++ past)
      → waits (made ++ past) ≡ waits past
  same_waits old new slirp mid link next made past before after = after.clock.counted ∙ sym before.clock.counted

  -- a pump goes on with what is left
  pub pump_serves : (turn : Turn) (to_read : Bool) (mid new : SlirpState) (link next : LinkState) (a b : Telling) → KeepsMarks mid.number mid.flows new.flows → (turn ≡ Again → AllSent new next)
      → Brings a b (HoldsNow config (standing count wants items) false mid link) (AfterTurn turn config (standing count wants items) false new next)
      → Brings a b (λ past. HoldsNow config (standing count wants items) false mid link past × IsLeftAmong config wants items to_read mid past)
      (AfterItem turn config count wants items to_read new next)
  pump_serves Again to_read mid new link next a b marks sent brings = record {
    made = brings.made;
    same = brings.same;
    allowed = brings.allowed;
    told = brings.told;
    counted = brings.counted;
    brings = λ past now.
        let after = brings.brings past now.0 in
        record {
          holds = after;
          left = left_on config (standing count wants items) false wants items to_read mid new link brings.made past
              (same_waits items items mid new link next brings.made past now.0 after) now.0 marks now.1;
          can_take = can_take config (standing count wants items) false new next (brings.made ++ past) after (sent refl);
        };
  }
  pump_serves (TurnEnded end) to_read mid new link next a b marks sent brings = from_more a b _ _ _ (λ past now. now.0) brings

  module _ (item : Want) (slirp mid : SlirpState) (link next : LinkState) (a b : Telling) where
    -- a socket that isn't waited for to be written was read
    pub socket_serves : (who : Who) (to_read : Bool) → item.of ≡ who → ((past : List Entry) → is_written config past who ≡ false) → KeepsMarks slirp.number slirp.flows mid.flows
        → Brings a b (λ past. HoldsNow config (standing count wants (item ∷ items)) false slirp link past × CanTake config slirp link past)
        (λ past. HoldsNow config (standing count wants items) false mid next past × (is_left_to_read config past who ≡ false))
        → Brings a b (ServesNow config count wants (item ∷ items) to_read slirp link)
        (λ past. HoldsNow config (standing count wants items) false mid next past × IsLeftAmong config wants items to_read mid past)
    socket_serves who to_read of unwanted marks brings = record {
      made = brings.made;
      same = brings.same;
      allowed = brings.allowed;
      told = brings.told;
      counted = brings.counted;
      brings = λ past now.
          let after = brings.brings past (now.holds, now.can_take) in
          let same = same_waits (item ∷ items) items slirp mid link next brings.made past now.holds after.0 in (
            after.0,
            left_behind_socket config wants item items to_read slirp brings.made past same now.left
                (λ read wanted. ap (is_left_to_read config (brings.made ++ past)) of ∙ after.1) (λ write wanted. ap (is_left_to_write config (brings.made ++ past)) of
                ∙ unwritten config (brings.made ++ past) who (unwanted (brings.made ++ past))) mid
                (still_told config (standing count wants (item ∷ items)) false slirp mid link brings.made past same now.holds marks now.left.told),
          );
    }

    -- a frame was read, or none came
    pub link_serves : (to_read : Bool) → item.of ≡ TheLink → (to_read ≡ true → reads TheLink wants ≡ true) → KeepsMarks slirp.number slirp.flows mid.flows
        → Brings a b (λ past. HoldsNow config (standing count wants (item ∷ items)) false slirp link past × CanTake config slirp link past)
        (λ past. HoldsNow config (standing count wants items) false mid next past × (is_left_to_read config past TheLink ≡ false))
        → Brings a b (ServesNow config count wants (item ∷ items) to_read slirp link)
        (λ past. HoldsNow config (standing count wants items) false mid next past × IsLeftAmong config wants items (still to_read item) mid past)
    link_serves to_read of wanted marks brings = record {
      made = brings.made;
      same = brings.same;
      allowed = brings.allowed;
      told = brings.told;
      counted = brings.counted;
      brings = λ past now.
          let after = brings.brings past (now.holds, now.can_take) in
          let same = same_waits (item ∷ items) items slirp mid link next brings.made past now.holds after.0 in (
            after.0,
            left_behind_link config wants item items to_read slirp brings.made past same now.left
                (λ read wanted_too. ap (is_left_to_read config (brings.made ++ past)) of ∙ after.1) (λ write wanted_too. ap (is_left_to_write config (brings.made ++ past)) of
                ∙ writing_on config brings.made past TheLink same now.left.freed) mid wanted of
                (still_told config (standing count wants (item ∷ items)) false slirp mid link brings.made past same now.holds marks now.left.told),
          );
    }

  -- a flow was told, unless it was in this turn before
  module _ (item : Want) (number : ℕ) (of : item.of ≡ Tcp number) (slirp mid : SlirpState) (link : LinkState) (read write : Bool)
      (counts : wanted_of wants item ≡ record { of = Tcp number; read = read; write = write })
      (told : (k : ℕ) (p : Splice) → IsOpenAt slirp.flows.flows.slots k p → number_of p ≡ number → mid.flows.served ≡ slice_set slirp.flows.served k slirp.flows.turn)
      (untold : NoneOpen number slirp.flows.flows.slots → mid.flows ≡ slirp.flows)
      (stays : Stays slirp.flows mid.flows) (turn : mid.flows.turn ≡ slirp.flows.turn) (a b : Telling) (to_read : Bool) where
    module _ (made past : List Entry) (same : waits (made ++ past) ≡ waits past) (left : IsLeftAmong config wants (item ∷ items) to_read slirp past)
        (once : ServesOnce config number read write slirp.flows (made ++ past)) where
      before : WasTold number slirp.flows → IsServed config (made ++ past) (Tcp number)
      before was = subst (λ n. IsServed config (made ++ past) (Tcp n)) was.number_is (served_on config made past (Tcp (number_of was.part)) same (left.told was.slot was.part was.at.here was.mark))

      flow_read : item.read ≡ true → reads item.of wants ≡ true → is_left_to_read config (made ++ past) item.of ≡ false
      flow_read reading wanted = ap (is_left_to_read config (made ++ past)) of ∙ by once
        where
          reported : read ≡ true
          reported = sym (ap (λ (w : Want). w.read) counts) ∙ both_true item.read (reads item.of wants) reading wanted

          by : ServesOnce config number read write slirp.flows (made ++ past) → is_left_to_read config (made ++ past) (Tcp number) ≡ false
          by (inl was) = (before was).reading
          by (inr is) = is.reading reported

      flow_written : item.write ≡ true → writes item.of wants ≡ true → is_left_to_write config (made ++ past) item.of ≡ false
      flow_written writing wanted = ap (is_left_to_write config (made ++ past)) of ∙ by once
        where
          reported : write ≡ true
          reported = sym (ap (λ (w : Want). w.write) counts) ∙ both_true item.write (writes item.of wants) writing wanted

          by : ServesOnce config number read write slirp.flows (made ++ past) → is_left_to_write config (made ++ past) (Tcp number) ≡ false
          by (inl was) = (before was).writing
          by (inr is) = is.writing reported

      flow_left : IsLeftAmong config wants items to_read mid (made ++ past)
      flow_left = left_behind_socket config wants item items to_read slirp made past same left flow_read flow_written mid
          (told_then number slirp.flows mid.flows (λ n. IsServed config (made ++ past) (Tcp n)) told untold stays turn
          (λ k p here mark. served_on config made past (Tcp (number_of p)) same (left.told k p here mark))
          (its_flow config wants item items to_read slirp made past same left flow_read flow_written number of))

    pub flow_serves : Brings a b (HoldsNow config (standing count wants (item ∷ items)) false slirp link)
        (λ past. HoldsNow config (standing count wants items) false mid link past × ServesOnce config number read write slirp.flows past)
        → Brings a b (ServesNow config count wants (item ∷ items) to_read slirp link)
        (λ past. HoldsNow config (standing count wants items) false mid link past × IsLeftAmong config wants items to_read mid past)
    flow_serves brings = record {
      made = brings.made;
      same = brings.same;
      allowed = brings.allowed;
      told = brings.told;
      counted = brings.counted;
      brings = λ past now.
          let after = brings.brings past now.holds in
          (after.0, flow_left brings.made past (same_waits (item ∷ items) items slirp mid link link brings.made past now.holds after.0) now.left after.1);
    }

  -- ---- what is passed over

  module _ (item : Want) (slirp : SlirpState) (link : LinkState) (past : List Entry) where
    passed_holds : HoldsNow config (standing count wants (item ∷ items)) false slirp link past → HoldsNow config (standing count wants items) false slirp link past
    passed_holds holds = passes_over config count wants item items slirp (flowing false slirp.flows) link past holds

    -- an item whose directions weren't waited for
    pub socket_passed : (to_read : Bool) → (item.read ≡ true → reads item.of wants ≡ true → is_left_to_read config past item.of ≡ false) →
        (item.write ≡ true → writes item.of wants ≡ true → is_left_to_write config past item.of ≡ false)
        → ServesNow config count wants (item ∷ items) to_read slirp link past → ServesNow config count wants items to_read slirp link past
    socket_passed to_read read write now = record {
      holds = passed_holds now.holds;
      left = left_behind_socket config wants item items to_read slirp [] past refl now.left read write slirp now.left.told;
      can_take = now.can_take;
    }

    -- the link's, where no frame is to be read
    pub link_passed : (to_read : Bool) → item.of ≡ TheLink → (to_read ≡ true → reads TheLink wants ≡ true) → (item.read ≡ true → to_read ≡ false)
        → ServesNow config count wants (item ∷ items) to_read slirp link past → ServesNow config count wants items (still to_read item) slirp link past
    link_passed to_read of wanted none now = record {
      holds = passed_holds now.holds;
      left = left_behind_link config wants item items to_read slirp [] past refl now.left (λ read wanted_too. ap (is_left_to_read config past) of ∙ now.left.frame (none read))
          (λ write wanted_too. ap (is_left_to_write config past) of ∙ now.left.freed) slirp wanted of now.left.told;
      can_take = now.can_take;
    }

-- ---- a frame

-- a frame that was read to its end, and one of which nothing more came
frame_serves : (made past : List Entry) (frame : List ℕ) → EndsBy Frame made → arrived (made ++ past) ≡ Some frame → some_reads TheLink past made ≡ true
frame_serves [] past frame ends is = absurd ends
frame_serves (LinkRead asked (IoDone n) octets ∷ made) past frame ends is = by (is_whole (partial (made ++ past) ++ octets)) is
  where
    by : (b : Bool) → (if b then Some (drop 4 (partial (made ++ past) ++ octets)) else None) ≡ Some frame → (not (not b) || some_reads TheLink past made) ≡ true
    by true one = refl
    by false one = absurd cc
frame_serves (LinkRead asked IoEnd octets ∷ made) past frame ends is = absurd ends
frame_serves (LinkRead asked IoNotYet octets ∷ made) past frame ends is = absurd ends
frame_serves (LinkRead asked IoFailed octets ∷ made) past frame ends is = absurd ends
frame_serves (_ ∷ made) past frame ends is = absurd ends

none_serves : (made past : List Entry) → EndsBy NotYet made → some_reads TheLink past made ≡ true
none_serves [] past ends = absurd ends
none_serves (LinkRead asked (IoDone n) octets ∷ made) past ends = absurd (let never : IoDone n ≡ IoNotYet = ends in cc)
none_serves (LinkRead asked IoEnd octets ∷ made) past ends = absurd (let never : IoEnd ≡ IoNotYet = ends in cc)
none_serves (LinkRead asked IoNotYet octets ∷ made) past ends = refl
none_serves (LinkRead asked IoFailed octets ∷ made) past ends = absurd (let never : IoFailed ≡ IoNotYet = ends in cc)
none_serves (_ ∷ made) past ends = absurd ends

pub frame_was_read : (config : Config) (made past : List Entry) (link : LinkState) → EndsBy Frame made → ReadsFrame Frame link made past → is_left_to_read config (made ++ past) TheLink ≡ false
frame_was_read config made past link ends reads = read_since config made past TheLink (reads_wait made past reads.reads) (frame_serves made past (frame_of link) ends reads.frame)

pub none_came : (config : Config) (made past : List Entry) → EndsBy NotYet made → waits (made ++ past) ≡ waits past → is_left_to_read config (made ++ past) TheLink ≡ false
none_came config made past ends same = read_since config made past TheLink same (none_serves made past ends)

-- calls that don't wait leave it read
pub read_then : {a b : Telling} {Before After : List Entry → Type 0} (config : Config) → Brings a b Before After → ((past made : List Entry) → Before past → After (made ++ past) →
    waits (made ++ past) ≡ waits past)
    → Brings a b (λ past. Before past × (is_left_to_read config past TheLink ≡ false)) (λ past. After past × (is_left_to_read config past TheLink ≡ false))
read_then config brings same = record {
  made = brings.made;
  same = brings.same;
  allowed = brings.allowed;
  told = brings.told;
  counted = brings.counted;
  brings = λ past now. let after = brings.brings past now.0 in (after, reading_on config brings.made past TheLink (same past brings.made now.0 after) now.1);
}
