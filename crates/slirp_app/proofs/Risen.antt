-- The count of the fault by which a run ended rose.
use Rattle.std.proofs.Common.{◌≡◌, ℕ, ◌+◌, ◌≤◌, Bool, true, false, List, [], ◌∷◌, if◌then◌else◌, refl, sym, ap, subst, arith, max, min}
use Rattle.world_face.specs.Faults.{link_failed}
use Rattle.world_face.specs.Journal.{Entry, LinkOpen, Place}
use Rattle.world_face.specs.Limits.{last_count}
use Rattle.world_face.specs.Tells.{Answers, Counted, Counts, Rose, Telling}
use Rattle.world_face.specs.declared.Made.TheVariants.{Failed}
use Rattle.world_face.proofs.Counting.{link_rose, rose_after, some_failed}
use Rattle.serve_loop.specs.Ends.{IsCountedEnd}
use Rattle.serve_loop.specs.declared.service.End.{End}
use Rattle.serve_loop.specs.declared.service.End.TheVariants.{Done as EndDone, TooLong, Cut, LinkFault as EndLink, WaitFault as EndWait, TurnsSpent as EndTurns, ListenRefused as EndRefused, ControlRefused as EndControl}
use Rattle.app_edges.specs.declared.outcome.Outcome.{Outcome}
use Rattle.app_edges.specs.declared.outcome.Outcome.TheVariants.{BadConfig, ControlRefused, Diverged, Done, FrameCut, FrameTooLong, LinkFault, ListenRefused, NoMemory, ScheduleLine, ScheduleRead}
use Rattle.app_edges.specs.declared.outcome.Outcome.TheVariants.{ScheduleTooLarge, SinkFault, TurnsSpent, Usage, WaitFault}
use Rattle.slirp_app.specs.Serving.{IsCounted}
use Rattle.slirp_app.specs.Statuses.{outcome_of}
use Rattle.taps.specs.Recording.{Tapped}

by_end : (end : End) (old new : Counts) → IsCountedEnd end old new → IsCounted (outcome_of end) old new
by_end EndDone old new counted = tt
by_end (TooLong n) old new counted = tt
by_end (Cut n) old new counted = tt
by_end EndLink old new counted = counted
by_end EndWait old new counted = counted
by_end (EndTurns n) old new counted = tt
by_end (EndRefused n) old new counted = counted
by_end EndControl old new counted = counted

pub counted_end : (end : End) (outcome : Outcome) (old new : Counts) → outcome ≡ outcome_of end → IsCountedEnd end old new → IsCounted outcome old new
counted_end end outcome old new is counted = subst (λ o. IsCounted o old new) (sym is) (by_end end old new counted)

not_less : (old more new : ℕ) → max old (min last_count (old + more)) ≤ new → old ≤ new
not_less old more new counted = omega (arith, counted)

-- behind other calls
pub behind : (outcome : Outcome) (a b c : Counts) (made : List Entry) → Counted a b made → IsCounted outcome b c → IsCounted outcome a c
behind Done a b c made before counted = tt
behind (Usage stop) a b c made before counted = tt
behind (BadConfig field) a b c made before counted = tt
behind ScheduleRead a b c made before counted = tt
behind ScheduleTooLarge a b c made before counted = tt
behind (ScheduleLine line) a b c made before counted = tt
behind (Diverged divergence) a b c made before counted = tt
behind (FrameTooLong length) a b c made before counted = tt
behind (FrameCut octets) a b c made before counted = tt
behind LinkFault a b c made before counted = rose_after a.link b.link c.link (not_less a.link _ b.link before.link) counted
behind WaitFault a b c made before counted = rose_after a.wait b.wait c.wait (not_less a.wait _ b.wait before.wait) counted
behind (TurnsSpent turns) a b c made before counted = tt
behind (ListenRefused forward) a b c made before counted = rose_after a.socket b.socket c.socket (not_less a.socket _ b.socket before.socket) counted
behind SinkFault a b c made before counted = tt
behind NoMemory a b c made before counted = tt
behind ControlRefused a b c made before counted = rose_after a.socket b.socket c.socket (not_less a.socket _ b.socket before.socket) counted

-- the link couldn't be opened
pub unopened : (a b : Telling) (at : Place) → Answers a b (LinkOpen at Failed) → Rose a.faults.link b.faults.link
unopened a b at answers = link_rose a.faults b.faults (LinkOpen at Failed ∷ []) answers.counted (some_failed link_failed (LinkOpen at Failed) [] refl)

-- a sink may have failed to take what was put of the run
unless : (failed : Bool) (course outcome : Outcome) (old new : Counts) → outcome ≡ (if failed then SinkFault else course) → IsCounted course old new → IsCounted outcome old new
unless true course outcome old new is counted = subst (λ o. IsCounted o old new) (sym is) tt
unless false course outcome old new is counted = subst (λ o. IsCounted o old new) (sym is) counted

-- a World that notes each call counts as the one below it
pub counted_through : {W B : Type 0} (tells : W → Telling) (done outcome : Outcome) (failed : Bool) (world world_new : W) (book : B) (tap tap_new : Tapped W B)
    → tap ≡ record { world = world; began = world; book = book } → world_new ≡ tap_new.world → outcome ≡ (if failed then SinkFault else done)
    → IsCounted done (tells tap.world).faults (tells tap_new.world).faults → IsCounted outcome (tells world).faults (tells world_new).faults
counted_through {W} {B} tells done outcome failed world world_new book tap tap_new tap_is world_is outcome_is counted =
    let from : IsCounted done (tells world).faults (tells tap_new.world).faults =
    subst (λ (w : W). IsCounted done (tells w).faults (tells tap_new.world).faults) (ap (λ (t : Tapped W B). t.world) tap_is) counted in
    unless failed done outcome (tells world).faults (tells world_new).faults outcome_is
    (subst (λ (w : W). IsCounted done (tells world).faults (tells w).faults) (sym world_is) from)
