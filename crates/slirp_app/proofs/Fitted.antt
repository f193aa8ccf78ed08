-- The frames of a lawful run are of lengths that may be.
use Rattle.std.proofs.Common.{◌≡◌, ℕ, ◌+◌, ◌-◌, ◌≤◌, ltb, Bool, true, false, cond, ◌&&◌, List, [], ◌∷◌, ◌++◌, length, map, reverse, Option, Some, None, sym, ◌∙◌, ap, subst, refl, arith, length-append}
use Rattle.std.proofs.Common.{length-drop, append-nil}
use Rattle.std.proofs.lemmas.Bool.Decides.{nat_tests}
use Rattle.world_face.specs.Frames.{Ending, LinkCut, LinkEnded, LinkFailed, LongFrame, is_too_long, is_whole, missing, partial, partial_after, read_ending, rest_after, encoded_length, tail, MayOffer}
use Rattle.world_face.specs.Journal.{Entry, Place, AreAllowed, Close, Now, Wait, LinkOpen, LinkRead, LinkWrite, Listen, UdpOpen, count_of, MayRead}
use Rattle.world_face.specs.declared.Io.{Io}
use Rattle.world_face.specs.declared.Io.TheVariants.{Done, End, NotYet, Failed}
use Rattle.world_face.specs.declared.Made.{Made}
use Rattle.world_face.specs.declared.Made.TheVariants.{Done as MadeDone, Failed as MadeFailed}
use Rattle.slirp_settings.specs.Addresses.{Config}
use Rattle.spec_trace.specs.Shape.{Phase, Opening, Started, Woken, Working, Over, clocked, is_over, is_working, may_turn, opened, phase, phase_after, unless_over}
use Rattle.spec_run.specs.Laws.{Lawful}
use Rattle.net_octets.specs.declared.Endpoint.{Endpoint}
use Rattle.spec_trace.specs.Sockets.{open_sockets}
use Rattle.rules_control.specs.Apart.{is_on_control, seen, without_control}
use Rattle.rules_control.specs.Talk.{listener}
use Rattle.control_loop.specs.Runs.{IsRun}
use Rattle.serve_loop.specs.declared.service.End.{End as AnEnd}
use Rattle.slirp_app.specs.Serving.{IsRefused, OpensAt, Runs}
use Rattle.slirp_app.proofs.Apart.{partial_apart}
use Rattle.slirp_app.proofs.Rightly.{AreRightReads, right_apart, right_before, right_reads}
use Rattle.slirp_app.proofs.Seen.{BySight, RanTo, Unserved, ran_to}
use Rattle.app_edges.specs.declared.outcome.Outcome.{Outcome}
use Rattle.taps.specs.Capturing.{Fits}

-- what is under way was brought by one read, and what is left by one write
left_short : (whole : Bool) (octets : List ℕ) → length octets ≤ 69636 → length (cond whole [] octets) ≤ 69636
left_short true octets short = omega arith
left_short false octets short = short

short : (past : List Entry) → Fits past → length (partial past) ≤ 69636
short [] fits = omega arith
short (LinkRead asked answer octets ∷ past) fits = left_short (is_whole (partial past ++ octets)) (partial past ++ octets) (omega (arith, fits.0, length-append (partial past) octets))
short (_ ∷ past) fits = short past fits.1

rest_short : (answer : Io) (octets rest : List ℕ) → length octets ≤ 69636 → length rest ≤ 69636 → length (rest_after answer octets rest) ≤ 69636
rest_short (Done n) octets rest fits before = omega (arith, fits, length-drop n octets)
rest_short End octets rest fits before = before
rest_short NotYet octets rest fits before = before
rest_short Failed octets rest fits before = before

tail_short : (past : List Entry) → Fits past → length (tail past) ≤ 69636
tail_short [] fits = omega arith
tail_short (LinkWrite octets answer ∷ past) fits = rest_short answer octets (tail past) fits.0 (tail_short past fits.1)
tail_short (_ ∷ past) fits = tail_short past fits.1

-- where a run stands that isn't over
turn_open : (p : Phase) → may_turn p ≡ true → is_over p ≡ false
turn_open (Opening opened forwards) is = refl
turn_open Started is = refl
turn_open Woken is = refl
turn_open Working is = refl
turn_open (Over cause) is = cc

work_open : (p : Phase) → is_working p ≡ true → is_over p ≡ false
work_open (Opening opened forwards) is = refl
work_open Started is = refl
work_open Woken is = refl
work_open Working is = refl
work_open (Over cause) is = cc

clock_open : (p : Phase) → is_over (clocked p) ≡ false → is_over p ≡ false
clock_open (Over cause) is = is
clock_open _ is = refl

made_open : (answer : Made) (p : Phase) → is_over (opened answer p) ≡ false → is_over p ≡ false
made_open MadeDone (Over cause) is = is
made_open MadeFailed (Over cause) is = is
made_open MadeDone _ is = refl
made_open MadeFailed _ is = refl

ended : {A : Type 0} (p : Phase) (why : Ending) → is_over (unless_over p why) ≡ false → A
ended (Opening opened forwards) why is = absurd (cc is)
ended Started why is = absurd (cc is)
ended Woken why is = absurd (cc is)
ended Working why is = absurd (cc is)
ended (Over cause) why is = absurd (cc is)

first : (a b : Bool) → a && b ≡ true → a ≡ true
first true b is = refl
first false b is = cc

-- nothing is too long of which nothing is there
none_long : is_too_long [] ≡ false
unfolding is_too_long
none_long = refl

unless_whole : (whole : Bool) (octets : List ℕ) → is_too_long octets ≡ false → is_too_long (cond whole [] octets) ≡ false
unless_whole true octets fine = none_long
unless_whole false octets fine = fine

no_octets : (octets : List ℕ) → length octets ≡ 0 → octets ≡ []
no_octets [] is = refl
no_octets (x ∷ octets) is = absurd (omega (arith, is))

-- a read that doesn't end the run
module _ (config : Config) (asked : ℕ) (octets : List ℕ) (past : List Entry) where
  abbrev so_far : List ℕ
  so_far = partial past ++ octets

  abbrev Stands : Io → Type 0
  Stands answer = is_over (phase config (LinkRead asked answer octets ∷ past)) ≡ false

  done_read : (n : ℕ) (long : Bool) → is_too_long so_far ≡ long → is_over (phase_after (LinkRead asked (Done n) octets) (cond long (Some (LongFrame (encoded_length so_far))) None)
      (phase config past)) ≡ false → is_too_long so_far ≡ false
  done_read n true is going = ended (phase config past) (LongFrame (encoded_length so_far)) going
  done_read n false is going = is

  end_read : (got : List ℕ) → is_over (phase_after (LinkRead asked End octets) (read_ending End got) (phase config past)) ≡ false → is_too_long so_far ≡ false
  end_read [] going = ended (phase config past) LinkEnded going
  end_read (x ∷ got) going = ended (phase config past) (LinkCut (length (x ∷ got))) going

  read_fine : (answer : Io) → length octets ≡ count_of answer → is_too_long (partial past) ≡ false → Stands answer → is_too_long so_far ≡ false
  read_fine (Done n) count before going = done_read n (is_too_long so_far) refl going
  read_fine End count before going = end_read so_far going
  read_fine NotYet count before going = subst (λ l. is_too_long l ≡ false) (sym (ap (λ l. partial past ++ l) (no_octets octets count) ∙ append-nil (partial past))) before
  read_fine Failed count before going = ended (phase config past) LinkFailed going

write_open : (config : Config) (octets : List ℕ) (answer : Io) (past : List Entry) → is_over (phase config (LinkWrite octets answer ∷ past)) ≡ false → is_over (phase config past) ≡ false
write_open config octets (Done n) past going = going
write_open config octets End past going = going
write_open config octets NotYet past going = going
write_open config octets Failed past going = ended (phase config past) LinkFailed going

-- while a run isn't over no length that was read is too great
fine : (config : Config) (past : List Entry) → Lawful config past → AreRightReads past → is_over (phase config past) ≡ false → is_too_long (partial past) ≡ false
fine config [] lawful allowed going = none_long
fine config (Now told ∷ past) lawful allowed going = fine config past lawful.1 allowed.1 (clock_open (phase config past) going)
fine config (Wait wants timeout answer ready ∷ past) lawful allowed going = fine config past lawful.1 allowed.1 (turn_open (phase config past) (first _ _ lawful.0.place))
fine config (LinkRead asked answer octets ∷ past) lawful allowed going =
    unless_whole (is_whole (partial past ++ octets)) (partial past ++ octets)
    (read_fine config asked octets past answer allowed.0.1.0 (fine config past lawful.1 allowed.1 (work_open (phase config past) lawful.0.place)) going)
fine config (LinkWrite octets answer ∷ past) lawful allowed going = fine config past lawful.1 allowed.1 (write_open config octets answer past going)
fine config (Listen socket at answer ∷ past) lawful allowed going = fine config past lawful.1 allowed.1 (made_open answer (phase config past) going)
fine config (UdpOpen socket at answer ∷ past) lawful allowed going = fine config past lawful.1 allowed.1 (made_open answer (phase config past) going)
fine config (_ ∷ past) lawful allowed going = fine config past lawful.1 allowed.1 going

-- what is missing of a length or frame
room_by : (early long : Bool) (n size : ℕ) → cond early false long ≡ false → ltb 69632 size ≡ long → n ≤ 69636 → n + cond early (4 - n) (4 + size - n) ≤ 69636
room_by true long n size fine is small = omega (arith, small)
room_by false true n size fine is small = cc
room_by false false n size fine is small = let most : size ≤ 69632 = grind (arith, nat_tests, is) in omega (arith, small, most)

room : (octets : List ℕ) → is_too_long octets ≡ false → length octets ≤ 69636 → length octets + missing octets ≤ 69636
unfolding is_too_long missing
room octets fine small = room_by (ltb (length octets) 4) (ltb 69632 (encoded_length octets)) (length octets) (encoded_length octets) fine refl small

within : (asked : ℕ) (answer : Io) → MayRead asked answer → count_of answer ≤ asked
within asked (Done n) may = omega (arith, may)
within asked End may = omega arith
within asked NotYet may = omega arith
within asked Failed may = omega arith

offer_short : (rest octets : List ℕ) → MayOffer rest octets → length rest ≤ 69636 → length octets ≤ 69636
offer_short [] octets may few = omega (arith, may.1)
offer_short (x ∷ rest) octets may few = subst (λ l. length l ≤ 69636) (sym may) few

fits : (config : Config) (past : List Entry) → Lawful config past → AreRightReads past → Fits past
fits config [] lawful allowed = tt
fits config (LinkRead asked answer octets ∷ past) lawful allowed =
    let before = fits config past lawful.1 allowed.1 in
    let some = room (partial past) (fine config past lawful.1 allowed.1 (work_open (phase config past) lawful.0.place)) (short past before) in
    (omega (arith, some, lawful.0.framed, within asked answer allowed.0.0, allowed.0.1.0), before)
fits config (LinkWrite octets answer ∷ past) lawful allowed =
    let before = fits config past lawful.1 allowed.1 in
    (offer_short (tail past) octets lawful.0.framed.0 (tail_short past before), before)
fits config (_ ∷ past) lawful allowed = (tt, fits config past lawful.1 allowed.1)

-- what is passed over has no frame
fits_apart : (run : List Entry) → Fits (without_control run) → Fits run
fits_apart [] fit = tt
fits_apart (LinkRead asked answer octets ∷ past) fit = (subst (λ (l : List ℕ). length l + length octets ≤ 69636) (partial_apart past) fit.0, fits_apart past fit.1)
fits_apart (LinkWrite octets answer ∷ past) fit = (fit.0, fits_apart past fit.1)
fits_apart (e ∷ past) fit = (tt, fits_apart past (rest (is_on_control e) fit))
  where
    rest : (b : Bool) → Fits (cond b (without_control past) (seen e ∷ without_control past)) → Fits (without_control past)
    rest true fit = fit
    rest false fit = fit.1

fits_closed : (sockets : List ℕ) (past : List Entry) → Fits past → Fits (map Close sockets ++ past)
fits_closed [] past fit = fit
fits_closed (socket ∷ sockets) past fit = (tt, fits_closed sockets past fit)

-- where the control was refused, too
reads_behind : (sockets : List ℕ) (past : List Entry) → AreRightReads (map Close sockets ++ past) → AreRightReads past
reads_behind sockets past right = right_before (map Close sockets) past right

run_fits : (config : Config) (end : AnEnd) (run : List Entry) → IsRun config end run → AreRightReads run → Fits run
run_fits config end run ran right = by config.control (ran_to config end run ran)
  where
    by : (control : Option Endpoint) → RanTo control config end run → Fits run
    by None (BySight sight) = fits sight.its run sight.lawful right
    by (Some at) (BySight sight) = fits_apart run (fits sight.its (without_control run) sight.lawful (right_apart run right))
    by control (Unserved refuses is) =
        let sockets = reverse (open_sockets refuses.before) in
        let refusal : Entry = Listen listener refuses.at MadeFailed in
        let read = reads_behind sockets (refusal ∷ refuses.before) (subst AreRightReads refuses.is right) in
        subst Fits (sym refuses.is) (fits_closed sockets (refusal ∷ refuses.before) (tt, fits config refuses.before refuses.lawful read.1))

-- behind the opening of the link
module _ (at : Place) (answer : Made) where
  same_partial : (run : List Entry) → partial (run ++ LinkOpen at answer ∷ []) ≡ partial run
  same_partial [] = refl
  same_partial (e ∷ run) = ap (partial_after e) (same_partial run)

  fits_behind : (run : List Entry) → Fits run → Fits (run ++ LinkOpen at answer ∷ [])
  fits_behind [] fits = (tt, tt)
  fits_behind (LinkRead asked answer octets ∷ run) fits = (subst (λ (l : List ℕ). length l + length octets ≤ 69636) (sym (same_partial run)) fits.0, fits_behind run fits.1)
  fits_behind (LinkWrite octets answer ∷ run) fits = (fits.0, fits_behind run fits.1)
  fits_behind (_ ∷ run) fits = (tt, fits_behind run fits.1)

pub allowed_later : (later past : List Entry) → AreAllowed (later ++ past) → AreAllowed later
allowed_later [] past all = tt
allowed_later (e ∷ later) past all = (all.0, allowed_later later past all.1)

pub opened_fits : (config : Config) (at : Place) (outcome : Outcome) (made : List Entry) → OpensAt config at outcome made → AreAllowed made → Fits made
opened_fits config at outcome made (Runs run is ran) allowed =
    subst Fits (sym is) (fits_behind at MadeDone run (run_fits config ran.end run ran.ran (right_reads run (allowed_later run (LinkOpen at MadeDone ∷ []) (subst AreAllowed is allowed)))))
opened_fits config at outcome made (IsRefused is told) allowed = subst Fits (sym is) (tt, tt)
