-- An untroubled run that is finished ended as its link did between two frames, or a wait was told to stop.
use Rattle.std.proofs.Common.{◌≡◌, ◌⊎◌, inl, inr, ℕ, ◌+◌, ◌<◌, ◌||◌, nat_le, nat_lt, Bool, true, false, cond, List, [], ◌∷◌, ◌++◌, Option, Some, None, refl, sym, ◌∙◌, ap, subst, arith}
use Rattle.std.proofs.lemmas.Bool.Decides.{nat_tests}
use Rattle.std.proofs.lemmas.List.{append-nil}
use Rattle.slirp_settings.specs.Addresses.{Config}
use Rattle.spec_duties.proofs.Ended.{refused_unwaited}
use Rattle.spec_trace.specs.Moments.{waits}
use Rattle.spec_trace.specs.Shape.{By, Cause, Refused, Phase, Opening, Started, Woken, Working, Over, clocked, is_over, is_working, may_turn, opened, phase, phase_by, phase_after, unless_over}
use Rattle.spec_run.specs.Laws.{Finished, Lawful, May}
use Rattle.spec_run.proofs.Bools.{first_of}
use Rattle.world_face.specs.Faults.{failures, link_failed, socket_failed, wait_failed}
use Rattle.world_face.specs.Frames.{Ending, LinkEnded, LinkCut, LongFrame, LinkFailed, Stopped, WaitFailed, MayFrame, ending, is_too_long, partial, read_ending, encoded_length}
use Rattle.world_face.specs.Journal.{Entry, Follows, call_of, Now, Wait, LinkRead, LinkWrite, Listen, UdpOpen}
use Rattle.world_face.specs.declared.Io.{Io}
use Rattle.world_face.specs.declared.Io.TheVariants.{Done as IoDone, End as IoEnd, NotYet, Failed as IoFailed}
use Rattle.world_face.specs.declared.Made.{Made}
use Rattle.world_face.specs.declared.Made.TheVariants.{Done as MadeDone, Failed as MadeFailed}
use Rattle.world_face.specs.declared.Waited.TheVariants.{Ready, Stop, Failed as WaitFails}
use Rattle.world_face.proofs.Counting.{some_failed}
use Rattle.world_face.proofs.Following.{follows_as, follows_before}
use Rattle.slirp_app.specs.Ran.{EndsBy}
use Rattle.slirp_app.specs.Untroubled.{Untroubled, link_ended, link_octets, encoded, tells_end}
use Rattle.slirp_app.proofs.Apart.{before_first}
use Rattle.slirp_app.proofs.Carried.{cut_ended, no_frame_cut, no_long_frame}
use Rattle.slirp_app.proofs.Ending.{ends_by}
use Rattle.slirp_app.proofs.Rightly.{AreRightReads, right_before}

framed : (config : Config) (past : List Entry) → Lawful config past → Follows MayFrame past
framed config past lawful = follows_as (May config) MayFrame (λ before call may. may.framed) past lawful

-- ---- a run that is over reads no more on the link

-- a wait, or a read on the link
abbrev goes_on : Entry → Bool
goes_on (Wait wants timeout answer ready) = true
goes_on (LinkRead asked answer octets) = true
goes_on _ = false

turns_no_more : (p : Phase) → may_turn p ≡ true → is_over p ≡ true → ⊥
turns_no_more (Opening n forwards) turns over = cc
turns_no_more Started turns over = cc
turns_no_more Woken turns over = cc
turns_no_more Working turns over = cc
turns_no_more (Over cause) turns over = cc

works_no_more : (p : Phase) → is_working p ≡ true → is_over p ≡ true → ⊥
works_no_more (Opening n forwards) works over = cc
works_no_more Started works over = cc
works_no_more Woken works over = cc
works_no_more Working works over = cc
works_no_more (Over cause) works over = cc

rests : (config : Config) (past : List Entry) (e : Entry) → May config past (call_of e) → is_over (phase config past) ≡ true → goes_on e ≡ false
rests config past (Wait wants timeout answer ready) may over = absurd (turns_no_more (phase config past) (first_of (may_turn (phase config past)) (nat_lt (waits past) config.turns) may.place) over)
rests config past (LinkRead asked answer octets) may over = absurd (works_no_more (phase config past) may.place over)
rests config past _ may over = refl

same_octets : (e : Entry) (past : List Entry) → goes_on e ≡ false → link_octets (e ∷ past) ≡ link_octets past
same_octets (Wait wants timeout answer ready) past rest = refl
same_octets (LinkRead asked answer octets) past rest = cc
same_octets _ past rest = refl

over_stays : (e : Entry) (o : Option Ending) (cause : Cause) → goes_on e ≡ false → is_over (phase_after e o (Over cause)) ≡ true
over_stays e (Some why) cause rest = refl
over_stays (Wait wants timeout answer ready) None cause rest = cc
over_stays (Listen socket at MadeDone) None cause rest = refl
over_stays (Listen socket at MadeFailed) None cause rest = refl
over_stays (UdpOpen socket at MadeDone) None cause rest = refl
over_stays (UdpOpen socket at MadeFailed) None cause rest = refl
over_stays _ None cause rest = refl

over_yet : (e : Entry) (o : Option Ending) (p : Phase) → goes_on e ≡ false → is_over p ≡ true → is_over (phase_after e o p) ≡ true
over_yet e o (Opening n forwards) rest over = cc
over_yet e o Started rest over = cc
over_yet e o Woken rest over = cc
over_yet e o Working rest over = cc
over_yet e o (Over cause) rest over = over_stays e o cause rest

record Over_on (config : Config) (later past : List Entry) : Type 0 where
  over : is_over (phase config (later ++ past)) ≡ true
  octets : link_octets (later ++ past) ≡ link_octets past

over_on : (config : Config) (later past : List Entry) → Lawful config (later ++ past) → is_over (phase config past) ≡ true → Over_on config later past
over_on config [] past lawful over = record { over = over; octets = refl }
over_on config (e ∷ later) past lawful over =
    let before = over_on config later past lawful.1 over in
    let rest = rests config (later ++ past) e lawful.0 before.over in
    record { over = over_yet e (ending e (partial (later ++ past))) (phase config (later ++ past)) rest before.over; octets = same_octets e (later ++ past) rest ∙ before.octets }

over_then : (p : Phase) (why : Ending) → is_over (unless_over p why) ≡ true
over_then (Opening n forwards) why = refl
over_then Started why = refl
over_then Woken why = refl
over_then Working why = refl
over_then (Over cause) why = refl

over_there : (e : Entry) (o : Option Ending) (p : Phase) (why : Ending) → o ≡ Some why → is_over (phase_after e o p) ≡ true
over_there e None p why is = cc
over_there e (Some other) p why is = over_then p other

ended_then : (told before : Bool) → before ≡ true → cond told true before ≡ true
ended_then true before is = refl
ended_then false before is = is

ended_on : (later past : List Entry) → link_ended past ≡ true → link_ended (later ++ past) ≡ true
ended_on [] past is = is
ended_on (e ∷ later) past is = ended_then (tells_end e) (link_ended (later ++ past)) (ended_on later past is)

-- ---- a failure among the calls

counts_first : (yes : Bool) (n : ℕ) → yes ≡ true → 0 < cond yes 1 0 + n
counts_first true n is = omega arith
counts_first false n is = cc

pub some_among : (of : Entry → Bool) (later past : List Entry) (e : Entry) → of e ≡ true → 0 < failures of (later ++ e ∷ past)
some_among of [] past e is = some_failed of e past is
some_among of (d ∷ later) past e is = let before = some_among of later past e is in omega arith

pub none_failed : (of : Entry → Bool) (journal later past : List Entry) (e : Entry) → failures of journal ≡ 0 → journal ≡ later ++ (e ∷ past) → of e ≡ true → ⊥
none_failed of journal later past e none is fails =
    let some = some_among of later past e fails in
    let same : failures of (later ++ (e ∷ past)) ≡ 0 = ap (failures of) (sym is) ∙ none in
    omega arith

read_failed : (answer : Io) (octets : List ℕ) → read_ending answer octets ≡ Some LinkFailed → answer ≡ IoFailed
read_failed (IoDone n) octets is = absurd (by (is_too_long octets) is)
  where
    by : (too : Bool) → cond too (Some (LongFrame (encoded_length octets))) None ≡ Some LinkFailed → ⊥
    by true is = cc
    by false is = cc
read_failed IoEnd [] is = cc
read_failed IoEnd (x ∷ octets) is = cc
read_failed NotYet octets is = cc
read_failed IoFailed octets is = refl

pub fails_link : (e : Entry) (so_far : List ℕ) → ending e so_far ≡ Some LinkFailed → link_failed e ≡ true
fails_link (LinkRead asked answer octets) so_far is = ap (λ a. link_failed (LinkRead asked a octets)) (read_failed answer (so_far ++ octets) is)
fails_link (LinkWrite octets (IoDone n)) so_far is = cc
fails_link (LinkWrite octets IoEnd) so_far is = cc
fails_link (LinkWrite octets NotYet) so_far is = cc
fails_link (LinkWrite octets IoFailed) so_far is = refl
fails_link (Wait wants timeout Ready ready) so_far is = cc
fails_link (Wait wants timeout Stop ready) so_far is = cc
fails_link (Wait wants timeout WaitFails ready) so_far is = cc
fails_link _ so_far is = cc

read_waits : (answer : Io) (octets : List ℕ) → read_ending answer octets ≡ Some WaitFailed → ⊥
read_waits (IoDone n) octets is = by (is_too_long octets) is
  where
    by : (too : Bool) → cond too (Some (LongFrame (encoded_length octets))) None ≡ Some WaitFailed → ⊥
    by true is = cc
    by false is = cc
read_waits IoEnd [] is = cc
read_waits IoEnd (x ∷ octets) is = cc
read_waits NotYet octets is = cc
read_waits IoFailed octets is = cc

pub fails_wait : (e : Entry) (so_far : List ℕ) → ending e so_far ≡ Some WaitFailed → wait_failed e ≡ true
fails_wait (LinkRead asked answer octets) so_far is = absurd (read_waits answer (so_far ++ octets) is)
fails_wait (LinkWrite octets (IoDone n)) so_far is = cc
fails_wait (LinkWrite octets IoEnd) so_far is = cc
fails_wait (LinkWrite octets NotYet) so_far is = cc
fails_wait (LinkWrite octets IoFailed) so_far is = cc
fails_wait (Wait wants timeout Ready ready) so_far is = cc
fails_wait (Wait wants timeout Stop ready) so_far is = cc
fails_wait (Wait wants timeout WaitFails ready) so_far is = refl
fails_wait _ so_far is = cc

-- ---- a port of the host that was refused

abbrev RefusedNow : ℕ → Entry → Phase → Type 0
RefusedNow forward e p = (socket_failed e ≡ true) ⊎ (p ≡ Over (Refused forward))

refused_open : (answer : Made) (p : Phase) (forward : ℕ) → opened answer p ≡ Over (Refused forward) → (answer ≡ MadeFailed) ⊎ (p ≡ Over (Refused forward))
refused_open MadeFailed p forward is = inl refl
refused_open MadeDone (Opening n []) forward is = cc
refused_open MadeDone (Opening n (f ∷ forwards)) forward is = cc
refused_open MadeDone Started forward is = cc
refused_open MadeDone Woken forward is = cc
refused_open MadeDone Working forward is = cc
refused_open MadeDone (Over cause) forward is = inr is

refused_clock : (p : Phase) (forward : ℕ) → clocked p ≡ Over (Refused forward) → p ≡ Over (Refused forward)
refused_clock (Opening n forwards) forward is = cc
refused_clock Started forward is = cc
refused_clock Woken forward is = cc
refused_clock Working forward is = cc
refused_clock (Over cause) forward is = is

refused_by : (e : Entry) (p : Phase) (forward : ℕ) → phase_by e p ≡ Over (Refused forward) → RefusedNow forward e p
refused_by (Now told) p forward is = inr (refused_clock p forward is)
refused_by (Wait wants timeout answer ready) p forward is = cc
refused_by (Listen socket at answer) p forward is = elim (refused_open answer p forward is) [
  | inl failed ↦ inl (ap (λ a. socket_failed (Listen socket at a)) failed)
  | inr before ↦ inr before
]
refused_by (UdpOpen socket at answer) p forward is = elim (refused_open answer p forward is) [
  | inl failed ↦ inl (ap (λ a. socket_failed (UdpOpen socket at a)) failed)
  | inr before ↦ inr before
]
refused_by _ p forward is = inr is

refused_unless : (p : Phase) (why : Ending) (forward : ℕ) → unless_over p why ≡ Over (Refused forward) → p ≡ Over (Refused forward)
refused_unless (Opening n forwards) why forward is = cc
refused_unless Started why forward is = cc
refused_unless Woken why forward is = cc
refused_unless Working why forward is = cc
refused_unless (Over cause) why forward is = is

refused_after : (e : Entry) (o : Option Ending) (p : Phase) (forward : ℕ) → phase_after e o p ≡ Over (Refused forward) → RefusedNow forward e p
refused_after e None p forward is = refused_by e p forward is
refused_after e (Some why) p forward is = inr (refused_unless p why forward is)

pub refused_failed : (config : Config) (journal : List Entry) (forward : ℕ) → phase config journal ≡ Over (Refused forward) → 0 < failures socket_failed journal
refused_failed config [] forward is = cc
refused_failed config (e ∷ past) forward is = elim (refused_after e (ending e (partial past)) (phase config past) forward is) [
  | inl failed ↦ some_failed socket_failed e past failed
  | inr before ↦ (let some = refused_failed config past forward before in omega arith)
]

-- ---- so an untroubled run is made to its end

module _ (config : Config) (journal : List Entry) (allowed : AreRightReads journal) (lawful : Lawful config journal) (u : Untroubled config journal) where
  unrefused : (forward : ℕ) → phase config journal ≡ Over (Refused forward) → ⊥
  unrefused forward is =
      let some = refused_failed config journal forward is in
      let none : failures socket_failed journal ≡ 0 = ap (failures socket_failed) (sym (before_first journal (refused_unwaited config journal forward lawful is))) ∙ u.ports in
      omega arith

  -- where an entry ended it, all that came on the link had come
  record CameThen (past : List Entry) (e : Entry) : Type 0 where
    allowed_then : AreRightReads (e ∷ past)
    framed_then : Follows MayFrame past
    octets : link_octets (e ∷ past) ≡ link_octets journal

  came_then : (why : Ending) (by : EndsBy why journal) → CameThen by.past by.entry
  came_then why by =
      let at = by.entry ∷ by.past in
      let lawful_all : Lawful config (by.later ++ at) = subst (Lawful config) by.is lawful in
      let over = over_there by.entry (ending by.entry (partial by.past)) (phase config by.past) why by.ends in
      record {
        allowed_then = right_before by.later at (subst AreRightReads by.is allowed);
        framed_then = framed config by.past (follows_before (May config) by.later at lawful_all).1;
        octets = sym (over_on config by.later at lawful_all over).octets ∙ ap link_octets (sym by.is);
      }

  uncut : (n : ℕ) → EndsBy (LinkCut n) journal → ⊥
  uncut n by =
      let at = came_then (LinkCut n) by in
      let ended : link_ended journal ≡ true = subst (λ j. link_ended j ≡ true) (sym by.is) (ended_on by.later (by.entry ∷ by.past) (cut_ended by.entry by.past n by.ends)) in
      let all : link_octets journal ≡ encoded u.frames = sym (append-nil (link_octets journal)) ∙ ap (λ l. link_octets journal ++ l) (sym (u.whole ended)) ∙ u.came in
      no_frame_cut by.entry by.past u.frames n at.allowed_then at.framed_then u.may_come (at.octets ∙ all) by.ends

  not_long : (n : ℕ) → EndsBy (LongFrame n) journal → ⊥
  not_long n by =
      let at = came_then (LongFrame n) by in
      no_long_frame by.entry by.past u.frames u.left n at.allowed_then.1 at.framed_then u.may_come (ap (λ l. l ++ u.left) at.octets ∙ u.came) by.ends

  link_held : EndsBy LinkFailed journal → ⊥
  link_held by = none_failed link_failed journal by.later by.past by.entry u.link by.is (fails_link by.entry (partial by.past) by.ends)

  waits_held : EndsBy WaitFailed journal → ⊥
  waits_held by = none_failed wait_failed journal by.later by.past by.entry u.wait by.is (fails_wait by.entry (partial by.past) by.ends)

  spent : (p : Phase) → phase config journal ≡ p → is_over p ≡ false → Finished config journal → ⊥
  spent p is open_yet finished = by (is_over (phase config journal)) (ap is_over is ∙ open_yet) finished.ended
    where
      by : (b : Bool) → b ≡ false → (b || nat_le config.turns (waits journal)) ≡ true → ⊥
      by true yet ended = cc
      by false yet ended = let few = u.fewer in grind (arith, nat_tests)

  abbrev pub EndsWell : Phase → Type 0
  EndsWell p = (p ≡ Over (By LinkEnded)) ⊎ (p ≡ Over (By Stopped))

  pub ends_well : Finished config journal → EndsWell (phase config journal)
  ends_well finished = by (phase config journal) refl
    where
      by : (p : Phase) → phase config journal ≡ p → EndsWell p
      by (Opening n forwards) is = absurd (spent (Opening n forwards) is refl finished)
      by Started is = absurd (spent Started is refl finished)
      by Woken is = absurd (spent Woken is refl finished)
      by Working is = absurd (spent Working is refl finished)
      by (Over (By LinkEnded)) is = inl refl
      by (Over (By Stopped)) is = inr refl
      by (Over (By (LinkCut n))) is = absurd (uncut n (ends_by config (LinkCut n) journal is))
      by (Over (By (LongFrame n))) is = absurd (not_long n (ends_by config (LongFrame n) journal is))
      by (Over (By LinkFailed)) is = absurd (link_held (ends_by config LinkFailed journal is))
      by (Over (By WaitFailed)) is = absurd (waits_held (ends_by config WaitFailed journal is))
      by (Over (Refused forward)) is = absurd (unrefused forward is)
