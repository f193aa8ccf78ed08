-- What is due for a datagram of a guest: a socket is opened for it once, and it is sent once.
use Rattle.std.proofs.Common.{◌≡◌, ℕ, ◌+◌, ◌-◌, ◌<◌, ◌≤◌, ◌==◌, nat_lt, Bool, true, false, List, [], ◌∷◌, ◌++◌, length, take, Option, Some, None, if◌then◌else◌, refl, sym, ◌∙◌, ap, subst}
use Rattle.std.proofs.Common.{arith, length-append, append-nil}
use Rattle.std.proofs.lemmas.Bool.Decides.{nat_tests}
use Rattle.std.proofs.lemmas.List.{take-append-le}
use Rattle.std.specs.Int.{w32, from_be_bytes}
use Rattle.world_face.specs.Frames.{Ending, ending, is_too_long, is_whole, missing, partial, read_ending, encoded_length, LongFrame}
use Rattle.world_face.specs.Journal.{Allowed, AreAllowed, Entry, call_of, Wait, LinkRead, Listen, UdpOpen, CallLinkRead}
use Rattle.world_face.specs.Limits.{most_from_link}
use Rattle.world_face.specs.declared.Io.{Io}
use Rattle.world_face.specs.declared.Io.TheVariants.{Done, End, NotYet, Failed}
use Rattle.world_face.specs.declared.Made.TheVariants.{Done as MadeDone, Failed as MadeFailed}
use Rattle.slirp_settings.specs.Addresses.{Config}
use Rattle.spec_trace.specs.Moments.{waits}
use Rattle.spec_trace.specs.Shape.{Cause, Phase, Opening, Over, Started, Woken, Working, is_over, is_working, may_turn, phase, phase_after}
use Rattle.spec_run.specs.Laws.{May, Lawful}
use Rattle.spec_run.proofs.Bools.{first_of}

-- ---- frames on the link

-- what came of a frame that isn't whole is never whole
pub never_whole : (past : List Entry) → is_whole (partial past) ≡ false
unfolding missing
never_whole [] = refl
never_whole (LinkRead asked answer octets ∷ past) = by (is_whole (partial past ++ octets)) refl
  where
    by : (b : Bool) → is_whole (partial past ++ octets) ≡ b → is_whole (if b then [] else partial past ++ octets) ≡ false
    by true is = refl
    by false is = is
never_whole (_ ∷ past) = never_whole past

-- nor too long, while the run isn't over
not_over : {A : Type 0} → true ≡ false → A
not_over is = cc

over_stays : (e : Entry) (o : Option Ending) (cause : Cause) (past : List Entry) → (config : Config) → May config past (call_of e) → phase config past ≡ Over cause → is_over
    (phase_after e o (Over cause)) ≡ true
over_stays e (Some why) cause past config may is = refl
over_stays (Wait wants timeout answer ready) None cause past config may is = absurd (never (first_of (may_turn (phase config past)) (nat_lt (waits past) config.turns) may.place))
  where
    never : may_turn (phase config past) ≡ true → ⊥
    never turns = clash (sym (ap may_turn is) ∙ turns)
      where
        clash : false ≡ true → ⊥
        clash same = cc
over_stays (Listen socket at MadeDone) None cause past config may is = refl
over_stays (Listen socket at MadeFailed) None cause past config may is = refl
over_stays (UdpOpen socket at MadeDone) None cause past config may is = refl
over_stays (UdpOpen socket at MadeFailed) None cause past config may is = refl
over_stays _ None cause past config may is = refl

before_over : (config : Config) (e : Entry) (past : List Entry) → May config past (call_of e) → is_over (phase config (e ∷ past)) ≡ false → is_over (phase config past) ≡ false
before_over config e past may yet = by (phase config past) refl
  where
    by : (p : Phase) → phase config past ≡ p → is_over p ≡ false
    by (Opening count forwards) is = refl
    by Started is = refl
    by Woken is = refl
    by Working is = refl
    by (Over cause) is = not_over (sym (ap (λ p. is_over (phase_after e (ending e (partial past)) p)) is ∙ over_stays e (ending e (partial past)) cause past config may is) ∙ yet)

ends : (o : Option Ending) (p : Phase) (e : Entry) → is_over (phase_after e o p) ≡ false → o ≡ None
ends None p e yet = refl
ends (Some why) (Opening count forwards) e yet = not_over yet
ends (Some why) Started e yet = not_over yet
ends (Some why) Woken e yet = not_over yet
ends (Some why) Working e yet = not_over yet
ends (Some why) (Over cause) e yet = not_over yet

long_kept : (octets : List ℕ) → is_too_long octets ≡ false → is_too_long (if is_whole octets then [] else octets) ≡ false
unfolding is_too_long
long_kept octets is = by (is_whole octets)
  where
    by : (b : Bool) → is_too_long (if b then [] else octets) ≡ false
    by true = refl
    by false = is

read_short : (n asked : ℕ) (so_far octets : List ℕ) → read_ending (Done n) (so_far ++ octets) ≡ None → is_too_long (so_far ++ octets) ≡ false
read_short n asked so_far octets is = by (is_too_long (so_far ++ octets)) is
  where
    by : (b : Bool) → (if b then Some (LongFrame (encoded_length (so_far ++ octets))) else None) ≡ None → b ≡ false
    by true is = cc
    by false is = refl

none_came : (octets : List ℕ) → length octets ≡ 0 → octets ≡ []
none_came [] is = refl
none_came (x ∷ octets) is = absurd (omega (arith, is))

short_by : (asked : ℕ) (answer : Io) (octets so_far : List ℕ) → Allowed (LinkRead asked answer octets) → read_ending answer (so_far ++ octets) ≡ None → is_too_long so_far ≡ false →
    is_too_long (so_far ++ octets) ≡ false
short_by asked (Done n) octets so_far allowed none short = read_short n asked so_far octets none
short_by asked End octets so_far allowed none short = subst (λ xs. is_too_long (so_far ++ xs) ≡ false) (sym (none_came octets allowed.1.0))
    (subst (λ xs. is_too_long xs ≡ false) (sym (append-nil so_far)) short)
short_by asked NotYet octets so_far allowed none short = subst (λ xs. is_too_long (so_far ++ xs) ≡ false) (sym (none_came octets allowed.1.0))
    (subst (λ xs. is_too_long xs ≡ false) (sym (append-nil so_far)) short)
short_by asked Failed octets so_far allowed none short = cc

pub not_long : (config : Config) (past : List Entry) → Lawful config past → AreAllowed past → is_over (phase config past) ≡ false → is_too_long (partial past) ≡ false
unfolding is_too_long
not_long config [] lawful allowed yet = refl
not_long config (e ∷ past) lawful allowed yet = by e lawful.0 allowed.0 yet (not_long config past lawful.1 allowed.1 (before_over config e past lawful.0 yet))
  where
    by : (e : Entry) → May config past (call_of e) → Allowed e → is_over (phase config (e ∷ past)) ≡ false → is_too_long (partial past) ≡ false → is_too_long (partial (e ∷ past)) ≡ false
    by (LinkRead asked answer octets) may allowed yet short =
        long_kept (partial past ++ octets) (short_by asked answer octets (partial past) allowed (ends (ending (LinkRead asked answer octets) (partial past)) (phase config past)
        (LinkRead asked answer octets) yet) short)
    by _ may allowed yet short = short

-- a frame that comes doesn't end the run
missed : (n l s : ℕ) → 4 ≤ l → nat_lt l 4 ≡ false
missed n l s more = grind (arith, nat_tests, more)

whole_long : (octets : List ℕ) → is_whole octets ≡ true → (4 + encoded_length octets ≤ length octets) × (4 ≤ length octets)
unfolding missing
whole_long octets is = by (nat_lt (length octets) 4) refl is
  where
    by : (b : Bool) → nat_lt (length octets) 4 ≡ b → ((if b then 4 - length octets else 4 + encoded_length octets - length octets) == 0) ≡ true →
        (4 + encoded_length octets ≤ length octets) × (4 ≤ length octets)
    by true less none = absurd (grind (arith, nat_tests, less, none))
    by false less none = ((grind (arith, nat_tests, less, none)), (grind (arith, nat_tests, less)))

short_whole : (so_far octets : List ℕ) → is_too_long so_far ≡ false → length octets ≤ missing so_far → is_whole (so_far ++ octets) ≡ true → is_too_long (so_far ++ octets) ≡ false
unfolding missing is_too_long encoded_length
short_whole so_far octets short most whole = by (nat_lt (length so_far) 4) refl short most
  where
    grown : length (so_far ++ octets) ≡ length so_far + length octets
    grown = length-append so_far octets

    is : (4 + from_be_bytes w32 (take 4 (so_far ++ octets)) ≤ length (so_far ++ octets)) × (4 ≤ length (so_far ++ octets))
    is = whole_long (so_far ++ octets) whole

    same_start : 4 ≤ length so_far → from_be_bytes w32 (take 4 (so_far ++ octets)) ≡ from_be_bytes w32 (take 4 so_far)
    same_start enough = ap (from_be_bytes w32) (take-append-le 4 so_far octets enough)

    by : (b : Bool) → nat_lt (length so_far) 4 ≡ b → (if b then false else nat_lt most_from_link (from_be_bytes w32 (take 4 so_far))) ≡ false → length octets ≤
        (if b then 4 - length so_far else 4 + from_be_bytes w32 (take 4 so_far) - length so_far)
        → (if nat_lt (length (so_far ++ octets)) 4 then false else nat_lt most_from_link (from_be_bytes w32 (take 4 (so_far ++ octets)))) ≡ false
    by true less short most =
        let long = is.0 in let four = is.1 in let whole_of = grown in
        let few : length so_far < 4 = grind (arith, nat_tests, less) in
        let none : from_be_bytes w32 (take 4 (so_far ++ octets)) ≡ 0 = omega (arith, long, four, whole_of, few, most) in
        ap (λ b. if b then false else nat_lt most_from_link (from_be_bytes w32 (take 4 (so_far ++ octets)))) (missed 0 (length (so_far ++ octets)) 0 four) ∙ ap (nat_lt most_from_link) none
    by false less short most =
        let four = is.1 in
        let enough : 4 ≤ length so_far = grind (arith, nat_tests, less) in
        ap (λ b. if b then false else nat_lt most_from_link (from_be_bytes w32 (take 4 (so_far ++ octets)))) (missed 0 (length (so_far ++ octets)) 0 four) ∙ ap
        (nat_lt most_from_link) (same_start enough) ∙ short

whole_again : (so_far : List ℕ) (octets : List ℕ) → length octets ≡ 0 → is_whole so_far ≡ false → is_whole (so_far ++ octets) ≡ true → ⊥
whole_again so_far octets none part whole = clash (is_whole so_far) (sym (ap is_whole (append-nil so_far)) ∙ sym (ap (λ xs. is_whole (so_far ++ xs)) (none_came octets none)) ∙ whole) part
  where
    clash : (b : Bool) → b ≡ true → b ≡ false → ⊥
    clash true one two = cc
    clash false one two = cc

-- what came whole was read then, and ends nothing
pub record Came (config : Config) (past : List Entry) (answer : Io) (octets : List ℕ) : Type 0 where
  pub some : 1 ≤ length octets
  pub goes_on : read_ending answer (partial past ++ octets) ≡ None

whole_came : (config : Config) (past : List Entry) (asked : ℕ) (answer : Io) (octets : List ℕ) → Lawful config past → AreAllowed past → May config past (CallLinkRead asked) →
    Allowed (LinkRead asked answer octets)
    → is_over (phase config past) ≡ false → is_whole (partial past ++ octets) ≡ true → Came config past answer octets
whole_came config past asked (Done n) octets lawful allowed may given yet whole = record {
  some = (let many = given.1.0 in let some = given.0.0 in omega (arith, many, some));
  goes_on = (let many = given.1.0 in let most = given.0.1 in let all = may.framed in
      ap (λ b. if b then Some (LongFrame (encoded_length (partial past ++ octets))) else None)
      (short_whole (partial past) octets (not_long config past lawful allowed yet) (omega (arith, many, most, all)) whole));
}
whole_came config past asked End octets lawful allowed may given yet whole = absurd (whole_again (partial past) octets given.1.0 (never_whole past) whole)
whole_came config past asked NotYet octets lawful allowed may given yet whole = absurd (whole_again (partial past) octets given.1.0 (never_whole past) whole)
whole_came config past asked Failed octets lawful allowed may given yet whole = absurd (whole_again (partial past) octets given.1.0 (never_whole past) whole)

working_yet : (p : Phase) → is_working p ≡ true → is_over p ≡ false
working_yet Working is = refl
working_yet (Opening count forwards) is = cc
working_yet Started is = cc
working_yet Woken is = cc
working_yet (Over cause) is = cc

pub it_came : (config : Config) (past : List Entry) (asked : ℕ) (answer : Io) (octets : List ℕ) → Lawful config past → AreAllowed past → May config past (CallLinkRead asked) →
    Allowed (LinkRead asked answer octets)
    → is_whole (partial past ++ octets) ≡ true → Came config past answer octets
it_came config past asked answer octets lawful allowed may given whole = whole_came config past asked answer octets lawful allowed may given (working_yet (phase config past) may.place) whole
