-- A run that has ended waits no more, and one whose port the host refused never waited.
use Rattle.std.proofs.Common.{◌≡◌, ℕ, ◌&&◌, ◌||◌, nat_le, nat_lt, Bool, true, false, List, [], ◌∷◌, ◌++◌, Option, Some, None, refl, sym, ◌∙◌, ap, subst, arith}
use Rattle.std.proofs.lemmas.Bool.Decides.{nat_tests}
use Rattle.world_face.specs.Journal.{Entry, call_of, Now, Wait, LinkOpen, LinkRead, LinkWrite, Connect, Connected, Listen, Accept, TcpRead, TcpWrite, TcpEnd, Close, UdpOpen, UdpSend}
use Rattle.world_face.specs.Journal.{UdpRecv, FileLen, FileRead}
use Rattle.world_face.specs.Frames.{Ending, ending, partial}
use Rattle.world_face.specs.declared.Made.TheVariants.{Done, Failed}
use Rattle.slirp_settings.specs.Addresses.{Config}
use Rattle.spec_trace.specs.Moments.{waits, waits_after}
use Rattle.spec_trace.specs.Shape.{Cause, Refused, Phase, Opening, Started, Woken, Working, Over, is_ended, is_over, may_turn, phase, phase_after}
use Rattle.spec_flow.proofs.Refuting.{never_false}
use Rattle.spec_run.specs.Laws.{Lawful, May}
use Rattle.spec_run.proofs.Bools.{first_of, second_of}
use Rattle.spec_duties.specs.Duties.{Dutiful}
use Rattle.spec_duties.proofs.Going.{goes_on, is_wait}

-- ---- a wait has its place in a turn

turns_yet : (p : Phase) → may_turn p ≡ true → is_over p ≡ false
turns_yet (Opening opened forwards) is = cc
turns_yet Started is = refl
turns_yet Woken is = cc
turns_yet Working is = refl
turns_yet (Over cause) is = cc

unended : (config : Config) (past : List Entry) → (may_turn (phase config past) && nat_lt (waits past) config.turns) ≡ true → is_ended config past ≡ true → ⊥
unended config past place ended =
    by (is_over (phase config past)) (turns_yet (phase config past) (first_of (may_turn (phase config past)) (nat_lt (waits past) config.turns) place))
    (second_of (may_turn (phase config past)) (nat_lt (waits past) config.turns) place) ended
  where
    by : (b : Bool) → b ≡ false → nat_lt (waits past) config.turns ≡ true → (b || nat_le config.turns (waits past)) ≡ true → ⊥
    by true yet few is = cc
    by false yet few is = grind (arith, nat_tests, few, is)

no_wait : (config : Config) (past : List Entry) (e : Entry) → May config past (call_of e) → is_ended config past ≡ true → is_wait e ≡ false
no_wait config past (Wait wants timeout answer ready) may ended = absurd (unended config past may.place ended)
no_wait config past (Now told) may ended = refl
no_wait config past (LinkOpen at answer) may ended = refl
no_wait config past (LinkRead asked answer octets) may ended = refl
no_wait config past (LinkWrite octets answer) may ended = refl
no_wait config past (Connect socket to answer) may ended = refl
no_wait config past (Connected socket answer) may ended = refl
no_wait config past (Listen socket at answer) may ended = refl
no_wait config past (Accept listener socket answer) may ended = refl
no_wait config past (TcpRead socket asked answer octets) may ended = refl
no_wait config past (TcpWrite socket octets answer) may ended = refl
no_wait config past (TcpEnd socket answer) may ended = refl
no_wait config past (Close socket) may ended = refl
no_wait config past (UdpOpen socket at answer) may ended = refl
no_wait config past (UdpSend socket to octets answer) may ended = refl
no_wait config past (UdpRecv socket asked answer octets) may ended = refl
no_wait config past (FileLen name answer) may ended = refl
no_wait config past (FileRead name place asked answer octets) may ended = refl

same_many : (e : Entry) (n : ℕ) → is_wait e ≡ false → waits_after e n ≡ n
same_many (Wait wants timeout answer ready) n never = never_false never
same_many _ n never = refl

-- ---- what has ended stays so

over_stays : (e : Entry) (o : Option Ending) (cause : Cause) → is_wait e ≡ false → is_over (phase_after e o (Over cause)) ≡ true
over_stays e (Some why) cause never = refl
over_stays (Wait wants timeout answer ready) None cause never = never_false never
over_stays (Listen socket at Done) None cause never = refl
over_stays (Listen socket at Failed) None cause never = refl
over_stays (UdpOpen socket at Done) None cause never = refl
over_stays (UdpOpen socket at Failed) None cause never = refl
over_stays _ None cause never = refl

over_yet : (e : Entry) (o : Option Ending) (p : Phase) → is_wait e ≡ false → is_over p ≡ true → is_over (phase_after e o p) ≡ true
over_yet e o (Opening opened forwards) never over = cc
over_yet e o Started never over = cc
over_yet e o Woken never over = cc
over_yet e o Working never over = cc
over_yet e o (Over cause) never over = over_stays e o cause never

ended_on : (config : Config) (past : List Entry) (e : Entry) → is_wait e ≡ false → is_ended config past ≡ true → is_ended config (e ∷ past) ≡ true
ended_on config past e never ended =
    by (is_over (phase config past)) (is_over (phase config (e ∷ past))) (over_yet e (ending e (partial past)) (phase config past) never) ended
  where
    by : (a b : Bool) → (a ≡ true → b ≡ true) → (a || nat_le config.turns (waits past)) ≡ true → (b || nat_le config.turns (waits (e ∷ past))) ≡ true
    by true b on is = ap (λ t. t || nat_le config.turns (waits (e ∷ past))) (on refl)
    by false true on is = refl
    by false false on is = ap (nat_le config.turns) (same_many e (waits past) never) ∙ is

pub ended_yet : (config : Config) (made past : List Entry) → Lawful config (made ++ past) → is_ended config past ≡ true → (is_ended config (made ++ past) ≡ true) × (waits (made ++ past) ≡ waits past)
ended_yet config [] past lawful ended = (ended, refl)
ended_yet config (e ∷ made) past lawful ended =
    let before = ended_yet config made past lawful.1 ended in
    let never = no_wait config (made ++ past) e lawful.0 before.0 in
    (ended_on config (made ++ past) e never before.0, same_many e (waits (made ++ past)) never ∙ before.1)

-- so what was dutiful is so once its sockets are closed
pub dutiful_to_the_end : (config : Config) (made past : List Entry) → Lawful config (made ++ past) → is_ended config past ≡ true → Dutiful config past → Dutiful config (made ++ past)
dutiful_to_the_end config made past lawful ended dutiful = goes_on config made past (ended_yet config made past lawful ended).1 dutiful

-- ---- a port of the host was refused

abbrev Early : Phase → ℕ → Type 0
Early (Opening opened forwards) n = n ≡ 0
Early (Over (Refused forward)) n = n ≡ 0
Early _ n = Unit {0}

early_on : (e : Entry) (o : Option Ending) (p : Phase) (n : ℕ) → is_wait e ≡ false → Early p n → Early (phase_after e o p) n
early_on e (Some why) (Opening opened forwards) n never early = tt
early_on e (Some why) Started n never early = tt
early_on e (Some why) Woken n never early = tt
early_on e (Some why) Working n never early = tt
early_on e (Some why) (Over cause) n never early = early
early_on (Wait wants timeout answer ready) None p n never early = never_false never
early_on (Now told) None (Opening opened forwards) n never early = tt
early_on (Now told) None Started n never early = tt
early_on (Now told) None Woken n never early = tt
early_on (Now told) None Working n never early = tt
early_on (Now told) None (Over cause) n never early = early
early_on (Listen socket at Done) None (Opening opened []) n never early = early
early_on (Listen socket at Done) None (Opening opened (f ∷ forwards)) n never early = early
early_on (Listen socket at Done) None Started n never early = early
early_on (Listen socket at Done) None Woken n never early = early
early_on (Listen socket at Done) None Working n never early = early
early_on (Listen socket at Done) None (Over cause) n never early = early
early_on (Listen socket at Failed) None (Opening opened forwards) n never early = early
early_on (Listen socket at Failed) None Started n never early = early
early_on (Listen socket at Failed) None Woken n never early = early
early_on (Listen socket at Failed) None Working n never early = early
early_on (Listen socket at Failed) None (Over cause) n never early = early
early_on (UdpOpen socket at Done) None (Opening opened []) n never early = early
early_on (UdpOpen socket at Done) None (Opening opened (f ∷ forwards)) n never early = early
early_on (UdpOpen socket at Done) None Started n never early = early
early_on (UdpOpen socket at Done) None Woken n never early = early
early_on (UdpOpen socket at Done) None Working n never early = early
early_on (UdpOpen socket at Done) None (Over cause) n never early = early
early_on (UdpOpen socket at Failed) None (Opening opened forwards) n never early = early
early_on (UdpOpen socket at Failed) None Started n never early = early
early_on (UdpOpen socket at Failed) None Woken n never early = early
early_on (UdpOpen socket at Failed) None Working n never early = early
early_on (UdpOpen socket at Failed) None (Over cause) n never early = early
early_on _ None p n never early = early

early_waits : (o : Option Ending) (p : Phase) (e : Entry) (n : ℕ) → is_wait e ≡ true → may_turn p ≡ true → Early (phase_after e o p) n
early_waits (Some why) Started e n is turns = tt
early_waits (Some why) Working e n is turns = tt
early_waits (Some why) (Opening opened forwards) e n is turns = cc
early_waits (Some why) Woken e n is turns = cc
early_waits (Some why) (Over cause) e n is turns = cc
early_waits None p (Wait wants timeout answer ready) n is turns = tt
early_waits None p _ n is turns = cc

early_is : (config : Config) (past : List Entry) → Lawful config past → Early (phase config past) (waits past)
early_is config [] lawful = refl
early_is config (e ∷ past) lawful = by (is_wait e) refl (early_is config past lawful.1)
  where
    turns_at : (d : Entry) → May config past (call_of d) → is_wait d ≡ true → may_turn (phase config past) ≡ true
    turns_at (Wait wants timeout answer ready) may is = first_of (may_turn (phase config past)) (nat_lt (waits past) config.turns) may.place
    turns_at _ may is = cc

    by : (b : Bool) → is_wait e ≡ b → Early (phase config past) (waits past) → Early (phase config (e ∷ past)) (waits (e ∷ past))
    by false never early = subst (Early (phase config (e ∷ past))) (sym (same_many e (waits past) never)) (early_on e (ending e (partial past)) (phase config past) (waits past) never early)
    by true is early = early_waits (ending e (partial past)) (phase config past) e (waits (e ∷ past)) is (turns_at e lawful.0 is)

pub refused_unwaited : (config : Config) (past : List Entry) (forward : ℕ) → Lawful config past → phase config past ≡ Over (Refused forward) → waits past ≡ 0
refused_unwaited config past forward lawful is = subst (λ p. Early p (waits past)) is (early_is config past lawful)

-- a run that never waited is dutiful
pub dutiful_unwaited : (config : Config) (past : List Entry) → waits past ≡ 0 → Dutiful config past
dutiful_unwaited config past none = subst (Dutiful config) (whole past) (goes_on config past [] (ap waits (whole past) ∙ none) tt)
  where
    whole : (xs : List Entry) → xs ++ [] ≡ xs
    whole [] = refl
    whole (x ∷ xs) = ap (λ l. x ∷ l) (whole xs)
