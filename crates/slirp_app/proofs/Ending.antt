-- The end that a trace of calls tells.
use Rattle.std.proofs.Common.{◌≡◌, ◌⊎◌, inl, inr, ℕ, ◌+◌, ◌<◌, ◌≤◌, Bool, true, false, cond, List, [], ◌∷◌, ◌++◌, length, Option, Some, None, refl, sym, ap, subst, arith}
use Rattle.std.proofs.lemmas.Bool.Decides.{nat_tests}
use Rattle.std.specs.Prelude.{nat_lt, nat_le, ◌&&◌, ◌||◌}
use Rattle.slirp_settings.specs.Addresses.{Config}
use Rattle.serve_loop.specs.Ends.{end_of}
use Rattle.spec_run.specs.Laws.{Finished, Lawful}
use Rattle.spec_trace.specs.Shape.{By, Refused, Phase, Opening, Started, Woken, Working, Over, is_over, may_turn, phase, phase_by, phase_after}
use Rattle.spec_trace.specs.Moments.{waits}
use Rattle.world_face.specs.Frames.{Ending, LinkEnded, LinkCut, LongFrame, LinkFailed, Stopped, WaitFailed, ending, partial, read_ending, encoded_length, is_too_long}
use Rattle.world_face.specs.Journal.{Entry, Now, Wait, LinkOpen, LinkRead, LinkWrite, Connect, Connected, Listen, Accept, TcpRead, TcpWrite, TcpEnd, Close, UdpOpen, UdpSend, UdpRecv}
use Rattle.world_face.specs.Journal.{FileLen, FileRead}
use Rattle.world_face.specs.declared.Io.{Io}
use Rattle.world_face.specs.declared.Io.TheVariants.{Done as IoDone, End as IoEnd, NotYet, Failed as IoFailed}
use Rattle.world_face.specs.declared.Made.TheVariants.{Done as MadeDone, Failed as MadeFailed}
use Rattle.world_face.specs.declared.Waited.TheVariants.{Ready, Stop, Failed as WaitFails}
use Rattle.slirp_app.specs.Ran.{EndsBy}
use Rattle.slirp_app.specs.Statuses.{outcome_of}
use Rattle.app_edges.specs.declared.outcome.Outcome.{Outcome}
use Rattle.app_edges.specs.declared.outcome.Outcome.TheVariants.{Done, FrameTooLong, FrameCut, LinkFault, WaitFault, TurnsSpent, ListenRefused}

-- an entry that ends nothing leaves a run over that was over

leaves : (why : Ending) (e : Entry) (stands : Phase) → phase_by e stands ≡ Over (By why) → stands ≡ Over (By why)
leaves why (Now moment) (Opening n forwards) is = cc
leaves why (Now moment) Started is = cc
leaves why (Now moment) Woken is = cc
leaves why (Now moment) Working is = cc
leaves why (Now moment) (Over cause) is = is
leaves why (Wait wants timeout answer ready) stands is = cc
leaves why (LinkOpen at answer) stands is = is
leaves why (LinkRead asked answer octets) stands is = is
leaves why (LinkWrite octets answer) stands is = is
leaves why (Connect socket to answer) stands is = is
leaves why (Connected socket answer) stands is = is
leaves why (Listen socket at MadeDone) (Opening n []) is = is
leaves why (Listen socket at MadeDone) (Opening n (f ∷ fs)) is = cc
leaves why (Listen socket at MadeDone) Started is = is
leaves why (Listen socket at MadeDone) Woken is = is
leaves why (Listen socket at MadeDone) Working is = is
leaves why (Listen socket at MadeDone) (Over cause) is = is
leaves why (Listen socket at MadeFailed) (Opening n forwards) is = cc
leaves why (Listen socket at MadeFailed) Started is = is
leaves why (Listen socket at MadeFailed) Woken is = is
leaves why (Listen socket at MadeFailed) Working is = is
leaves why (Listen socket at MadeFailed) (Over cause) is = is
leaves why (Accept listener socket answer) stands is = is
leaves why (TcpRead socket asked answer octets) stands is = is
leaves why (TcpWrite socket octets answer) stands is = is
leaves why (TcpEnd socket answer) stands is = is
leaves why (Close socket) stands is = is
leaves why (UdpOpen socket at MadeDone) (Opening n []) is = is
leaves why (UdpOpen socket at MadeDone) (Opening n (f ∷ fs)) is = cc
leaves why (UdpOpen socket at MadeDone) Started is = is
leaves why (UdpOpen socket at MadeDone) Woken is = is
leaves why (UdpOpen socket at MadeDone) Working is = is
leaves why (UdpOpen socket at MadeDone) (Over cause) is = is
leaves why (UdpOpen socket at MadeFailed) (Opening n forwards) is = cc
leaves why (UdpOpen socket at MadeFailed) Started is = is
leaves why (UdpOpen socket at MadeFailed) Woken is = is
leaves why (UdpOpen socket at MadeFailed) Working is = is
leaves why (UdpOpen socket at MadeFailed) (Over cause) is = is
leaves why (UdpSend socket to octets answer) stands is = is
leaves why (UdpRecv socket asked answer octets) stands is = is
leaves why (FileLen name answer) stands is = is
leaves why (FileRead name place asked answer octets) stands is = is

-- a run that is over ended by the newest entry, or was over before
over_now : (why : Ending) (e : Entry) (found : Option Ending) (stands : Phase) → phase_after e found stands ≡ Over (By why) → (found ≡ Some why) ⊎ (stands ≡ Over (By why))
over_now why e None stands is = inr (leaves why e stands is)
over_now why e (Some other) (Opening n forwards) is = inl cc
over_now why e (Some other) Started is = inl cc
over_now why e (Some other) Woken is = inl cc
over_now why e (Some other) Working is = inl cc
over_now why e (Some other) (Over cause) is = inr is

ended_now : (why : Ending) (e : Entry) (past : List Entry) → (ending e (partial past) ≡ Some why) ⊎ EndsBy why past → EndsBy why (e ∷ past)
ended_now why e past (inl here) = record { later = []; past = past; entry = e; is = refl; ends = here }
ended_now why e past (inr so) = record { later = e ∷ so.later; past = so.past; entry = so.entry; is = ap (λ l. e ∷ l) so.is; ends = so.ends }

pub ends_by : (config : Config) (why : Ending) (journal : List Entry) → phase config journal ≡ Over (By why) → EndsBy why journal
ends_by config why [] is = cc
ends_by config why (e ∷ past) is = ended_now why e past (either (over_now why e (ending e (partial past)) (phase config past) is) (λ before. ends_by config why past before))
  where
    either : {A B C : Type 0} → A ⊎ B → (B → C) → A ⊎ C
    either (inl a) f = inl a
    either (inr b) f = inr (f b)

-- a length that is too great
over : (octets : List ℕ) → is_too_long octets ≡ true → 69632 < encoded_length octets
unfolding is_too_long
over octets is = by_length (nat_lt (length octets) 4) is
  where
    by_length : (short : Bool) → cond short false (nat_lt 69632 (encoded_length octets)) ≡ true → 69632 < encoded_length octets
    by_length true is = cc
    by_length false is = grind (arith, nat_tests)

long : (octets : List ℕ) (n : ℕ) (too : Bool) → is_too_long octets ≡ too → cond too (Some (LongFrame (encoded_length octets))) None ≡ Some (LongFrame n) → 69632 < n
long octets n true too is = let same : encoded_length octets ≡ n = cc in subst (λ m. 69632 < m) same (over octets too)
long octets n false too is = cc

long_read : (answer : Io) (octets : List ℕ) (n : ℕ) → read_ending answer octets ≡ Some (LongFrame n) → 69632 < n
long_read (IoDone k) octets n is = long octets n (is_too_long octets) refl is
long_read IoEnd [] n is = cc
long_read IoEnd (x ∷ octets) n is = cc
long_read NotYet octets n is = cc
long_read IoFailed octets n is = cc

pub long_frame : (e : Entry) (so_far : List ℕ) (n : ℕ) → ending e so_far ≡ Some (LongFrame n) → 69632 < n
long_frame (Wait wants timeout Ready ready) so_far n is = cc
long_frame (Wait wants timeout Stop ready) so_far n is = cc
long_frame (Wait wants timeout WaitFails ready) so_far n is = cc
long_frame (LinkRead asked answer octets) so_far n is = long_read answer (so_far ++ octets) n is
long_frame (LinkWrite octets (IoDone k)) so_far n is = cc
long_frame (LinkWrite octets IoEnd) so_far n is = cc
long_frame (LinkWrite octets NotYet) so_far n is = cc
long_frame (LinkWrite octets IoFailed) so_far n is = cc
long_frame _ so_far n is = cc

-- where no entry ended a run that is finished, it made all its waits
pub waited : (config : Config) (stands : Phase) (count : ℕ) → (is_over stands || nat_le config.turns count) ≡ true → outcome_of (end_of config stands) ≡ TurnsSpent config.turns → config.turns ≤ count
waited config (Opening n forwards) count ended is = grind (arith, nat_tests)
waited config Started count ended is = grind (arith, nat_tests)
waited config Woken count ended is = grind (arith, nat_tests)
waited config Working count ended is = grind (arith, nat_tests)
waited config (Over (By LinkEnded)) count ended is = cc
waited config (Over (By (LinkCut octets))) count ended is = cc
waited config (Over (By (LongFrame n))) count ended is = cc
waited config (Over (By LinkFailed)) count ended is = cc
waited config (Over (By Stopped)) count ended is = cc
waited config (Over (By WaitFailed)) count ended is = cc
waited config (Over (Refused forward)) count ended is = cc

-- there are no more waits than the settings allow
few : (may : Bool) (count turns : ℕ) → (may && nat_lt count turns) ≡ true → count + 1 ≤ turns
few true count turns is = grind (arith, nat_tests)
few false count turns is = cc

pub few_waits : (config : Config) (journal : List Entry) → Lawful config journal → waits journal ≤ config.turns
few_waits config [] lawful = omega arith
few_waits config (Wait wants timeout answer ready ∷ past) lawful = few (may_turn (phase config past)) (waits past) config.turns lawful.0.place
few_waits config (_ ∷ past) lawful = few_waits config past lawful.1

pub waits_spent : (config : Config) (journal : List Entry) → Lawful config journal → Finished config journal → outcome_of
    (end_of config (phase config journal)) ≡ TurnsSpent config.turns → waits journal ≡ config.turns
waits_spent config journal lawful finished is = omega (arith, few_waits config journal lawful, waited config (phase config journal) (waits journal) finished.ended is)

-- what each outcome says of where the run stood
abbrev pub Meant : Config → Outcome → Phase → Type 0
Meant config Done stands = (stands ≡ Over (By Stopped)) ⊎ (stands ≡ Over (By LinkEnded))
Meant config (FrameTooLong n) stands = stands ≡ Over (By (LongFrame n))
Meant config (FrameCut octets) stands = stands ≡ Over (By (LinkCut octets))
Meant config LinkFault stands = stands ≡ Over (By LinkFailed)
Meant config WaitFault stands = stands ≡ Over (By WaitFailed)
Meant config (TurnsSpent turns) stands = turns ≡ config.turns
Meant config (ListenRefused forward) stands = stands ≡ Over (Refused forward)
Meant config _ stands = Unit {0}

meant : (config : Config) (stands : Phase) → Meant config (outcome_of (end_of config stands)) stands
meant config (Opening n forwards) = refl
meant config Started = refl
meant config Woken = refl
meant config Working = refl
meant config (Over (By LinkEnded)) = inr refl
meant config (Over (By (LinkCut octets))) = refl
meant config (Over (By (LongFrame n))) = refl
meant config (Over (By LinkFailed)) = refl
meant config (Over (By Stopped)) = inl refl
meant config (Over (By WaitFailed)) = refl
meant config (Over (Refused forward)) = refl

pub meant_by : (config : Config) (outcome : Outcome) (stands : Phase) → outcome ≡ outcome_of (end_of config stands) → Meant config outcome stands
meant_by config outcome stands is = subst (λ o. Meant config o stands) (sym is) (meant config stands)
