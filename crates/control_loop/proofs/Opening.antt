-- Before the clock is asked the network opens the ports of the settings and nothing else; where the host refuses one it is over.
use Rattle.std.proofs.Common.{◌≡◌, ℕ, ◌==◌, ◌||◌, nat_le, Bool, true, false, is_some, List, [], ◌∷◌, ◌++◌, Option, Some, None, inl, inr, refl, sym, ◌∙◌, ap, subst}
use Rattle.std.specs.Option.{option_or}
use Rattle.std.specs.Prelude.{MatchOption}
use Rattle.net_octets.specs.declared.Endpoint.{Endpoint}
use Rattle.world_face.specs.Frames.{Ending, ending, partial}
use Rattle.world_face.specs.Journal.{Call, CallClose, CallListen, CallNow, CallUdpOpen, Entry, call_of, Close, Listen, Now, UdpOpen, Wait}
use Rattle.world_face.specs.declared.Made.{Made}
use Rattle.world_face.specs.declared.Made.TheVariants.{Done, Failed}
use Rattle.slirp_settings.specs.Addresses.{Config}
use Rattle.spec_flows.specs.Book.{port_of}
use Rattle.spec_trace.specs.Moments.{waits}
use Rattle.spec_trace.specs.Shape.{By, Opening, Over, Phase, Refused, Started, Woken, Working, clocked, due_in, is_ended, is_opening, is_over, is_working, opened, phase, phase_after, phase_by}
use Rattle.spec_trace.specs.Sockets.{first, next_number, open_sockets}
use Rattle.spec_run.specs.Asking.{step}
use Rattle.spec_run.specs.Datagrams.{NeedsNothing, NeedsRoom, NeedsSending, NeedsSocket, Step, due_for}
use Rattle.spec_run.specs.Laws.{Lawful, May, due}
use Rattle.spec_run.specs.Ports.{given_port}
use Rattle.spec_run.proofs.Phases.{IsForOther, for_others, given_turn, opening_call, others_due}
use Rattle.spec_control.proofs.Early.{at_first, closed_first, no_listener, no_port}
use Rattle.control_loop.proofs.Stretch.{AllKeepTo, KeepsTo}

-- ports are still opened, or the host refused one
abbrev pub IsEarly : Phase → Type 0
IsEarly (Opening count forwards) = Unit {0}
IsEarly (Over (Refused forward)) = Unit {0}
IsEarly _ = ⊥

early_made : (answer : Made) (p : Phase) → IsEarly (opened answer p) → IsEarly p
early_made answer (Opening count forwards) early = tt
early_made answer (Over (Refused forward)) early = tt
early_made Done Started early = absurd early
early_made Failed Started early = absurd early
early_made Done Woken early = absurd early
early_made Failed Woken early = absurd early
early_made Done Working early = absurd early
early_made Failed Working early = absurd early
early_made Done (Over (By why)) early = absurd early
early_made Failed (Over (By why)) early = absurd early

early_clocked : (p : Phase) → IsEarly (clocked p) → IsEarly p
early_clocked (Opening count forwards) early = tt
early_clocked Started early = absurd early
early_clocked Woken early = absurd early
early_clocked Working early = absurd early
early_clocked (Over cause) early = early

early_by : (e : Entry) (p : Phase) → IsEarly (phase_by e p) → IsEarly p
early_by (Wait wants timeout answer ready) p early = absurd early
early_by (Listen socket at answer) p early = early_made answer p early
early_by (UdpOpen socket at answer) p early = early_made answer p early
early_by (Now told) p early = early_clocked p early
early_by _ p early = early

early_before : (e : Entry) (o : Option Ending) (p : Phase) → IsEarly (phase_after e o p) → IsEarly p
early_before e None p early = early_by e p early
early_before e (Some why) (Opening count forwards) early = absurd early
early_before e (Some why) Started early = absurd early
early_before e (Some why) Woken early = absurd early
early_before e (Some why) Working early = absurd early
early_before e (Some why) (Over (By other)) early = absurd early
early_before e (Some why) (Over (Refused forward)) early = tt

no_work : (p : Phase) → IsEarly p → is_working p ≡ true → ⊥
no_work (Opening count forwards) early works = cc
no_work Started early works = cc
no_work Woken early works = cc
no_work Working early works = absurd early
no_work (Over cause) early works = cc

-- ---- the clock isn't asked

no_clock_for : (config : Config) (st : Step) (other : Option Call) (number : ℕ) → IsForOther other → option_or (due_for config st number) other ≡ Some CallNow → ⊥
no_clock_for config NeedsNothing other number flow is = subst IsForOther is flow
no_clock_for config (NeedsRoom oldest errand) other number flow is = cc
no_clock_for config (NeedsSocket errand) other number flow is = cc
no_clock_for config (NeedsSending socket errand) other number flow is = cc

the_due : (o : Option Call) (call : Call) → is_some o ≡ true → MatchOption o (Unit {0}) (λ d. call ≡ d) → o ≡ Some call
the_due None call some may = cc
the_due (Some d) call some may = ap Some (sym may)

module _ (config : Config) (past : List Entry) where
  abbrev behind : Option Call
  behind = option_or (due_for config (step config past) (next_number past)) (others_due config past)

  asks_late : May config past CallNow → IsEarly (clocked (phase config past)) → ⊥
  asks_late may early = by (phase config past) refl early
    where
      is_due : due config past ≡ Some CallNow
      is_due = the_due (due config past) CallNow may.place may.due

      by : (p : Phase) → phase config past ≡ p → IsEarly (clocked p) → ⊥
      by (Opening count forwards) is early = absurd early
      by Started is early = absurd early
      by Woken is early = absurd early
      by Working is early = absurd early
      by (Over cause) is early =
          no_clock_for config (step config past) (others_due config past) (next_number past) (for_others config past)
          (closed_first (first (open_sockets past)) behind CallNow (λ s same. cc) (ap (λ q. option_or (due_in q past) behind) (sym is) ∙ is_due))

  module _ (early : IsEarly (phase config past)) where
    listens_early : (socket : ℕ) (at : Endpoint) → May config past (CallListen socket at) → is_opening (phase config past) ≡ true
    listens_early socket at may = elim (opening_call config past socket at (port_of config socket) (CallListen socket at) may.place may.due) [
      | inl is ↦ at_first (phase config past) past behind (CallListen socket at) (λ s same. cc) (λ same. cc)
          (no_listener config (step config past) (others_due config past) (next_number past) socket at (for_others config past)) is
      | inr given ↦ absurd (no_work (phase config past) early (given_turn config past socket at (port_of config socket) given.is))
    ]

    opens_early : (socket : ℕ) (at : Endpoint) → May config past (CallUdpOpen socket at) → (at.port == 0) ≡ false → is_opening (phase config past) ≡ true
    opens_early socket at may named = elim (opening_call config past socket at (given_port config socket) (CallUdpOpen socket at) may.place may.due) [
      | inl is ↦ at_first (phase config past) past behind (CallUdpOpen socket at) (λ s same. cc) (λ same. cc)
          (no_port config (step config past) (others_due config past) (next_number past) socket at (for_others config past) named) is
      | inr given ↦ absurd (no_work (phase config past) early (given_turn config past socket at (given_port config socket) given.is))
    ]

    closes_over : (socket : ℕ) → May config past (CallClose socket) → is_ended config past ≡ true
    closes_over socket may = by (phase config past) refl early may.place
      where
        by : (p : Phase) → phase config past ≡ p → IsEarly p → (is_working p || is_over p) ≡ true → is_ended config past ≡ true
        by (Opening count forwards) is early place = cc
        by Started is early place = cc
        by Woken is early place = cc
        by Working is early place = absurd early
        by (Over cause) is early place = ap (λ q. is_over q || nat_le config.turns (waits past)) is

keeps_early : (listening control : Bool) (config : Config) (e : Entry) (past : List Entry) → May config past (call_of e) → IsEarly (phase config (e ∷ past)) → IsEarly (phase config past)
    → KeepsTo listening control config past e
keeps_early listening control config (Now told) past may now early = absurd (asks_late config past may now)
keeps_early listening control config (Listen socket at answer) past may now early = λ named. listens_early config past early socket at may
keeps_early listening control config (UdpOpen socket at answer) past may now early = λ named. opens_early config past early socket at may named
keeps_early listening control config (Close socket) past may now early = λ given. closes_over config past early socket may
keeps_early listening control config _ past may now early = tt

-- so all that they do may come where there is a control
pub all_early : (listening control : Bool) (config : Config) (seen past : List Entry) → Lawful config (seen ++ past) → IsEarly (phase config (seen ++ past)) → AllKeepTo listening control config seen past
all_early listening control config [] past lawful early = tt
all_early listening control config (e ∷ seen) past lawful early =
    let before = early_before e (ending e (partial (seen ++ past))) (phase config (seen ++ past)) early in
    (keeps_early listening control config e (seen ++ past) lawful.0 early before, all_early listening control config seen past lawful.1 before)
