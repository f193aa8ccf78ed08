-- A named port of the host is opened at first, unless the settings have it for the number of its socket.
use Rattle.std.proofs.Common.{◌≡◌, ℕ, ◌==◌, Bool, true, false, List, [], ◌∷◌, Option, Some, None, option_map, ◌⊎◌, inl, inr, sym, ◌∙◌, ap, subst, refl}
use Rattle.std.specs.Option.{option_or}
use Rattle.net_octets.specs.declared.Endpoint.{Endpoint}
use Rattle.world_face.specs.Journal.{Entry, Call, CallClose, CallListen, CallNow, CallUdpOpen}
use Rattle.slirp_settings.specs.Addresses.{Config, forward_on}
use Rattle.spec_flows.specs.Book.{port_of}
use Rattle.spec_trace.specs.Shape.{Opening, Over, Phase, Started, Woken, Working, due_in, is_opening, phase}
use Rattle.spec_trace.specs.Sockets.{first, next_number, open_sockets}
use Rattle.spec_run.specs.Asking.{step}
use Rattle.spec_run.specs.Datagrams.{NeedsNothing, NeedsRoom, NeedsSending, NeedsSocket, Step, due_for, opened_at}
use Rattle.spec_run.specs.Laws.{May, due}
use Rattle.spec_run.specs.Ports.{given_port}
use Rattle.spec_run.proofs.Phases.{IsForOther, for_others, given_forward, opening_call, others_due}

-- a close is no opening
pub closed_first : (o : Option ℕ) (other : Option Call) (call : Call) → ((s : ℕ) → Some (CallClose s) ≡ Some call → ⊥) → option_or (option_map CallClose o) other ≡ Some call → other ≡ Some call
closed_first None other call never is = is
closed_first (Some s) other call never is = absurd (never s is)

pub at_first : (p : Phase) (past : List Entry) (other : Option Call) (call : Call) → ((s : ℕ) → Some (CallClose s) ≡ Some call → ⊥) → (Some CallNow ≡ Some call → ⊥)
    → (other ≡ Some call → ⊥) → option_or (due_in p past) other ≡ Some call → is_opening p ≡ true
at_first (Opening count forwards) past other call no_close no_clock never is = refl
at_first Started past other call no_close no_clock never is = absurd (never is)
at_first Woken past other call no_close no_clock never is = absurd (no_clock is)
at_first Working past other call no_close no_clock never is = absurd (never is)
at_first (Over cause) past other call no_close no_clock never is = absurd (never (closed_first (first (open_sockets past)) other call no_close is))

pub no_listener : (config : Config) (st : Step) (other : Option Call) (number socket : ℕ) (at : Endpoint) → IsForOther other → option_or (due_for config st number) other ≡ Some (CallListen socket at) → ⊥
no_listener config NeedsNothing other number socket at flow is = subst IsForOther is flow
no_listener config (NeedsRoom oldest errand) other number socket at flow is = cc
no_listener config (NeedsSocket errand) other number socket at flow is = cc
no_listener config (NeedsSending s errand) other number socket at flow is = cc

-- a guest's port for datagrams is one of the host's choice
not_named : (a b : Endpoint) (n m : ℕ) → ◌≡◌ {A = Option Call} (Some (CallUdpOpen n a)) (Some (CallUdpOpen m b)) → a ≡ b
not_named a b n m is = cc

pub no_port : (config : Config) (st : Step) (other : Option Call) (number socket : ℕ) (at : Endpoint) → IsForOther other → (at.port == 0) ≡ false
    → option_or (due_for config st number) other ≡ Some (CallUdpOpen socket at) → ⊥
no_port config NeedsNothing other number socket at flow named is = subst IsForOther is flow
no_port config (NeedsRoom oldest errand) other number socket at flow named is = cc
no_port config (NeedsSocket errand) other number socket at flow named is =
    let never : true ≡ false = ap (λ (e : Endpoint). e.port == 0) (not_named (opened_at config errand) at number socket is) ∙ named in cc
no_port config (NeedsSending s errand) other number socket at flow named is = cc

none_there : {T : Type 0} (o : Option T) (x : T) → o ≡ None → o ≡ Some x → ⊥
none_there {T} o x is some = let never : ◌≡◌ {A = Option T} None (Some x) = sym is ∙ some in cc

pub listens_at_first : (config : Config) (past : List Entry) (socket : ℕ) (at : Endpoint) → forward_on config socket ≡ None → May config past (CallListen socket at) → is_opening (phase config past) ≡ true
listens_at_first config past socket at none may = elim (opening_call config past socket at (port_of config socket) (CallListen socket at) may.place may.due) [
  | inl is ↦ at_first (phase config past) past (option_or (due_for config (step config past) (next_number past)) (others_due config past)) (CallListen socket at) (λ s same. cc) (λ same. cc)
      (no_listener config (step config past) (others_due config past) (next_number past) socket at (for_others config past)) is
  | inr given ↦ (let g = given_forward config past socket at (port_of config socket) given.is in absurd (none_there (forward_on config socket) g.forward none g.on))
]

pub opens_at_first : (config : Config) (past : List Entry) (socket : ℕ) (at : Endpoint) → forward_on config socket ≡ None → (at.port == 0) ≡ false → May config past (CallUdpOpen socket at)
    → is_opening (phase config past) ≡ true
opens_at_first config past socket at none named may = elim (opening_call config past socket at (given_port config socket) (CallUdpOpen socket at) may.place may.due) [
  | inl is ↦ at_first (phase config past) past (option_or (due_for config (step config past) (next_number past)) (others_due config past)) (CallUdpOpen socket at) (λ s same. cc) (λ same. cc)
      (no_port config (step config past) (others_due config past) (next_number past) socket at (for_others config past) named) is
  | inr given ↦ (let g = given_forward config past socket at (given_port config socket) given.is in absurd (none_there (forward_on config socket) g.forward none g.on))
]
