-- A port of the host is opened: what that call leaves as it was.
use Rattle.std.proofs.Common.{◌≡◌, ℕ, ◌==◌, ◌||◌, nat_lt, Bool, true, false, List, [], ◌∷◌, Option, Some, None, refl, sym, ◌∙◌, ap, if◌then◌else◌}
use Rattle.std.proofs.Common.{arith}
use Rattle.std.proofs.lemmas.Bool.Decides.{nat_tests}
use Rattle.net_octets.specs.declared.Endpoint.{Endpoint}
use Rattle.world_face.specs.Journal.{Entry, call_of}
use Rattle.world_face.specs.Frames.{MayFrame, is_blocked, partial, tail}
use Rattle.world_face.specs.declared.Made.{Made}
use Rattle.world_face.specs.declared.Made.TheVariants.{Done, Failed}
use Rattle.slirp_settings.specs.Addresses.{Config}
use Rattle.slirp_settings.specs.declared.Proto.{Proto}
use Rattle.slirp_settings.specs.declared.Proto.TheVariants.{Tcp, Udp}
use Rattle.rules_forward.specs.Adding.{opening_of as port_opening}
use Rattle.spec_trace.specs.Shape.{opened, phase}
use Rattle.spec_trace.specs.Moments.{moment, waits}
use Rattle.spec_trace.specs.Happenings.{happens}
use Rattle.spec_trace.specs.Sockets.{Forward as OfForward, datagram_kind, is_among, kind_of, open_sockets, with_made}
use Rattle.spec_flows.specs.Book.{book}
use Rattle.spec_flows.specs.Doings.{Nothing, doing}
use Rattle.spec_run.specs.Agenda.{agenda}
use Rattle.spec_run.specs.Answers.{identification, left, serving, unsent}
use Rattle.spec_run.specs.Asking.{step}
use Rattle.spec_run.specs.Datagrams.{NeedsNothing}
use Rattle.spec_run.specs.Errands.{errand_left}
use Rattle.spec_run.specs.Names.{answered, questions, with_opened as name_opened}
use Rattle.spec_run.specs.Relayed.{associations, with_opened}
use Rattle.spec_run.specs.Sending.{requests}
use Rattle.spec_run.proofs.Bools.{among_last}
use Rattle.slirp_core.specs.Forwards.{given_kind}
use Rattle.slirp_core.specs.Holds.{is_ours}
use Rattle.slirp_core.proofs.Given.{opening_kind, opening_made}

pub kinds_opened : (p : Proto) (number : ℕ) (at : Endpoint) (answer : Made) (past : List Entry) → datagram_kind (nat_lt 0 (waits past)) at.port ≡ OfForward
    → ((n : ℕ) → is_among n (open_sockets past) ≡ true → is_ours (kind_of n past) ≡ true)
    → (n : ℕ) → is_among n (open_sockets (port_opening p number at answer ∷ past)) ≡ true → is_ours (kind_of n (port_opening p number at answer ∷ past)) ≡ true
kinds_opened p number at answer past named kinds n among = ap is_ours (opening_kind p number at answer past named n) ∙ by (number == n) refl
  where
    turned : (number == n) ≡ false → (n == number) ≡ false
    turned is = grind (arith, nat_tests, is)

    only : (a b : Bool) → b ≡ false → (a || b) ≡ true → a ≡ true
    only true b is or = refl
    only false b is or = cc

    before : (a : Made) → (n == number) ≡ false → is_among n (with_made a number (open_sockets past)) ≡ true → is_among n (open_sockets past) ≡ true
    before Done other is = only (is_among n (open_sockets past)) (n == number) other (sym (among_last n number (open_sockets past)) ∙ is)
    before Failed other is = is

    ours : (p : Proto) → is_ours (Some (given_kind p)) ≡ true
    ours Tcp = refl
    ours Udp = refl

    by : (b : Bool) → (number == n) ≡ b → is_ours (if b then Some (given_kind p) else kind_of n past) ≡ true
    by true is = ours p
    by false is = kinds n (before answer (turned is) (sym (ap (is_among n) (opening_made p number at answer past)) ∙ among))

-- what an entry that opens a port of the host leaves
pub record Quiet (config : Config) (e : Entry) (past : List Entry) : Type 0 where
  pub framed : MayFrame past (call_of e)
  pub partly : partial (e ∷ past) ≡ partial past
  pub rest : tail (e ∷ past) ≡ tail past
  pub blocked : is_blocked (e ∷ past) ≡ is_blocked past
  pub sent : identification (e ∷ past) ≡ identification past
  pub came : (happens config past e).came ≡ None
  pub unheard : answered config (e ∷ past) ≡ None
  pub silent : doing config past e ≡ Nothing
  pub unasked : requests config (e ∷ past) ≡ requests config past
  pub moment : moment (e ∷ past) ≡ moment past
  pub unreported : agenda (e ∷ past) ≡ agenda past
  pub unrested : (book config (e ∷ past)).time_waits ≡ (book config past).time_waits
  pub files : (serving config (e ∷ past)).files ≡ (serving config past).files
  pub again : (serving config (e ∷ past)).again ≡ (serving config past).again

pub opens_quietly : (config : Config) (p : Proto) (number : ℕ) (at : Endpoint) (answer : Made) (past : List Entry) → Quiet config (port_opening p number at answer) past
opens_quietly config Tcp number at answer past = record {
  framed = tt;
  partly = refl;
  rest = refl;
  blocked = refl;
  sent = refl;
  came = refl;
  unheard = refl;
  silent = refl;
  unasked = refl;
  moment = refl;
  unreported = refl;
  unrested = refl;
  files = refl;
  again = refl;
}
opens_quietly config Udp number at answer past = record {
  framed = tt;
  came = refl;
  unheard = refl;
  silent = refl;
  partly = refl;
  rest = refl;
  blocked = refl;
  sent = refl;
  unasked = refl;
  moment = refl;
  unreported = refl;
  unrested = refl;
  files = refl;
  again = refl;
}

pub phase_then : (config : Config) (p : Proto) (number : ℕ) (at : Endpoint) (answer : Made) (past : List Entry) →
    phase config (port_opening p number at answer ∷ past) ≡ opened answer (phase config past)
phase_then config Tcp number at answer past = refl
phase_then config Udp number at answer past = refl

-- where no datagram is to go out no one's socket is opened
module _ (config : Config) (number : ℕ) (at : Endpoint) (past : List Entry) (nothing_left : errand_left config past ≡ None) where
  pub errand_then : (p : Proto) (answer : Made) → errand_left config (port_opening p number at answer ∷ past) ≡ None
  errand_then Tcp answer = nothing_left
  errand_then Udp Done = nothing_left
  errand_then Udp Failed = refl

  pub list_then : (p : Proto) (answer : Made) → associations config (port_opening p number at answer ∷ past) ≡ associations config past
  list_then Tcp answer = refl
  list_then Udp Done = ap (λ o. with_opened config Done number (moment past) o (associations config past)) nothing_left
  list_then Udp Failed = refl

  pub named_then : (p : Proto) (answer : Made) → questions config (port_opening p number at answer ∷ past) ≡ questions config past
  named_then Tcp answer = refl
  named_then Udp Done = ap (λ o. name_opened config Done number (moment past) o (questions config past)) nothing_left
  named_then Udp Failed = refl

pub left_then : (config : Config) (p : Proto) (number : ℕ) (at : Endpoint) (answer : Made) (past : List Entry) → step config past ≡ NeedsNothing →
    left config (port_opening p number at answer ∷ past) ≡ left config past
left_then config Tcp number at answer past nothing = refl
left_then config Udp number at Done past nothing = refl
left_then config Udp number at Failed past nothing = ap (λ s. unsent config (identification past) s (left config past)) nothing
