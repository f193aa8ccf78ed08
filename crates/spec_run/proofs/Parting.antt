-- Why a socket is closed before the end.
use Rattle.std.proofs.Common.{◌≡◌, ℕ, ◌≤◌, ◌==◌, ◌&&◌, ◌||◌, not, nat_le, Bool, true, false, List, [], ◌∷◌, Option, Some, None, if◌then◌else◌, ◌⊎◌, inl, inr, refl, sym, ◌∙◌, ap, subst, arith}
use Rattle.std.specs.Option.{option_or}
use Rattle.std.proofs.lemmas.Bool.Decides.{nat_tests}
use Rattle.world_face.specs.Journal.{Entry, Close, Now, Wait, Listen, UdpOpen, CallClose, call_of}
use Rattle.world_face.specs.Frames.{Ending, ending, partial}
use Rattle.world_face.specs.declared.Made.{Made}
use Rattle.world_face.specs.declared.Made.TheVariants.{Done, Failed}
use Rattle.slirp_settings.specs.Addresses.{Config}
use Rattle.spec_trace.specs.Moments.{waits}
use Rattle.spec_trace.specs.Shape.{Cause, Phase, Opening, Started, Woken, Working, Over, phase, phase_by, phase_after, opened, may_turn, is_over, is_ended}
use Rattle.spec_trace.specs.Sockets.{Kind, Association as OfAssociation, DnsSocket, Forward as OfForward, Listener, Flow, is_among, is_association, open_sockets, first}
use Rattle.spec_run.specs.Asking.{is_full, step, step_of, step_on, yields}
use Rattle.spec_run.specs.Errands.{errand_left}
use Rattle.spec_run.specs.Names.{kind_for, questions, step_to_names, with_socket}
use Rattle.spec_run.specs.Datagrams.{Errand, NeedsRoom, NeedsSocket, asks_a_name}
use Rattle.spec_flows.specs.Flows.{is_it}
use Rattle.spec_run.specs.Laws.{May, Lawful, begins_closing, gives_way, is_closing, is_unused, may_part, parts}
use Rattle.spec_run.specs.Ports.{associations_open, forward_for, last_use, longest_unused, socket_for}
use Rattle.spec_run.specs.Said.{IsIdle, IsLongestUnused}
use Rattle.rules_dns.specs.declared.Question.{Question}
use Rattle.spec_run.proofs.Bools.{equal, first_of, second_of, or_second}
use Rattle.spec_run.proofs.Longest.{IsLeastOf, least_of}

-- ---- the end stays

over_by : (config : Config) (e : Entry) (past : List Entry) (cause : Cause) (p : Phase) → p ≡ Over cause → phase config past ≡ p → May config past (call_of e) → is_over (phase_by e p) ≡ true
over_by config (Now told) past cause p is at may = rw is refl
over_by config (Wait wants timeout answer ready) past cause p is at may = let never = first_of (may_turn (phase config past)) _ may.place in let over = at
    ∙ is in let none : may_turn (phase config past) ≡ false = ap may_turn over in cc
over_by config (Listen socket at answer) past cause p is here may = ap (λ q. is_over (opened answer q)) is ∙ stays answer
  where
    stays : (answer : Made) → is_over (opened answer (Over cause)) ≡ true
    stays Done = refl
    stays Failed = refl
over_by config (UdpOpen socket at answer) past cause p is here may = ap (λ q. is_over (opened answer q)) is ∙ stays answer
  where
    stays : (answer : Made) → is_over (opened answer (Over cause)) ≡ true
    stays Done = refl
    stays Failed = refl
over_by config _ past cause p is at may = ap is_over is

over_after : (config : Config) (e : Entry) (past : List Entry) (o : Option Ending) (p : Phase) → phase config past ≡ p → is_over p ≡ true → May config past (call_of e) → is_over
    (phase_after e o p) ≡ true
over_after config e past None (Over cause) at is may = over_by config e past cause (Over cause) refl at may
over_after config e past (Some why) (Over cause) at is may = refl
over_after config e past o (Opening count forwards) at is may = cc
over_after config e past o Started at is may = cc
over_after config e past o Woken at is may = cc
over_after config e past o Working at is may = cc

waits_on : (turns : ℕ) (e : Entry) (past : List Entry) → nat_le turns (waits past) ≡ true → nat_le turns (waits (e ∷ past)) ≡ true
waits_on turns (Wait wants timeout answer ready) past is = grind (arith, nat_tests, is)
waits_on turns _ past is = is

or_both : (a b c d : Bool) → (a ≡ true → c ≡ true) → (b ≡ true → d ≡ true) → (a || b) ≡ true → (c || d) ≡ true
or_both true b c d one two is = ap (λ x. x || d) (one refl)
or_both false b c d one two is = or_second c d (two is)

ended_on : (config : Config) (e : Entry) (past : List Entry) → May config past (call_of e) → is_ended config past ≡ true → is_ended config (e ∷ past) ≡ true
ended_on config e past may is =
    or_both (is_over (phase config past)) (nat_le config.turns (waits past)) (is_over (phase config (e ∷ past))) (nat_le config.turns (waits (e ∷ past)))
    (λ over. over_after config e past (ending e (partial past)) (phase config past) refl over may) (λ more. waits_on config.turns e past more) is

-- the closing begins after the end
ended_where : (closing least parts_ ended : Bool) → (closing ≡ true → ended ≡ true) → not parts_ ≡ true → (if closing then least else parts_ || (ended && least)) ≡ true → ended ≡ true
ended_where true least parts_ ended already none is = already refl
ended_where false least true ended already none is = cc
ended_where false least false ended already none is = first_of ended least is

begins : (config : Config) (e : Entry) (past : List Entry) → May config past (call_of e) → (is_closing config past ≡ true → is_ended config past ≡ true) →
    begins_closing config past e ≡ true → is_ended config past ≡ true
begins config (Close socket) past may already is =
    ended_where (is_closing config past) (is_it socket (first (open_sockets past))) (parts config past socket) (is_ended config past) already is
    (second_of (is_among socket (open_sockets past)) (if is_closing config past then is_it socket (first (open_sockets past)) else parts config past socket ||
    (is_ended config past && is_it socket (first (open_sockets past)))) may.socket)
begins config _ past may already is = cc

closing_after : (config : Config) (e : Entry) (past : List Entry) (b : Bool) → begins_closing config past e ≡ b → May config past (call_of e) →
    (is_closing config past ≡ true → is_ended config past ≡ true)
    → (if b then true else is_closing config past) ≡ true → is_ended config past ≡ true
closing_after config e past true begun may already is = begins config e past may already begun
closing_after config e past false begun may already is = already is

pub closing_ended : (config : Config) (past : List Entry) → Lawful config past → is_closing config past ≡ true → is_ended config past ≡ true
closing_ended config [] lawful is = cc
closing_ended config (e ∷ past) lawful is =
    ended_on config e past lawful.0 (closing_after config e past (begins_closing config past e) refl lawful.0 (λ closing. closing_ended config past lawful.1 closing) is)

-- ---- the reasons

all_of_them : (config : Config) (past : List Entry) (socket : ℕ) (o : Option ℕ) → IsLeastOf past (associations_open config past) o → o ≡ Some socket → (other : ℕ) → is_among other
    (associations_open config past) ≡ true → last_use socket past ≤ last_use other past
all_of_them config past socket None least is other among = cc
all_of_them config past socket (Some m) least is other among = (let this : m ≡ socket = cc in subst (λ n. last_use n past ≤ last_use other past) this (least.least other among))

yields_to : (config : Config) (socket : ℕ) (o : Option ℕ) (errand : Errand) → gives_way config false socket (yields o errand) ≡ true → o ≡ Some socket
yields_to config socket None errand is = cc
yields_to config socket (Some oldest) errand is = ap Some (sym (equal socket oldest (first_of (socket == oldest) (not (asks_a_name config errand)) is)))

on_socket : (config : Config) (past : List Entry) (socket : ℕ) (o : Option ℕ) (full : Bool) (errand : Errand) → is_full config past ≡ full → gives_way config false socket
    (step_on config o past errand) ≡ true → IsLongestUnused config socket past
on_socket config past socket (Some s) full errand f is = cc
on_socket config past socket None true errand f is = record {
  full = grind (arith, nat_tests, f);
  least = all_of_them config past socket (longest_unused config past) (least_of past (associations_open config past))
      (yields_to config socket (longest_unused config past) errand (sym
      (ap (λ (b : Bool). gives_way config false socket (if b then yields (longest_unused config past) errand else NeedsSocket errand)) f) ∙ is));
}
on_socket config past socket None false errand f is = (let never : false ≡ true = sym
    (ap (λ (b : Bool). gives_way config false socket (if b then yields (longest_unused config past) errand else NeedsSocket errand)) f) ∙ is in cc)

-- a question asks none of a port's sockets to give way
asked_room : (config : Config) (socket oldest : ℕ) (errand : Errand) (b : Bool) → asks_a_name config errand ≡ true → gives_way config false socket
    (if b then NeedsRoom oldest errand else NeedsSocket errand) ≡ true → ⊥
asked_room config socket oldest errand true name is = let never = second_of (socket == oldest) (not (asks_a_name config errand)) is in cc
asked_room config socket oldest errand false name is = cc

no_way : (config : Config) (socket : ℕ) (o : Option ℕ) (list : List Question) (errand : Errand) → asks_a_name config errand ≡ true → gives_way config false socket (with_socket o list errand) ≡ true → ⊥
no_way config socket (Some s) list errand name is = cc
no_way config socket None [] errand name is = cc
no_way config socket None (q ∷ list) errand name is = asked_room config socket q.number errand _ name is

way_given : (config : Config) (past : List Entry) (socket : ℕ) (o : Option Errand) → gives_way config false socket (step_of config past o) ≡ true → IsLongestUnused config socket past
way_given config past socket None is = cc
way_given config past socket (Some errand) is = by (asks_a_name config errand) refl is
  where
    on_either : (forward : Option ℕ) → gives_way config false socket (step_on config (option_or forward (socket_for config errand.datagram.from past)) past errand) ≡ true → IsLongestUnused config socket past
    on_either (Some forward) never = cc
    on_either None given = on_socket config past socket (socket_for config errand.datagram.from past) (is_full config past) errand refl given

    by : (b : Bool) → asks_a_name config errand ≡ b
        → gives_way config false socket (if b then step_to_names (questions config past) errand else step_on config (option_or (forward_for config errand.datagram.from past) (socket_for config errand.datagram.from past)) past errand) ≡ true
        → IsLongestUnused config socket past
    by true name is = absurd (no_way config socket _ (questions config past) errand name is)
    by false other is = on_either (forward_for config errand.datagram.from past) is

either : (config : Config) (past : List Entry) (socket : ℕ) (a b : Bool) → gives_way config false socket (step config past) ≡ a → is_unused socket past ≡ b → (a || b) ≡ true →
    IsIdle socket past ⊎ IsLongestUnused config socket past
either config past socket true b way idle is = inr (way_given config past socket (errand_left config past) way)
either config past socket false true way idle is = inl (grind (arith, nat_tests, idle))
either config past socket false false way idle is = cc

by_kind : (config : Config) (past : List Entry) (socket : ℕ) (k : Option Kind) → is_association k ≡ true → may_part config past socket k ≡ true →
    IsIdle socket past ⊎ IsLongestUnused config socket past
by_kind config past socket (Some OfAssociation) guests is = either config past socket (gives_way config false socket (step config past)) (is_unused socket past) refl refl is
by_kind config past socket None guests is = cc
by_kind config past socket (Some DnsSocket) guests is = cc
by_kind config past socket (Some OfForward) guests is = cc
by_kind config past socket (Some Listener) guests is = cc
by_kind config past socket (Some Flow) guests is = cc

pub parts_where : (closing least parts_ ended : Bool) → (closing ≡ true → ended ≡ true) → ended ≡ false → (if closing then least else parts_ || (ended && least)) ≡ true → parts_ ≡ true
parts_where true least parts_ ended already running is = let over = already refl in cc
parts_where false least true ended already running is = refl
parts_where false least false ended already running is = let over = first_of ended least is in cc

pub parts_for : (config : Config) (past : List Entry) (socket : ℕ) → May config past (CallClose socket) → Lawful config past → is_ended config past ≡ false → is_association
    (kind_for config socket past) ≡ true → IsIdle socket past ⊎ IsLongestUnused config socket past
parts_for config past socket may lawful running guests =
    by_kind config past socket (kind_for config socket past) guests
    (parts_where (is_closing config past) (is_it socket (first (open_sockets past))) (parts config past socket) (is_ended config past) (λ closing. closing_ended config past lawful closing) running
    (second_of (is_among socket (open_sockets past)) (if is_closing config past then is_it socket (first (open_sockets past)) else parts config past socket ||
    (is_ended config past && is_it socket (first (open_sockets past)))) may.socket))
