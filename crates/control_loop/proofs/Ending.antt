-- After the last turn, and before the first one: what the network closes, put together with what it made before.
use Rattle.std.proofs.Common.{◌≡◌, ℕ, ◌≤◌, ◌&&◌, ◌||◌, Bool, true, false, cond, List, [], ◌∷◌, ◌++◌, Option, Some, None, refl, sym, ◌∙◌, ap, subst, arith}
use Rattle.std.proofs.lemmas.List.Elements.{All-head, All-tail}
use Rattle.std.specs.List.{cons_option}
use Rattle.poll_list.specs.Picks.{as_list}
use Rattle.poll_list.specs.declared.Want.{Want}
use Rattle.net_octets.specs.declared.Endpoint.{Endpoint}
use Rattle.world_face.specs.Journal.{AreAllowed, Entry, Wait}
use Rattle.world_face.proofs.Telling.{allowed_then}
use Rattle.slirp_settings.specs.Addresses.{Config}
use Rattle.spec_trace.specs.Shape.{Over, Refused, phase}
use Rattle.spec_duties.proofs.Ended.{dutiful_to_the_end, ended_yet}
use Rattle.stream_netdev.specs.State.{LinkState}
use Rattle.slirp_core.specs.Forwards.{AreCloses, IsClose}
use Rattle.slirp_core.specs.Holds.{AfterListening, ClosesAll, as_given, holders_of}
use Rattle.slirp_core.specs.State.{SlirpState}
use Rattle.slirp_core.proofs.Closes.{draw_none}
use Rattle.serve_loop.specs.Ends.{end_of}
use Rattle.serve_loop.specs.Served.{ServiceState}
use Rattle.serve_loop.proofs.Serving.{spent}
use Rattle.serve_loop.specs.declared.service.End.TheVariants.{ListenRefused, TurnsSpent}
use Rattle.rules_control.specs.Apart.{reported_of, without_control}
use Rattle.rules_control.specs.Talk.{Talk, listener, want_of}
use Rattle.control.specs.Stretches.{AreSeen, IsItem, IsSeen, last_reported}
use Rattle.spec_control.specs.ControlServer.{Reads, control_server}
use Rattle.control_loop.specs.Runs.{RunsWith}
use Rattle.control_loop.specs.Standing.{Closes, Stands, with_lists}
use Rattle.control_loop.proofs.Added.{has_just}
use Rattle.control_loop.proofs.Started.{port_refused}
use Rattle.control_loop.proofs.Turned.{ends}

-- closes are seen as they are
pub closes_seen : (item : Option Want) (made : List Entry) → AreCloses made → AreSeen item made made
closes_seen item [] closes = tt
closes_seen item (e ∷ made) closes = (one e (All-head IsClose e made closes), closes_seen item made (All-tail IsClose e made closes))
  where
    one : (e : Entry) → IsClose e → IsSeen item e e
    one e (n, is) = subst (λ x. IsSeen item x x) (sym is) refl

pub seen_then : (item : Option Want) (more later made seen : List Entry) → AreSeen item more later → AreSeen item made seen → AreSeen item (more ++ made) (later ++ seen)
seen_then item [] [] made seen are before = before
seen_then item [] (s ∷ later) made seen are before = absurd are
seen_then item (e ∷ more) [] made seen are before = absurd are
seen_then item (e ∷ more) (s ∷ later) made seen are before = (are.0, seen_then item more later made seen are.1 before)

-- ---- what the last wait reported, of some list

none_of_it : (read write : Bool) (item : Want) → cons_option {X = Want} (cond ((read && false) || (write && false)) (Some (record { of = item.of; read = read && false; write = write && false })) None) [] ≡ []
none_of_it true true item = refl
none_of_it true false item = refl
none_of_it false true item = refl
none_of_it false false item = refl

pub last_is : (item : Option Want) (made : List Entry) → (ready : List Want) × (last_reported item made ≡ reported_of (as_list item) ready)
last_is None [] = ([], refl)
last_is (Some item) [] = ([], sym (none_of_it item.read item.write item))
last_is item (Wait wants timeout answer ready ∷ made) = (ready, refl)
last_is item (_ ∷ made) = last_is item made

-- ---- the turns are spent

module _ (talk : Talk) (service : ServiceState) (read : Reads) (config : Config) (at : Endpoint) (count : ℕ) (past : List Entry) (given : config ≡ as_given config) (own_place : config.control ≡ Some at)
    (listening : talk.listening ≡ true) (stands : Stands [] talk service.slirp service.link read config count past) where
  pub spent_all : (item : Option Want) → IsItem item → want_of talk ≡ item → (turns : ℕ) → turns ≡ config.turns → 1 ≤ config.turns → config.turns ≤ count → service.slirp.number ≤ listener → (made : List Entry)
      → ClosesAll service.slirp.forwards (holders_of service.slirp) made → AreCloses made → AreAllowed made → Closes (TurnsSpent turns) talk read config (made ++ past)
  spent_all item own is_want turns is some all few made closes_all closes allowed =
      let d = control_server read config past in
      let before = without_control past in
      let just = with_lists config d.added d.removed in
      let attended = stands.agrees.network just (has_just config d.added d.removed given) in
      let closing = spent just count turns service before some all is attended.0 in
      let ran = closes_all just (phase just before) before closing.closing in
      ends read config at count past given own_place listening stands item own is_want (TurnsSpent turns) made made (closes_seen item made closes) allowed ran.0
      (dutiful_to_the_end just made before ran.0 closing.closing.ended attended.1.0) ran.1 (closing.is ∙ ap (end_of just) ran.2)
      (let same = (ended_yet just made before ran.0 closing.closing.ended).1 in omega (arith, same))
      (let same = draw_none made before closes in let drawn = attended.0.sockets.number in omega (arith, same, drawn, few))

-- ---- the host refused a port of the settings

pub refused_all : (read : Reads) (config : Config) → config ≡ as_given config → (place : ℕ) (slirp : SlirpState) (link : LinkState) (made seen more : List Entry) → AreSeen None made seen → AreAllowed seen
    → ((settings : Config) → config ≡ as_given settings → AfterListening (Some place) settings slirp link seen) → slirp.number ≤ 32
    → ClosesAll slirp.forwards (holders_of slirp) more → AreCloses more → AreAllowed more → RunsWith read config (ListenRefused place) (more ++ made)
refused_all read config given place slirp link made seen more are allowed listened few closes_all closes allowed_more =
    let plain = with_lists config [] [] in
    let closing = listened plain given in
    port_refused read config given place (more ++ made) (more ++ seen) (seen_then None more more made seen (closes_seen None more closes) are) (allowed_then more seen allowed_more allowed)
    (closes_all plain (Over (Refused place)) seen closing.0) (let same = draw_none more seen closes in let drawn = closing.1 in omega (arith, same, drawn, few))
