-- What octets of IPv4 bring, whole or as a part.
use Rattle.std.proofs.Common.{◌≡◌, ℕ, ◌&&◌, not, Bool, true, false, List, [], Option, Some, None, option_map, if◌then◌else◌, refl, sym, ◌∙◌, ap, subst}
use Rattle.std.specs.Option.{option_and_then}
use Rattle.net_octets.specs.declared.Ip4.{Ip4}
use Rattle.net_octets.specs.declared.Mac.{Mac}
use Rattle.world_face.specs.Journal.{Entry}
use Rattle.slirp_settings.specs.Addresses.{Config, is_guest}
use Rattle.ipv4_head.specs.Ip.{Ip, read_ip, is_unbroken}
use Rattle.ipv4_head.specs.Sets.{Part, PartSet, young}
use Rattle.ipv4_reasm.specs.Areas.{Gathered}
use Rattle.spec_trace.specs.Fragments.{Fragment, arrived, fragment_by, joined_by, key_by, part_by, with_fragment}
use Rattle.stream_netdev.specs.State.{LinkState}
use Rattle.slirp_core.specs.Came.{DatagramCame, OctetsCame}
use Rattle.slirp_core.specs.Holds.{WorkLeft, Holds, Standing, flowing}
use Rattle.slirp_core.specs.Segments.{segment_of_arrived, segment_of_ip}
use Rattle.slirp_core.specs.Fragments.{Gathers, GathersIf, HoldWith, IsHeld, after_octets, assembled_ip}
use Rattle.slirp_core.specs.Packets.{request_for_udp, leases_with, owed_for, owed_for_ip, udp_of, udp_of_arrived, with_address}
use Rattle.spec_run.specs.Answers.{frames_of}
use Rattle.slirp_core.specs.State.{SlirpState, serving_of}
use Rattle.slirp_core.specs.declared.fragments.Assembled.{Assembled}

-- a whole one has no fragment
whole_fragment : (guest unbroken : Bool) (f : Fragment) → unbroken ≡ true → (if guest && not unbroken then Some f else None) ≡ None
whole_fragment true true f is = refl
whole_fragment false true f is = refl
whole_fragment guest false f is = cc

no_fragment : (config : Config) (octets : List ℕ) (ip : Ip) → is_unbroken ip ≡ true → fragment_by config octets ip ≡ None
no_fragment config octets ip whole = whole_fragment (is_guest config ip.from) (is_unbroken ip) (record { key = key_by ip; part = part_by octets ip }) whole

-- a part is put to those of its datagram: what arrives by it, and which sets wait
module _ (old : SlirpState) (octets : List ℕ) (ip : Ip) (room : List ℕ) (broken : is_unbroken ip ≡ false) where
  abbrev pub whole_of : Option Assembled → Option Ip
  whole_of o = option_map (λ (a : Assembled). assembled_ip a room) o

  record Gathering (held : List PartSet) (areas : List Gathered) (o : Option Assembled) : Type 0 where
    arrives : whole_of o ≡ arrived old.config old.moment (young old.moment held) octets ip
    held_by : IsHeld areas (with_fragment old.moment (fragment_by old.config octets ip) held)

  broken_arrives : (held : List PartSet) → joined_by old.moment (young old.moment held) (fragment_by old.config octets ip) ≡ arrived old.config old.moment (young old.moment held) octets ip
  broken_arrives held = sym (ap (λ (b : Bool). if b then Some ip else joined_by old.moment (young old.moment held) (fragment_by old.config octets ip)) broken)

  gathering : (held : List PartSet) (b : Bool) (pairs : List (Ip4 × Mac)) (areas : List Gathered) (o : Option Assembled) → is_guest old.config ip.from ≡ b → IsHeld old.fragments held
      → GathersIf b (record old { known = pairs }) held ip (part_by octets ip) areas o room → Gathering held areas o
  gathering held true pairs areas o guest is took =
      let fragment : fragment_by old.config octets ip ≡ Some (record { key = key_by ip; part = part_by octets ip }) =
      ap (λ (g : Bool). if g && not (is_unbroken ip) then Some (record { key = key_by ip; part = part_by octets ip }) else None) guest
      ∙ ap (λ (u : Bool). if not u then Some (record { key = key_by ip; part = part_by octets ip }) else None) broken in
      record {
        arrives = took.whole ∙ sym (ap (joined_by old.moment (young old.moment held)) fragment) ∙ broken_arrives held;
        held_by = subst (λ o. IsHeld areas (with_fragment old.moment o held)) (sym fragment) took.held_by;
      }
  gathering held false pairs areas o guest is (same, none) =
      let fragment : fragment_by old.config octets ip ≡ None = ap (λ (g : Bool). if g && not (is_unbroken ip) then Some (record { key = key_by ip; part = part_by octets ip }) else None) guest in
      record {
        arrives = ap whole_of none ∙ sym (ap (joined_by old.moment (young old.moment held)) fragment) ∙ broken_arrives held;
        held_by = subst (λ l. IsHeld l (with_fragment old.moment (fragment_by old.config octets ip) held)) (sym same)
            (subst (λ o. IsHeld old.fragments (with_fragment old.moment o held)) (sym fragment) is);
      }

module _ (config : Config) (at : Standing) (link : LinkState) (past : List Entry) (slirp : SlirpState) (mac octets : List ℕ) (came : OctetsCame config at slirp link mac octets past) where
  abbrev waiting : List PartSet
  waiting = young slirp.moment came.held

  -- what they ask for, by what is read of them
  abbrev AsksOf : List Gathered → Option Ip → Type 0
  AsksOf parts o = WorkLeft config at (after_octets slirp waiting mac octets parts o) link
      (request_for_udp slirp.config (option_and_then (udp_of_arrived slirp.config slirp.moment waiting mac octets) o))
      (option_and_then (segment_of_arrived slirp.config slirp.moment waiting mac octets) o) past

  -- none is read
  pub none_comes : read_ip octets ≡ None → slirp.pending ≡ [] → Holds config at slirp (flowing false slirp.flows) link past
  none_comes read none =
      subst (λ p. Holds config at (record slirp { pending = p }) (flowing false slirp.flows) link past) (sym none)
      (subst (AsksOf slirp.fragments) read (came.asks slirp.fragments
      (λ held h. subst (λ o. IsHeld slirp.fragments (with_fragment slirp.moment (option_and_then (fragment_by slirp.config octets) o) held)) (sym read) h)))

  module _ (ip : Ip) (read : read_ip octets ≡ Some ip) where
    -- the network with these areas, which knows the sender
    abbrev pub learnt : List Gathered → SlirpState
    learnt parts = record slirp { known = with_address slirp.config ip.from mac slirp.known; fragments = parts }

    -- what they ask for, by what arrives by them
    abbrev AsksArrival : List Gathered → Option Ip → Type 0
    AsksArrival parts o = WorkLeft config at (record slirp {
      pending = frames_of slirp.config slirp.sent (owed_for (owed_for_ip slirp.config (serving_of slirp) mac) o);
      known = with_address slirp.config ip.from mac slirp.known;
      fragments = parts;
      leases = leases_with slirp.config slirp.moment (option_and_then (udp_of slirp.config mac) o) slirp.leases;
    }) link (request_for_udp slirp.config (option_and_then (udp_of slirp.config mac) o)) (option_and_then (segment_of_ip slirp.config mac) o) past

    arrival : (parts : List Gathered) (o : Option Ip) → HoldWith slirp (fragment_by slirp.config octets ip) parts → arrived slirp.config slirp.moment waiting octets ip ≡ o → AsksArrival parts o
    arrival parts o is arrives =
        subst (AsksArrival parts) arrives
        (subst (AsksOf parts) read
        (came.asks parts (λ held h. subst (λ o. IsHeld parts (with_fragment slirp.moment (option_and_then (fragment_by slirp.config octets) o) held)) (sym read) (is held h))))

    -- a whole datagram
    pub whole_comes : is_unbroken ip ≡ true → DatagramCame config at (learnt slirp.fragments) link mac ip past
    whole_comes whole = arrival slirp.fragments (Some ip)
        (λ held h. subst (λ o. IsHeld slirp.fragments (with_fragment slirp.moment o held)) (sym (no_fragment slirp.config octets ip whole)) h)
        (ap (λ (b : Bool). if b then Some ip else joined_by slirp.moment waiting (fragment_by slirp.config octets ip)) whole)

    -- a part, by which one is whole, or none is
    part_comes : (room : List ℕ) (parts : List Gathered) (p : Part) (o : Option Assembled) → is_unbroken ip ≡ false → p ≡ part_by octets ip
        → ((held : List PartSet) → IsHeld slirp.fragments held → Gathers (learnt slirp.fragments) held ip p parts o room)
        → AsksArrival parts (option_map (λ (a : Assembled). assembled_ip a room) o)
    part_comes room parts p o broken p_is gathers =
        let pairs = with_address slirp.config ip.from mac slirp.known in
        let put : (held : List PartSet) → IsHeld slirp.fragments held → Gathering slirp octets ip room broken held parts o =
        (λ held h. gathering slirp octets ip room broken held (is_guest slirp.config ip.from) pairs parts o refl h
        (subst (λ (q : Part). Gathers (learnt slirp.fragments) held ip q parts o room) p_is (gathers held h))) in
        arrival parts (option_map (λ (a : Assembled). assembled_ip a room) o) (λ held h. (put held h).held_by) (sym (put came.held came.is_held).arrives)

    pub joined_comes : (room : List ℕ) (parts : List Gathered) (p : Part) (a : Assembled) → is_unbroken ip ≡ false → p ≡ part_by octets ip
        → ((held : List PartSet) → IsHeld slirp.fragments held → Gathers (learnt slirp.fragments) held ip p parts (Some a) room)
        → DatagramCame config at (learnt parts) link mac (assembled_ip a room) past
    joined_comes room parts p a broken p_is gathers = part_comes room parts p (Some a) broken p_is gathers

    pub part_waits : (room : List ℕ) (parts : List Gathered) (p : Part) → is_unbroken ip ≡ false → p ≡ part_by octets ip → slirp.pending ≡ []
        → ((held : List PartSet) → IsHeld slirp.fragments held → Gathers (learnt slirp.fragments) held ip p parts None room)
        → Holds config at (learnt parts) (flowing false slirp.flows) link past
    part_waits room parts p broken p_is none gathers =
        subst (λ q. Holds config at (record (learnt parts) { pending = q }) (flowing false slirp.flows) link past) (sym none) (part_comes room parts p None broken p_is gathers)
