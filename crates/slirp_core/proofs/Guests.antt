-- What only a frame of the guests changes.
use Rattle.std.proofs.Common.{◌≡◌, ℕ, List, ◌∷◌, Option, None, sym, ◌∙◌, ap}
use Rattle.net_octets.specs.declared.Ip4.{Ip4}
use Rattle.net_octets.specs.declared.Mac.{Mac}
use Rattle.world_face.specs.Journal.{Entry}
use Rattle.slirp_settings.specs.Addresses.{Config}
use Rattle.ipv4_reasm.specs.Areas.{Gathered}
use Rattle.spec_trace.specs.Guests.{known, with_arrival}
use Rattle.spec_trace.specs.Happenings.{happens}
use Rattle.slirp_core.specs.Holds.{OfGuests, as_given}
use Rattle.slirp_core.specs.Packets.{with_frame}
use Rattle.slirp_core.specs.State.{SlirpState}
use Rattle.slirp_core.specs.Waiting.{OfFragments}
use Rattle.slirp_core.proofs.Waitings.{fragments_stay, none_arrived}

-- what of the network it is
abbrev pub of_guests : SlirpState → Config × List (Ip4 × Mac) × List Gathered
of_guests slirp = (slirp.config, slirp.known, slirp.fragments)

-- an entry by which no frame came
pub guests_stay : (config : Config) (slirp new : SlirpState) (e : Entry) (past : List Entry) → (happens config past e).came ≡ None → of_guests new ≡ of_guests slirp →
    OfGuests config slirp past → OfGuests config new (e ∷ past)
guests_stay config slirp new e past nothing same is = record {
  settings = ap (λ (p : Config × List (Ip4 × Mac) × List Gathered). p.0) same ∙ is.settings;
  known = ap (λ o. with_arrival o (known config past)) nothing ∙ is.known ∙ sym (ap (λ (p : Config × List (Ip4 × Mac) × List Gathered). p.1) same);
  fragments = fragments_stay config slirp new e past (none_arrived config past e nothing) (ap (λ (p : Config × List (Ip4 × Mac) × List Gathered). p.2) same) is.fragments;
}

-- one by which one came, or none
pub guests_learn : (config : Config) (slirp new : SlirpState) (frame : Option (List ℕ)) (past : List Entry) → slirp.config ≡ as_given config → known config past ≡ with_frame config frame slirp.known
    → new.config ≡ slirp.config → new.known ≡ with_frame config frame slirp.known → OfFragments config new past → OfGuests config new past
guests_learn config slirp new frame past settings learnt same_config same_known fragments = record {
  settings = same_config ∙ settings;
  known = learnt ∙ sym same_known;
  fragments = fragments;
}

-- no entry, but that old fragments are given up
pub guests_forget : (config : Config) (slirp new : SlirpState) (past : List Entry) → new.config ≡ slirp.config → new.known ≡ slirp.known → OfFragments config new past →
    OfGuests config slirp past → OfGuests config new past
guests_forget config slirp new past same_config same_known fragments is = record { settings = same_config ∙ is.settings; known = is.known ∙ sym same_known; fragments = fragments }
