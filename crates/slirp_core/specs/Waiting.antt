-- The fragments that wait, as the core keeps them.
use Rattle.std.specs.Prelude.{◌≡◌, ℕ, ◌+◌, ◌<◌, All, List}
use Rattle.world_face.specs.Journal.{Entry}
use Rattle.slirp_settings.specs.Addresses.{Config}
use Rattle.ipv4_head.specs.Sets.{PartSet, young}
use Rattle.ipv4_reasm.specs.Areas.{Gathered}
use Rattle.spec_trace.specs.Fragments.{waiting}
use Rattle.spec_trace.specs.Moments.{moment}
use Rattle.slirp_core.specs.Fragments.{IsHeld}
use Rattle.slirp_core.specs.State.{SlirpState}

-- the areas stand for some sets, of which the young ones are those that wait; the others are dropped sooner or later
pub record OfFragments (config : Config) (slirp : SlirpState) (past : List Entry) : Type 0 where
  pub held : List PartSet
  pub is_held : IsHeld slirp.fragments held
  pub wait : young (moment past) held ≡ waiting config past

-- none of the sets for which the areas stand is to be dropped yet
abbrev pub AreFresh : ℕ → List Gathered → Type 0
AreFresh now areas = (held : List PartSet) → IsHeld areas held → All (λ (s : PartSet). now < s.since + 60000) held
