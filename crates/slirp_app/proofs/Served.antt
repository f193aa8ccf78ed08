-- What `serve` did, by what it put.
use Rattle.std.proofs.Common.{◌≡◌, ℕ, List, Option, refl, subst}
use Rattle.world_face.specs.Journal.{Place}
use Rattle.world_face.specs.Tells.{Telling, Makes}
use Rattle.world_face.proofs.Telling.{makes_as}
use Rattle.slirp_settings.specs.Addresses.{Config}
use Rattle.command_words.specs.declared.Tap.{Tap}
use Rattle.command_words.specs.declared.Tap.TheVariants.{Off}
use Rattle.slirp_app.specs.Serving.{OpensAt, Serves, ServesAt, TapsAt}
use Rattle.app_edges.specs.declared.outcome.Outcome.{Outcome}

-- the settings are those with which the network was opened
pub served : (world world_new : Telling) (config its : Config) (at : Place) (tap : Tap) (outcome : Outcome) (old new : Option (List ℕ)) → its ≡ config
    → Makes world world_new (TapsAt its at tap outcome old new) → Makes world world_new (ServesAt config at tap outcome old new)
served world world_new config its at tap outcome old new is taps =
    makes_as world world_new (TapsAt its at tap outcome old new) (ServesAt config at tap outcome old new) taps (λ made done. Serves (subst (λ k. TapsAt k at tap outcome old new made) is done))

pub served_plain : (world world_new : Telling) (config its : Config) (at : Place) (outcome : Outcome) (old : Option (List ℕ)) → its ≡ config
    → Makes world world_new (OpensAt its at outcome) → Makes world world_new (ServesAt config at Off outcome old old)
served_plain world world_new config its at outcome old is opens =
    served world world_new config its at Off outcome old old is (makes_as world world_new (OpensAt its at outcome) (TapsAt its at Off outcome old old) opens (λ made done. (done, refl)))
