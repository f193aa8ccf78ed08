-- To which guests ports of the host are given, where the settings alone say it, and where none is.
use Rattle.std.proofs.Common.{◌≡◌, ℕ, ◌==◌, List, [], Option, Some, None, find, option_map, slice_get, refl, ◌∙◌, ap}
use Rattle.std.specs.Option.{option_or}
use Rattle.slirp_settings.specs.Addresses.{Config, forward_on}
use Rattle.slirp_settings.specs.declared.Forward.{Forward}
use Rattle.spec_trace.specs.Shape.{GivesNone}

or_none : (o : Option Forward) → option_or o None ≡ o
or_none None = refl
or_none (Some f) = refl

-- those of the settings have the first numbers
pub by_settings : (config : Config) (socket : ℕ) → config.added ≡ [] → forward_on config socket ≡ slice_get config.forwards socket
by_settings config socket none =
    ap (λ (added : List (ℕ × Forward)). option_or (slice_get config.forwards socket) (option_map (λ a. a.1) (find (λ a. a.0 == socket) added))) none
    ∙ or_none (slice_get config.forwards socket)

pub led_by_settings : (config : Config) (socket : ℕ) (f : Forward) → slice_get config.forwards socket ≡ Some f → forward_on config socket ≡ Some f
led_by_settings config socket f is = ap (λ o. option_or o (option_map (λ a. a.1) (find (λ a. a.0 == socket) config.added))) is

-- where no port of the host is given to a guest
pub leads_nowhere : (config : Config) (socket : ℕ) → GivesNone config → forward_on config socket ≡ None
leads_nowhere config socket none = by_settings config socket none.1 ∙ ap (λ forwards. slice_get forwards socket) none.0
