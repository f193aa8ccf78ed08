-- What a socket's work says of what the host is owed.
use Rattle.std.proofs.Common.{◌≡◌, Bool, true, false, refl}
use Rattle.rules_flow.specs.Choices.{host_work}
use Rattle.rules_flow.specs.declared.HostWork.TheVariants.{Join, Octets, End, Nothing}

pub when_join : (connects owes_octets owes_end : Bool) → Join ≡ host_work connects owes_octets owes_end → connects ≡ true
when_join true owes_octets owes_end is = refl
when_join false true owes_end is = absurd cc
when_join false false true is = absurd cc
when_join false false false is = absurd cc

pub when_octets : (connects owes_octets owes_end : Bool) → Octets ≡ host_work connects owes_octets owes_end → (connects ≡ false) × (owes_octets ≡ true)
when_octets true owes_octets owes_end is = absurd cc
when_octets false true owes_end is = (refl, refl)
when_octets false false true is = absurd cc
when_octets false false false is = absurd cc

pub when_end : (connects owes_octets owes_end : Bool) → End ≡ host_work connects owes_octets owes_end
    → (connects ≡ false) × (owes_octets ≡ false) × (owes_end ≡ true)
when_end true owes_octets owes_end is = absurd cc
when_end false true owes_end is = absurd cc
when_end false false true is = (refl, refl, refl)
when_end false false false is = absurd cc

pub when_nothing : (connects owes_octets owes_end : Bool) → Nothing ≡ host_work connects owes_octets owes_end
    → (connects ≡ false) × (owes_octets ≡ false) × (owes_end ≡ false)
when_nothing true owes_octets owes_end is = absurd cc
when_nothing false true owes_end is = absurd cc
when_nothing false false true is = absurd cc
when_nothing false false false is = (refl, refl, refl)
