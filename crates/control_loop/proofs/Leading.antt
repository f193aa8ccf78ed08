-- From one place of a run to another.
use Rattle.std.proofs.Common.{ℕ, List, ◌++◌, sym, subst, append_assoc}
use Rattle.world_face.specs.Journal.{Entry}
use Rattle.world_face.specs.Tells.{Makes, Telling}
use Rattle.world_face.proofs.Telling.{makes_none, makes_then}
use Rattle.slirp_settings.specs.Addresses.{Config}
use Rattle.spec_control.specs.ControlServer.{Reads}
use Rattle.control_loop.specs.Standing.{Leads}

-- with no call
pub leads_still : (t : Telling) (config : Config) (Before After : Reads → Config → ℕ → List Entry → Type 0) → ((read : Reads) (count : ℕ) (past : List Entry) → Before read config count past → After read config count past)
    → Makes t t (Leads config Before After)
leads_still t config Before After still = makes_none t (Leads config Before After) (λ read count reading some past before. still read count past before)

-- by some calls and then by more
pub leads_then : (a b c : Telling) (config : Config) (Before Between After : Reads → Config → ℕ → List Entry → Type 0) → Makes a b (Leads config Before Between) → Makes b c (Leads config Between After)
    → Makes a c (Leads config Before After)
leads_then a b c config Before Between After first second =
    makes_then a b c (Leads config Before Between) (Leads config Between After) (Leads config Before After) first second
    (λ made more one other read count reading some past before.
    subst (After read config count) (sym (append_assoc more made past)) (other read count reading some (made ++ past) (one read count reading some past before)))
