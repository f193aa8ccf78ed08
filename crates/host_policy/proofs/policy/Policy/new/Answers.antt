use Rattle.std.proofs.Common.{ℕ, ◌≤◌, sym, ap, subst}
use Rattle.slirp_settings.specs.Addresses.{Config}
use Rattle.slirp_settings.specs.Settings.{settings}
use Rattle.slirp_settings.proofs.Soundness.{mtu_between}
use Rattle.host_policy.proofs.policy.Policy.new.Goals as goal

pub invariant_of-result : goal.invariant_of-result
invariant_of-result c =
    subst (λ (mtu : ℕ). (576 ≤ mtu) × (mtu ≤ 1500)) (sym (ap (λ (k : Config). k.mtu) c.copied.ensures)) (mtu_between (settings c.args.c.now) c.requires)
