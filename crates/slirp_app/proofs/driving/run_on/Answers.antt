use Rattle.std.proofs.Common.{◌≡◌, ℕ, List, [], ◌∷◌}
use Rattle.slirp_app.proofs.driving.run_on.Goals as goal

-- a World tells by which number it answers, and no call changes that
same_number : (n m : ℕ) → ◌≡◌ {A = List ℕ} (n ∷ []) (m ∷ []) → n ≡ m
same_number n m is = cc

pub returns : goal.returns
returns g c = (c.run_network-outcome.new.world, same_number c.run_network-outcome.new.world.number c.args.world.number c.run_network-outcome.ensures.runs.same, c.summary.ensures)
