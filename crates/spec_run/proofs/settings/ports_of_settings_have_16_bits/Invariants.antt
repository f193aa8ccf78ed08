use Rattle.std.proofs.Common.{◌<◌, ◌^◌, take}
use Rattle.std.specs.Prelude.{All}
use Rattle.slirp_settings.specs.declared.Forward.{Forward}
use Rattle.spec_run.proofs.settings.ports_of_settings_have_16_bits.Given as goal

-- the ports so far
abbrev pub invariant-loop-forward : goal.invariant-loop-forward
invariant-loop-forward l = All (λ (f : Forward). f.guest.port < 2 ^ 16) (take l.forward-index l.fn.config.forwards.items)
