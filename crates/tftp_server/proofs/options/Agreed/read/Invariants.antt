use Rattle.std.proofs.Common.{◌≡◌, length, true}
use Rattle.rules_tftp.specs.Packets.{terms_from, terms_of}
use Rattle.tftp_server.specs.Reading.{are_pairs, options_of}
use Rattle.tftp_server.proofs.options.Agreed.read.Given as goal

abbrev pub invariant-loop-pair : goal.invariant-loop-pair
invariant-loop-pair l = (are_pairs l.rest ≡ true) × (terms_from l.length l.agreed (options_of l.rest) ≡ terms_of l.length (options_of l.fn.options))

abbrev pub decreases-loop-pair : goal.decreases-loop-pair
decreases-loop-pair l = length l.rest
