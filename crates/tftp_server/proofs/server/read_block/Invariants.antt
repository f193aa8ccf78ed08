use Rattle.std.proofs.Common.{◌≡◌, ◌≤◌, ◌-◌, ℕ, List, length, take}
use Rattle.world_face.specs.Tells.{Makes}
use Rattle.rules_tftp.specs.Transfers.{Transfer, octets_of, place_of}
use Rattle.rules_tftp.specs.Blocks.{ReadsOn}
use Rattle.tftp_server.proofs.server.read_block.Given as goal

abbrev pub invariant-loop-there : goal.invariant-loop-there
invariant-loop-there g l = (l.there ≤ length l.block)
    × ((now : ℕ) (t : Transfer) (others : List Transfer) → t.file ≡ l.file → place_of t ≡ l.place → octets_of t ≡ length l.block
    → Makes (g.W.World.tells l.fn.world) (g.W.World.tells l.world) (ReadsOn now t others (take l.there l.block)))

abbrev pub decreases-loop-there : goal.decreases-loop-there
decreases-loop-there g l = length l.initial.block - l.there
