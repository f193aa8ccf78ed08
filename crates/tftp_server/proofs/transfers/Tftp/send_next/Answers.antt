-- The next block was read, or not.
use Rattle.std.proofs.Common.{◌≡◌, ℕ, ◌+◌, ◌-◌, ◌*◌, ◌≤◌, min, Bool, List, ◌++◌, length, take, drop, sym, ◌∙◌, ap, subst, arith}
use Rattle.std.proofs.lemmas.List.{length-take-le, take_at}
use Rattle.world_face.specs.Tells.{Makes}
use Rattle.rules_tftp.specs.Packets.{file_in}
use Rattle.rules_tftp.specs.Transfers.{Transfer, octets_of, sends_block}
use Rattle.rules_tftp.specs.Blocks.{ReadsBlock}
use Rattle.tftp_server.specs.Serving.{Serving}
use Rattle.rules_tftp.specs.Saying.{most_packet, said_by}
use Rattle.tftp_server.specs.Rows.{folder_octets, next_of}
use Rattle.tftp_server.proofs.Serving.{makes_block, makes_no_block}
use Rattle.tftp_server.proofs.transfers.Tftp.send_next.Goals as goal

-- the octets of a block are those that are asked for
block_size : (block size long count : ℕ) (into : List ℕ) → count ≡ min (long - block * size) size → size ≤ 1468 → most_packet ≤ length into → min size
    (long - (block + 1 - 1) * size) ≡ length (take count into)
block_size block size long count into is few room =
    let same : (block + 1 - 1) * size ≡ block * size = ap (λ n. n * size) (omega arith) in
    let there : length (take count into) ≡ count = length-take-le count into (omega (arith, is, few, room)) in
    ap (λ n. min size (long - n)) same ∙ omega (arith, is) ∙ sym there

place_is : (block size : ℕ) → (block + 1 - 1) * size ≡ block * size
place_is block size = ap (λ n. n * size) (omega arith)

pub returns-then-not-read_block-clause-serves : goal.returns-then-not-read_block-clause-serves
returns-then-not-read_block-clause-serves g c =
    let folder = c.args.self.now.folder in
    let row = c.args.row in
    let t : Transfer = next_of folder row in
    let others = c.args.self.now.transfers in
    let name : t.file ≡ c.as_str-2.result.now = sym (c.as_str-2.ensures.value ∙ c.file-file.ensures ∙ ap (file_in (folder_octets folder)) c.as_str.ensures.value) in
    let size : octets_of t ≡ length (take c.min-count.result c.args.into.now) = block_size row.block row.size row.length c.min-count.result c.args.into.now c.min-count.ensures
    row.most c.requires.room in
    let reads = c.read_block.ensures c.args.now t others name (place_is row.block row.size) size in
    makes_no_block (g.W.World.tells c.args.world.now) (g.W.World.tells c.read_block.new.world) c.args.now t others _ c.read_block.new.block c.refuse.ensures.says
    (subst (λ (b : Bool). Makes (g.W.World.tells c.args.world.now) (g.W.World.tells c.read_block.new.world) (ReadsBlock c.args.now t others b c.read_block.new.block)) c.if-not-read_block.true reads)

pub returns-clause-serves : goal.returns-clause-serves
returns-clause-serves g c =
    let folder = c.args.self.now.folder in
    let row = c.args.row in
    let t : Transfer = next_of folder row in
    let others = c.args.self.now.transfers in
    let name : t.file ≡ c.as_str-2.result.now = sym (c.as_str-2.ensures.value ∙ c.file-file.ensures ∙ ap (file_in (folder_octets folder)) c.as_str.ensures.value) in
    let size : octets_of t ≡ length (take c.min-count.result c.args.into.now) = block_size row.block row.size row.length c.min-count.result c.args.into.now c.min-count.ensures
    row.most c.requires.room in
    let reads = c.read_block.ensures c.args.now t others name (place_is row.block row.size) size in
    let block = c.read_block.new.block in
    let count = c.min-count.result in
    let into = c.args.into.now in
    let long : length block ≡ count = c.read_block.auto.block ∙ length-take-le count into (omega (arith, c.min-count.ensures, row.most, c.requires.room)) in
    let front : take count (block ++ drop count into) ≡ block = take_at block (drop count into) count long in
    makes_block (g.W.World.tells c.args.world.now) (g.W.World.tells c.read_block.new.world) c.args.now t others c.send_block.new.self.transfers
    (said_by c.send_block.result c.send_block.new.into) block
    (ap (λ (s : Serving). s.transfers) c.send_block.ensures.list ∙ ap (λ (xs : List ℕ). (sends_block c.args.now xs t others).files.transfers) front)
    (c.send_block.ensures.says ∙ ap (λ (xs : List ℕ). (sends_block c.args.now xs t others).told) front)
    (subst (λ (b : Bool). Makes (g.W.World.tells c.args.world.now) (g.W.World.tells c.read_block.new.world) (ReadsBlock c.args.now t others b block)) c.if-not-read_block.false reads)
