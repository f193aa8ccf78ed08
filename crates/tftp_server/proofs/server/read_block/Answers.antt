-- Call by call, until the block is whole.
use Rattle.std.proofs.Common.{◌≡◌, ℕ, ◌+◌, ◌-◌, ◌<◌, ◌≤◌, List, ◌++◌, length, take, drop, sym, ◌∙◌, ap, subst, arith, length-drop}
use Rattle.std.proofs.lemmas.List.{length-append, length-take-le, take_all}
use borrow.Rule.Slice.PartMut.{put_mid}
use Rattle.world_face.specs.Tells.{Makes}
use Rattle.world_face.proofs.Bytes.{fill}
use Rattle.rules_tftp.specs.Transfers.{octets_of}
use Rattle.rules_tftp.specs.Blocks.{ReadsOn}
use Rattle.rules_tftp.proofs.Reading.{none_read, read_all, read_more, read_none, refused_if}
use Rattle.tftp_server.proofs.server.read_block.Goals as goal

pub loop-there-init : goal.loop-there-init
loop-there-init g c = (omega arith, λ now t others name place count. none_read (g.W.World.tells c.args.world.now) now t others)

-- octets that came lie behind those that were there
filled_to : (block into : List ℕ) (there n : ℕ) → there ≤ length block → n ≤ length into → length into ≡ length block - there
    → take (there + n) (put_mid there (length block - there) block into) ≡ take there block ++ take n into
filled_to block into there n within few size = fill block into (drop (length block - there) (drop there block)) there n within few

asked_size : (block : List ℕ) (there : ℕ) → length (take (length block - there) (drop there block)) ≡ length block - there
asked_size block there = ap length (take_all (length block - there) (drop there block) (omega (arith, length-drop there block))) ∙ length-drop there block

mid_size : (block into : List ℕ) (there : ℕ) → there ≤ length block → length into ≡ length block - there → length (put_mid there (length block - there) block into) ≡ length block
mid_size block into there within size =
    let rest = drop (length block - there) (drop there block) in
    omega (
      arith,
      length-append (take there block) (into ++ rest),
      length-append into rest,
      length-take-le there block within,
      length-drop (length block - there)
          (drop there block),
      length-drop there block,
      size,
    )

pub loop-there-preserved : goal.loop-there-preserved
loop-there-preserved g c =
    let block = c.loop-there.block in
    let there = c.loop-there.there in
    let into = c.file_read.new.into in
    let n = c.in-Done.count in
    let before = take there block in
    let within : there ≤ length block = c.loop-there.invariant.0 in
    let size : length into ≡ length block - there = c.file_read.auto.into ∙ asked_size block there in
    let some : (0 < n) × (n ≤ length (take (length block - there) (drop there block))) = c.in-Done.ensures.allowed.0 in
    let few : n ≤ length into = omega (arith, some.1, c.file_read.auto.into) in
    let front : length before ≡ there = length-take-le there block within in
    let whole : length (put_mid there (length block - there) block into) ≡ length block = mid_size block into there within size in (
      omega (arith, whole, few, size, within),
      λ now t others name place count.
          let all : octets_of t ≡ length block = count ∙ whole in
          subst (λ (xs : List ℕ). Makes (g.W.World.tells c.args.world.now) (g.W.World.tells c.file_read.new.self) (ReadsOn now t others xs)) (sym (filled_to block into there n within few size))
          (read_more (g.W.World.tells c.args.world.now) (g.W.World.tells c.loop-there.world) (g.W.World.tells c.file_read.new.self) now t others c.args.file.now before (take n into) n
          (c.args.place + there) (length (take (length block - there) (drop there block)))
          name (omega (arith, place, front)) (omega (arith, asked_size block there, all, front)) (omega (arith, front, all, c.loop-there-test.true))
          (c.loop-there.invariant.1 now t others name place all) c.in-Done.ensures),
    )

pub returns-in_default : goal.returns-in_default
returns-in_default g c now t others name place count =
    let block = c.loop-there.block in
    let there = c.loop-there.there in
    let within : there ≤ length block = c.loop-there.invariant.0 in
    let front : length (take there block) ≡ there = length-take-le there block within in
    let all : octets_of t ≡ length block = count ∙ sym c.loop-there.auto.block in
    read_none (g.W.World.tells c.args.world.now) (g.W.World.tells c.loop-there.world) (g.W.World.tells c.file_read.new.self) now t others c.args.file.now (take there block) _ _ c.file_read.result
    (c.args.place + there) (length (take (length block - there) (drop there block)))
    (refused_if c.file_read.result c.in_default.not-Done) name (omega (arith, place, front)) (omega (arith, asked_size block there, all, front)) (omega (arith, front, all, c.loop-there-test.true))
    (c.loop-there.invariant.1 now t others name place all) c.file_read.ensures

pub returns : goal.returns
returns g c now t others name place count =
    let block = c.loop-there.block in
    let all : take c.loop-there.there block ≡ block = take_all c.loop-there.there block c.loop-there-test.false in
    let size : octets_of t ≡ length block = count ∙ sym c.loop-there.auto.block in
    read_all (g.W.World.tells c.args.world.now) (g.W.World.tells c.loop-there.world) now t others block (omega (arith, size))
    (subst (λ (xs : List ℕ). Makes (g.W.World.tells c.args.world.now) (g.W.World.tells c.loop-there.world) (ReadsOn now t others xs)) all (c.loop-there.invariant.1 now t others name place size))
