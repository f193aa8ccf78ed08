use Rattle.std.proofs.Common.{◌≡◌, ℕ, ◌+◌, ◌<◌, List, [], ◌∷◌, ◌++◌, length, take, get_or, add-one, sym, ◌∙◌, ap, arith}
use Rattle.std.proofs.Math.Seq.{take-suc}
use Rattle.poll_list.specs.declared.Want.{Want}
use Rattle.replay.proofs.allowing.same_wants.Goals as goal

one_more : (a b : List Want) (i : ℕ) (d : Want) → i < length a → i < length b → get_or a i d ≡ get_or b i d → take i a ≡ take i b → take (i + 1) a ≡ take (i + 1) b
one_more a b i d la lb here so_far = rw add-one (take-suc a i d la) ∙ ap (λ t. t ++ get_or a i d ∷ []) so_far ∙ ap (λ w. take i b ++ w ∷ []) here ∙ sym (rw add-one (take-suc b i d lb))

pub loop-i-preserved : goal.loop-i-preserved
loop-i-preserved c = one_more _ _ _ _ c.loop-i-test.true (omega (arith, c.loop-i-test.true, c.if-a-b.false)) (c.same_want.ensures.0 c.if-not-same_want.false) c.loop-i.invariant
