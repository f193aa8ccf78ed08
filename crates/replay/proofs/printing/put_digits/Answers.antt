use Rattle.std.proofs.Common.{[], ◌++◌, refl, sym, ◌∙◌, ap, arith}
use Rattle.std.specs.Result.{is_ok}
use Rattle.world_face.specs.Puts.{added}
use Rattle.hex.specs.Hex.{encode_lower}
use Rattle.replay.proofs.Putting.{piece_more, puts_after, digits_append, no_digits, added_none, regroup, split_whole}
use Rattle.replay.proofs.printing.put_digits.Goals as goal

pub loop-rest-init : goal.loop-rest-init
loop-rest-init g c = record { before = []; is = refl; put = added_none _ ∙ ap (λ t. added t (g.K.Sink.holds c.args.out.now)) (sym no_digits); later = omega arith }

pub loop-rest-preserved : goal.loop-rest-preserved
loop-rest-preserved g c =
    let so_far = c.loop-rest.invariant in
    let chunk = c.split_at.result.0.now in
    let after = c.split_at.result.1.now in
    record {
      before = so_far.before ++ chunk;
      is = regroup c.args.octets.now so_far.before c.loop-rest.rest.now chunk after so_far.is (split_whole 512 c.loop-rest.rest.now chunk after c.split_at.ensures.front c.split_at.ensures.back);
      put = piece_more _ _ _ (encode_lower so_far.before) (encode_lower chunk) _ so_far.put (c.put_chunk.ensures.ok (ap is_ok c.in_ok-put_chunk.was)) (digits_append so_far.before chunk);
      later = omega (arith, so_far.later, c.put_chunk.ensures.later);
    }

pub returns : goal.returns
returns g c =
    let so_far = c.loop-rest.invariant in
    puts_after _ _ _ _ _ _ (encode_lower so_far.before) (encode_lower c.loop-rest.rest.now) _ c.put_chunk-2.result so_far.put so_far.later c.put_chunk-2.ensures
    (digits_append so_far.before c.loop-rest.rest.now ∙ ap encode_lower (sym so_far.is))
