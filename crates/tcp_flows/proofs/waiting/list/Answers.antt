use Rattle.std.proofs.Common.{◌≡◌, ℕ, zero, suc, ◌<◌, ◌≤◌, List, [], ◌∷◌, Some, cond, length, get_or, slice_get, ap, sym, subst, ◌∙◌, arith}
use Rattle.std.specs.Vec.{vec_capacity}
use Rattle.std.specs.Int.{from_bool}
use Rattle.std.specs.List.{insert}
use Rattle.poll_list.specs.Writes.{count_to_write}
use Rattle.poll_list.proofs.Counting.{count_bit, count_inserted, count_one, count_set}
use Rattle.poll_list.specs.declared.Want.{Want}
use Rattle.poll_list.specs.declared.Who.TheVariants.{Tcp}
use Rattle.tcp_flows.specs.Places.{IsPlaceOf, has_at}
use Rattle.tcp_flows.specs.Standing.{with_wants}
use Rattle.tcp_flows.proofs.Placing.{left_so, listed_none, listed_some, put_ok, put_so, replaced, stands, taken_out}
use Rattle.tcp_flows.proofs.waiting.list.Goals as goal

pub returns-in-true-true-clause-items : goal.returns-in-true-true-clause-items
returns-in-true-true-clause-items c =
    let wants = c.args.wants.now.items in
    let n = c.args.number in
    let place = c.place_of-place.result in
    let here = stands place n wants (sym (c.in-true-true.ensures ∙ ap (has_at place n) c.deref-2.ensures.value)) in
    replaced n wants place here.0 _ c.requires.order here.1 here.2 ∙ ap (λ (l : List Want). with_wants n l wants) (sym (listed_some n c.args.waits (sym (c.in-true-true.ensures'))))

pub returns-in-true-false-clause-items : goal.returns-in-true-false-clause-items
returns-in-true-false-clause-items c =
    let wants = c.args.wants.now.items in
    let n = c.args.number in
    let place = c.place_of-place.result in
    let here = stands place n wants (sym (c.in-true-false.ensures ∙ ap (has_at place n) c.deref-2.ensures.value)) in
    c.remove.ensures.items ∙ taken_out n wants place here.0 c.requires.order here.1 here.2 ∙ ap (λ (l : List Want). with_wants n l wants)
    (sym (listed_none n c.args.waits (sym (c.in-true-false.ensures'))))

pub returns-in-false-true-clause-items : goal.returns-in-false-true-clause-items
returns-in-false-true-clause-items c =
    let wants = c.args.wants.now.items in
    let n = c.args.number in
    let place = c.place_of-place.result in
    let put = put_so n place (vec_capacity c.args.wants.now) c.args.waits wants _ c.deref.ensures.value c.place_of-place.ensures.place c.place_of-place.ensures.bound
    (sym (c.in-false-true.ensures ∙ ap (has_at place n) c.deref-2.ensures.value)) (sym (c.in-false-true.ensures')) c.requires.room in
    put_ok c.insert.result _ _ _ (c.insert.ensures.succeeds (omega (arith, put.fits, c.args.wants.now.ok.0))) c.insert.ensures.items ∙ put.is

pub returns-in-false-false-clause-items : goal.returns-in-false-false-clause-items
returns-in-false-false-clause-items c =
    let wants = c.args.wants.now.items in
    let n = c.args.number in
    let place = c.place_of-place.result in
    let stood = subst (λ (l : List Want). IsPlaceOf n l place) c.deref.ensures.value c.place_of-place.ensures.place in
    let bound = subst (λ (l : List Want). place ≤ length l) c.deref.ensures.value c.place_of-place.ensures.bound in
    let none = sym (c.in-false-false.ensures ∙ ap (has_at place n) c.deref-2.ensures.value) in
    left_so n wants place bound stood none ∙ ap (λ (l : List Want). with_wants n l wants) (sym (listed_none n c.args.waits (sym (c.in-false-false.ensures'))))

-- ---- the count

below_len : (xs : List Want) (i : ℕ) (w : Want) → slice_get xs i ≡ Some w → i < length xs
below_len [] i w is = absurd cc
below_len (x ∷ xs) zero w is = omega arith
below_len (x ∷ xs) (suc i) w is = omega (arith, below_len xs i w is)

pub index_mut-requires : goal.index_mut-requires
index_mut-requires c =
    let wants = c.args.wants.now.items in
    let place = c.place_of-place.result in
    let here = stands place c.args.number wants (sym (c.in-true-true.ensures ∙ ap (has_at place c.args.number) c.deref-2.ensures.value)) in
    omega (arith, below_len wants place here.0 here.1, c.args.wants.now.ok.0)

pub index-requires-in-true-false : goal.index-requires-in-true-false
index-requires-in-true-false c =
    let wants = c.args.wants.now.items in
    let place = c.place_of-place.result in
    let here = stands place c.args.number wants (sym (c.in-true-false.ensures ∙ ap (has_at place c.args.number) c.deref-2.ensures.value)) in
    omega (arith, below_len wants place here.0 here.1, c.args.wants.now.ok.0)

pub remove-requires : goal.remove-requires
remove-requires c =
    let wants = c.args.wants.now.items in
    let place = c.place_of-place.result in
    let here = stands place c.args.number wants (sym (c.in-true-false.ensures ∙ ap (has_at place c.args.number) c.deref-2.ensures.value)) in
    omega (arith, below_len wants place here.0 here.1, c.args.wants.now.ok.0)

-- what was read of the want at a place
one_read : (wants : List Want) (i : ℕ) (x : Want) (n : ℕ) → x ≡ get_or wants i x → n ≡ from_bool x.write → n ≡ cond {A = ℕ} (get_or wants i x).write 1 0
one_read wants i x n at is = is ∙ count_bit x.write ∙ ap (λ (w : Want). cond {A = ℕ} w.write 1 0) at

pub overflow_sub-writes : goal.overflow_sub-writes
overflow_sub-writes c =
    let wants = c.args.wants.now.items in
    let place = c.place_of-place.result in
    let here = stands place c.args.number wants (sym (c.in-true-true.ensures ∙ ap (has_at place c.args.number) c.deref-2.ensures.value)) in
    let below = below_len wants place here.0 here.1 in
    let one = one_read wants place c.index.result.now c.from.result c.index.ensures c.from.ensures in
    omega (arith, one, count_one wants place c.index.result.now below, c.requires.counted)

pub overflow_sub-writes-in-true-false : goal.overflow_sub-writes-in-true-false
overflow_sub-writes-in-true-false c =
    let wants = c.args.wants.now.items in
    let place = c.place_of-place.result in
    let here = stands place c.args.number wants (sym (c.in-true-false.ensures ∙ ap (has_at place c.args.number) c.deref-2.ensures.value)) in
    let below = below_len wants place here.0 here.1 in
    let one = one_read wants place c.index-in-true-false.result.now c.from-in-true-false.result c.index-in-true-false.ensures c.from-in-true-false.ensures in
    omega (arith, one, count_one wants place c.index-in-true-false.result.now below, c.requires.counted)

pub returns-in-true-true-clause-counted : goal.returns-in-true-true-clause-counted
returns-in-true-true-clause-counted c =
    let wants = c.args.wants.now.items in
    let place = c.place_of-place.result in
    let here = stands place c.args.number wants (sym (c.in-true-true.ensures ∙ ap (has_at place c.args.number) c.deref-2.ensures.value)) in
    let below = below_len wants place here.0 here.1 in
    let x : Want = record { of = Tcp c.args.number; read = c.args.waits.read; write = c.args.waits.write } in
    let one = one_read wants place c.index.result.now c.from.result c.index.ensures c.from.ensures in
    let other = c.from-in-true-true.ensures ∙ count_bit c.args.waits.write in
    omega (arith, one, other, count_one wants place c.index.result.now below, count_set wants place x c.index.result.now below, c.requires.counted)

pub returns-in-false-true-clause-counted : goal.returns-in-false-true-clause-counted
returns-in-false-true-clause-counted c =
    let wants = c.args.wants.now.items in
    let n = c.args.number in
    let place = c.place_of-place.result in
    let put = put_so n place (vec_capacity c.args.wants.now) c.args.waits wants _ c.deref.ensures.value c.place_of-place.ensures.place c.place_of-place.ensures.bound
    (sym (c.in-false-true.ensures ∙ ap (has_at place n) c.deref-2.ensures.value)) (sym (c.in-false-true.ensures')) c.requires.room in
    let x : Want = record { of = Tcp n; read = c.args.waits.read; write = c.args.waits.write } in
    let done : c.insert.new.self.items ≡ insert wants place x = put_ok c.insert.result _ _ _ (c.insert.ensures.succeeds (omega (arith, put.fits, c.args.wants.now.ok.0))) c.insert.ensures.items in
    let count : count_to_write c.insert.new.self.items ≡ count_to_write (insert wants place x) = ap (λ (l : List Want). count_to_write l) done in
    let other = c.from-in-false-true.ensures ∙ count_bit c.args.waits.write in
    omega (arith, count, other, count_inserted wants place x, c.requires.counted)
