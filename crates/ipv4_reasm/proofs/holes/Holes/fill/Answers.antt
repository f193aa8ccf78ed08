use Rattle.std.proofs.Common.{◌≡◌, ◌+◌, ◌≤◌, ◌++◌, List, ℕ, Option, None, Some, length, take, drop, get_or, ltb, cond, suc, true, sym, ap, ◌∙◌, arith, subst, add-one}
use Rattle.std.specs.List.{position, position_or_len}
use Rattle.std.proofs.lemmas.Bool.{lt-ltb, ltb-true}
use Rattle.std.proofs.lemmas.Option.{cond_some}
use Rattle.ipv4_head.specs.Sets.{Part, part_of}
use Rattle.ipv4_head.specs.declared.holes.Hole.{Hole}
use Rattle.ipv4_head.specs.Holes.{left_before, left_behind, lies_in, unit_end}
use Rattle.ipv4_reasm.specs.Holes.{Rise, filled, has_hole, listed}
use Rattle.ipv4_reasm.proofs.Holing.{few_holes, fill_rise, filled_at, has_place}
use Rattle.ipv4_reasm.proofs.holes.Holes.fill.Goals as goal

-- the hole that was found is replaced by what is left of it
is_filled : (p : Part) (row new : List Hole) (i : ℕ) (h : Hole) (before behind : Option Hole) → position (lies_in p) row ≡ Some i → h ≡ get_or row i h → before ≡ left_before p h →
    behind ≡ left_behind p h
    → new ≡ take i row ++ (listed before ++ (listed behind ++ drop (i + 1) row)) → new ≡ filled p row
is_filled p row new i h before behind found at is as_well replaced =
    let place = position_or_len (lies_in p) row in
    let told = cond_some (ltb place (length row)) place i found in
    let less = ltb-true place (length row) told.0 in
    let same = told.1 in
    replaced
    ∙ ap (λ (o : Option Hole). take i row ++ (listed o ++ (listed behind ++ drop (i + 1) row))) is
    ∙ ap (λ (o : Option Hole). take i row ++ (listed (left_before p h) ++ (listed o ++ drop (i + 1) row))) as_well
    ∙ ap (λ n. take i row ++ (listed (left_before p h) ++ (listed (left_behind p h) ++ drop n row))) (add-one i)
    ∙ ap (λ (x : Hole). take i row ++ (listed (left_before p x) ++ (listed (left_behind p x) ++ drop (suc i) row))) at
    ∙ sym (filled_at p row i h told.1 (omega arith))

none_found : (p : Part) (row : List Hole) → has_hole p row ≡ true → position (lies_in p) row ≡ None → ⊥
none_found p row has none =
    let place = position_or_len (lies_in p) row in
    cc (sym none ∙ ap (λ b. cond b (Some place) None) (lt-ltb place (length row) (has_place p row has)))

pub replace-requires-clause-room : goal.replace-requires-clause-room
replace-requires-clause-room c =
    let few = few_holes c.self.inside.row.items c.self.invariant.rise in
    let fits = c.self.invariant.fits in
    omega arith

pub invariant_of-self : goal.invariant_of-self
invariant_of-self c =
    let p = part_of c.args.v.now in
    let row = c.self.inside.row.items in
    let found : position (lies_in p) row ≡ Some c.in-Some.i = ap (position (lies_in p)) (sym c.deref.ensures.value) ∙ sym c.place_of.ensures ∙ c.in-Some.is in
    let same = is_filled p row c.replace.new.row.items c.in-Some.i c.index.result.now c.before-in-Some.result c.behind.result found c.index.ensures c.before-in-Some.ensures
    c.behind.ensures c.replace.ensures.items in
    let end = c.requires.end in
    let small : unit_end p ≤ 8190 = omega arith in
    record {
      rise = subst (Rise 0) (sym same) (fill_rise 0 p row c.requires.some small c.self.invariant.rise);
      fits = let room = c.replace.ensures.room in let fits = c.self.invariant.fits in omega arith;
    }

pub returns-in-Some : goal.returns-in-Some
returns-in-Some c =
    let p = part_of c.args.v.now in
    let row = c.self.inside.row.items in
    let found : position (lies_in p) row ≡ Some c.in-Some.i = ap (position (lies_in p)) (sym c.deref.ensures.value) ∙ sym c.place_of.ensures ∙ c.in-Some.is in
    is_filled p row c.replace.new.row.items c.in-Some.i c.index.result.now c.before-in-Some.result c.behind.result found c.index.ensures c.before-in-Some.ensures c.behind.ensures
    c.replace.ensures.items
    ∙ ap (filled p) c.self.view_is

pub returns-in_default : goal.returns-in_default
returns-in_default c =
    let p = part_of c.args.v.now in
    let row = c.self.inside.row.items in
    absurd (none_found p row (subst (λ (l : List Hole). has_hole p l ≡ true) (sym c.self.view_is) c.requires.hole) (ap (position (lies_in p)) (sym c.deref.ensures.value)
    ∙ sym c.place_of.ensures ∙ c.in_default.is))
