use Rattle.std.proofs.Common.{◌≡◌, List, ℕ, Some, false, length, length-append, arith, ◌++◌, ◌∷◌, [], set, refl, sym, ap, ◌∙◌, subst}
use Rattle.std.specs.Prelude.{slice_get}
use Rattle.std.proofs.lemmas.Option.{same_Some}
use Rattle.ipv4_head.specs.Sets.{part_of}
use Rattle.ipv4_reasm.specs.Areas.{Gathered, after_part, begun, does_clash, is_full, key_by, with_kept}
use Rattle.ipv4_reasm.specs.Answers.{answer_of}
use Rattle.ipv4_reasm.proofs.Answering.{area_of, begun_free, get_last}
use Rattle.ipv4_reasm.proofs.reasm.Reasm.start.Goals as goal

-- the last of a list
abbrev last_at : (list before : List Gathered) (g : Gathered) (i : ℕ) → list ≡ before ++ g ∷ [] → i ≡ length before → slice_get list i ≡ Some g
last_at list before g i is at = ap (λ (l : List Gathered). slice_get l i) is ∙ ap (slice_get (before ++ g ∷ [])) at ∙ get_last before g

set_last : (xs : List Gathered) (y z : Gathered) → set (xs ++ y ∷ []) (length xs) z ≡ xs ++ z ∷ []
set_last [] y z = refl
set_last (x ∷ xs) y z = ap (λ (l : List Gathered). x ∷ l) (set_last xs y z)

pub put-whole-requires-clause-free : goal.put-whole-requires-clause-free
put-whole-requires-clause-free c = λ g at.
    let b = c.begin-i.ensures.begun in
    let area = begun (key_by c.args.key) c.args.now b.0 in
    let is : area ≡ g = same_Some area g (sym (last_at c.begin-i.new.self c.make_room.new.self area c.begin-i.result b.1.0 c.begin-i.ensures.last) ∙ at) in
    subst (λ (x : Gathered). does_clash x (part_of c.args.part.now) ≡ false) is (begun_free (key_by c.args.key) c.args.now b.0 (part_of c.args.part.now))

pub returns-clause-began : goal.returns-clause-began
returns-clause-began c =
    let b = c.begin-i.ensures.begun in
    let p = part_of c.args.part.now in
    let area = begun (key_by c.args.key) c.args.now b.0 in
    let at = last_at c.begin-i.new.self c.make_room.new.self area c.begin-i.result b.1.0 c.begin-i.ensures.last in (
      b.0,
      (
        b.1.1,
        c.put-whole.ensures.put area at ∙ ap (λ (l : List Gathered). set l c.begin-i.result (after_part area p)) b.1.0 ∙ ap (λ n. set (c.make_room.new.self ++ area ∷ []) n
            (after_part area p)) c.begin-i.ensures.last
            ∙ set_last c.make_room.new.self area (after_part area p) ∙ ap (λ (l : List Gathered). l ++ after_part area p ∷ []) c.make_room.ensures.room,
        c.answer_of.ensures ∙ ap (answer_of c.begin-i.result) (c.put-whole.ensures.whole area at) ∙ ap (λ n. answer_of n (is_full (with_kept area p)))
            (c.begin-i.ensures.last ∙ ap length c.make_room.ensures.room),
      ),
    )

pub returns-clause-within : goal.returns-clause-within
returns-clause-within c = λ area is.
    let at = area_of c.begin-i.result area c.put-whole.result (sym c.answer_of.ensures ∙ is) in
    let count = c.put-whole.ensures.count in
    let last = c.begin-i.ensures.last in
    let b = c.begin-i.ensures.begun in
    let size = ap length b.1.0 ∙ length-append c.make_room.new.self (begun (key_by c.args.key) c.args.now b.0 ∷ []) in
    omega arith
