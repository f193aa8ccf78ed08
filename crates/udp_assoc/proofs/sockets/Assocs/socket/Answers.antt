use Rattle.std.proofs.Common.{◌≡◌, ℕ, nat_lt, List, length, slice_get, get_or, Option, Some, None, is_some, IfSome, Bor, refl, sym, ◌∙◌, ap, subst, arith}
use Rattle.std.proofs.lemmas.Bool.Decides.{nat_tests}
use Rattle.std.proofs.lemmas.Option.{slice_get_past, slice_get_read}
use Rattle.std.specs.List.Sorted.{IsPermutation}
use Rattle.std.specs.Option.{option_copied}
use Rattle.rules_udp.specs.Associations.{numbers}
use Rattle.udp_assoc.specs.State.{AssocsState}
use Rattle.udp_assoc.proofs.Keeping.{numbers_are}
use Rattle.udp_assoc.proofs.sockets.Assocs.socket.Goals as goal

-- the item at a place
item_at : (list : List ℕ) (k : ℕ) (found : Option (Bor ℕ)) → is_some found ≡ nat_lt k (length list) → IfSome found (λ item. item.now ≡ get_or list k item.now) → option_copied found ≡ slice_get list k
item_at list k None many there = sym (slice_get_past list k (grind (arith, nat_tests, many)))
item_at list k (Some item) few there = sym (slice_get_read list (length list) k item.now refl (grind (arith, nat_tests, few)) there)

pub returns : goal.returns
returns c =
    let rising = c.rising.result.now in
    let found = c.copied.ensures ∙ item_at rising c.args.k c.get.result c.get.ensures.lookup.0 c.get.ensures.lookup.1 in
    let all = subst (λ (l : List ℕ). IsPermutation l rising) (numbers_are c.self.inside.list ∙ ap (λ (s : AssocsState). numbers s.list) c.self.view_is) c.rising.ensures.all in
    (rising, all, c.rising.ensures.rising, found)
