-- Links beside numbers that rise.
use Rattle.std.proofs.Common.{◌≡◌, ℕ, ◌+◌, ◌<◌, ◌≤◌, ◌==◌, Bool, true, false, All, List, [], ◌∷◌, ◌++◌, length, get_or, set, Option, Some, None, if◌then◌else◌, refl, sym, ◌∙◌, ap, subst}
use Rattle.std.proofs.Common.{zero, suc, arith}
use Rattle.std.specs.List.{remove}
use Rattle.std.proofs.lemmas.List.Sorted.{All-permutation}
use Rattle.idle_sockets.specs.Numbers.{Rise, gone, one, times}
use Rattle.idle_sockets.specs.Links.{AreLinks, Chain, first_of, neighbours, neighbours_of, on_side, unless_none, walk, with_before, with_behind, with_side}
use Rattle.idle_sockets.specs.declared.order.Neighbours.{Neighbours}
use Rattle.idle_sockets.specs.declared.order.Side.{Side}
use Rattle.idle_sockets.proofs.Linking.{Once, Put, Taken, apart, chain_put, chain_same, chain_taken, first_put, first_taken, walked}
use Rattle.idle_sockets.proofs.Ordering.{as_long, as_often, equal, gone_alike, is_equal, is_other, moved_alike, none_yet, once, placed, remove_gone, rise_gone, rise_last, same, times_gone}
use Rattle.idle_sockets.proofs.Ordering.{times_gone_other, times_last}

-- the neighbours of a number that is there
pub neighbours_found : (numbers : List ℕ) (links : List Neighbours) (n place : ℕ) (d : Neighbours) → place < length numbers → length links ≡ length numbers →
    get_or numbers place 0 ≡ n → times n numbers ≤ 1 → neighbours_of numbers links n ≡ get_or links place d
neighbours_found [] links n place d few long is most = absurd (omega (arith, few))
neighbours_found (m ∷ ms) [] n place d few long is most = absurd (omega (arith, long))
neighbours_found (m ∷ ms) (l ∷ ls) n zero d few long is most = ap (λ (b : Bool). if b then l else neighbours_of ms ls n) (is_equal m n is)
neighbours_found (m ∷ ms) (l ∷ ls) n (suc p) d few long is most =
    let behind = placed n ms p (omega (arith, few)) is in
    ap (λ (b : Bool). if b then l else neighbours_of ms ls n) (is_other m n (λ e. let here = ap one (is_equal m n e) in omega (arith, most, behind, here)))
    ∙ neighbours_found ms ls n p d (omega (arith, few)) (omega (arith, long)) is (omega (arith, most))

pub neighbours_missing : (numbers : List ℕ) (links : List Neighbours) (n : ℕ) → times n numbers ≡ 0 → neighbours_of numbers links n ≡ neighbours None None
neighbours_missing [] links n none = refl
neighbours_missing (m ∷ ms) [] n none = refl
neighbours_missing (m ∷ ms) (l ∷ ls) n none =
    ap (λ (b : Bool). if b then l else neighbours_of ms ls n) (is_other m n (λ e. let here = ap one (is_equal m n e) in omega (arith, none, here))) ∙ neighbours_missing ms ls n (omega (arith, none))

-- another was put in its place
pub neighbours_set : (numbers : List ℕ) (links : List Neighbours) (n place : ℕ) (x : Neighbours) → place < length numbers → length links ≡ length numbers →
    get_or numbers place 0 ≡ n → times n numbers ≤ 1
    → (k : ℕ) → neighbours_of numbers (set links place x) k ≡ (if n == k then x else neighbours_of numbers links k)
neighbours_set [] links n place x few long is most k = absurd (omega (arith, few))
neighbours_set (m ∷ ms) [] n place x few long is most k = absurd (omega (arith, long))
neighbours_set (m ∷ ms) (l ∷ ls) n zero x few long is most k = by (m == k) ∙ ap (λ i. if i == k then x else (if m == k then l else neighbours_of ms ls k)) is
  where
    by : (b : Bool) → (if b then x else neighbours_of ms ls k) ≡ (if b then x else (if b then l else neighbours_of ms ls k))
    by true = refl
    by false = refl
neighbours_set (m ∷ ms) (l ∷ ls) n (suc p) x few long is most k =
    ap (λ (r : Neighbours). if m == k then l else r) (neighbours_set ms ls n p x (omega (arith, few)) (omega (arith, long)) is (omega (arith, most)) k) ∙ by (m == k) (n == k) refl refl
  where
    by : (t u : Bool) → (m == k) ≡ t → (n == k) ≡ u → (if t then l else (if u then x else neighbours_of ms ls k)) ≡ (if u then x else (if t then l else neighbours_of ms ls k))
    by true true a b =
        let behind = placed n ms p (omega (arith, few)) is in
        let here = ap one (is_equal m n (equal m k a ∙ sym (equal n k b))) in
        absurd (omega (arith, most, behind, here))
    by true false a b = refl
    by false true a b = refl
    by false false a b = refl

pub side_set : (side : Side) (numbers : List ℕ) (links new : List Neighbours) (n place : ℕ) (d : Neighbours) (other : Option ℕ) → place < length numbers → length links ≡ length numbers
    → get_or numbers place 0 ≡ n → times n numbers ≤ 1 → new ≡ set links place (on_side side other (get_or links place d))
    → (k : ℕ) → neighbours_of numbers new k ≡ with_side side (Some n) other k (neighbours_of numbers links k)
side_set side numbers links new n place d other few long is most put k =
    ap (λ (l : List Neighbours). neighbours_of numbers l k) put ∙ neighbours_set numbers links n place _ few long is most k ∙ by (n == k) refl
  where
    by : (b : Bool) → (n == k) ≡ b
        → (if b then on_side side other (get_or links place d) else neighbours_of numbers links k) ≡ (if b then on_side side other (neighbours_of numbers links k) else neighbours_of numbers links k)
    by true this = ap (on_side side other) (sym (neighbours_found numbers links n place d few long is most) ∙ ap (neighbours_of numbers links) (equal n k this))
    by false this = refl

-- a number went out, or came in
pub neighbours_removed : (numbers : List ℕ) (links : List Neighbours) (n place : ℕ) → place < length numbers → length links ≡ length numbers → get_or numbers place 0 ≡ n →
    (k : ℕ) → (n ≡ k → ⊥) → neighbours_of (remove numbers place) (remove links place) k ≡ neighbours_of numbers links k
neighbours_removed [] links n place few long is k other = absurd (omega (arith, few))
neighbours_removed (m ∷ ms) [] n place few long is k other = absurd (omega (arith, long))
neighbours_removed (m ∷ ms) (l ∷ ls) n zero few long is k other = sym (ap (λ (b : Bool). if b then l else neighbours_of ms ls k) (is_other m k (λ e. other (sym is ∙ e))))
neighbours_removed (m ∷ ms) (l ∷ ls) n (suc p) few long is k other = ap (λ (r : Neighbours). if m == k then l else r) (neighbours_removed ms ls n p (omega (arith, few))
    (omega (arith, long)) is k other)

pub neighbours_pushed : (numbers : List ℕ) (links : List Neighbours) (m : ℕ) (x : Neighbours) → length links ≡ length numbers → (k : ℕ) → 0 < times k numbers → neighbours_of
    (numbers ++ (m ∷ [])) (links ++ (x ∷ [])) k ≡ neighbours_of numbers links k
neighbours_pushed [] links m x long k some = absurd (omega (arith, some))
neighbours_pushed (n ∷ ns) [] m x long k some = absurd (omega (arith, long))
neighbours_pushed (n ∷ ns) (l ∷ ls) m x long k some = by (n == k) some (λ more. neighbours_pushed ns ls m x (omega (arith, long)) k more)
  where
    by : (b : Bool) → 0 < one b + times k ns → (0 < times k ns → neighbours_of (ns ++ (m ∷ [])) (ls ++ (x ∷ [])) k ≡ neighbours_of ns ls k) →
        (if b then l else neighbours_of (ns ++ (m ∷ [])) (ls ++ (x ∷ [])) k) ≡ (if b then l else neighbours_of ns ls k)
    by true some more = refl
    by false some more = more (omega (arith, some))

-- the list that is seen
pub order_is : (numbers : List ℕ) (links : List Neighbours) (first last : Option ℕ) (are : AreLinks numbers links first last) → walk (length numbers) (neighbours_of numbers links) first ≡ are.order
order_is numbers links first last are =
    let long = as_long are.order numbers are.same in
    ap (walk (length numbers) (neighbours_of numbers links)) are.begins ∙ walked (neighbours_of numbers links) None are.order last (length numbers) (omega (arith, long)) are.chain

module _ (numbers : List ℕ) (links : List Neighbours) (first last : Option ℕ) (are : AreLinks numbers links first last) where
  pub each_once : Once are.order
  each_once k = let most = once k numbers are.rise in let alike = are.same k in omega (arith, most, alike)

  among : (k : ℕ) → 0 < times k are.order → 0 < times k numbers
  among k some = let alike = are.same k in omega (arith, some, alike)

  module _ (m : ℕ) (there : 0 < times m are.order) (l : Neighbours) (is : l ≡ neighbours_of numbers links m) (taken : List Neighbours)
      (takes : (k : ℕ) → 0 < times k numbers → neighbours_of numbers taken k ≡ with_before l.behind l.before k (with_behind l.before l.behind k (neighbours_of numbers links k))) where
    abbrev of : ℕ → Neighbours
    of = neighbours_of numbers links

    takes_it : Taken of (neighbours_of numbers taken) m numbers
    takes_it = subst (λ (x : Neighbours). (k : ℕ) → 0 < times k numbers → neighbours_of numbers taken k ≡ with_before x.behind x.before k (with_behind x.before x.behind k (of k))) is takes

    chain_out : Chain (neighbours_of numbers taken) None (gone m are.order) (unless_none l.behind l.before last)
    chain_out = subst (λ (x : Neighbours). Chain (neighbours_of numbers taken) None (gone m are.order) (unless_none x.behind x.before last)) (sym is)
        (chain_taken of (neighbours_of numbers taken) m numbers takes_it (λ k. apart of m k None are.order last are.chain each_once tt there) None are.order last are.chain each_once tt there among)

    first_out : unless_none l.before l.behind first ≡ first_of (gone m are.order)
    first_out = ap (λ (x : Neighbours). unless_none x.before x.behind first) is ∙ ap (unless_none (of m).before (of m).behind) are.begins ∙ first_taken of m are.order last are.chain each_once there

    gone_once : Once (gone m are.order)
    gone_once k = by (m == k) refl
      where
        by : (b : Bool) → (m == k) ≡ b → times k (gone m are.order) ≤ 1
        by true this = let none = subst (λ x. times x (gone m are.order) ≡ 0) (equal m k this) (times_gone m are.order) in omega (arith, none)
        by false this = let kept = times_gone_other k m are.order (λ e. others_by this (sym e)) in let most = each_once k in omega (arith, kept, most)
          where
            others_by : (m == k) ≡ false → m ≡ k → ⊥
            others_by no_test e = let yes_test = is_equal m k e in cc

    gone_among : (k : ℕ) → 0 < times k (gone m are.order) → 0 < times k numbers
    gone_among k some = by (m == k) refl
      where
        by : (b : Bool) → (m == k) ≡ b → 0 < times k numbers
        by true this = let none = subst (λ x. times x (gone m are.order) ≡ 0) (equal m k this) (times_gone m are.order) in absurd (omega (arith, none, some))
        by false this = among k (let kept = times_gone_other k m are.order (λ e. others_by this (sym e)) in omega (arith, kept, some))
          where
            others_by : (m == k) ≡ false → m ≡ k → ⊥
            others_by no_test e = let yes_test = is_equal m k e in cc

    -- it went out
    forgotten : (place : ℕ) → place < length numbers → get_or numbers place 0 ≡ m → length taken ≡ length links → (new_numbers : List ℕ) (new : List Neighbours) →
        new_numbers ≡ gone m numbers → new_numbers ≡ remove numbers place → new ≡ remove taken place → length new ≡ length new_numbers
        → AreLinks new_numbers new (unless_none l.before l.behind first) (unless_none l.behind l.before last)
    forgotten place few here long new_numbers new gone_is numbers_is links_is as_many = record {
      order = gone m are.order;
      rise = subst Rise (sym gone_is) (rise_gone m numbers are.rise);
      beside = as_many;
      same = λ k. gone_alike m are.order numbers are.same k ∙ ap (times k) (sym gone_is);
      begins = first_out;
      chain = chain_same (neighbours_of numbers taken) (neighbours_of new_numbers new) None (gone m are.order) (unless_none l.behind l.before last)
          (λ k some. ap (λ (ns : List ℕ). neighbours_of ns new k) numbers_is ∙ ap (λ (ls : List Neighbours). neighbours_of (remove numbers place) ls k) links_is
          ∙ neighbours_removed numbers taken m place few (long ∙ are.beside) here k (λ e. let none = subst (λ x. times x (gone m are.order) ≡ 0) e (times_gone m are.order) in omega
          (arith, none, some)))
          chain_out;
    }

    forgotten_list : (place : ℕ) (few : place < length numbers) (at_it : get_or numbers place 0 ≡ m) (long : length taken ≡ length links) (new_numbers : List ℕ)
        (new : List Neighbours) (gone_is : new_numbers ≡ gone m numbers) (numbers_is : new_numbers ≡ remove numbers place) (links_is : new ≡ remove taken place)
        → length new ≡ length new_numbers → walk (length new_numbers) (neighbours_of new_numbers new) (unless_none l.before l.behind first) ≡ gone m are.order
    unfolding forgotten
    forgotten_list place few at_it long new_numbers new gone_is numbers_is links_is as_many =
        order_is new_numbers new (unless_none l.before l.behind first) (unless_none l.behind l.before last) (forgotten place few at_it long new_numbers new gone_is numbers_is links_is as_many)

    -- it was made the last
    pub made_last : times m are.order ≡ 1 → (new : List Neighbours) → length new ≡ length links → (first_left last_left : Option ℕ) →
        first_left ≡ unless_none l.before l.behind first → last_left ≡ unless_none l.behind l.before last
        → Put (neighbours_of numbers taken) (neighbours_of numbers new) last_left m numbers → AreLinks numbers new (unless_none first_left (Some m) first_left) (Some m)
    made_last one_time new long first_left last_left first_is last_is puts = record {
      order = gone m are.order ++ (m ∷ []);
      rise = are.rise;
      beside = long ∙ are.beside;
      same = λ k. moved_alike m are.order one_time k ∙ are.same k;
      begins = ap (λ (o : Option ℕ). unless_none o (Some m) o) (first_is ∙ first_out) ∙ first_put (gone m are.order) m;
      chain = chain_put (neighbours_of numbers taken) (neighbours_of numbers new) m numbers (among m there) None (gone m are.order) last_left puts
          (subst (λ (o : Option ℕ). Chain (neighbours_of numbers taken) None (gone m are.order) o) (sym last_is) chain_out) gone_once (times_gone m are.order) gone_among;
    }

    pub made_list : times m are.order ≡ 1 → (new : List Neighbours) → length new ≡ length links → (first_left last_left : Option ℕ) →
        first_left ≡ unless_none l.before l.behind first → last_left ≡ unless_none l.behind l.before last
        → Put (neighbours_of numbers taken) (neighbours_of numbers new) last_left m numbers → walk (length numbers) (neighbours_of numbers new)
        (unless_none first_left (Some m) first_left) ≡ gone m are.order ++ (m ∷ [])
    unfolding made_last
    made_list one_time new long first_left last_left first_is last_is puts =
        order_is numbers new (unless_none first_left (Some m) first_left) (Some m) (made_last one_time new long first_left last_left first_is last_is puts)

  -- one came in as the last
  pub came_last : (m : ℕ) → All (λ n. n < m) are.order → (new_numbers : List ℕ) (between new : List Neighbours) → new_numbers ≡ numbers ++ (m ∷ []) → (x : Neighbours) →
      between ≡ links ++ (x ∷ []) → length new ≡ length new_numbers
      → Put (neighbours_of new_numbers between) (neighbours_of new_numbers new) last m new_numbers → AreLinks new_numbers new (unless_none first (Some m) first) (Some m)
  came_last m above new_numbers between new numbers_is x between_is long puts =
      let above_all = All-permutation (λ (n : ℕ). n < m) are.order numbers (as_often are.order numbers are.same) above in
      let as_times : (k : ℕ) → times k new_numbers ≡ times k numbers + one (m == k) = λ k. ap (times k) numbers_is ∙ times_last k m numbers in
      record {
        order = are.order ++ (m ∷ []);
        rise = subst Rise (sym numbers_is) (rise_last m numbers are.rise above_all);
        beside = long;
        same = λ k. times_last k m are.order ∙ ap (λ t. t + one (m == k)) (are.same k) ∙ sym (as_times k);
        begins = ap (λ (o : Option ℕ). unless_none o (Some m) o) are.begins ∙ first_put are.order m;
        chain = chain_put (neighbours_of new_numbers between) (neighbours_of new_numbers new) m new_numbers
            (let here = as_times m in let is = ap one (same m) in omega (arith, here, is)) None are.order last puts
            (chain_same (neighbours_of numbers links) (neighbours_of new_numbers between) None are.order last
            (λ k some. ap (λ (ns : List ℕ). neighbours_of ns between k) numbers_is ∙ ap (λ (ls : List Neighbours). neighbours_of (numbers ++ (m ∷ [])) ls k) between_is
            ∙ neighbours_pushed numbers links m x are.beside k (among k some)) are.chain)
            each_once (none_yet m are.order above) (λ k some. let here = as_times k in let in_it = among k some in omega (arith, here, in_it));
      }

  pub came_list : (m : ℕ) → All (λ n. n < m) are.order → (new_numbers : List ℕ) (between new : List Neighbours) → new_numbers ≡ numbers ++ (m ∷ []) → (x : Neighbours) →
      between ≡ links ++ (x ∷ []) → length new ≡ length new_numbers
      → Put (neighbours_of new_numbers between) (neighbours_of new_numbers new) last m new_numbers → walk (length new_numbers) (neighbours_of new_numbers new)
      (unless_none first (Some m) first) ≡ are.order ++ (m ∷ [])
  unfolding came_last
  came_list m above new_numbers between new numbers_is x between_is long puts =
      order_is new_numbers new (unless_none first (Some m) first) (Some m) (came_last m above new_numbers between new numbers_is x between_is long puts)

-- one of each less
pub both_shorter : (numbers : List ℕ) (links : List Neighbours) (place : ℕ) → length links ≡ length numbers → length (remove links place) ≡ length (remove numbers place)
both_shorter [] [] zero long = refl
both_shorter [] [] (suc p) long = refl
both_shorter [] (l ∷ ls) place long = absurd (omega (arith, long))
both_shorter (n ∷ ns) [] place long = absurd (omega (arith, long))
both_shorter (n ∷ ns) (l ∷ ls) zero long = omega (arith, long)
both_shorter (n ∷ ns) (l ∷ ls) (suc p) long = ap (λ k. suc k) (both_shorter ns ls p (omega (arith, long)))

-- a number goes out that stands at a place
pub goes_out : (numbers : List ℕ) (links : List Neighbours) (first last : Option ℕ) (are : AreLinks numbers links first last) (m place : ℕ) (seen : List ℕ) → seen ≡ numbers →
    place < length seen → get_or seen place 0 ≡ m → (l : Neighbours) → l ≡ neighbours_of numbers links m → (taken : List Neighbours)
    → ((k : ℕ) → 0 < times k numbers → neighbours_of numbers taken k ≡ with_before l.behind l.before k (with_behind l.before l.behind k (neighbours_of numbers links k)))
    → length taken ≡ length links → (new_numbers : List ℕ) (new : List Neighbours) → new_numbers ≡ remove numbers place → new ≡ remove taken place
    → (first_now last_now : Option ℕ) → first_now ≡ unless_none l.before l.behind first → last_now ≡ unless_none l.behind l.before last
    → AreLinks new_numbers new first_now last_now × (walk (length new_numbers) (neighbours_of new_numbers new) first_now ≡ gone m are.order)
goes_out numbers links first last are m place seen same within stands l is taken takes long new_numbers new numbers_is links_is first_now last_now first_is last_is =
    let few = subst (λ (ns : List ℕ). place < length ns) same within in
    let here = subst (λ (ns : List ℕ). get_or ns place 0 ≡ m) same stands in
    let found = placed m numbers place few here in
    let alike = are.same m in
    let there : 0 < times m are.order = omega (arith, found, alike) in
    let gone_is = numbers_is ∙ remove_gone m numbers place few here (once m numbers are.rise) in
    let as_many = ap length links_is ∙ both_shorter numbers taken place (long ∙ are.beside) ∙ sym (ap length numbers_is) in (
      subst (λ (f : Option ℕ). AreLinks new_numbers new f last_now) (sym first_is) (subst (λ (f : Option ℕ). AreLinks new_numbers new (unless_none l.before l.behind first) f) (sym last_is)
          (forgotten numbers links first last are m there l is taken takes place few here long new_numbers new gone_is numbers_is links_is as_many)),
      ap (walk (length new_numbers) (neighbours_of new_numbers new)) first_is
          ∙ forgotten_list numbers links first last are m there l is taken takes place few here long new_numbers new gone_is numbers_is links_is as_many,
    )
