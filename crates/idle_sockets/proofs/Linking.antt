-- Links that go on to stand in the order of use.
use Rattle.std.proofs.Common.{◌≡◌, ℕ, ◌+◌, ◌<◌, ◌≤◌, ◌==◌, not, Bool, true, false, List, [], ◌∷◌, ◌++◌, length, Option, Some, None, if◌then◌else◌, refl, sym, ◌∙◌, ap, subst, zero, suc, arith}
use Rattle.idle_sockets.specs.Numbers.{gone, one, times}
use Rattle.idle_sockets.specs.Links.{Chain, first_of, neighbours, unless_none, walk, with_before, with_behind, with_neighbours}
use Rattle.idle_sockets.specs.declared.order.Neighbours.{Neighbours}
use Rattle.idle_sockets.proofs.Ordering.{equal, gone_none, is_equal, is_other, same}

-- a number stands in a list where it is its first, or among the rest
here : (n : ℕ) (ns : List ℕ) → 0 < times n (n ∷ ns)
here n ns = let is = ap one (same n) in omega (arith, is)

behind_it : (k n : ℕ) (ns : List ℕ) → 0 < times k ns → 0 < times k (n ∷ ns)
behind_it k n ns some = omega (arith, some)

rest_without : (k n : ℕ) (ns : List ℕ) → times k (n ∷ ns) ≡ 0 → times k ns ≡ 0
rest_without k n ns none = omega (arith, none)

differs : (k n : ℕ) (ns : List ℕ) → times k (n ∷ ns) ≡ 0 → n ≡ k → ⊥
differs k n ns none is = let h = subst (λ m. 0 < times m (n ∷ ns)) is (here n ns) in omega (arith, none, h)

abbrev pub Once : List ℕ → Type 0
Once ns = (k : ℕ) → times k ns ≤ 1

pub once_rest : (n : ℕ) (ns : List ℕ) → Once (n ∷ ns) → Once ns
once_rest n ns all k = let most = all k in omega (arith, most)

once_first : (n : ℕ) (ns : List ℕ) → Once (n ∷ ns) → times n ns ≡ 0
once_first n ns all = let most = all n in let is = ap one (same n) in omega (arith, most, is)

-- the one before a list isn't in it
abbrev pub Outside : Option ℕ → List ℕ → Type 0
Outside None ns = Unit {0}
Outside (Some k) ns = times k ns ≡ 0

outside_rest : (before : Option ℕ) (n : ℕ) (ns : List ℕ) → Outside before (n ∷ ns) → Outside before ns
outside_rest None n ns out = tt
outside_rest (Some k) n ns out = rest_without k n ns out

is_outside : (before : Option ℕ) (k : ℕ) (ns : List ℕ) → Outside before ns → 0 < times k ns → before ≡ Some k → ⊥
is_outside None k ns out some is = cc
is_outside (Some b) k ns out some is = let same_one : b ≡ k = cc in let none = subst (λ m. times m ns ≡ 0) same_one out in omega (arith, none, some)

-- where the links of the numbers are the same
pub chain_same : (of new : ℕ → Neighbours) (before : Option ℕ) (ns : List ℕ) (last : Option ℕ) → ((k : ℕ) → 0 < times k ns → new k ≡ of k) → Chain of before ns last → Chain new before ns last
chain_same of new before [] last alike chain = chain
chain_same of new before (n ∷ ns) last alike chain = (alike n (here n ns) ∙ chain.0, chain_same of new (Some n) ns last (λ k some. alike k (behind_it k n ns some)) chain.1)

-- what is walked is what is linked
pub walked : (of : ℕ → Neighbours) (before : Option ℕ) (ns : List ℕ) (last : Option ℕ) (most : ℕ) → length ns ≤ most → Chain of before ns last → walk most of (first_of ns) ≡ ns
walked of before [] last zero few chain = refl
walked of before [] last (suc most) few chain = refl
walked of before (n ∷ ns) last zero few chain = absurd (omega (arith, few))
walked of before (n ∷ ns) last (suc most) few chain =
    ap (λ (l : Neighbours). n ∷ walk most of l.behind) chain.0 ∙ ap (λ (rest : List ℕ). n ∷ rest) (walked of (Some n) ns last most (omega (arith, few)) chain.1)

-- the neighbours of a number in a list aren't numbers that stand neither in it nor before it
before_not : (of : ℕ → Neighbours) (x m : ℕ) (before : Option ℕ) (ns : List ℕ) (last : Option ℕ) → Chain of before ns last → 0 < times m ns → (before ≡ Some x → ⊥) →
    times x ns ≡ 0 → (of m).before ≡ Some x → ⊥
before_not of x m before [] last chain some out none is = omega (arith, some)
before_not of x m before (n ∷ ns) last chain some out none is =
    by (n == m) refl some (λ more. before_not of x m (Some n) ns last chain.1 more (λ e. let one_is : n ≡ x = cc in differs x n ns none one_is) (rest_without x n ns none) is)
  where
    by : (b : Bool) → (n == m) ≡ b → 0 < one b + times m ns → (0 < times m ns → ⊥) → ⊥
    by true this some more = out (sym (ap (λ (l : Neighbours). l.before) (ap of (sym (equal n m this)) ∙ chain.0)) ∙ is)
    by false this some more = more (omega (arith, some))

behind_not : (of : ℕ → Neighbours) (x m : ℕ) (before : Option ℕ) (ns : List ℕ) (last : Option ℕ) → Chain of before ns last → 0 < times m ns → times x ns ≡ 0 → (of m).behind ≡ Some x → ⊥
behind_not of x m before [] last chain some none is = omega (arith, some)
behind_not of x m before (n ∷ ns) last chain some none is = by (n == m) refl some (λ more. behind_not of x m (Some n) ns last chain.1 more (rest_without x n ns none) is)
  where
    first_not : (rest : List ℕ) → times x rest ≡ 0 → first_of rest ≡ Some x → ⊥
    first_not [] none is = cc
    first_not (r ∷ rest) none is = differs x r rest none cc

    by : (b : Bool) → (n == m) ≡ b → 0 < one b + times m ns → (0 < times m ns → ⊥) → ⊥
    by true this some more = first_not ns (rest_without x n ns none) (sym (ap (λ (l : Neighbours). l.behind) (ap of (sym (equal n m this)) ∙ chain.0)) ∙ is)
    by false this some more = more (omega (arith, some))

-- the last isn't a number that stands neither in the list nor before it
last_not : (of : ℕ → Neighbours) (x : ℕ) (before : Option ℕ) (ns : List ℕ) (last : Option ℕ) → Chain of before ns last → (before ≡ Some x → ⊥) → times x ns ≡ 0 → last ≡ Some x → ⊥
last_not of x before [] last chain out none is = out (sym chain ∙ is)
last_not of x before (n ∷ ns) last chain out none is = last_not of x (Some n) ns last chain.1 (λ e. let one_is : n ≡ x = cc in differs x n ns none one_is) (rest_without x n ns none) is

-- those of a list are among others
abbrev pub Among : List ℕ → List ℕ → Type 0
Among ns all = (k : ℕ) → 0 < times k ns → 0 < times k all

among_rest : (n : ℕ) (ns all : List ℕ) → Among (n ∷ ns) all → Among ns all
among_rest n ns all sub k some = sub k (behind_it k n ns some)

-- the neighbours of a number differ
pub apart : (of : ℕ → Neighbours) (m k : ℕ) (before : Option ℕ) (ns : List ℕ) (last : Option ℕ) → Chain of before ns last → Once ns → Outside before ns → 0 < times m ns →
    (of m).before ≡ Some k → (of m).behind ≡ Some k → ⊥
apart of m k before [] last chain once out some left right = omega (arith, some)
apart of m k before (n ∷ ns) last chain once out some left right = by (n == m) refl some (λ more. apart of m k (Some n) ns last chain.1 (once_rest n ns once) (once_first n ns once) more left right)
  where
    first_in : (rest : List ℕ) → first_of rest ≡ Some k → 0 < times k rest
    first_in [] is = cc
    first_in (r ∷ rest) is = let one_is : r ≡ k = cc in subst (λ x. 0 < times x (r ∷ rest)) one_is (here r rest)

    by : (b : Bool) → (n == m) ≡ b → 0 < one b + times m ns → (0 < times m ns → ⊥) → ⊥
    by true this some more =
        let fm : of m ≡ neighbours before (first_of ns) = ap of (sym (equal n m this)) ∙ chain.0 in
        is_outside before k (n ∷ ns) out (behind_it k n ns (first_in ns (sym (ap (λ (l : Neighbours). l.behind) fm) ∙ right))) (sym (ap (λ (l : Neighbours). l.before) fm) ∙ left)
    by false this some more = more (omega (arith, some))

-- where the neighbours of a number were linked to each other
abbrev pub Taken : (ℕ → Neighbours) → (ℕ → Neighbours) → ℕ → List ℕ → Type 0
Taken of new m all = (k : ℕ) → 0 < times k all → new k ≡ with_before (of m).behind (of m).before k (with_behind (of m).before (of m).behind k (of k))

hits : (o x : Option ℕ) (k : ℕ) (l : Neighbours) → o ≡ Some k → with_behind o x k l ≡ neighbours l.before x
hits None x k l is = cc
hits (Some n) x k l is = let this : n ≡ k = cc in ap (λ (b : Bool). if b then neighbours l.before x else l) (is_equal n k this)

misses : (o x : Option ℕ) (k : ℕ) (l : Neighbours) → (o ≡ Some k → ⊥) → with_behind o x k l ≡ l
misses None x k l is = refl
misses (Some n) x k l is = ap (λ (b : Bool). if b then neighbours l.before x else l) (is_other n k (λ e. is (ap (λ i. Some i) e)))

hits_before : (o x : Option ℕ) (k : ℕ) (l : Neighbours) → o ≡ Some k → with_before o x k l ≡ neighbours x l.behind
hits_before None x k l is = cc
hits_before (Some n) x k l is = let this : n ≡ k = cc in ap (λ (b : Bool). if b then neighbours x l.behind else l) (is_equal n k this)

misses_before : (o x : Option ℕ) (k : ℕ) (l : Neighbours) → (o ≡ Some k → ⊥) → with_before o x k l ≡ l
misses_before None x k l is = refl
misses_before (Some n) x k l is = ap (λ (b : Bool). if b then neighbours x l.behind else l) (is_other n k (λ e. is (ap (λ i. Some i) e)))

module _ (of new : ℕ → Neighbours) (m : ℕ) (all : List ℕ) (taken : Taken of new m all) (differ : (k : ℕ) → (of m).before ≡ Some k → (of m).behind ≡ Some k → ⊥) where
  at_others : (k : ℕ) → 0 < times k all → ((of m).before ≡ Some k → ⊥) → ((of m).behind ≡ Some k → ⊥) → new k ≡ of k
  at_others k some no_left no_right = taken k some ∙ misses_before (of m).behind (of m).before k _ no_right ∙ misses (of m).before (of m).behind k (of k) no_left

  at_left : (k : ℕ) → 0 < times k all → (of m).before ≡ Some k → new k ≡ neighbours (of k).before (of m).behind
  at_left k some is = taken k some ∙ misses_before (of m).behind (of m).before k _ (λ e. differ k is e) ∙ hits (of m).before (of m).behind k (of k) is

  at_right : (k : ℕ) → 0 < times k all → (of m).behind ≡ Some k → new k ≡ neighbours (of m).before (of k).behind
  at_right k some is = taken k some ∙ hits_before (of m).behind (of m).before k _ is ∙ ap (λ (l : Neighbours). neighbours (of m).before l.behind)
      (misses (of m).before (of m).behind k (of k) (λ e. differ k e is))

  -- it was the first of the list
  from_first : (before : Option ℕ) (ns : List ℕ) (last : Option ℕ) → of m ≡ neighbours before (first_of ns) → Chain of (Some m) ns last → Once (m ∷ ns) → Outside before (m ∷ ns) →
      Among ns all → Chain new before ns (unless_none (first_of ns) before last)
  from_first before [] last is chain once out sub = refl
  from_first before (r ∷ rest) last is chain once out sub =
      let behind : (of m).behind ≡ Some r = ap (λ (l : Neighbours). l.behind) is in
      let front : (of m).before ≡ before = ap (λ (l : Neighbours). l.before) is in
      let none = once_first r rest (once_rest m (r ∷ rest) once) in (
        at_right r (sub r (here r rest)) behind ∙ ap (λ (b : Option ℕ). neighbours b (of r).behind) front ∙ ap (λ (l : Neighbours). neighbours before l.behind) chain.0,
        chain_same of new (Some r) rest last (λ k some. at_others k (sub k (behind_it k r rest some))
            (λ e. is_outside before k (m ∷ r ∷ rest) out (behind_it k m (r ∷ rest) (behind_it k r rest some)) (sym front ∙ e))
            (λ e. let this : Some r ≡ Some k = sym behind ∙ e in let one_is : r ≡ k = cc in let no_more = subst (λ x. times x rest ≡ 0) one_is none in omega (arith, some, no_more))) chain.1,
      )

  first_left : (before : Option ℕ) (n : ℕ) (ns : List ℕ) (last : Option ℕ) → of n ≡ neighbours before (first_of ns) → Chain of (Some n) ns last → times n ns ≡ 0 → 0 < times m ns →
      Once ns → 0 < times n all → new n ≡ neighbours before (first_of (gone m ns))
  first_left before n [] last is chain none some once in_all = absurd (omega (arith, some))
  first_left before n (r ∷ rest) last is chain none some once in_all = by (r == m) refl some
    where
      by : (b : Bool) → (r == m) ≡ b → 0 < one b + times m rest → new n ≡ neighbours before (first_of (if not b then r ∷ gone m rest else gone m rest))
      by true this some =
          let fm : of m ≡ neighbours (Some n) (first_of rest) = ap of (sym (equal r m this)) ∙ chain.0 in
          let out_of = subst (λ x. times x rest ≡ 0) (equal r m this) (once_first r rest once) in
          at_left n in_all (ap (λ (l : Neighbours). l.before) fm) ∙ ap (λ (l : Neighbours). neighbours l.before (of m).behind) is ∙ ap
          (λ (l : Neighbours). neighbours before l.behind) fm ∙ ap (λ (l : List ℕ). neighbours before (first_of l)) (sym (gone_none m rest out_of))
      by false this some =
          at_others n in_all
          (before_not of n m (Some r) rest last chain.1 (omega (arith, some)) (λ e. let one_is : r ≡ n = cc in differs n r rest none one_is) (rest_without n r rest none))
          (behind_not of n m (Some n) (r ∷ rest) last chain (behind_it m r rest (omega (arith, some))) none)
          ∙ is

  pub chain_taken : (before : Option ℕ) (ns : List ℕ) (last : Option ℕ) → Chain of before ns last → Once ns → Outside before ns → 0 < times m ns → Among ns all → Chain new before
      (gone m ns) (unless_none (of m).behind (of m).before last)
  chain_taken before [] last chain once out some sub = absurd (omega (arith, some))
  chain_taken before (n ∷ ns) last chain once out some sub = by (n == m) refl some (λ more. chain_taken (Some n) ns last chain.1 (once_rest n ns once) (once_first n ns once) more
      (among_rest n ns all sub))
    where
      by : (b : Bool) → (n == m) ≡ b → 0 < one b + times m ns → (0 < times m ns → Chain new (Some n) (gone m ns) (unless_none (of m).behind (of m).before last)) → Chain new before
          (if not b then n ∷ gone m ns else gone m ns) (unless_none (of m).behind (of m).before last)
      by true this some more =
          let is = equal n m this in
          let fm : of m ≡ neighbours before (first_of ns) = ap of (sym is) ∙ chain.0 in
          let none = subst (λ x. times x ns ≡ 0) is (once_first n ns once) in
          subst (λ (l : List ℕ). Chain new before l (unless_none (of m).behind (of m).before last)) (sym (gone_none m ns none))
          (subst (λ (l : Neighbours). Chain new before ns (unless_none l.behind l.before last)) (sym fm)
          (from_first before ns last fm (subst (λ x. Chain of (Some x) ns last) is chain.1) (subst (λ x. Once (x ∷ ns)) is once) (subst (λ x. Outside before (x ∷ ns)) is out)
          (among_rest n ns all sub)))
      by false this some more = (first_left before n ns last chain.0 chain.1 (once_first n ns once) (omega (arith, some)) (once_rest n ns once) (sub n (here n ns)), more (omega (arith, some)))

-- who is first then
before_some : (of : ℕ → Neighbours) (m x : ℕ) (ns : List ℕ) (last : Option ℕ) → Chain of (Some x) ns last → 0 < times m ns → (a b : Option ℕ) → unless_none (of m).before a b ≡ b
before_some of m x [] last chain some a b = absurd (omega (arith, some))
before_some of m x (n ∷ ns) last chain some a b = by (n == m) refl some (λ more. before_some of m n ns last chain.1 more a b)
  where
    by : (t : Bool) → (n == m) ≡ t → 0 < one t + times m ns → (0 < times m ns → unless_none (of m).before a b ≡ b) → unless_none (of m).before a b ≡ b
    by true this some more = ap (λ (l : Neighbours). unless_none l.before a b) (ap of (sym (equal n m this)) ∙ chain.0)
    by false this some more = more (omega (arith, some))

pub first_taken : (of : ℕ → Neighbours) (m : ℕ) (ns : List ℕ) (last : Option ℕ) → Chain of None ns last → Once ns → 0 < times m ns → unless_none (of m).before (of m).behind
    (first_of ns) ≡ first_of (gone m ns)
first_taken of m [] last chain once some = absurd (omega (arith, some))
first_taken of m (n ∷ ns) last chain once some = by (n == m) refl some
  where
    by : (t : Bool) → (n == m) ≡ t → 0 < one t + times m ns → unless_none (of m).before (of m).behind (Some n) ≡ first_of (if not t then n ∷ gone m ns else gone m ns)
    by true this some =
        let none = subst (λ x. times x ns ≡ 0) (equal n m this) (once_first n ns once) in
        ap (λ (l : Neighbours). unless_none l.before l.behind (Some n)) (ap of (sym (equal n m this)) ∙ chain.0) ∙ ap first_of (sym (gone_none m ns none))
    by false this some = before_some of m n ns last chain.1 (omega (arith, some)) (of m).behind (Some n)

-- where a number was linked to the last
abbrev pub Put : (ℕ → Neighbours) → (ℕ → Neighbours) → Option ℕ → ℕ → List ℕ → Type 0
Put of new last m all = (k : ℕ) → 0 < times k all → new k ≡ with_neighbours m last k (with_behind last (Some m) k (of k))

module _ (of new : ℕ → Neighbours) (m : ℕ) (all : List ℕ) (in_all : 0 < times m all) where
  at_it : (last : Option ℕ) → Put of new last m all → new m ≡ neighbours last None
  at_it last put = put m in_all ∙ ap (λ (b : Bool). if b then neighbours last None else with_behind last (Some m) m (of m)) (same m)

  not_it : (last : Option ℕ) (k : ℕ) → Put of new last m all → 0 < times k all → (m ≡ k → ⊥) → new k ≡ with_behind last (Some m) k (of k)
  not_it last k put some other = put k some ∙ ap (λ (b : Bool). if b then neighbours last None else with_behind last (Some m) k (of k)) (is_other m k other)

  pub chain_put : (before : Option ℕ) (ns : List ℕ) (last : Option ℕ) → Put of new last m all → Chain of before ns last → Once ns → times m ns ≡ 0 → Among ns all → Chain new before
      (ns ++ (m ∷ [])) (Some m)
  chain_put before [] last put chain once none sub = (at_it last put ∙ ap (λ (b : Option ℕ). neighbours b None) chain, refl)
  chain_put before (n ∷ []) last put chain once none sub = (
    not_it last n put (sub n (here n [])) (λ e. differs m n [] none (sym e)) ∙ hits last (Some m) n (of n) chain.1 ∙ ap (λ (l : Neighbours). neighbours l.before (Some m)) chain.0,
    chain_put (Some n) [] last put chain.1 (once_rest n [] once) (rest_without m n [] none) (among_rest n [] all sub),
  )
  chain_put before (n ∷ r ∷ rest) last put chain once none sub =
      let out = once_first n (r ∷ rest) once in (
        not_it last n put (sub n (here n (r ∷ rest))) (λ e. differs m n (r ∷ rest) none (sym e))
            ∙ misses last (Some m) n (of n) (last_not of n (Some r) rest last chain.1.1 (λ e. let one_is : r ≡ n = cc in differs n r rest out one_is) (rest_without n r rest out)) ∙ chain.0,
        chain_put (Some n) (r ∷ rest) last put chain.1 (once_rest n (r ∷ rest) once) (rest_without m n (r ∷ rest) none) (among_rest n (r ∷ rest) all sub),
      )

pub first_put : (ns : List ℕ) (m : ℕ) → unless_none (first_of ns) (Some m) (first_of ns) ≡ first_of (ns ++ (m ∷ []))
first_put [] m = refl
first_put (n ∷ ns) m = refl
