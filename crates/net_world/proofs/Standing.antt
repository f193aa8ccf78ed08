-- What stays of the table of sockets where one slot changes.
use Rattle.std.proofs.Common.{◌≡◌, ℕ, zero, suc, ◌<◌, ◌≤◌, ◌+◌, Bool, true, false, List, length, get_or, Option, Some, None, Result, Ok, Err, is_ok, if◌then◌else◌, Less, Equal, Greater, inl, inr, refl, sym, ap, subst, ◌∙◌, arith, ◌⊎◌}
use Rattle.std.specs.List.{Contains, insert, remove}
use Rattle.std.specs.List.Sorted.{IsBinarySearchResult}
use Rattle.std.specs.Ordering.{nat_cmp, MatchOrdering, ordering_reverse}
use Rattle.std.specs.declared.cmp.Ordering.{Ordering}
use Rattle.std.specs.Cmp.{IsTotalOrder, nat_cmp_total, then_total, on_total}
use Rattle.std.proofs.lemmas.Cmp.{ranked}
use Rattle.std.proofs.lemmas.Bool.{cases_eq, cases_lt}
use Rattle.poll_list.specs.declared.Who.{Who}
use Rattle.poll_list.specs.declared.Who.TheVariants.{Link, Listener, Udp, Tcp}
use Rattle.net_world.specs.declared.slot.Slot.{Slot}
use Rattle.net_world.specs.declared.sockets.Place.{Place}
use Rattle.net_world.specs.declared.ready_list.Listed.{Listed}
use Rattle.net_world.specs.Tables.{rank_of, number_of, by_rank, InOrder, listed_at, place_at, slot_at, reads, IsOf, one, count_below, AreListed, ArePlaced, Lists, OthersStay}
use Rattle.net_world.proofs.Ascending as up

pub by_rank_total : IsTotalOrder by_rank
by_rank_total = then_total (on_total (λ r. r.0) nat_cmp_total) (on_total (λ r. r.1) nat_cmp_total)

pub same_number : (n m : ℕ) → nat_cmp n m ≡ Equal → n ≡ m
same_number n m is = subst (λ (r : Ordering). MatchOrdering r (n < m) (n ≡ m) (m < n)) is (ranked n m (nat_cmp n m) refl)

itself : (r : Ordering) → r ≡ ordering_reverse r → r ≡ Equal
itself Less is = cc
itself Equal is = refl
itself Greater is = cc

pub number_itself : (n m : ℕ) → n ≡ m → nat_cmp n m ≡ Equal
number_itself n m is = ap (λ (k : ℕ). nat_cmp n k) (sym is) ∙ itself (nat_cmp n n) (nat_cmp_total.antisymm n n)

pub same_who : (a b : Who) → by_rank (rank_of a) (rank_of b) ≡ Equal → a ≡ b
same_who Link Link is = refl
same_who (Listener n) (Listener m) is = ap (λ (k : ℕ). Listener k) (same_number n m is)
same_who (Udp n) (Udp m) is = ap (λ (k : ℕ). Udp k) (same_number n m is)
same_who (Tcp n) (Tcp m) is = ap (λ (k : ℕ). Tcp k) (same_number n m is)
same_who _ _ is = cc

pub rank_itself : (a b : Who) → a ≡ b → by_rank (rank_of a) (rank_of b) ≡ Equal
rank_itself a b is = ap (λ (w : Who). by_rank (rank_of a) (rank_of w)) (sym is) ∙ itself (by_rank (rank_of a) (rank_of a)) (by_rank_total.antisymm (rank_of a) (rank_of a))

pub cases_who : (a b : Who) → (a ≡ b) ⊎ (a ≡ b → ⊥)
cases_who a b = by (by_rank (rank_of a) (rank_of b)) refl
  where
    by : (r : Ordering) → by_rank (rank_of a) (rank_of b) ≡ r → (a ≡ b) ⊎ (a ≡ b → ⊥)
    by Less is = inr (λ same. let eq : by_rank (rank_of a) (rank_of b) ≡ Equal = rank_itself a b same in absurd (cc))
    by Equal is = inl (same_who a b is)
    by Greater is = inr (λ same. let eq : by_rank (rank_of a) (rank_of b) ≡ Equal = rank_itself a b same in absurd (cc))

-- counts of keys
count_same : (p q : ℕ → Bool) (n : ℕ) → ((k : ℕ) → k < n → p k ≡ q k) → count_below p n ≡ count_below q n
count_same p q zero same = refl
count_same p q (suc n) same =
    let here : p n ≡ q n = same n (omega arith) in
    let rest : count_below p n ≡ count_below q n = count_same p q n (λ k below. same k (omega arith)) in
    ap (λ (b : Bool). one b + count_below p n) here ∙ ap (λ (m : ℕ). one (q n) + m) rest

pub count_changed : (p q : ℕ → Bool) (key n : ℕ) → key < n → ((k : ℕ) → (k ≡ key → ⊥) → p k ≡ q k) → count_below p n + one (q key) ≡ count_below q n + one (p key)
count_changed p q key zero below same = absurd (omega arith)
count_changed p q key (suc n) below same = elim (cases_eq key n) [
  | inl is ↦
      let rest : count_below p n ≡ count_below q n = count_same p q n (λ k low. same k (λ at. omega (arith, at, is, low))) in
      let before : one (p key) ≡ one (p n) = ap (λ (k : ℕ). one (p k)) is in
      let after : one (q key) ≡ one (q n) = ap (λ (k : ℕ). one (q k)) is in omega (arith, rest, before, after)
  | inr other ↦
      let rest : count_below p n + one (q key) ≡ count_below q n + one (p key) = count_changed p q key n (omega (arith, other)) same in
      let here : one (p n) ≡ one (q n) = ap (λ (b : Bool). one b) (same n (λ at. other (sym at))) in omega (arith, rest, here)
]

count_most : (p : ℕ → Bool) (n : ℕ) → count_below p n ≤ n
count_most p zero = omega arith
count_most p (suc n) = by (p n) (count_most p n)
  where
    by : (b : Bool) → count_below p n ≤ n → one b + count_below p n ≤ suc n
    by true rest = omega (arith, rest)
    by false rest = omega (arith, rest)

-- where a key doesn't pass there is room for it
pub count_room : (p : ℕ → Bool) (key n : ℕ) → key < n → p key ≡ false → count_below p n < n
count_room p key zero below none = absurd (omega arith)
count_room p key (suc n) below none = elim (cases_eq key n) [
  | inl is ↦
      let here : one (p n) ≡ 0 = ap (λ (k : ℕ). one (p k)) (sym is) ∙ ap (λ (b : Bool). one b) none in
      omega (arith, here, count_most p n)
  | inr other ↦ by (p n) (count_room p key n (omega (arith, other)) none)
]
  where
    by : (b : Bool) → count_below p n < n → one b + count_below p n < suc n
    by true less = omega (arith, less)
    by false less = omega (arith, less)

-- the list
pub same_listed : (l : Listed) (of : Who) (key : ℕ) → of ≡ l.of → key ≡ l.key → listed_at of key ≡ l
same_listed l of key a b = ap (λ (o : Who). listed_at o key) a ∙ ap (λ (k : ℕ). listed_at l.of k) b

-- what was put in with room for it
pub inserted : {T E X : Type 0} (r : Result T E) (old put new : List X) → is_ok r ≡ true → new ≡ (if is_ok r then put else old) → new ≡ put
inserted (Ok x) old put new done is = is
inserted (Err e) old put new done is = cc

abbrev pub IsAlone : List Listed → Listed → Bool → Type 0
IsAlone readable l was = (other : Listed) → Contains readable other → other.of ≡ l.of → (other ≡ l) × (was ≡ true)

pub lists_same : (readable : List Listed) (l : Listed) (was is : Bool) → InOrder readable → (was ≡ true → Contains readable l) → IsAlone readable l was → was ≡ is
    → Lists readable readable l was is
lists_same readable l was is rise has alone same = record {
  rise = rise;
  has = λ now. has (same ∙ now);
  keeps = λ other h. inr h;
  only = λ other h. elim (cases_who other.of l.of) [ inl of ↦ let a = alone other h of in inr (a.0, sym same ∙ a.1) | inr not ↦ inl (h, not) ];
  count = ap (λ (b : Bool). length readable + one b) same;
}

pub lists_in : (readable : List Listed) (l : Listed) (at : ℕ) → at ≤ length readable → InOrder readable → IsAlone readable l false
    → IsBinarySearchResult (λ x. by_rank (rank_of x.of) (rank_of l.of)) readable (Err at) → Lists readable (insert readable at l) l false true
lists_in readable l at fits rise alone found =
    let parted = up.parted by_rank by_rank_total (λ (x : Listed). rank_of x.of) readable (rank_of l.of) at rise found in
    let all = up.rise_with by_rank by_rank_total (λ (x : Listed). rank_of x.of) readable at l fits rise (λ k d below. parted.0 k d (omega arith) below) (λ k d from below. parted.1 k d from below) in
    record {
      rise = all;
      has = λ now. up.to_contains (insert readable at l) l (up.has_put readable at l);
      keeps = λ other h. inr (up.to_contains (insert readable at l) other (up.has_kept readable at l other (up.has_from readable other h)));
      only = λ other h. elim (up.has_either readable at l other (up.has_from (insert readable at l) other h)) [
        | inl is ↦ inr (sym is, refl)
        | inr h' ↦
            let c : Contains readable other = up.to_contains readable other h' in
            inl (c, λ of. let a = alone other c of in absurd (cc))
      ];
      count = omega (arith, up.length_put readable at l);
    }

pub lists_out : (readable : List Listed) (l : Listed) (at : ℕ) → at < length readable → InOrder readable → IsAlone readable l true
    → IsBinarySearchResult (λ x. by_rank (rank_of x.of) (rank_of l.of)) readable (Ok at) → Lists readable (remove readable at) l true false
lists_out readable l at below rise alone found =
    let here : Contains readable (get_or readable at l) = up.to_contains readable (get_or readable at l) (up.has_at readable at l below) in
    let same : get_or readable at l ≡ l = (alone (get_or readable at l) here (same_who (get_or readable at l).of l.of (found l))).0 in
    record {
      rise = up.rise_left by_rank by_rank_total (λ (x : Listed). rank_of x.of) readable at rise;
      has = λ now. absurd (cc);
      keeps = λ other h. elim (up.has_still readable at other l (up.has_from readable other h)) [
        | inl is ↦ inl (sym is ∙ same)
        | inr h' ↦ inr (up.to_contains (remove readable at) other h')
      ];
      only = λ other h.
          let h' = up.has_from (remove readable at) other h in
          inl (
            up.to_contains readable other (up.had readable at other h'),
            λ of. up.gone by_rank by_rank_total (λ (x : Listed). rank_of x.of) readable at l other below rise h'
                (rank_itself (get_or readable at l).of other.of (ap (λ (x : Listed). x.of) same ∙ sym of)),
          );
      count = omega (arith, up.length_taken readable at below);
    }

-- it is there where it is listed
pub found_listed : (readable : List Listed) (l : Listed) (at : ℕ) → at ≤ length readable → InOrder readable → Contains readable l
    → IsBinarySearchResult (λ x. by_rank (rank_of x.of) (rank_of l.of)) readable (Err at) → ⊥
found_listed readable l at fits rise (k, below, is) found =
    let parted = up.parted by_rank by_rank_total (λ (x : Listed). rank_of x.of) readable (rank_of l.of) at rise found in
    let eq : by_rank (rank_of (get_or readable k l).of) (rank_of l.of) ≡ Equal = rank_itself (get_or readable k l).of l.of (ap (λ (x : Listed). x.of) is) in
    elim (cases_lt k at) [
      | inl low ↦ let less : by_rank (rank_of (get_or readable k l).of) (rank_of l.of) ≡ Less = parted.0 k l (omega arith) low in absurd (cc)
      | inr high ↦ let more : by_rank (rank_of (get_or readable k l).of) (rank_of l.of) ≡ Greater = parted.1 k l high below in absurd (cc)
    ]

pub found_alone : (readable : List Listed) (l : Listed) (at : ℕ) → at < length readable → IsAlone readable l false
    → IsBinarySearchResult (λ x. by_rank (rank_of x.of) (rank_of l.of)) readable (Ok at) → ⊥
found_alone readable l at below alone found =
    let here : Contains readable (get_or readable at l) = up.to_contains readable (get_or readable at l) (up.has_at readable at l below) in
    let a = alone (get_or readable at l) here (same_who (get_or readable at l).of l.of (found l)) in absurd (cc)

module _ {S : Type 0} where
  some_reads : (slot : Option (Slot S)) → reads slot ≡ true → (known : Slot S) × (slot ≡ Some known) × (known.ready.read ≡ true)
  some_reads None may = cc
  some_reads (Some known) may = (known, refl, may)

  -- a number has one key
  pub one_key : (slots : List (Option (Slot S))) (places : List Place) (one two : ℕ) (a b : Slot S) → ArePlaced slots places → slot_at slots one ≡ Some a → slot_at slots two ≡ Some b
      → (number_of a.of) ≡ (number_of b.of) → one ≡ two
  one_key slots places one two a b placed first second same =
      let n : ℕ = (number_of a.of) in
      let m : ℕ = (number_of b.of) in
      ap (λ (p : Place). p.key)
      (up.stands_once nat_cmp nat_cmp_total (λ (p : Place). p.number) places (place_at (number_of a.of) one) (place_at (number_of b.of) two) placed.rise
      (up.has_from places (place_at (number_of a.of) one) (placed.placed one a first)) (up.has_from places (place_at (number_of b.of) two) (placed.placed two b second))
      (number_itself (number_of a.of) (number_of b.of) same))

  -- What is listed of this is this, and may be read.
  pub alone : (slots : List (Option (Slot S))) (keys : ℕ) (readable : List Listed) (places : List Place) (key : ℕ) (slot : Slot S) → AreListed slots keys readable → ArePlaced slots places
      → slot_at slots key ≡ Some slot → IsAlone readable (listed_at slot.of key) slot.ready.read
  alone slots keys readable places key slot listed placed here other h of =
      let s = listed.stand other h in
      let at : other.key ≡ key = one_key slots places other.key key s.0 slot placed s.1 here (ap (λ (w : Who). (number_of w)) (s.2 ∙ of)) in
      let both : Some s.0 ≡ Some slot = sym s.1 ∙ ap (λ (k : ℕ). slot_at slots k) at ∙ here in
      let same : s.0 ≡ slot = cc in
      (sym (same_listed other slot.of key (sym of) (sym at)), ap (λ (x : Slot S). x.ready.read) (sym same) ∙ s.3)

  pub relisted : (old new : List (Option (Slot S))) (keys : ℕ) (readable after : List Listed) (l : Listed) (is : Option (Slot S)) → AreListed old keys readable → slot_at new l.key ≡ is
      → OthersStay old new l.key → IsOf l.of (slot_at old l.key) → IsOf l.of is → l.key < keys → Lists readable after l (reads (slot_at old l.key)) (reads is) → AreListed new keys after
  relisted old new keys readable after l is listed at others was_of is_of fits lists = record {
    rise = lists.rise;
    marked = λ key slot here may. elim (cases_eq key l.key) [
      | inl same ↦
          let e : is ≡ Some slot = sym at ∙ ap (λ (k : ℕ). slot_at new k) (sym same) ∙ here in
          subst (λ (m : Listed). Contains after m) (sym (same_listed l slot.of key (is_of slot e) same)) (lists.has (ap reads e ∙ may))
      | inr other ↦
          elim (lists.keeps (listed_at slot.of key) (listed.marked key slot (sym (others key other) ∙ here) may)) [
            | inl e ↦ absurd (other (ap (λ (m : Listed). m.key) e))
            | inr c ↦ c
          ]
    ];
    stand = λ m h. elim (lists.only m h) [
      | inl p ↦
          let s = listed.stand m p.0 in
          elim (cases_eq m.key l.key) [
            | inl same ↦ absurd (p.1 (sym s.2 ∙ was_of s.0 (ap (λ (k : ℕ). slot_at old k) (sym same) ∙ s.1)))
            | inr other ↦ (s.0, others m.key other ∙ s.1, s.2, s.3)
          ]
      | inr p ↦
          let s = some_reads is p.1 in
          (s.0, ap (λ (x : Listed). slot_at new x.key) p.0 ∙ at ∙ s.1, is_of s.0 s.1 ∙ ap (λ (x : Listed). x.of) (sym p.0), s.2)
    ];
    below = λ key slot here. elim (cases_eq key l.key) [
      | inl same ↦ subst (λ (k : ℕ). k < keys) (sym same) fits
      | inr other ↦ listed.below key slot (sym (others key other) ∙ here)
    ];
    counted =
        let changed = count_changed (λ k. reads (slot_at old k)) (λ k. reads (slot_at new k)) l.key keys fits (λ k other. ap reads (sym (others k other))) in
        let at' : one (reads (slot_at new l.key)) ≡ one (reads is) = ap (λ (x : Option (Slot S)). one (reads x)) at in
        omega (arith, changed, at', lists.count, listed.counted);
  }

  -- A slot that stays of the same stays in its place.
  pub placed_still : (old new : List (Option (Slot S))) (places : List Place) (key : ℕ) (was is : Slot S) → ArePlaced old places → slot_at old key ≡ Some was → slot_at new key ≡ Some is
      → OthersStay old new key → is.of ≡ was.of → ArePlaced new places
  placed_still old new places key was is placed before now others of = record {
    rise = placed.rise;
    placed = λ k slot here. elim (cases_eq k key) [
      | inl same ↦
          let both : Some is ≡ Some slot = sym now ∙ ap (λ (i : ℕ). slot_at new i) (sym same) ∙ here in
          let e : is ≡ slot = cc in
          subst (λ (w : Who). Contains places (place_at (number_of w) k)) (sym of ∙ ap (λ (x : Slot S). x.of) e) (placed.placed k was (ap (λ (i : ℕ). slot_at old i) same ∙ before))
      | inr other ↦ placed.placed k slot (sym (others k other) ∙ here)
    ];
    stand = λ p h.
        let s = placed.stand p h in
        elim (cases_eq p.key key) [
          | inl same ↦
              let both : Some was ≡ Some s.0 = sym before ∙ ap (λ (i : ℕ). slot_at old i) (sym same) ∙ s.1 in
              let e : was ≡ s.0 = cc in
              (is, ap (λ (i : ℕ). slot_at new i) same ∙ now, ap (λ (w : Who). (number_of w)) (of ∙ ap (λ (x : Slot S). x.of) e) ∙ s.2)
          | inr other ↦ (s.0, others p.key other ∙ s.1, s.2)
        ];
  }
