-- Sockets by their ports and identifiers.
use Rattle.std.proofs.Common.{◌≡◌, ℕ, zero, suc, ◌+◌, ◌*◌, ◌<◌, ◌==◌, ◌&&◌, Bool, cond, true, false, List, [], ◌∷◌, ◌++◌, length, get_or, set, find, Some, None, option_map, refl, sym, ◌∙◌, ap, arith}
use Rattle.std.specs.List.{insert, remove}
use Rattle.net_octets.specs.declared.Endpoint.{Endpoint}
use Rattle.slirp_settings.specs.Classes.{same_endpoint}
use Rattle.slirp_settings.specs.Addresses.{address}
use Rattle.idle_sockets.specs.Sockets.{is_of, numbers, socket_of}
use Rattle.idle_sockets.specs.Numbers.{one, times, IsPlace}
use Rattle.idle_sockets.specs.Rows.{row, in_order, key, key_of, keys_of, AreRows, AreSmall, AreKeys, IsSmall}
use Rattle.idle_sockets.specs.declared.IdleSocket.{IdleSocket}
use Rattle.idle_sockets.proofs.Ordering.{same, equal, is_equal, is_other, as_long, placed, where_it_is, same_place}
use Rattle.idle_sockets.proofs.Keeping.{row_number}

and_true : (a b : Bool) → a ≡ true → b ≡ true → (a && b) ≡ true
and_true true b one_is other_is = other_is
and_true false b one_is other_is = cc

both : (a b : Bool) → (a && b) ≡ true → (a ≡ true) × (b ≡ true)
both true b is = (refl, is)
both false b is = cc

same_parts : (a b p q : ℕ) → p < 65536 → q < 65536 → a * 65536 + p ≡ b * 65536 + q → (a ≡ b) × (p ≡ q)
same_parts a b p q one_small other_small is = let addr : a ≡ b = omega (arith, one_small, other_small, is) in (addr, omega (arith, is, addr))

-- ports and identifiers with one key are the same
same_keys : (s : IdleSocket) (guest : Endpoint) (ident : ℕ) → IsSmall s → guest.port < 65536 → ident < 65536 → key_of s ≡ key guest ident → is_of guest ident s ≡ true
same_keys s guest ident small port_small ident_small is =
    let whole = same_parts (address s.guest * 65536 + s.guest.port) (address guest * 65536 + guest.port) s.ident ident small.1 ident_small is in
    let parts = same_parts (address s.guest) (address guest) s.guest.port guest.port small.0 port_small whole.0 in
    and_true (same_endpoint s.guest guest) (s.ident == ident)
    (and_true (address s.guest == address guest) (s.guest.port == guest.port) (is_equal (address s.guest) (address guest) parts.0) (is_equal s.guest.port guest.port parts.1))
    (is_equal s.ident ident whole.1)

keys_same : (s : IdleSocket) (guest : Endpoint) (ident : ℕ) → is_of guest ident s ≡ true → key_of s ≡ key guest ident
keys_same s guest ident is =
    let whole = both (same_endpoint s.guest guest) (s.ident == ident) is in
    let parts = both (address s.guest == address guest) (s.guest.port == guest.port) whole.0 in
    let addr = equal (address s.guest) (address guest) parts.0 in
    let port = equal s.guest.port guest.port parts.1 in
    ap (λ n. (n * 65536 + s.guest.port) * 65536 + s.ident) addr ∙ ap (λ n. (address guest * 65536 + n) * 65536 + s.ident) port
    ∙ ap (λ n. (address guest * 65536 + guest.port) * 65536 + n) (equal s.ident ident whole.1)

pub small_row : (n : ℕ) (rows : List IdleSocket) → 0 < times n (numbers rows) → AreSmall rows → IsSmall (row n rows)
small_row n [] some small = absurd (omega (arith, some))
small_row n (a ∷ rows) some small = by (a.number == n) some (λ rest. small_row n rows rest small.1)
  where
    by : (b : Bool) → 0 < one b + times n (numbers rows) → (0 < times n (numbers rows) → IsSmall (row n rows)) → IsSmall (cond b a (row n rows))
    by true here more = small.0
    by false here more = more (omega (arith, here))

-- the number at a place
pub key_at : (rows : List IdleSocket) (owners : List ℕ) (p d : ℕ) → p < length owners → get_or (keys_of rows owners) p 0 ≡ key_of (row (get_or owners p d) rows)
key_at rows [] p d few = absurd (omega (arith, few))
key_at rows (n ∷ owners) zero d few = refl
key_at rows (n ∷ owners) (suc p) d few = key_at rows owners p d (omega (arith, few))

pub length_keys : (rows : List IdleSocket) (owners : List ℕ) → length (keys_of rows owners) ≡ length owners
length_keys rows [] = refl
length_keys rows (n ∷ owners) = omega (arith, length_keys rows owners)

pub key_there : (n : ℕ) (rows : List IdleSocket) (owners : List ℕ) → 0 < times n owners → 0 < times (key_of (row n rows)) (keys_of rows owners)
key_there n rows owners some =
    let at = where_it_is n owners some in
    let is = key_at rows owners at.0 n at.1 ∙ ap (λ k. key_of (row k rows)) at.2 in
    let long = length_keys rows owners in
    placed (key_of (row n rows)) (keys_of rows owners) at.0 (omega (arith, long, at.1)) is

-- the socket of a port with an identifier
found : (guest : Endpoint) (ident x : ℕ) (rows : List IdleSocket) (order : List ℕ) → 0 < times x order → is_of guest ident (row x rows) ≡ true
    → ((n : ℕ) → 0 < times n order → is_of guest ident (row n rows) ≡ true → n ≡ x) → socket_of guest ident (in_order rows order) ≡ Some x
found guest ident x rows [] some is only = absurd (omega (arith, some))
found guest ident x rows (m ∷ order) some is only = by (is_of guest ident (row m rows)) refl (λ rest later. found guest ident x rows order rest is later)
  where
    here : 0 < times m (m ∷ order)
    here = let counted = ap one (same m) in omega (arith, counted)

    by : (b : Bool) → is_of guest ident (row m rows) ≡ b → (0 < times x order → ((n : ℕ) → 0 < times n order → is_of guest ident (row n rows) ≡ true → n ≡ x) → socket_of guest ident (in_order rows order) ≡ Some x)
        → option_map (λ (a : IdleSocket). a.number) (cond b (Some (row m rows)) (find (is_of guest ident) (in_order rows order))) ≡ Some x
    by true this more = ap Some (row_number m rows ∙ only m here this)
    by false this more =
        let counted = ap one (is_other m x (λ it. let never = sym this ∙ ap (λ k. is_of guest ident (row k rows)) it ∙ is in cc)) in
        more (omega (arith, some, counted)) (λ n there. only n (omega (arith, there)))

missing : (guest : Endpoint) (ident : ℕ) (rows : List IdleSocket) (order : List ℕ) → ((n : ℕ) → 0 < times n order → is_of guest ident (row n rows) ≡ false) → socket_of guest ident (in_order rows order) ≡ None
missing guest ident rows [] none = refl
missing guest ident rows (m ∷ order) none =
    let counted = ap one (same m) in
    ap (λ b. option_map (λ (a : IdleSocket). a.number) (cond b (Some (row m rows)) (find (is_of guest ident) (in_order rows order)))) (none m (omega (arith, counted)))
    ∙ missing guest ident rows order (λ n there. none n (omega (arith, there)))

module _ (guest : Endpoint) (ident : ℕ) (rows : List IdleSocket) (rising order keys owners : List ℕ) (since : ℕ) (are : AreRows rows rising order since) (keyed : AreKeys rows keys owners)
    (port_small : guest.port < 65536) (ident_small : ident < 65536) where
  -- as often among the owners as in the order of use
  among : (n : ℕ) → times n order ≡ times n owners
  among n = are.same n ∙ ap (times n) are.numbers_are ∙ sym (keyed.same n)

  in_rows : (n : ℕ) → 0 < times n order → 0 < times n (numbers rows)
  in_rows n there = let o = among n in let r = keyed.same n in omega (arith, o, r, there)

  pub socket_found : (place : ℕ) → IsPlace (key guest ident) keys (Some place) → (d : ℕ) → socket_of guest ident (in_order rows order) ≡ Some (get_or owners place d)
  socket_found place is d =
      let x = get_or owners place d in
      let long = ap length keyed.keys_are ∙ length_keys rows owners in
      let here : place < length owners = omega (arith, long, is.0) in
      let key_is : key_of (row x rows) ≡ key guest ident = sym (key_at rows owners place d here) ∙ sym (ap (λ l. get_or l place 0) keyed.keys_are) ∙ is.1 in
      let there : 0 < times x owners = placed_by x owners place d here refl in
      let o = among x in
      let known : 0 < times x order = omega (arith, o, there) in
      found guest ident x rows order known (same_keys (row x rows) guest ident (small_row x rows (in_rows x known) keyed.small) port_small ident_small key_is)
      (λ n held same_port.
      let at = where_it_is n owners (let p = among n in omega (arith, p, held)) in
      let its_key = ap (λ l. get_or l at.0 0) keyed.keys_are ∙ key_at rows owners at.0 n at.1 ∙ ap (λ k. key_of (row k rows)) at.2 ∙ keys_same (row n rows) guest ident same_port in
      let place_is = same_place keys at.0 place keyed.rise (omega (arith, long, at.1)) is.0 (its_key ∙ sym is.1) in
      sym at.2 ∙ ap (λ p. get_or owners p n) place_is ∙ defaults owners place n d here)
    where
      placed_by : (x : ℕ) (xs : List ℕ) (q d : ℕ) → q < length xs → get_or xs q d ≡ x → 0 < times x xs
      placed_by x [] q d few at = absurd (omega (arith, few))
      placed_by x (m ∷ xs) zero d few at = let this = ap one (is_equal m x at) in omega (arith, this)
      placed_by x (m ∷ xs) (suc q) d few at = let rest = placed_by x xs q d (omega (arith, few)) at in omega (arith, rest)

      defaults : (xs : List ℕ) (q d e : ℕ) → q < length xs → get_or xs q d ≡ get_or xs q e
      defaults [] q d e few = absurd (omega (arith, few))
      defaults (m ∷ xs) zero d e few = refl
      defaults (m ∷ xs) (suc q) d e few = defaults xs q d e (omega (arith, few))

  pub socket_missing : IsPlace (key guest ident) keys None → socket_of guest ident (in_order rows order) ≡ None
  socket_missing none = missing guest ident rows order (λ n held. by n held (is_of guest ident (row n rows)) refl)
    where
      by : (n : ℕ) → 0 < times n order → (b : Bool) → is_of guest ident (row n rows) ≡ b → b ≡ false
      by n held true is =
          let there = key_there n rows owners (let p = among n in omega (arith, p, held)) in
          let count = ap (λ k. times k (keys_of rows owners)) (keys_same (row n rows) guest ident is) ∙ sym (ap (times (key guest ident)) keyed.keys_are) ∙ none in
          absurd (omega (arith, there, count))
      by n held false is = refl

  -- where a port has no socket with an identifier, their key stands nowhere
  pub no_key : socket_of guest ident (in_order rows order) ≡ None → times (key guest ident) keys ≡ 0
  no_key none = by (times (key guest ident) keys) refl
    where
      by : (t : ℕ) → times (key guest ident) keys ≡ t → t ≡ 0
      by zero is = refl
      by (suc t) is =
          let at = where_it_is (key guest ident) keys (omega (arith, is)) in
          let found_so = socket_found at.0 (at.1, defaulted keys at.0 (key guest ident) at.1 ∙ at.2) 0 in
          cc
        where
          defaulted : (xs : List ℕ) (q d : ℕ) → q < length xs → get_or xs q 0 ≡ get_or xs q d
          defaulted [] q d few = absurd (omega (arith, few))
          defaulted (m ∷ xs) zero d few = refl
          defaulted (m ∷ xs) (suc q) d few = defaulted xs q d (omega (arith, few))

-- rows whose keys are the same where they are asked for
pub same_keys_of : (rows new : List IdleSocket) (owners : List ℕ) → ((n : ℕ) → 0 < times n owners → key_of (row n new) ≡ key_of (row n rows)) → keys_of new owners ≡ keys_of rows owners
same_keys_of rows new [] same_rows = refl
same_keys_of rows new (n ∷ owners) same_rows =
    let here = ap one (same n) in
    ap (λ (k : ℕ). k ∷ keys_of new owners) (same_rows n (omega (arith, here)))
    ∙ ap (λ l. key_of (row n rows) ∷ l) (same_keys_of rows new owners (λ m some. same_rows m (omega (arith, some))))

pub keys_insert : (rows : List IdleSocket) (owners : List ℕ) (p n : ℕ) → keys_of rows (insert owners p n) ≡ insert (keys_of rows owners) p (key_of (row n rows))
keys_insert rows [] zero n = refl
keys_insert rows [] (suc p) n = refl
keys_insert rows (m ∷ owners) zero n = refl
keys_insert rows (m ∷ owners) (suc p) n = ap (λ l. key_of (row m rows) ∷ l) (keys_insert rows owners p n)

pub keys_remove : (rows : List IdleSocket) (owners : List ℕ) (p : ℕ) → p < length owners → keys_of rows (remove owners p) ≡ remove (keys_of rows owners) p
keys_remove rows [] p few = absurd (omega (arith, few))
keys_remove rows (m ∷ owners) zero few = refl
keys_remove rows (m ∷ owners) (suc p) few = ap (λ l. key_of (row m rows) ∷ l) (keys_remove rows owners p (omega (arith, few)))

pub small_more : (rows : List IdleSocket) (a : IdleSocket) → AreSmall rows → IsSmall a → AreSmall (rows ++ (a ∷ []))
small_more [] a are small = (small, tt)
small_more (x ∷ rows) a are small = (are.0, small_more rows a are.1 small)

pub small_removed : (rows : List IdleSocket) (p : ℕ) → p < length rows → AreSmall rows → AreSmall (remove rows p)
small_removed [] p few are = absurd (omega (arith, few))
small_removed (a ∷ rows) zero few are = are.1
small_removed (a ∷ rows) (suc p) few are = (are.0, small_removed rows p (omega (arith, few)) are.1)

pub small_set : (rows : List IdleSocket) (p : ℕ) (b : IdleSocket) → IsSmall b → AreSmall rows → AreSmall (set rows p b)
small_set [] p b small are = tt
small_set (a ∷ rows) zero b small are = (small, are.1)
small_set (a ∷ rows) (suc p) b small are = (are.0, small_set rows p b small are.1)

-- as many endpoints as sockets
pub as_many_keys : (rows : List IdleSocket) (rising order keys owners : List ℕ) (since : ℕ) → AreRows rows rising order since → AreKeys rows keys owners →
    (length keys ≡ length order) × (length owners ≡ length order)
as_many_keys rows rising order keys owners since are keyed =
    let long = as_long owners order (λ n. keyed.same n ∙ ap (times n) (sym are.numbers_are) ∙ sym (are.same n)) in
    (ap length keyed.keys_are ∙ length_keys rows owners ∙ long, long)
