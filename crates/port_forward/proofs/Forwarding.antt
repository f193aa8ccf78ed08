-- The open forwards by their protocol.
use Rattle.std.proofs.Common.{◌≡◌, ℕ, zero, suc, ◌+◌, ◌≤◌, Bool, true, false, List, [], ◌∷◌, ◌++◌, filter, length, take, slice_get, if◌then◌else◌, Some, None, refl, ◌∙◌, ap, subst, arith}
use Rattle.std.specs.Prelude.{Result, Ok, Err, OnOk}
use Rattle.std.specs.Result.{is_ok}
use Rattle.slirp_settings.specs.declared.Forward.{Forward}
use Rattle.slirp_settings.specs.declared.Proto.{Proto}
use Rattle.slirp_settings.specs.declared.Proto.TheVariants.{Tcp, Udp}
use Rattle.slirp_settings.specs.Ranges.{same_proto}
use Rattle.rules_forward.specs.Opened.{Opened}
use Rattle.rules_forward.specs.Opened.{forward_sockets, is_over, sockets_over}

-- ---- the list as far as it was read

-- one more is over this protocol, or isn't
pub over_taken : (proto : Proto) (list : List Opened) (k : ℕ) (f : Forward) (n : ℕ) → slice_get list k ≡ Some (f, n)
    → sockets_over proto (take (k + 1) list) ≡ sockets_over proto (take k list) ++ (if same_proto proto f.proto then n ∷ [] else [])
over_taken proto [] k f n at = cc
over_taken proto (x ∷ list) zero f n at = ap (λ (y : Opened). sockets_over proto (y ∷ [])) (the_same at) ∙ by (same_proto proto f.proto)
  where
    the_same : Some x ≡ Some (f, n) → x ≡ (f, n)
    the_same is = cc

    by : (b : Bool) → forward_sockets (if b then (f, n) ∷ [] else []) ≡ (if b then n ∷ [] else [])
    by true = refl
    by false = refl
over_taken proto (x ∷ list) (suc k) f n at =
    let next : suc (k + 1) ≡ suc k + 1 = omega arith in
    subst (λ j. sockets_over proto (take j (x ∷ list)) ≡ sockets_over proto (take (suc k) (x ∷ list)) ++ (if same_proto proto f.proto then n ∷ [] else [])) next
    (by (is_over proto x) (over_taken proto list k f n at))
  where
    by : (b : Bool) → sockets_over proto (take (k + 1) list) ≡ sockets_over proto (take k list) ++ (if same_proto proto f.proto then n ∷ [] else [])
        → forward_sockets (if b then x ∷ filter (is_over proto) (take (k + 1) list) else filter (is_over proto) (take (k + 1) list))
        ≡ forward_sockets (if b then x ∷ filter (is_over proto) (take k list) else filter (is_over proto) (take k list)) ++ (if same_proto proto f.proto then n ∷ [] else [])
    by true more = ap (λ l. x.1 ∷ l) more
    by false more = more

-- those over one protocol are no more than all, and those over the other are others
pub both_over : (list : List Opened) → length (sockets_over Tcp list) + length (sockets_over Udp list) ≡ length list
both_over [] = omega arith
both_over (x ∷ list) = by x.0.proto (both_over list)
  where
    by : (p : Proto) → length (sockets_over Tcp list) + length (sockets_over Udp list) ≡ length list
        → length (forward_sockets (if same_proto Tcp p then x ∷ filter (is_over Tcp) list else filter (is_over Tcp) list)) + length
        (forward_sockets (if same_proto Udp p then x ∷ filter (is_over Udp) list else filter (is_over Udp) list)) ≡ suc (length list)
    by Tcp more = omega (arith, more)
    by Udp more = omega (arith, more)

few_over : (proto : Proto) (list : List Opened) → length (sockets_over proto list) ≤ length list
few_over Tcp list = let all = both_over list in omega (arith, all)
few_over Udp list = let all = both_over list in omega (arith, all)

pub few_taken : (proto : Proto) (list : List Opened) (k : ℕ) → length (sockets_over proto (take k list)) ≤ k
few_taken proto list k = let few = few_over proto (take k list) in let most = few_of list k in omega (arith, few, most)
  where
    few_of : (list : List Opened) (k : ℕ) → length (take k list) ≤ k
    few_of list zero = omega arith
    few_of [] (suc k) = omega arith
    few_of (x ∷ list) (suc k) = let few = few_of list k in omega (arith, few)

pub all_taken : (list : List Opened) (k : ℕ) → length list ≤ k → take k list ≡ list
all_taken [] zero all = refl
all_taken [] (suc k) all = refl
all_taken (x ∷ list) zero all = absurd (omega (arith, all))
all_taken (x ∷ list) (suc k) all = ap (λ l. x ∷ l) (all_taken list k (omega (arith, all)))

pub none_further : (list : List Opened) (k : ℕ) → slice_get list k ≡ None → length list ≤ k
none_further [] k at = omega arith
none_further (x ∷ list) zero at = cc
none_further (x ∷ list) (suc k) at = let less = none_further list k at in omega (arith, less)

pub at_ok : {T E P : Type 0} (result : Result T E) → is_ok result ≡ true → OnOk result P → P
at_ok (Ok x) is p = p
at_ok (Err e) is p = cc
