-- What a turn leaves where packets go again one after another: those that are over are gone first, and each that goes again stays.
use Rattle.std.proofs.Common.{◌≡◌, ℕ, ◌+◌, ◌≤◌, ◌&&◌, ◌||◌, not, nat_le, nat_lt, Bool, true, false, cond, List, [], ◌∷◌, length, filter, find, Some, None, option_map, refl, sym, ◌∙◌, ap, subst, arith}
use Rattle.std.proofs.lemmas.Bool.Decides.{nat_tests}
use Rattle.rules_tftp.specs.Soundness.{AreApart, AreSound, WaitsWell}
use Rattle.rules_tftp.specs.Transfers.{Transfer, are_left, begun, goes_again, is_due, is_for, next_again, said_again, sent_again, ticked, ticked_by, with_again}
use Rattle.net_octets.specs.declared.Endpoint.{Endpoint}
use Rattle.slirp_settings.specs.Classes.{same_endpoint}
use Rattle.rules_tftp.proofs.Choosing.{AllTransfers, IfThere, all_found, all_of, if_there, none_all}
use Rattle.rules_tftp.proofs.Listing.{same_is, same_refl}
use Rattle.rules_tftp.proofs.Naming.{both}
use Rattle.rules_tftp.proofs.Ticking.{first_left}

abbrev is_left : ℕ → Transfer → Bool
is_left now t = not (is_due now t) || nat_lt t.again 5

-- those that are over are gone once
pub left_twice : (now : ℕ) (ts : List Transfer) → are_left now (are_left now ts) ≡ are_left now ts
left_twice now [] = refl
left_twice now (t ∷ ts) = by (is_left now t) refl (left_twice now ts)
  where
    by : (b : Bool) → is_left now t ≡ b → are_left now (are_left now ts) ≡ are_left now ts → are_left now (cond b (t ∷ are_left now ts) (are_left now ts)) ≡ cond b
        (t ∷ are_left now ts) (are_left now ts)
    by true here rest = ap (λ (b : Bool). cond b (t ∷ are_left now (are_left now ts)) (are_left now (are_left now ts))) here ∙ ap (λ (l : List Transfer). t ∷ l) rest
    by false here rest = rest

-- the first that is due is the same
pub next_left : (now : ℕ) (ts : List Transfer) → next_again now (are_left now ts) ≡ next_again now ts
next_left now ts = first_left now ts

pub begun_left : (now : ℕ) (free : Bool) (ts : List Transfer) → begun now free (are_left now ts) ≡ begun now free ts
begun_left now true ts = ap (option_map said_again) (next_left now ts)
begun_left now false ts = refl

pub ticked_left : (now : ℕ) (free : Bool) (ts : List Transfer) → ticked now free (are_left now ts) ≡ ticked now free ts
ticked_left now true ts = ap (λ (l : List Transfer). ticked_by now l (next_again now (are_left now ts))) (left_twice now ts) ∙ ap (ticked_by now (are_left now ts)) (next_left now ts)
ticked_left now false ts = left_twice now ts

pub ticked_none : (now : ℕ) (free : Bool) (ts : List Transfer) → next_again now ts ≡ None → ticked now free ts ≡ are_left now ts
ticked_none now true ts none = ap (ticked_by now (are_left now ts)) none
ticked_none now false ts none = refl

-- one that goes again isn't over, before and after
stays_left : (now : ℕ) (t : Transfer) → goes_again now t ≡ true → is_left now t ≡ true
stays_left now t goes = by (is_due now t) (nat_lt t.again 5) (both (is_due now t) (nat_lt t.again 5) goes).1
  where
    by : (a b : Bool) → b ≡ true → (not a || b) ≡ true
    by true b is = is
    by false b is = refl

stays : (now : ℕ) (t : Transfer) → 1000 ≤ t.timeout → goes_again now t ≡ true → is_left now (sent_again now t) ≡ is_left now t
stays now t waits goes = ap (λ (b : Bool). not b || nat_lt (t.again + 1) 5) (later t.timeout waits) ∙ sym (stays_left now t goes)
  where
    later : (timeout : ℕ) → 1000 ≤ timeout → nat_le (now + timeout) now ≡ false
    later timeout waits = grind (arith, nat_tests, waits)

left_after : (now : ℕ) (t : Transfer) (ts : List Transfer) → AllTransfers (IfThere (λ u. WaitsWell u.timeout) (goes_again now) t) ts → are_left now
    (with_again now t.guest ts) ≡ with_again now t.guest (are_left now ts)
left_after now t [] all = refl
left_after now t (u ∷ ts) all = by (is_for t.guest u) refl (is_left now u) refl (left_after now t ts all.1)
  where
    changed : Bool → Transfer
    changed b = cond b (sent_again now u) u

    same : (b : Bool) → is_for t.guest u ≡ b → is_left now (cond b (sent_again now u) u) ≡ is_left now u
    same true here = stays now u all.0.0.0 (all.0.1 here)
    same false other = refl

    by : (b : Bool) → is_for t.guest u ≡ b → (l : Bool) → is_left now u ≡ l → are_left now (with_again now t.guest ts) ≡ with_again now t.guest (are_left now ts)
        → cond (is_left now (cond b (sent_again now u) u)) (cond b (sent_again now u) u ∷ are_left now (with_again now t.guest ts)) (are_left now (with_again now t.guest ts))
        ≡ with_again now t.guest (cond l (u ∷ are_left now ts) (are_left now ts))
    by b here true left rest =
        ap (λ (c : Bool). cond c (cond b (sent_again now u) u ∷ are_left now (with_again now t.guest ts)) (are_left now (with_again now t.guest ts))) (same b here ∙ left)
        ∙ ap (λ (l : List Transfer). cond b (sent_again now u) u ∷ l) rest ∙ ap (λ (c : Bool). cond c (sent_again now u) u ∷ with_again now t.guest (are_left now ts)) (sym here)
    by b here false gone rest =
        ap (λ (c : Bool). cond c (cond b (sent_again now u) u ∷ are_left now (with_again now t.guest ts)) (are_left now (with_again now t.guest ts))) (same b here ∙ gone) ∙ rest

-- a packet goes again: it is the same whether those that are over are gone before or after
pub left_again : (now : ℕ) (t : Transfer) (ts : List Transfer) → AreApart ts → AllTransfers (λ u. WaitsWell u.timeout) ts → next_again now ts ≡ Some t → are_left now
    (with_again now t.guest ts) ≡ with_again now t.guest (are_left now ts)
left_again now t ts apart timed found = left_after now t ts (if_there (λ u. WaitsWell u.timeout) (goes_again now) ts t timed apart found)

pub ticked_some : (now : ℕ) (t : Transfer) (ts : List Transfer) → AreApart ts → AllTransfers (λ u. WaitsWell u.timeout) ts → next_again now ts ≡ Some t →
    ticked now true ts ≡ are_left now (with_again now t.guest ts)
ticked_some now t ts apart timed found = ap (ticked_by now (are_left now ts)) found ∙ sym (left_again now t ts apart timed found)

-- ---- one is due fewer after each that goes

-- so many are due to go again
abbrev pub due_count : ℕ → List Transfer → ℕ
due_count now ts = length (filter (goes_again now) ts)

pub none_due : (now : ℕ) (ts : List Transfer) → due_count now ts ≡ 0 → next_again now ts ≡ None
none_due now [] none = refl
none_due now (t ∷ ts) none = by (goes_again now t) none (λ rest. none_due now ts rest)
  where
    by : (b : Bool) → length (cond b (t ∷ filter (goes_again now) ts) (filter (goes_again now) ts)) ≡ 0 → (due_count now ts ≡ 0 → next_again now ts ≡ None) → cond b (Some t) (next_again now ts) ≡ None
    by true none rest = absurd (omega (arith, none))
    by false none rest = rest none

pub due_few : (now : ℕ) (ts : List Transfer) → due_count now ts ≤ length ts
due_few now [] = omega arith
due_few now (t ∷ ts) = by (goes_again now t) (due_few now ts)
  where
    by : (b : Bool) → due_count now ts ≤ length ts → length (cond b (t ∷ filter (goes_again now) ts) (filter (goes_again now) ts)) ≤ length (t ∷ ts)
    by true rest = omega (arith, rest)
    by false rest = omega (arith, rest)

-- those that are over aren't due
pub due_left : (now : ℕ) (ts : List Transfer) → due_count now (are_left now ts) ≡ due_count now ts
due_left now [] = refl
due_left now (t ∷ ts) = by (is_left now t) refl (goes_again now t) refl (due_left now ts)
  where
    by : (l : Bool) → is_left now t ≡ l → (b : Bool) → goes_again now t ≡ b → due_count now (are_left now ts) ≡ due_count now ts
        → due_count now (cond l (t ∷ are_left now ts) (are_left now ts)) ≡ length (cond b (t ∷ filter (goes_again now) ts) (filter (goes_again now) ts))
    by true left b goes rest = ap (λ (c : Bool). length (cond c (t ∷ filter (goes_again now) (are_left now ts)) (filter (goes_again now) (are_left now ts)))) goes ∙ counts b rest
      where
        counts : (b : Bool) → due_count now (are_left now ts) ≡ due_count now ts
            → length (cond b (t ∷ filter (goes_again now) (are_left now ts)) (filter (goes_again now) (are_left now ts))) ≡ length
            (cond b (t ∷ filter (goes_again now) ts) (filter (goes_again now) ts))
        counts true rest = omega (arith, rest)
        counts false rest = rest
    by false gone true goes rest = let never : is_left now t ≡ true = stays_left now t goes in let no : false ≡ true = sym gone ∙ never in cc
    by false gone false goes rest = rest

-- it isn't due again at once
gone : (now : ℕ) (t : Transfer) → 1000 ≤ t.timeout → goes_again now (sent_again now t) ≡ false
gone now t waits = ap (λ (b : Bool). b && nat_lt (t.again + 1) 5) (later t.timeout waits)
  where
    later : (timeout : ℕ) → 1000 ≤ timeout → nat_le (now + timeout) now ≡ false
    later timeout waits = grind (arith, nat_tests, waits)

-- those of other ports
others_due : (now : ℕ) (guest : Endpoint) (ts : List Transfer) → AllTransfers (λ u. is_for guest u ≡ false) ts → due_count now (with_again now guest ts) ≡ due_count now ts
others_due now guest [] all = refl
others_due now guest (u ∷ ts) all =
    ap (λ (b : Bool). length (cond (goes_again now (cond b (sent_again now u) u)) (cond b (sent_again now u) u ∷ filter (goes_again now) (with_again now guest ts))
    (filter (goes_again now) (with_again now guest ts)))) all.0
    ∙ by (goes_again now u) (others_due now guest ts all.1)
  where
    by : (b : Bool) → due_count now (with_again now guest ts) ≡ due_count now ts → length (cond b (u ∷ filter (goes_again now) (with_again now guest ts))
        (filter (goes_again now) (with_again now guest ts))) ≡ length (cond b (u ∷ filter (goes_again now) ts) (filter (goes_again now) ts))
    by true rest = omega (arith, rest)
    by false rest = rest

pub one_fewer : (now : ℕ) (t : Transfer) (ts : List Transfer) → AllTransfers (λ u. WaitsWell u.timeout) ts → AreApart ts → next_again now ts ≡ Some t → due_count now
    (with_again now t.guest ts) + 1 ≡ due_count now ts
one_fewer now t [] timed apart is = cc
one_fewer now t (u ∷ ts) timed apart is = by (goes_again now u) refl is (λ found. one_fewer now t ts timed.1 apart.1 found)
  where
    here : (v : Transfer) → v ≡ t → goes_again now v ≡ true → 1000 ≤ v.timeout → find (is_for v.guest) ts ≡ None → due_count now (with_again now t.guest (v ∷ ts)) + 1 ≡ due_count now (v ∷ ts)
    here v same goes waits none =
        let all = subst (λ (w : Transfer). AllTransfers (λ x. is_for w.guest x ≡ false) ts) same (none_all (is_for v.guest) ts none) in
        let rest = others_due now t.guest ts all in
        let this : is_for t.guest v ≡ true = ap (λ (w : Transfer). is_for w.guest v) (sym same) ∙ same_refl v.guest in
        let after : due_count now (with_again now t.guest (v ∷ ts)) ≡ due_count now (with_again now t.guest ts) =
        ap (λ (b : Bool). due_count now (cond b (sent_again now v) v ∷ with_again now t.guest ts)) this
        ∙ ap (λ (b : Bool). length (cond b (sent_again now v ∷ filter (goes_again now) (with_again now t.guest ts)) (filter (goes_again now) (with_again now t.guest ts)))) (gone now v waits) in
        let before : due_count now (v ∷ ts) ≡ due_count now ts + 1 =
        ap (λ (b : Bool). length (cond b (v ∷ filter (goes_again now) ts) (filter (goes_again now) ts))) goes ∙ omega arith in
        omega (arith, rest, after, before)

    later : goes_again now u ≡ false → find (goes_again now) ts ≡ Some t → due_count now (with_again now t.guest ts) + 1 ≡ due_count now ts → due_count now
        (with_again now t.guest (u ∷ ts)) + 1 ≡ due_count now (u ∷ ts)
    later other found rest =
        let apart_from : is_for t.guest u ≡ false = not_for (is_for t.guest u) refl in
        let after : due_count now (with_again now t.guest (u ∷ ts)) ≡ due_count now (with_again now t.guest ts) =
        ap (λ (b : Bool). due_count now (cond b (sent_again now u) u ∷ with_again now t.guest ts)) apart_from
        ∙ ap (λ (b : Bool). length (cond b (u ∷ filter (goes_again now) (with_again now t.guest ts)) (filter (goes_again now) (with_again now t.guest ts)))) other in
        let before : due_count now (u ∷ ts) ≡ due_count now ts = ap (λ (b : Bool). length (cond b (u ∷ filter (goes_again now) ts) (filter (goes_again now) ts))) other in
        omega (arith, rest, after, before)
      where
        not_for : (b : Bool) → is_for t.guest u ≡ b → b ≡ false
        not_for false is = refl
        not_for true is =
            let same : u.guest ≡ t.guest = same_is u.guest t.guest is in
            let never = (all_found (λ v. is_for u.guest v ≡ false) (goes_again now) ts t (none_all (is_for u.guest) ts apart.0) found).0 in
            let no : false ≡ true = sym never ∙ ap (λ (g : Endpoint). same_endpoint t.guest g) same ∙ same_refl t.guest in
            cc

    by : (b : Bool) → goes_again now u ≡ b → cond b (Some u) (find (goes_again now) ts) ≡ Some t → (find (goes_again now) ts ≡ Some t → due_count now
        (with_again now t.guest ts) + 1 ≡ due_count now ts) → due_count now (with_again now t.guest (u ∷ ts)) + 1 ≡ due_count now (u ∷ ts)
    by true goes is rest = let same : u ≡ t = cc in here u same goes timed.0.0 apart.0
    by false other is rest = later other is (rest is)

-- so a turn ends: each packet that goes leaves one that is due fewer
pub fewer_due : (now : ℕ) (t : Transfer) (ts : List Transfer) → AreSound ts → next_again now ts ≡ Some t → due_count now (ticked now true ts) + 1 ≡ due_count now ts
fewer_due now t ts sound found =
    let timed = all_of (λ u. WaitsWell u.timeout) ts sound.timed in
    let after : due_count now (ticked now true ts) ≡ due_count now (with_again now t.guest ts) = ap (due_count now) (ticked_some now t ts sound.apart timed found) ∙ due_left now
    (with_again now t.guest ts) in
    let fewer = one_fewer now t ts timed sound.apart found in
    omega (arith, after, fewer)
