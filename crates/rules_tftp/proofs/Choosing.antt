-- What holds of each of some transfers, of which no two are for one port.
use Rattle.std.proofs.Common.{◌≡◌, Bool, true, false, All, List, [], ◌∷◌, ◌++◌, filter, find, Some, None, if◌then◌else◌, refl, sym, ◌∙◌, ap, subst}
use Rattle.std.proofs.lemmas.List.Elements.{All-head, All-tail}
use Rattle.net_octets.specs.declared.Endpoint.{Endpoint}
use Rattle.rules_tftp.specs.Soundness.{AreApart}
use Rattle.rules_tftp.specs.Transfers.{Transfer, is_for}
use Rattle.rules_tftp.proofs.Listing.{found_not, same_is, same_refl}

abbrev pub AllTransfers : (Transfer → Type 0) → List Transfer → Type 0
AllTransfers P [] = Unit {0}
AllTransfers P (t ∷ transfers) = P t × AllTransfers P transfers

pub all_so : (P Q : Transfer → Type 0) (transfers : List Transfer) → ((t : Transfer) → P t → Q t) → AllTransfers P transfers → AllTransfers Q transfers
all_so P Q [] so all = tt
all_so P Q (t ∷ transfers) so all = (so t all.0, all_so P Q transfers so all.1)

pub all_both : (P Q : Transfer → Type 0) (transfers : List Transfer) → AllTransfers P transfers → AllTransfers Q transfers → AllTransfers (λ t. P t × Q t) transfers
all_both P Q [] one other = tt
all_both P Q (t ∷ transfers) one other = ((one.0, other.0), all_both P Q transfers one.1 other.1)

pub all_last : (P : Transfer → Type 0) (transfers : List Transfer) (t : Transfer) → AllTransfers P transfers → P t → AllTransfers P (transfers ++ (t ∷ []))
all_last P [] t all one = (one, tt)
all_last P (u ∷ transfers) t all one = (all.0, all_last P transfers t all.1 one)

pub all_filtered : (P : Transfer → Type 0) (p : Transfer → Bool) (transfers : List Transfer) → AllTransfers P transfers → AllTransfers P (filter p transfers)
all_filtered P p [] all = tt
all_filtered P p (t ∷ transfers) all = by (p t) (all_filtered P p transfers all.1)
  where
    by : (b : Bool) → AllTransfers P (filter p transfers) → AllTransfers P (if b then t ∷ filter p transfers else filter p transfers)
    by true rest = (all.0, rest)
    by false rest = rest

pub all_found : (P : Transfer → Type 0) (p : Transfer → Bool) (transfers : List Transfer) (t : Transfer) → AllTransfers P transfers → find p transfers ≡ Some t → P t × (p t ≡ true)
all_found P p [] t all is = cc
all_found P p (u ∷ transfers) t all is = by (p u) refl is (λ later. all_found P p transfers t all.1 later)
  where
    by : (b : Bool) → p u ≡ b → (if b then Some u else find p transfers) ≡ Some t → (find p transfers ≡ Some t → P t × (p t ≡ true)) → P t × (p t ≡ true)
    by true here is later = let same : u ≡ t = cc in (subst P same all.0, sym (ap p same) ∙ here)
    by false other is later = later is

pub none_all : (p : Transfer → Bool) (transfers : List Transfer) → find p transfers ≡ None → AllTransfers (λ t. p t ≡ false) transfers
none_all p [] none = tt
none_all p (t ∷ transfers) none = let is = found_not p t transfers none in (is.0, none_all p transfers is.1)

-- the one that is found is the only one for its port
pub only_one : (p : Transfer → Bool) (transfers : List Transfer) (t : Transfer) → AreApart transfers → find p transfers ≡ Some t → AllTransfers (λ u. is_for t.guest u ≡ true → p u ≡ true) transfers
only_one p [] t apart is = cc
only_one p (u ∷ transfers) t apart is = by (p u) refl is (λ later. only_one p transfers t apart.1 later)
  where
    never : (v : Transfer) → is_for u.guest v ≡ false → u ≡ t → is_for t.guest v ≡ true → p v ≡ true
    never v other same is = let no : false ≡ true = sym other ∙ ap (λ (w : Transfer). is_for w.guest v) same ∙ is in cc

    clash : find p transfers ≡ Some t → is_for t.guest u ≡ true → ⊥
    clash is here =
        let same : u.guest ≡ t.guest = same_is u.guest t.guest here in
        let all = none_all (is_for t.guest) transfers (subst (λ (g : Endpoint). find (is_for g) transfers ≡ None) same apart.0) in
        let no : false ≡ true = sym (all_found (λ v. is_for t.guest v ≡ false) p transfers t all is).0 ∙ same_refl t.guest in
        cc

    by : (b : Bool) → p u ≡ b → (if b then Some u else find p transfers) ≡ Some t →
        (find p transfers ≡ Some t → AllTransfers (λ v. is_for t.guest v ≡ true → p v ≡ true) transfers) → AllTransfers (λ v. is_for t.guest v ≡ true → p v ≡ true) (u ∷ transfers)
    by true here is later = let same : u ≡ t = cc in (
      λ one. here,
      all_so (λ v. is_for u.guest v ≡ false) (λ v. is_for t.guest v ≡ true → p v ≡ true) transfers
          (λ v other. never v other same) (none_all (is_for u.guest) transfers apart.0),
    )
    by false other is later = (λ one. absurd (clash is one), later is)

pub all_of : (P : Transfer → Type 0) (transfers : List Transfer) → All P transfers → AllTransfers P transfers
all_of P [] all = tt
all_of P (t ∷ transfers) all = (All-head P t transfers all, all_of P transfers (All-tail P t transfers all))

-- of the port of the first that passes only that one is
abbrev pub IfThere : (Transfer → Type 0) → (Transfer → Bool) → Transfer → Transfer → Type 0
IfThere P p t u = P u × (is_for t.guest u ≡ true → p u ≡ true)

pub if_there : (P : Transfer → Type 0) (p : Transfer → Bool) (ts : List Transfer) (t : Transfer) → AllTransfers P ts → AreApart ts → find p ts ≡ Some t → AllTransfers (IfThere P p t) ts
if_there P p ts t all apart found = all_both P (λ u. is_for t.guest u ≡ true → p u ≡ true) ts all (only_one p ts t apart found)

-- and it is the one that is found for its port
pub found_own : (p : Transfer → Bool) (ts : List Transfer) (t : Transfer) → AreApart ts → find p ts ≡ Some t → find (is_for t.guest) ts ≡ Some t
found_own p [] t apart is = cc
found_own p (u ∷ ts) t apart is = by (p u) is (λ later. found_own p ts t apart.1 later)
  where
    other : find p ts ≡ Some t → (b : Bool) → is_for t.guest u ≡ b → find (is_for t.guest) ts ≡ Some t → (if b then Some u else find (is_for t.guest) ts) ≡ Some t
    other is false here rest = rest
    other is true here rest =
        let same : u.guest ≡ t.guest = same_is u.guest t.guest here in
        let none : find (is_for t.guest) ts ≡ None = subst (λ (g : Endpoint). find (is_for g) ts ≡ None) same apart.0 in
        let never : None ≡ Some t = sym none ∙ rest in
        cc

    by : (b : Bool) → (if b then Some u else find p ts) ≡ Some t → (find p ts ≡ Some t → find (is_for t.guest) ts ≡ Some t) → (if is_for t.guest u then Some u else find (is_for t.guest) ts) ≡ Some t
    by true is later =
        let same : u ≡ t = cc in
        let this : is_for t.guest u ≡ true = ap (λ (v : Transfer). is_for v.guest u) (sym same) ∙ same_refl u.guest in
        ap (λ (b : Bool). if b then Some u else find (is_for t.guest) ts) this ∙ ap Some same
    by false is later = other is (is_for t.guest u) refl (later is)
