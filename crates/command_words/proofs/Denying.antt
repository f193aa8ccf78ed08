-- Texts of networks that are denied: what their parts are, and that each means one network.
use Rattle.std.proofs.Common.{◌≡◌, ◌==◌, ◌||◌, not, Bool, true, false, cond, leb, Option, is_some, if◌then◌else◌, ℕ, zero, suc, ◌<◌, List, [], ◌∷◌, ◌++◌, length, take}
use Rattle.std.proofs.Common.{codes, decimal, refl, sym, ◌∙◌, ap, subst, arith, append_assoc, append-nil}
use Rattle.std.specs.List.{list_all}
use Rattle.std.proofs.lemmas.Bool.Decides.{nat_tests}
use Rattle.std.proofs.lemmas.Fmt.{decimal_injective}
use Rattle.std.proofs.lemmas.List.{length-take, take_all}
use Rattle.slirp_settings.specs.Ranges.{mask_of}
use Rattle.slirp_settings.specs.declared.Denial.{Denial}
use Rattle.command_words.specs.Meaning.{version_of}
use Rattle.command_words.specs.Narrowing.{guest_portless, held_denials, held_guests}
use Rattle.slirp_settings.specs.declared.GuestFwd.{GuestFwd}
use Rattle.command_words.specs.Options.{Word}
use Rattle.command_words.specs.Texts.{AreDenials, IsDenial, IsNetwork}
use Rattle.address_text.specs.Texts.{is_other}
use Rattle.address_text.proofs.Parting.{parts_once, digit_is_no_slash}
use Rattle.address_text.proofs.Addresses.{address, address_form, address_fits, same_address}
use Rattle.command_words.proofs.Networks.{network_form}

abbrev pub made_denial : ℕ → ℕ → Denial
made_denial net length = record { 0 = record { net = record { 0 = net }; length = length } }

-- a network that is denied is written as a network is
pub denial_network : (text : List ℕ) (d : Denial) → IsDenial text d → IsNetwork text d.0.net.0 (mask_of d.0.length)
denial_network text d is = (d.0.length, is.0, is.1, is.2, refl)

pub network_denial : (text : List ℕ) (network mask : ℕ) → IsNetwork text network mask → (d : Denial) × IsDenial text d
network_denial text network mask is = (made_denial network is.0, (is.1, is.2, is.3))

-- its parts
pub denial_parts : (text : List ℕ) (d : Denial) → IsDenial text d → (first last : List ℕ) → text ≡ first ++ 47 ∷ last → list_all (is_other 47) first ≡ true
    → (first ≡ address d.0.net.0) × (last ≡ decimal d.0.length)
denial_parts text d is first last split lacks =
    parts_once 47 (is_other 47) refl first (address d.0.net.0) last (decimal d.0.length) lacks (address_fits (is_other 47) digit_is_no_slash refl d.0.net.0 is.1)
    (sym split ∙ is.0 ∙ network_form d.0.net.0 d.0.length)

same_denial : (text : List ℕ) (d e : Denial) → IsDenial text d → IsDenial text e → d ≡ e
same_denial text d e h g =
    let p = denial_parts text d h (address e.0.net.0) (decimal e.0.length) (g.0 ∙ network_form e.0.net.0 e.0.length) (address_fits (is_other 47) digit_is_no_slash refl e.0.net.0 g.1) in
    let net : d.0.net.0 ≡ e.0.net.0 = same_address d.0.net.0 e.0.net.0 h.1 g.1 (address_form d.0.net.0 ∙ sym p.0 ∙ sym (address_form e.0.net.0)) in
    let long : d.0.length ≡ e.0.length = decimal_injective d.0.length e.0.length (omega (arith, h.2)) (omega (arith, g.2)) (sym p.1) in
    ap (λ (n : ℕ). made_denial n d.0.length) net ∙ ap (λ (n : ℕ). made_denial e.0.net.0 n) long

pub same_denials : (texts : List Word) (ds es : List Denial) → AreDenials texts ds → AreDenials texts es → ds ≡ es
same_denials [] [] [] h g = refl
same_denials [] [] (y ∷ ys) h g = absurd g
same_denials [] (x ∷ xs) es h g = absurd h
same_denials (text ∷ texts) [] es h g = absurd h
same_denials (text ∷ texts) (x ∷ xs) [] h g = absurd g
same_denials (text ∷ texts) (x ∷ xs) (y ∷ ys) h g = ap (λ (z : Denial). z ∷ xs) (same_denial text x y h.0 g.0) ∙ ap (λ (zs : List Denial). y ∷ zs) (same_denials texts xs ys h.1 g.1)

-- the first of them
pub denials_front : (n : ℕ) (texts : List Word) (ds : List Denial) → AreDenials texts ds → AreDenials (take n texts) (take n ds)
denials_front zero texts ds are = tt
denials_front (suc n) [] [] are = tt
denials_front (suc n) [] (d ∷ ds) are = absurd are
denials_front (suc n) (text ∷ texts) [] are = absurd are
denials_front (suc n) (text ∷ texts) (d ∷ ds) are = (are.0, denials_front n texts ds are.1)

-- what is held of the first is held of all
pub whole_denials : (all front : List Word) (ds es : List Denial) → take 9 all ≡ front → AreDenials front ds → AreDenials all es → held_denials ds ≡ held_denials es
whole_denials all front ds es is h g =
    let same : ds ≡ take 9 es = same_denials front ds (take 9 es) h (subst (λ (w : List Word). AreDenials w (take 9 es)) is (denials_front 9 all es g)) in
    ap (take 9) same ∙ take_all 9 (take 9 es) (omega (arith, length-take 9 es))

-- of none held none was meant
held_none : (ds : List Denial) → (length (take 9 ds) == 0) ≡ (length ds == 0)
held_none [] = refl
held_none (d ∷ ds) = some (length (take 8 ds)) ∙ sym (some (length ds))
  where
    some : (n : ℕ) → (suc n == 0) ≡ false
    some n = grind (arith, nat_tests)

guests_none : (gs : List GuestFwd) (t : Bool) → leb (length gs) 16 ≡ t → (length (held_guests gs) == 0) ≡ (length gs == 0)
guests_none gs true is = ap (λ (t : Bool). length (cond t gs (guest_portless ∷ [])) == 0) is
guests_none gs false is =
    let many : 16 < length gs = grind (arith, nat_tests, is) in
    let some : (length gs == 0) ≡ false = grind (arith, nat_tests, many) in
    ap (λ (t : Bool). length (cond t gs (guest_portless ∷ [])) == 0) is ∙ sym some

abbrev by_none : (given : Word → Option Word) (g d : Bool) → ℕ
by_none given g d = if is_some (given (codes "--outbound")) || is_some (given (codes "--control")) || is_some (given (codes "--no-dns")) || is_some (given (codes "--no-dhcp")) || not g || not d then 2 else 1

pub held_version : (given : Word → Option Word) (gs : List GuestFwd) (ds : List Denial) → version_of given (held_guests gs) (held_denials ds) ≡ version_of given gs ds
held_version given gs ds =
    ap (λ (b : Bool). by_none given b (length (held_denials ds) == 0)) (guests_none gs (leb (length gs) 16) refl)
    ∙ ap (λ (b : Bool). by_none given (length gs == 0) b) (held_none ds)

-- what texts mean, whatever it is
pub record Denials (texts : List Word) : Type 0 where
  pub all : List Denial
  pub are : AreDenials texts all

-- What was read of texts, of which these are left: with what they mean it is what all mean, and the first are held.
pub record HasDenied (texts left : List Word) (held : List Denial) : Type 0 where
  pub got : List Denial
  pub kept : held ≡ held_denials got
  pub goes : (rest : List Denial) → AreDenials left rest → AreDenials texts (got ++ rest)
  pub leaves : (all : List Denial) → AreDenials texts all → Denials left

pub none_denied : (texts : List Word) (held : List Denial) → held ≡ [] → HasDenied texts texts held
none_denied texts held none = record { got = []; kept = none; goes = λ rest are. are; leaves = λ all are. record { all = all; are = are } }

module _ (texts left : List Word) (text : Word) where
  some_left : Denials (text ∷ left) → ((d : Denial) × IsDenial text d) × Denials left
  some_left l = by_cases l.all l.are
    where
      by_cases : (ds : List Denial) → AreDenials (text ∷ left) ds → ((d : Denial) × IsDenial text d) × Denials left
      by_cases [] are = absurd are
      by_cases (x ∷ xs) are = ((x, are.0), record { all = xs; are = are.1 })

  -- one more was read
  pub deny_on : (held new : List Denial) (d : Denial) → HasDenied texts (text ∷ left) held → IsDenial text d
      → ((all : List Denial) → held ≡ held_denials all → new ≡ held_denials (all ++ d ∷ [])) → HasDenied texts left new
  deny_on held new d h is put = record {
    got = h.got ++ d ∷ [];
    kept = put h.got h.kept;
    goes = λ rest are. subst (λ (t : List Denial). AreDenials texts t) (sym (append_assoc h.got (d ∷ []) rest)) (h.goes (d ∷ rest) (is, are));
    leaves = λ all are. (some_left (h.leaves all are)).1;
  }

  -- one can't be read
  pub deny_none : (held : List Denial) → HasDenied texts (text ∷ left) held → ((d : Denial) → ¬ IsDenial text d) → (all : List Denial) → ¬ AreDenials texts all
  deny_none held h none all are = let one = (some_left (h.leaves all are)).0 in none one.0 one.1

pub deny_all : (texts : List Word) (held : List Denial) → HasDenied texts [] held → (all : List Denial) × AreDenials texts all × (held ≡ held_denials all)
deny_all texts held h = (h.got, subst (λ (t : List Denial). AreDenials texts t) (append-nil h.got) (h.goes [] tt), h.kept)
