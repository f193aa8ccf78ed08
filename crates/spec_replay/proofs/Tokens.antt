-- The parts of a line, each of which has one text.
use Rattle.std.proofs.Common.{◌≡◌, ℕ, Bool, true, false, List, [], ◌∷◌, ◌++◌, length, decimal, Option, Some, None, codes, refl, sym, ◌∙◌, ap, subst, arith, length-append}
use Rattle.std.specs.List.{list_all}
use Rattle.std.proofs.lemmas.Fmt.{decimal_injective}
use Rattle.poll_list.specs.declared.Who.{Who}
use Rattle.poll_list.specs.declared.Who.TheVariants.{Link, Listener, Udp, Tcp}
use Rattle.poll_list.specs.declared.Want.{Want}
use Rattle.poll_list.specs.Listing.{are_wants, is_who}
use Rattle.world_face.specs.Journal.{IsPlace, IsTimeout, Place, AtPath, AtEndpoint}
use Rattle.address_text.specs.Texts.{endpoint_text, place_text, is_other}
use Rattle.address_text.proofs.Addresses.{same_endpoint}
use Rattle.address_text.proofs.Parting.{is_digit, parts_once, decimal_digits, digit_is_no_colon}
use Rattle.replay.specs.Text.{who_text, direction_text, want_text, joined_text, wants_text, timeout_text}
use Rattle.replay.proofs.Joining.{each_text}
use Rattle.replay.proofs.Parting.{first, mark, decimal_some, digit_is_no_comma}
use Rattle.replay.proofs.Words.{who_range, who_fits, want_form, want_fits, head_of, joined_each, no_dash, digit_first}

ink : (s : ℕ) → is_who (Listener s) ≡ true → codes "ink" ≡ decimal s → ⊥
ink s h is = cc (subst (λ (t : List ℕ). list_all is_digit t ≡ true) (sym is) (decimal_digits s (who_range s h)))

pub same_who : (a b : Who) → is_who a ≡ true → is_who b ≡ true → who_text a ≡ who_text b → a ≡ b
same_who Link Link ha hb is = refl
same_who Link (Listener t) ha hb is = absurd (ink t hb (let tail : codes "ink" ≡ decimal t = cc in tail))
same_who (Listener s) Link ha hb is = absurd (ink s ha (let tail : codes "ink" ≡ decimal s = cc in tail))
same_who (Listener s) (Listener t) ha hb is = let digits : decimal s ≡ decimal t = cc in ap Listener (decimal_injective s t (who_range s ha) (who_range t hb) digits)
same_who (Udp s) (Udp t) ha hb is = let digits : decimal s ≡ decimal t = cc in ap Udp (decimal_injective s t (who_range s ha) (who_range t hb) digits)
same_who (Tcp s) (Tcp t) ha hb is = let digits : decimal s ≡ decimal t = cc in ap Tcp (decimal_injective s t (who_range s ha) (who_range t hb) digits)
same_who _ _ ha hb is = absurd (omega (arith, ap first is))

same_direction : (a b c d : Bool) → direction_text a b ≡ direction_text c d → (a ≡ c) × (b ≡ d)
same_direction true true true true is = (refl, refl)
same_direction true true true false is = absurd (omega (arith, ap mark is))
same_direction true true false true is = absurd (omega (arith, ap mark is))
same_direction true true false false is = absurd (omega (arith, ap mark is))
same_direction true false true true is = absurd (omega (arith, ap mark is))
same_direction true false true false is = (refl, refl)
same_direction true false false true is = absurd (omega (arith, ap mark is))
same_direction true false false false is = absurd (omega (arith, ap mark is))
same_direction false true true true is = absurd (omega (arith, ap mark is))
same_direction false true true false is = absurd (omega (arith, ap mark is))
same_direction false true false true is = (refl, refl)
same_direction false true false false is = absurd (omega (arith, ap mark is))
same_direction false false true true is = absurd (omega (arith, ap mark is))
same_direction false false true false is = absurd (omega (arith, ap mark is))
same_direction false false false true is = absurd (omega (arith, ap mark is))
same_direction false false false false is = (refl, refl)

abbrev want_of : Who → Bool → Bool → Want
want_of of read write = record { of = of; read = read; write = write }

same_want : (w v : Want) → is_who w.of ≡ true → is_who v.of ≡ true → want_text w ≡ want_text v → w ≡ v
same_want w v hw hv is =
    let parted = parts_once 58 (is_other 58) refl (who_text w.of) (who_text v.of) (direction_text w.read w.write) (direction_text v.read v.write)
    (who_fits (is_other 58) digit_is_no_colon refl w.of hw) (who_fits (is_other 58) digit_is_no_colon refl v.of hv) (sym (want_form w) ∙ is ∙ want_form v) in
    let who_is = same_who w.of v.of hw hv parted.0 in
    let ways = same_direction w.read w.write v.read v.write parted.1 in
    ap (λ o. want_of o w.read w.write) who_is ∙ ap (λ r. want_of v.of r w.write) ways.0 ∙ ap (λ x. want_of v.of v.read x) ways.1

same_each : (ws vs : List Want) → are_wants ws ≡ true → are_wants vs ≡ true → each_text ws ≡ each_text vs → ws ≡ vs
same_each [] [] hw hv is = refl
same_each [] (v ∷ vs) hw hv is = absurd (omega (arith, length-append (want_text v) (44 ∷ each_text vs), ap length is))
same_each (w ∷ ws) [] hw hv is = absurd (omega (arith, length-append (want_text w) (44 ∷ each_text ws), ap length is))
same_each (w ∷ ws) (v ∷ vs) hw hv is =
    let h = head_of w ws hw in
    let k = head_of v vs hv in
    let parted = parts_once 44 (is_other 44) refl (want_text w) (want_text v) (each_text ws) (each_text vs) (want_fits (is_other 44) digit_is_no_comma refl refl refl w h.0)
    (want_fits (is_other 44) digit_is_no_comma refl refl refl v k.0) is in
    let one = same_want w v h.0 k.0 parted.0 in
    let more = same_each ws vs h.1 k.1 parted.1 in
    ap (λ x. x ∷ ws) one ∙ ap (λ x. v ∷ x) more

pub same_joined : (w v : Want) (ws vs : List Want) → are_wants (w ∷ ws) ≡ true → are_wants (v ∷ vs) ≡ true → joined_text (w ∷ ws) ≡ joined_text (v ∷ vs) → w ∷ ws ≡ v ∷ vs
same_joined w v ws vs hw hv is = same_each (w ∷ ws) (v ∷ vs) hw hv (sym (joined_each w ws) ∙ ap (λ t. t ++ 44 ∷ []) is ∙ joined_each v vs)

pub same_wants : (ws vs : List Want) → are_wants ws ≡ true → are_wants vs ≡ true → wants_text ws ≡ wants_text vs → ws ≡ vs
same_wants [] [] hw hv is = refl
same_wants [] (v ∷ vs) hw hv is = absurd (no_dash v vs is)
same_wants (w ∷ ws) [] hw hv is = absurd (no_dash w ws (sym is))
same_wants (w ∷ ws) (v ∷ vs) hw hv is = same_joined w v ws vs hw hv is

pub same_timeout : (t u : Option ℕ) → IsTimeout t → IsTimeout u → timeout_text t ≡ timeout_text u → t ≡ u
same_timeout None None ht hu is = refl
same_timeout None (Some u) ht hu is = absurd (digit_first (decimal u) (decimal_digits u hu) (decimal_some u hu) (sym (ap first is)))
same_timeout (Some t) None ht hu is = absurd (digit_first (decimal t) (decimal_digits t ht) (decimal_some t ht) (ap first is))
same_timeout (Some t) (Some u) ht hu is = ap Some (decimal_injective t u ht hu is)

pub same_place : (a b : Place) → IsPlace a → IsPlace b → place_text a ≡ place_text b → a ≡ b
same_place (AtPath p) (AtPath q) ha hb is = let rest : p ≡ q = cc in ap AtPath rest
same_place (AtPath p) (AtEndpoint f) ha hb is = absurd (omega (arith, ap first is))
same_place (AtEndpoint e) (AtPath q) ha hb is = absurd (omega (arith, ap first is))
same_place (AtEndpoint e) (AtEndpoint f) ha hb is = let rest : endpoint_text e ≡ endpoint_text f = cc in ap AtEndpoint (same_endpoint e f ha hb rest)
