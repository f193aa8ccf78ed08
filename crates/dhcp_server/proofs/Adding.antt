-- Octets that are written behind others stand one after another.
use Rattle.std.proofs.Common.{◌≡◌, ℕ, ◌+◌, ◌≤◌, List, [], ◌∷◌, ◌++◌, length, take, drop, refl, sym, ap, ◌∙◌, subst, arith, append_assoc, append-nil}
use Rattle.std.proofs.lemmas.List.{take_at, drop_at, drop-drop, take-append-drop, length-append, length-take-le}
use Rattle.net_octets.proofs.Writing.{written, written_front}
use borrow.Rule.Slice.PartMut.{put_mid}
use Rattle.tlv_table.specs.declared.Form.{Form}
use Rattle.tlv_table.specs.Grammar.{Field, item_octets}
use Rattle.tlv_table.specs.Putting.{put_octets}
use Rattle.dhcp_server.specs.Writing.{Adds}

-- a list with octets behind its front, and its own behind them
pub adds_from : (old new octets : List ℕ) (at end : ℕ) → at + length octets ≡ end → at ≤ length old → new ≡ (take at old ++ octets) ++ drop end old → Adds old at new end octets
adds_from old new octets at end long room is =
    let count : length (take at old ++ octets) ≡ end = length-append (take at old) octets ∙ ap (λ n. n + length octets) (length-take-le at old room) ∙ long in
    record {
      front = ap (take end) is ∙ take_at (take at old ++ octets) (drop end old) end count;
      rest = ap (drop end) is ∙ drop_at (take at old ++ octets) (drop end old) end count;
      end_is = sym long;
    }

-- nothing is written
pub adds_nothing : (old : List ℕ) (at : ℕ) → Adds old at old at []
adds_nothing old at = record { front = sym (append-nil (take at old)); rest = refl; end_is = omega arith }

-- what stays behind a place stays behind a later one
later : (a b : List ℕ) (j n : ℕ) → drop j b ≡ drop j a → drop (j + n) b ≡ drop (j + n) a
later a b j n is = sym (drop-drop n j b) ∙ ap (drop n) is ∙ drop-drop n j a

-- some octets, and then others
pub then : (a b c xs ys : List ℕ) (i j k : ℕ) → Adds a i b j xs → Adds b j c k ys → Adds a i c k (xs ++ ys)
then a b c xs ys i j k first second = record {
  front = second.front ∙ ap (λ zs. zs ++ ys) first.front ∙ append_assoc (take i a) xs ys;
  rest = second.rest ∙ subst (λ n. drop n b ≡ drop n a) (sym second.end_is) (later a b j (length ys) first.rest);
  end_is = second.end_is ∙ ap (λ n. n + length ys) first.end_is ∙ omega (arith, length-append xs ys);
}

-- the octets of options are those of each
pub put_octets-append : (form : Form) (ps qs : List (ℕ × List ℕ)) → put_octets form (ps ++ qs) ≡ put_octets form ps ++ put_octets form qs
put_octets-append form [] qs = refl
put_octets-append form (p ∷ ps) qs = ap (λ xs. item_octets form (Field p.0 p.1) ++ xs) (put_octets-append form ps qs) ∙ sym (append_assoc (item_octets form (Field p.0 p.1))
    (put_octets form ps) (put_octets form qs))

-- some options, and then others
pub then_options : (form : Form) (a b c : List ℕ) (ps qs : List (ℕ × List ℕ)) (i j k : ℕ) → Adds a i b j (put_octets form ps) → Adds b j c k (put_octets form qs) → Adds a i c k
    (put_octets form (ps ++ qs))
then_options form a b c ps qs i j k first second = subst (Adds a i c k) (sym (put_octets-append form ps qs)) (then a b c (put_octets form ps) (put_octets form qs) i j k first second)

-- what is written from the front on
pub all_written : (old new octets : List ℕ) (end : ℕ) → Adds old 0 new end octets → new ≡ octets ++ drop (length octets) old
all_written old new octets end adds =
    let count : end ≡ length octets = adds.end_is ∙ omega arith in
    sym (take-append-drop end new) ∙ ap (λ xs. xs ++ drop end new) adds.front ∙ ap (λ xs. octets ++ xs) adds.rest ∙ ap (λ n. octets ++ drop n old) count

-- octets that are copied into a part
pub adds_part : (old ys octets : List ℕ) (at n end : ℕ) → at + length octets ≡ end → at + n ≡ end → end ≤ length old → ys ≡ octets → Adds old at (put_mid at n old ys) end octets
adds_part old ys octets at n end long size room is =
    let within : at ≤ length old = omega arith in
    adds_from old (put_mid at n old ys) octets at end long within
    (written (take at old) octets old old ys at n end (sym (take-append-drop at old)) is (length-take-le at old within) size)

-- octets that are put at the front of a part
pub adds_front : (old ys octets : List ℕ) (at n k end : ℕ) → at + length octets ≡ end → at + n ≡ end → end ≤ length old → n ≤ k → ys ≡ octets ++ drop n (take k (drop at old)) →
    Adds old at (put_mid at k old ys) end octets
adds_front old ys octets at n k end long size room few is =
    let within : at ≤ length old = omega arith in
    adds_from old (put_mid at k old ys) octets at end long within
    (written_front (take at old) octets old old ys at n end k (sym (take-append-drop at old)) is (length-take-le at old within) size few)
