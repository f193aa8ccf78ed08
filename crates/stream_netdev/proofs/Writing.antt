-- A frame that is written in pieces.
use Rattle.std.proofs.Common.{◌≡◌, ℕ, ◌+◌, ◌-◌, ◌<◌, ◌≤◌, true, false, List, [], ◌∷◌, length, take, drop, nat_lt, sym, ◌∙◌, ap, subst, arith, refl, length-take, length-drop}
use Rattle.std.proofs.lemmas.List.{drop-take, drop-drop, drop_all}
use Rattle.std.proofs.lemmas.Bool.Decides.{nat_tests}
use Rattle.net_octets.proofs.Writing.{behind}
use Rattle.world_face.specs.Journal.{Entry, LinkWrite, Allowed, MayWrite, count_of}
use Rattle.world_face.specs.declared.Io.{Io}
use Rattle.world_face.specs.declared.Io.TheVariants.{Done, End, NotYet, Failed}
use Rattle.world_face.specs.Frames.{tail, rest_after, MayOffer, encoding}
use Rattle.stream_netdev.specs.Offers.{left, offered}
use borrow.Rule.Slice.PartMut.{put_mid}
use Rattle.stream_netdev.specs.Keeps.{Keeps, Settles}
use Rattle.stream_netdev.specs.State.{LinkState, under_way}
use Rattle.stream_netdev.specs.declared.Offered.{Offered}

pub drop_part : (out : List ℕ) (from to n : ℕ) → n ≤ to - from → take (to - (from + n)) (drop (from + n) out) ≡ drop n (take (to - from) (drop from out))
drop_part out from to n le =
    let size : to - from ≡ n + (to - (from + n)) = omega arith in
    ap (λ l. take (to - (from + n)) l) (sym (drop-drop n from out)) ∙ sym (drop-take n (to - (from + n)) (drop from out)) ∙ ap (λ k. drop n (take k (drop from out))) (sym size)

pub write_most : (n : ℕ) (answer : Io) → MayWrite n answer → count_of answer ≤ n
write_most n (Done m) may = may.1
write_most n End may = absurd may
write_most n NotYet may = omega arith
write_most n Failed may = omega arith

pub length-rest : (from to : ℕ) (out : List ℕ) → from ≤ to → to ≤ 1518 → length out ≡ 1518 → length (take (to - from) (drop from out)) ≡ to - from
length-rest from to out le fits room = simp (length-take, length-drop) (omega (arith, le, fits, room))

pub left_after : (answer : Io) (octets : List ℕ) → left (offered answer) (drop (count_of answer) octets) ≡ rest_after answer octets []
left_after (Done n) octets = refl
left_after End octets = refl
left_after NotYet octets = refl
left_after Failed octets = refl

-- a write of a rest
pub after_rest : (old new : LinkState) (answer : Io) (past : List Entry) → 0 < length old.tail → old.blocked ≡ false → Allowed (LinkWrite old.tail answer) → new.tail ≡ drop
    (count_of answer) old.tail → new.blocked ≡ nat_lt (count_of answer) (length old.tail) → under_way new ≡ under_way old
    → Keeps old past → Keeps new (LinkWrite old.tail answer ∷ past)
after_rest old new answer past some free allowed rest blocked same keeps = record {
  framed = ((may old.tail some (tail past) keeps.rest, keeps.blocked ∙ free), keeps.framed);
  partly = keeps.partly ∙ sym same;
  rest = left answer ∙ sym rest;
  blocked = sym blocked;
}
  where
    may : (octets : List ℕ) → 0 < length octets → (rest : List ℕ) → rest ≡ octets → MayOffer rest octets
    may octets some [] is = absurd (omega (arith, ap length is))
    may octets some (x ∷ rest) is = sym is

    left : (a : Io) → rest_after a old.tail (tail past) ≡ drop (count_of a) old.tail
    left (Done n) = refl
    left End = keeps.rest
    left NotYet = keeps.rest
    left Failed = keeps.rest

-- a write of a frame behind its length
encoding_of : (frame : List ℕ) → encoding frame ≡ encoding (drop 4 (encoding frame))
unfolding encoding
encoding_of frame = refl

-- the frame behind its length
pub frame_of_encoded : (frame : List ℕ) → drop 4 (encoding frame) ≡ frame
unfolding encoding
frame_of_encoded frame = refl

-- a frame that was written behind the room for its length, and then encoded
pub encoded_is : (octets now ys frame : List ℕ) (k n : ℕ) → octets ≡ encoding (take n (drop 4 (put_mid 4 k now ys))) → 4 ≤ length now → n ≤ length ys → take n ys ≡ frame
    → octets ≡ encoding frame
encoded_is octets now ys frame k n encoded room few is = encoded ∙ ap encoding (behind 4 k n now ys room few ∙ is)

pub may_offer : (octets frame : List ℕ) → octets ≡ encoding frame → length octets ≤ 1518 → MayOffer [] octets
may_offer octets frame is fits = (subst (λ l. l ≡ encoding (drop 4 l)) (sym is) (encoding_of frame), fits)

pub after_frame : (old new : LinkState) (octets frame : List ℕ) (answer : Io) (past : List Entry) → octets ≡ encoding frame → length octets ≤ 1518 → old.tail ≡ [] → old.blocked ≡ false →
    new.tail ≡ rest_after answer octets [] → new.blocked ≡ nat_lt (count_of answer) (length octets) → under_way new ≡ under_way old
    → Keeps old past → Keeps new (LinkWrite octets answer ∷ past)
after_frame old new octets frame answer past is fits none free rest blocked same keeps =
    let no_tail : tail past ≡ [] = keeps.rest ∙ none in
    record {
      framed = ((subst (λ t. MayOffer t octets) (sym no_tail) (may_offer octets frame is fits), keeps.blocked ∙ free), keeps.framed);
      partly = keeps.partly ∙ sym same;
      rest = ap (rest_after answer octets) no_tail ∙ sym rest;
      blocked = sym blocked;
    }

pub encoding_some : (frame : List ℕ) → 0 < length (encoding frame)
unfolding encoding
encoding_some frame = omega arith

taken_all : (n m : ℕ) → nat_lt n m ≡ false → m ≤ n
taken_all n m is = grind (arith, nat_tests)

some_left : (m : ℕ) → 0 < m → nat_lt 0 m ≡ true
some_left m some = grind (arith, nat_tests)

pub settles : (new : LinkState) (answer : Io) (octets : List ℕ) (result : Offered) → 0 < length octets → Allowed (LinkWrite octets answer) → new.blocked ≡ nat_lt (count_of answer)
    (length octets) → new.tail ≡ left (offered answer) (drop (count_of answer) octets) → result ≡ offered answer → Settles result new
settles new answer octets result some allowed blocked rest is = subst (λ r. Settles r new) (sym is) (by_answer answer allowed.0 blocked rest)
  where
    by_answer : (a : Io) → MayWrite (length octets) a → new.blocked ≡ nat_lt (count_of a) (length octets) → new.tail ≡ left (offered a) (drop (count_of a) octets) → Settles (offered a) new
    by_answer (Done n) may b r = λ free. r ∙ drop_all n octets (taken_all n (length octets) (sym b ∙ free))
    by_answer End may b r = absurd may
    by_answer NotYet may b r = b ∙ some_left (length octets) some
    by_answer Failed may b r = tt

pub settles_rest : (new : LinkState) (answer : Io) (octets : List ℕ) (result : Offered) → 0 < length octets → Allowed (LinkWrite octets answer) → new.blocked ≡ nat_lt
    (count_of answer) (length octets) → new.tail ≡ drop (count_of answer) octets → result ≡ offered answer → Settles result new
settles_rest new answer octets result some allowed blocked rest is = subst (λ r. Settles r new) (sym is) (by_answer answer allowed.0 blocked rest)
  where
    by_answer : (a : Io) → MayWrite (length octets) a → new.blocked ≡ nat_lt (count_of a) (length octets) → new.tail ≡ drop (count_of a) octets → Settles (offered a) new
    by_answer (Done n) may b r = λ free. r ∙ drop_all n octets (taken_all n (length octets) (sym b ∙ free))
    by_answer End may b r = absurd may
    by_answer NotYet may b r = b ∙ some_left (length octets) some
    by_answer Failed may b r = tt
