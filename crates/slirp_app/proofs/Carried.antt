-- The octets of the link are read frame by frame: what is under way is a part of the next one.
use Rattle.std.proofs.Common.{◌≡◌, ℕ, ◌+◌, ◌-◌, ◌<◌, ◌≤◌, nat_lt, Bool, true, false, cond, List, [], ◌∷◌, ◌++◌, length, drop, Some, None, refl, sym, ◌∙◌, ap, arith}
use Rattle.std.proofs.lemmas.Bool.Decides.{nat_tests}
use Rattle.std.proofs.lemmas.List.{append_assoc, length-append, drop_at, take-append-le}
use Rattle.std.proofs.lemmas.Nat.{from_be_bytes-to_be_bytes_4}
use Rattle.std.specs.Int.{w32, from_be_bytes}
use Rattle.world_face.specs.Frames.{LinkCut, LongFrame, MayFrame, ending, is_too_long, is_whole, missing, partial, read_ending, encoding, encoded_length}
use Rattle.slirp_app.proofs.Rightly.{AreRightReads}
use Rattle.world_face.specs.Journal.{Entry, Follows, Wait, LinkRead, LinkWrite, MayRead, count_of}
use Rattle.world_face.specs.declared.Io.{Io}
use Rattle.world_face.specs.declared.Io.TheVariants.{Done, End, NotYet, Failed}
use Rattle.world_face.specs.declared.Waited.TheVariants.{Ready, Stop, Failed as WaitFails}
use Rattle.slirp_app.specs.Untroubled.{MayCome, link_octets, link_ended, encoded}

-- ---- what octets are missing

if_short : (octets : List ℕ) → length octets < 4 → missing octets ≡ 4 - length octets
unfolding missing
if_short octets short = by (nat_lt (length octets) 4) refl
  where
    by : (b : Bool) → nat_lt (length octets) 4 ≡ b → cond b (4 - length octets) (4 + encoded_length octets - length octets) ≡ 4 - length octets
    by true is = refl
    by false is = grind (arith, nat_tests)

if_long : (octets : List ℕ) → 4 ≤ length octets → missing octets ≡ 4 + encoded_length octets - length octets
unfolding missing
if_long octets long = by (nat_lt (length octets) 4) refl
  where
    by : (b : Bool) → nat_lt (length octets) 4 ≡ b → cond b (4 - length octets) (4 + encoded_length octets - length octets) ≡ 4 + encoded_length octets - length octets
    by true is = grind (arith, nat_tests)
    by false is = refl

none_missing : (octets : List ℕ) → is_whole octets ≡ true → missing octets ≡ 0
none_missing octets is = grind (arith, nat_tests)

some_missing : (octets : List ℕ) → is_whole octets ≡ false → 0 < missing octets
some_missing octets is = grind (arith, nat_tests)

-- the first four octets tell the length, whatever follows
same_length : (octets more : List ℕ) → 4 ≤ length octets → encoded_length (octets ++ more) ≡ encoded_length octets
unfolding encoded_length
same_length octets more long = ap (from_be_bytes w32) (take-append-le 4 octets more long)

encodes : (frame more : List ℕ) → length frame ≤ 69632 → encoded_length (encoding frame ++ more) ≡ length frame
unfolding encoded_length encoding
encodes frame more few = from_be_bytes-to_be_bytes_4 (length frame) (omega arith)

encoding_long : (frame : List ℕ) → length (encoding frame) ≡ 4 + length frame
unfolding encoding
encoding_long frame = omega arith

-- a frame that is whole by octets of which no more came than were missing
whole_long : (octets more : List ℕ) → is_whole octets ≡ false → length more ≤ missing octets → is_whole (octets ++ more) ≡ true → length (octets ++ more) ≡ 4 + encoded_length (octets ++ more)
whole_long octets more open_yet few whole = by (nat_lt (length octets) 4) refl (nat_lt (length (octets ++ more)) 4) refl
  where
    by : (a : Bool) → nat_lt (length octets) 4 ≡ a → (b : Bool) → nat_lt (length (octets ++ more)) 4 ≡ b → length (octets ++ more) ≡ 4 + encoded_length (octets ++ more)
    by a first true joined =
        let none = none_missing (octets ++ more) whole in
        let short : length (octets ++ more) < 4 = grind (arith, nat_tests) in
        let this = if_short (octets ++ more) short in
        absurd (omega arith)
    by true first false joined =
        let none = none_missing (octets ++ more) whole in
        let long : 4 ≤ length (octets ++ more) = grind (arith, nat_tests) in
        let short : length octets < 4 = grind (arith, nat_tests) in
        let this = if_long (octets ++ more) long in
        let that = if_short octets short in
        let sum = length-append octets more in
        omega arith
    by false first false joined =
        let none = none_missing (octets ++ more) whole in
        let some = some_missing octets open_yet in
        let long : 4 ≤ length octets = grind (arith, nat_tests) in
        let sum = length-append octets more in
        let this = if_long (octets ++ more) (omega arith) in
        let that = if_long octets long in
        let same = same_length octets more long in
        omega arith

-- ---- against frames

-- so many octets of a frame and what follows tell its length
starts : (octets rest frame more : List ℕ) → octets ++ rest ≡ encoding frame ++ more → 4 ≤ length octets → length frame ≤ 69632 → encoded_length octets ≡ length frame
starts octets rest frame more is long few = sym (same_length octets rest long) ∙ ap encoded_length is ∙ encodes frame more few

nothing_there : (octets rest : List ℕ) → octets ++ rest ≡ [] → octets ≡ []
nothing_there [] rest is = refl
nothing_there (x ∷ octets) rest is = cc

none_whole : is_whole [] ≡ false
unfolding missing
none_whole = refl

-- What is left of the frames: the octets under way begin it, and aren't a whole frame.
pub record Carried (under_way rest : List ℕ) : Type 0 where
  pub later : List (List ℕ)
  pub fit : MayCome later
  pub is : under_way ++ rest ≡ encoded later
  pub part : is_whole under_way ≡ false

past_frame : (octets rest : List ℕ) (later : List (List ℕ)) → MayCome later → octets ++ rest ≡ encoded later → is_whole octets ≡ true → length octets ≡ 4 + encoded_length octets → Carried [] rest
past_frame octets rest [] fit is whole long =
    let none = nothing_there octets rest is in
    let zero_long : length octets ≡ 0 = ap length none in
    absurd (omega arith)
past_frame octets rest (frame ∷ later) fit is whole long =
    let told = starts octets rest frame (encoded later) is (omega arith) fit.0 in
    let size : length (encoding frame) ≡ length octets = encoding_long frame ∙ ap (λ n. 4 + n) (sym told) ∙ sym long in
    record {
      later = later;
      fit = fit.1;
      is = sym (drop_at octets rest (length octets) refl) ∙ ap (drop (length octets)) is ∙ drop_at (encoding frame) (encoded later)
          (length octets) size;
      part = none_whole;
    }

read_step : (under_way octets rest : List ℕ) → Carried under_way (octets ++ rest) → length octets ≤ missing under_way → (whole : Bool) → is_whole (under_way ++ octets) ≡ whole →
    Carried (cond whole [] (under_way ++ octets)) rest
read_step under_way octets rest before few false is =
    record { later = before.later; fit = before.fit; is = append_assoc under_way octets rest ∙ before.is; part = is }
read_step under_way octets rest before few true is =
    past_frame (under_way ++ octets) rest before.later before.fit (append_assoc under_way octets rest ∙ before.is) is (whole_long under_way octets before.part few is)

few_read : (asked : ℕ) (answer : Io) → MayRead asked answer → count_of answer ≤ asked
few_read asked (Done n) may = may.1
few_read asked End may = omega arith
few_read asked NotYet may = omega arith
few_read asked Failed may = omega arith

pub carried : (journal : List Entry) (frames : List (List ℕ)) (rest : List ℕ) → AreRightReads journal → Follows MayFrame journal → MayCome frames → link_octets journal
    ++ rest ≡ encoded frames → Carried (partial journal) rest
carried [] frames rest allowed framed fit is = record { later = frames; fit = fit; is = is; part = none_whole }
carried (LinkRead asked answer octets ∷ past) frames rest allowed framed fit is =
    let before = carried past frames (octets ++ rest) allowed.1 framed.1 fit (sym (append_assoc (link_octets past) octets rest) ∙ is) in
    let few : length octets ≤ missing (partial past) = (let size = allowed.0.1.0 in let most = few_read asked answer allowed.0.0 in let whole = framed.0 in omega arith) in
    read_step (partial past) octets rest before few (is_whole (partial past ++ octets)) refl
carried (_ ∷ past) frames rest allowed framed fit is = carried past frames rest allowed.1 framed.1 fit is

-- ---- no length is too great

fits : (octets rest : List ℕ) (later : List (List ℕ)) → MayCome later → octets ++ rest ≡ encoded later → 4 ≤ length octets → encoded_length octets ≤ 69632
fits octets rest [] fit is long =
    let none = nothing_there octets rest is in
    let zero_long : length octets ≡ 0 = ap length none in
    absurd (omega arith)
fits octets rest (frame ∷ later) fit is long = let told = starts octets rest frame (encoded later) is long fit.0 in let few = fit.0 in omega arith

not_long : (octets rest : List ℕ) (later : List (List ℕ)) → MayCome later → octets ++ rest ≡ encoded later → is_too_long octets ≡ true → ⊥
unfolding is_too_long
not_long octets rest later fit is too = by (nat_lt (length octets) 4) refl too
  where
    by : (short : Bool) → nat_lt (length octets) 4 ≡ short → cond short false (nat_lt 69632 (encoded_length octets)) ≡ true → ⊥
    by true test too = cc
    by false test too =
        let long : 4 ≤ length octets = grind (arith, nat_tests) in
        let few = fits octets rest later fit is long in
        let many : 69632 < encoded_length octets = grind (arith, nat_tests) in
        omega arith

long_by : (octets : List ℕ) (n : ℕ) (too : Bool) → is_too_long octets ≡ too → cond too (Some (LongFrame (encoded_length octets))) None ≡ Some (LongFrame n) → is_too_long octets ≡ true
long_by octets n true too is = too
long_by octets n false too is = cc

too_long : (answer : Io) (octets : List ℕ) (n : ℕ) → read_ending answer octets ≡ Some (LongFrame n) → is_too_long octets ≡ true
too_long (Done k) octets n is = long_by octets n (is_too_long octets) refl is
too_long End [] n is = cc
too_long End (x ∷ octets) n is = cc
too_long NotYet octets n is = cc
too_long Failed octets n is = cc

pub no_long_frame : (e : Entry) (past : List Entry) (frames : List (List ℕ)) (rest : List ℕ) (n : ℕ) → AreRightReads past → Follows MayFrame past → MayCome frames → link_octets
    (e ∷ past) ++ rest ≡ encoded frames → ending e (partial past) ≡ Some (LongFrame n) → ⊥
no_long_frame (LinkRead asked answer octets) past frames rest n allowed framed fit is ends =
    let before = carried past frames (octets ++ rest) allowed framed fit (sym (append_assoc (link_octets past) octets rest) ∙ is) in
    not_long (partial past ++ octets) rest before.later before.fit (append_assoc (partial past) octets rest ∙ before.is) (too_long answer (partial past ++ octets) n ends)
no_long_frame (Wait wants timeout Ready ready) past frames rest n allowed framed fit is ends = cc
no_long_frame (Wait wants timeout Stop ready) past frames rest n allowed framed fit is ends = cc
no_long_frame (Wait wants timeout WaitFails ready) past frames rest n allowed framed fit is ends = cc
no_long_frame (LinkWrite octets (Done k)) past frames rest n allowed framed fit is ends = cc
no_long_frame (LinkWrite octets End) past frames rest n allowed framed fit is ends = cc
no_long_frame (LinkWrite octets NotYet) past frames rest n allowed framed fit is ends = cc
no_long_frame (LinkWrite octets Failed) past frames rest n allowed framed fit is ends = cc
no_long_frame _ past frames rest n allowed framed fit is ends = cc

-- ---- no frame is cut off

none_left : (octets : List ℕ) (later : List (List ℕ)) → MayCome later → octets ++ [] ≡ encoded later → is_whole octets ≡ false → octets ≡ []
none_left octets [] fit is part = nothing_there octets [] is
none_left octets (frame ∷ later) fit is part =
    let some = some_missing octets part in
    let size : length octets + 0 ≡ length (encoding frame) + length (encoded later) = sym (length-append octets []) ∙ ap length is ∙ length-append (encoding frame) (encoded later) in
    let head = encoding_long frame in
    let long : 4 ≤ length octets = omega arith in
    let told = starts octets [] frame (encoded later) is long fit.0 in
    let gap = if_long octets long in
    absurd (omega arith)

empty : (octets : List ℕ) → length octets ≡ 0 → octets ≡ []
empty [] is = refl
empty (x ∷ octets) is = absurd (omega arith)

uncut : (octets : List ℕ) (n : ℕ) → octets ≡ [] → read_ending End octets ≡ Some (LinkCut n) → ⊥
uncut [] n is ends = cc
uncut (x ∷ octets) n is ends = cc

no_cut : (asked : ℕ) (answer : Io) (octets : List ℕ) (past : List Entry) (frames : List (List ℕ)) (n : ℕ) → AreRightReads (LinkRead asked answer octets ∷ past) → Follows MayFrame past → MayCome frames
    → link_ended (LinkRead asked answer octets ∷ past) ≡ true → link_octets past ++ octets ≡ encoded frames → read_ending answer (partial past ++ octets) ≡ Some (LinkCut n) → ⊥
no_cut asked (Done k) octets past frames n allowed framed fit over is ends = by (is_too_long (partial past ++ octets)) ends
  where
    by : (too : Bool) → cond too (Some (LongFrame (encoded_length (partial past ++ octets)))) None ≡ Some (LinkCut n) → ⊥
    by true is = cc
    by false is = cc
no_cut asked End octets past frames n allowed framed fit over is ends =
    let none = empty octets allowed.0.1.0 in
    let before = carried past frames octets allowed.1 framed fit is in
    let left = none_left (partial past) before.later before.fit (ap (λ l. partial past ++ l) (sym none) ∙ before.is) before.part in
    uncut (partial past ++ octets) n (ap (λ l. l ++ octets) left ∙ none) ends
no_cut asked NotYet octets past frames n allowed framed fit over is ends = cc
no_cut asked Failed octets past frames n allowed framed fit over is ends = cc

-- the link ended where a frame is cut off
pub cut_ended : (e : Entry) (past : List Entry) (n : ℕ) → ending e (partial past) ≡ Some (LinkCut n) → link_ended (e ∷ past) ≡ true
cut_ended (LinkRead asked (Done k) octets) past n ends = absurd (by (is_too_long (partial past ++ octets)) ends)
  where
    by : (too : Bool) → cond too (Some (LongFrame (encoded_length (partial past ++ octets)))) None ≡ Some (LinkCut n) → ⊥
    by true is = cc
    by false is = cc
cut_ended (LinkRead asked End octets) past n ends = refl
cut_ended (LinkRead asked NotYet octets) past n ends = cc
cut_ended (LinkRead asked Failed octets) past n ends = cc
cut_ended (Wait wants timeout Ready ready) past n ends = cc
cut_ended (Wait wants timeout Stop ready) past n ends = cc
cut_ended (Wait wants timeout WaitFails ready) past n ends = cc
cut_ended (LinkWrite octets (Done k)) past n ends = cc
cut_ended (LinkWrite octets End) past n ends = cc
cut_ended (LinkWrite octets NotYet) past n ends = cc
cut_ended (LinkWrite octets Failed) past n ends = cc
cut_ended _ past n ends = cc

pub no_frame_cut : (e : Entry) (past : List Entry) (frames : List (List ℕ)) (n : ℕ) → AreRightReads (e ∷ past) → Follows MayFrame past → MayCome frames → link_octets
    (e ∷ past) ≡ encoded frames → ending e (partial past) ≡ Some (LinkCut n) → ⊥
no_frame_cut (LinkRead asked answer octets) past frames n allowed framed fit is ends = no_cut asked answer octets past frames n allowed framed fit
    (cut_ended (LinkRead asked answer octets) past n ends) is ends
no_frame_cut (Wait wants timeout Ready ready) past frames n allowed framed fit is ends = cc
no_frame_cut (Wait wants timeout Stop ready) past frames n allowed framed fit is ends = cc
no_frame_cut (Wait wants timeout WaitFails ready) past frames n allowed framed fit is ends = cc
no_frame_cut (LinkWrite octets (Done k)) past frames n allowed framed fit is ends = cc
no_frame_cut (LinkWrite octets End) past frames n allowed framed fit is ends = cc
no_frame_cut (LinkWrite octets NotYet) past frames n allowed framed fit is ends = cc
no_frame_cut (LinkWrite octets Failed) past frames n allowed framed fit is ends = cc
no_frame_cut _ past frames n allowed framed fit is ends = cc
