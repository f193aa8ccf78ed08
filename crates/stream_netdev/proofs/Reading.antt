-- A frame that is read in pieces.
use Rattle.std.proofs.Common.{◌≡◌, ℕ, ◌<◌, true, false, List, [], ◌∷◌, ◌++◌, length, drop, Some, None, refl, sym, ◌∙◌, ap, subst, arith, cond, if◌then◌else◌}
use Rattle.std.proofs.lemmas.Bool.Decides.{nat_tests}
use Rattle.std.proofs.lemmas.List.{append-nil}
use Rattle.world_face.specs.Journal.{Entry, Follows, LinkRead, count_of}
use Rattle.world_face.specs.Tells.{Telling, Answers, Makes}
use Rattle.world_face.proofs.Telling.{makes_next, makes_as}
use Rattle.world_face.specs.declared.Io.{Io}
use Rattle.world_face.specs.declared.Io.TheVariants.{Done, End, Failed as IoFailed}
use Rattle.world_face.specs.Frames.{LongFrame, missing, encoded_length, is_whole, is_too_long, partial, arrived, read_ending, tail, is_blocked, MayFrame}
use Rattle.stream_netdev.specs.Frames.{cut, ended, IsDone, Pieces, Reads}
use Rattle.stream_netdev.specs.Keeps.{ReadsOn, Keeps, ReadsFrame, EndsBy, Tells, hands, ending_of, ended_after}
use Rattle.stream_netdev.specs.State.{LinkState, under_way}
use Rattle.stream_netdev.specs.declared.Arrived.{Arrived}
use Rattle.stream_netdev.specs.declared.Arrived.TheVariants.{Frame, End as ArrivedEnd, Cut, TooLong, Failed}

-- reads that gave these octets so far
pub record Middle (link : LinkState) (made past : List Entry) (octets : List ℕ) : Type 0 where
  pub framed : Follows MayFrame (made ++ past)
  pub partly : partial (made ++ past) ≡ octets
  pub rest : tail (made ++ past) ≡ link.tail
  pub blocked : is_blocked (made ++ past) ≡ link.blocked
  pub pieces : Pieces made past

-- the same, with one more read
pub record Read (link : LinkState) (answer : Io) (made past : List Entry) (octets : List ℕ) : Type 0 where
  pub framed : Follows MayFrame (made ++ past)
  pub partly : partial (made ++ past) ≡ cut octets
  pub rest : tail (made ++ past) ≡ link.tail
  pub blocked : is_blocked (made ++ past) ≡ link.blocked
  pub reads : Reads made past
  pub frame : arrived (made ++ past) ≡ (if is_whole octets then Some (drop 4 octets) else None)
  pub last : ended (made ++ past) ≡ read_ending answer octets
  pub pieces : IsDone answer → is_whole octets ≡ false → read_ending answer octets ≡ None → Pieces made past

-- the newest of these entries is a read with this answer
abbrev pub IsLast : Io → List Entry → Type 0
IsLast answer [] = ⊥
IsLast answer (LinkRead asked last octets ∷ made) = last ≡ answer
IsLast answer (_ ∷ made) = ⊥

pub ends_by : (result : Arrived) (answer : Io) (made : List Entry) → Tells result answer → IsLast answer made → EndsBy result made
ends_by result answer [] tells last = last
ends_by result answer (LinkRead asked was octets ∷ made) tells last = subst (Tells result) (sym last) tells
ends_by result answer (_ ∷ made) tells last = absurd last

one_more : (link : LinkState) (made past : List Entry) (octets got new : List ℕ) (answer : Io) → Middle link made past octets → new ≡ octets ++ got
    → Read link answer (LinkRead (missing octets) answer got ∷ made) past new
one_more link made past octets got new answer middle joined =
    let here : partial (made ++ past) ++ got ≡ new = ap (λ l. l ++ got) middle.partly ∙ sym joined in
    let frame : arrived (LinkRead (missing octets) answer got ∷ (made ++ past)) ≡ (if is_whole new then Some (drop 4 new) else None) = ap (λ l. if is_whole l then Some (drop 4 l) else None) here in
    record {
      framed = (ap missing (sym middle.partly), middle.framed);
      partly = ap cut here;
      rest = middle.rest;
      blocked = middle.blocked;
      reads = (tt, middle.pieces);
      frame = frame;
      last = ap (read_ending answer) here;
      pieces = λ done open_end goes_on. (done, frame ∙ ap (λ b. cond b (Some (drop 4 new)) None) open_end, ap (read_ending answer) here ∙ goes_on, middle.pieces);
    }

module _ (a b c : Telling) (link : LinkState) (octets new : List ℕ) (answer : Io)
    (so_far : Makes a b (λ made. (past : List Entry) → Keeps link past → Middle link made past octets))
    (read : (got : List ℕ) × Answers b c (LinkRead (missing octets) answer got) × (new ≡ octets ++ got)) where
  pub a_read : Makes a c (λ made. IsLast answer made × ((past : List Entry) → Keeps link past → Read link answer made past new))
  a_read = makes_next a b c (LinkRead (missing octets) answer read.0) (λ made. (past : List Entry) → Keeps link past → Middle link made past octets)
      (λ made. IsLast answer made × ((past : List Entry) → Keeps link past → Read link answer made past new))
      so_far read.1 (λ made holds allowed. (refl, λ past keeps. one_more link made past octets read.0 new answer (holds past keeps) read.2))

  -- where nothing was read
  pub the_same : count_of answer ≡ 0 → new ≡ octets
  the_same none = read.2 ∙ empty read.0 (read.1.allowed.1.0 ∙ none)
    where
      empty : (got : List ℕ) → length got ≡ 0 → octets ++ got ≡ octets
      empty [] is = append-nil octets
      empty (x ∷ got) is = absurd (omega arith)

-- the reads so far, where no frame is whole
pub read_middle : (link : LinkState) (answer : Io) (made past : List Entry) (octets : List ℕ) → IsDone answer → is_whole octets ≡ false → read_ending answer octets ≡ None →
    Read link answer made past octets → Middle link made past octets
read_middle link answer made past octets done open_end goes_on r = record {
  framed = r.framed;
  partly = r.partly ∙ ap (λ b. cond b [] octets) open_end;
  rest = r.rest;
  blocked = r.blocked;
  pieces = r.pieces done open_end goes_on;
}

-- what is kept where no frame is whole, and where one is
pub read_open : (old link : LinkState) (answer : Io) (made past : List Entry) → link.whole ≡ false → (link.tail ≡ old.tail) × (link.blocked ≡ old.blocked) → is_whole link.octets ≡ false
    → Read old answer made past link.octets → Keeps link (made ++ past) × (arrived (made ++ past) ≡ None)
read_open old link answer made past begun same open_end r = (
  record {
    framed = r.framed;
    partly = r.partly ∙ ap (λ b. cond b [] link.octets) open_end ∙ sym (ap (λ b. cond b [] link.octets) begun);
    rest = r.rest ∙ sym same.0;
    blocked = r.blocked ∙ sym same.1;
  },
  r.frame ∙ ap (λ b. cond b (Some (drop 4 link.octets)) None) open_end,
)

pub unfinished_of : (octets : List ℕ) → 0 < missing octets → is_whole octets ≡ false
unfinished_of octets some = grind (arith, nat_tests)

-- an answer that hands over no frame
pub no_frame : (a c : Telling) (old link : LinkState) (answer : Io) (result : Arrived) → link.whole ≡ false → (link.tail ≡ old.tail) × (link.blocked ≡ old.blocked) → is_whole link.octets ≡ false
    → hands result link ≡ None → ending_of result ≡ read_ending answer link.octets → Tells result answer → Makes a c
    (λ made. IsLast answer made × ((past : List Entry) → Keeps old past → Read old answer made past link.octets))
    → Makes a c (λ made. EndsBy result made × ((past : List Entry) → Keeps old past → Keeps link (made ++ past) × ReadsFrame result link made past))
no_frame a c old link answer result begun same unfinished none last tells read =
    makes_as a c (λ made. IsLast answer made × ((past : List Entry) → Keeps old past → Read old answer made past link.octets))
    (λ made. EndsBy result made × ((past : List Entry) → Keeps old past → Keeps link (made ++ past) × ReadsFrame result link made past)) read (λ made holds. (
      ends_by result answer made tells holds.0,
      λ past keeps.
          let r = holds.1 past keeps in
          let k = read_open old link answer made past begun same unfinished r in
          (k.0, record { reads = r.reads; frame = k.1 ∙ sym none; last = r.last ∙ sym last }),
    ))

-- a read that moved something ends the run only by a length that is too great
pub goes_on : (n : ℕ) (octets : List ℕ) → is_too_long octets ≡ false → read_ending (Done n) octets ≡ None
goes_on n octets short = ap (λ b. cond b (Some (LongFrame (encoded_length octets))) None) short

pub ends_long : (n length : ℕ) (octets : List ℕ) → is_too_long octets ≡ true → length ≡ encoded_length octets → ending_of (TooLong length) ≡ read_ending (Done n) octets
ends_long n length octets long is = ap (λ k. Some (LongFrame k)) is ∙ sym (ap (λ b. cond b (Some (LongFrame (encoded_length octets))) None) long)

-- what is kept where a frame is whole
pub read_whole : (old link : LinkState) (answer : Io) (made past : List Entry) (octets : List ℕ) → is_whole octets ≡ true → read_ending answer octets ≡ None →
    link.octets ≡ octets → link.whole ≡ true → link.tail ≡ old.tail → link.blocked ≡ old.blocked
    → Read old answer made past octets → Keeps link (made ++ past) × ReadsFrame Frame link made past
read_whole old link answer made past octets whole on same is rest blocked r = (
  record {
    framed = r.framed;
    partly = r.partly ∙ ap (λ b. cond b [] octets) whole ∙ sym (ap (λ b. cond b [] link.octets) is);
    rest = r.rest ∙ sym rest;
    blocked = r.blocked ∙ sym blocked;
  },
  record {
    reads = r.reads;
    frame = r.frame ∙ ap (λ b. cond b (Some (drop 4 octets)) None) whole ∙ ap (λ l. Some (drop 4 l)) (sym same);
    last = r.last ∙ on;
  },
)

-- the next frame can be read
pub reads_first : ReadsOn []
unfolding missing
reads_first = record { some = omega arith; fits = omega arith }

pub reads_next : (link : LinkState) → link.whole ≡ true → ReadsOn (under_way link)
reads_next link whole = subst ReadsOn (sym (ap (λ b. cond b [] link.octets) whole)) reads_first

-- an end of the link hands over no frame, and tells the ending
pub ends_hand : (octets : List ℕ) (link : LinkState) → hands (ended_after octets) link ≡ None
ends_hand [] link = refl
ends_hand (x ∷ octets) link = refl

pub ends_tell : (octets : List ℕ) → ending_of (ended_after octets) ≡ read_ending End octets
ends_tell [] = refl
ends_tell (x ∷ octets) = refl

pub end_tells : (octets : List ℕ) → Tells (ended_after octets) End
end_tells [] = refl
end_tells (x ∷ octets) = refl

pub ended_is_no_failure : (octets : List ℕ) → ended_after octets ≡ Failed → ⊥
ended_is_no_failure [] is = cc
ended_is_no_failure (x ∷ octets) is = cc
