-- One call more in a stretch.
use Rattle.std.proofs.Common.{◌≡◌, ℕ, List, ◌∷◌, Option, refl, sym, ◌∙◌, ap, subst, arith}
use Rattle.poll_list.specs.Picks.{as_list}
use Rattle.poll_list.specs.declared.Want.{Want}
use Rattle.world_face.specs.Journal.{Allowed, Entry, Wait}
use Rattle.world_face.specs.Tells.{Telling, Answers, on}
use Rattle.world_face.specs.declared.Waited.{Waited}
use Rattle.world_face.proofs.Telling.{makes_next}
use Rattle.rules_control.specs.Apart.{others, reported_of}
use Rattle.control.specs.Stretches.{ArePassed, Asided, IsKept, IsSeen, last_reported, marked_for, tells_seen}
use Rattle.control.specs.Waits.{with_item}

-- any but a wait
pub kept_on : {began old new : Telling} {item : Option Want} {reported : List Want} {e noted : Entry} {seen more : List Entry} {wants_room ready_room : ℕ}
    → IsKept began old item reported seen wants_room ready_room → Answers old new e → more ≡ noted ∷ seen → noted ≡ e
    → IsSeen item e e → ((made : List Entry) → last_reported item (e ∷ made) ≡ last_reported item made) → IsKept began new item reported more wants_room ready_room
kept_on {began} {old} {new} {item} {reported} {e} {noted} {seen} {more} so_far answers is same shown passed_by = record {
  passed = makes_next began old new e (ArePassed item reported seen) (ArePassed item reported more) so_far.passed answers
      (λ made was allowed. subst (λ l. ArePassed item reported l (e ∷ made)) (sym (is ∙ ap (λ x. x ∷ seen) same))
      (record { entries = (shown, was.entries); last = was.last ∙ sym (passed_by made) }));
  own = so_far.own;
  wanted = so_far.wanted;
  wants = so_far.wants;
  ready = so_far.ready;
}

-- a wait
pub waited_on : {began old new : Telling} {item : Option Want} {reported reported_new : List Want} {wants wanted ready shown : List Want} {timeout : Option ℕ} {answer : Waited}
    {noted : Entry} {seen more : List Entry} {wants_room wants_room_new ready_room ready_room_new : ℕ}
    → IsKept began old item reported seen wants_room ready_room → Answers old new (Wait wanted timeout answer ready) → wanted ≡ with_item item wants
    → more ≡ noted ∷ seen → noted ≡ Wait wants timeout answer shown → shown ≡ others ready → reported_new ≡ reported_of (as_list item) ready
    → wants_room_new ≡ wants_room → ready_room_new ≡ ready_room → IsKept began new item reported_new more wants_room_new ready_room_new
waited_on {began} {old} {new} {item} {reported} {reported_new} {wants} {wanted} {ready} {shown} {timeout} {answer} {noted} {seen} {more} so_far answers among is same left reports wants_same ready_same = record {
  passed = makes_next began old new (Wait wanted timeout answer ready) (ArePassed item reported seen) (ArePassed item reported_new more) so_far.passed answers
      (λ made was allowed. subst (λ l. ArePassed item reported_new l (Wait wanted timeout answer ready ∷ made)) (sym (is ∙ ap (λ x. x ∷ seen) same))
      (record { entries = ((ready, ap (λ l. Wait l timeout answer ready) among, left), was.entries); last = reports }));
  own = so_far.own;
  wanted = so_far.wanted;
  wants = omega (arith, so_far.wants, wants_same);
  ready = omega (arith, so_far.ready, ready_same);
}

-- what the network is told of it
pub wait_told : {W : Type 0} {before old : Asided W} (tells : W → Telling) (new : Asided W) {wants wanted ready shown : List Want} {timeout : Option ℕ} {answer : Waited} → before ≡ old
    → Answers (tells before.world) (tells new.world) (Wait wanted timeout answer ready) → new.began ≡ before.began → new.item ≡ before.item
    → new.seen ≡ Wait wants timeout answer shown ∷ before.seen → Allowed (Wait wants timeout answer shown)
    → Answers (tells_seen tells old) (tells_seen tells new) (Wait wants timeout answer shown)
wait_told {W} {before} tells new {wants} {shown = shown} {timeout} {answer} is answers began item seen allowed =
    subst (λ (a : Asided W). Answers (tells_seen tells a) (tells_seen tells new) (Wait wants timeout answer shown)) is (record {
      same = ap (λ w. marked_for (tells w) new.item) began ∙ ap (marked_for (tells before.began)) item;
      allowed = allowed;
      told = on refl refl seen;
      counted = record { link = answers.counted.link; wait = answers.counted.wait; socket = answers.counted.socket; file = answers.counted.file };
    })
