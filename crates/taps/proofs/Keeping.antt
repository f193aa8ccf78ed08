-- One line more that waits or was put.
use Rattle.std.proofs.Common.{◌≡◌, ◌≤◌, ℕ, Bool, true, false, List, ◌∷◌, ◌++◌, Option, Some, None, refl, sym, ◌∙◌, ap, append_assoc, arith}
use Rattle.world_face.specs.Journal.{Entry}
use Rattle.world_face.specs.Puts.{added}
use Rattle.world_face.specs.Tells.{Rose}
use Rattle.replay.specs.Text.{line_text, text}
use Rattle.taps.specs.Recording.{IsKept}

-- some octets and then some more
pub added_twice : (first then : List ℕ) (held : Option (List ℕ)) → added then (added first held) ≡ added (first ++ then) held
added_twice first then None = refl
added_twice first then (Some got) = ap Some (append_assoc got first then)

-- a count that rose did so whatever followed, and whatever came before
pub rose_before : (a b c : ℕ) → Rose a b → b ≤ c → Rose a c
rose_before a b c rose later = omega (arith, rose, later)

pub rose_after : (a b c : ℕ) → a ≤ b → Rose b c → Rose a c
rose_after a b c earlier rose = omega (arith, earlier, rose)

-- a failure now or before
pub failed_by : (failed : Bool) (a b c : ℕ) → (failed ≡ true → Rose a b) → (failed ≡ false → Rose b c) → a ≤ b → b ≤ c → Rose a c
failed_by true a b c before now earlier later = rose_before a b c (before refl) later
failed_by false a b c before now earlier later = rose_after a b c earlier (now refl)

-- a line was kept behind those that wait
pub kept_on : {old between new : Option (List ℕ)} {a b c : ℕ} {lines lines_new : List ℕ} {e : Entry} {made more : List Entry} {failed failed_new : Bool}
    → IsKept old between a b lines made failed → (failed_new ≡ false → failed ≡ false) → (failed_new ≡ false → added lines_new new ≡ added (lines ++ line_text e) between)
    → (failed_new ≡ true → failed ≡ false → Rose b c) → b ≤ c → more ≡ e ∷ made → IsKept old new a c lines_new more failed_new
kept_on {old} {between} {new} {a} {b} {c} {lines} {lines_new} {e} {made} {more} {failed} {failed_new} so_far before kept rose later is = record {
  put = λ fine. kept fine ∙ sym (added_twice lines (line_text e) between) ∙ ap (λ held. added (line_text e) held) (so_far.put (before fine)) ∙ added_twice (text made)
      (line_text e) old ∙ ap (λ made. added (text made) old) (sym is);
  fault = λ fails. failed_by failed a b c so_far.fault (rose fails) so_far.later later;
  later = omega (arith, so_far.later, later);
}
