-- The octets of a block are those that its calls brought.
use Rattle.std.proofs.Common.{◌≡◌, ℕ, ◌+◌, ◌-◌, ◌%◌, ◌^◌, ◌⊎◌, inl, inr, nat_le, Bool, true, false, cond, List, [], ◌∷◌, ◌++◌, length, Option, Some, None, refl, sym, ◌∙◌, ap, subst}
use Rattle.world_face.specs.Journal.{Entry, FileRead, CallFileRead, call_of}
use Rattle.world_face.specs.declared.Io.{Io}
use Rattle.world_face.specs.declared.Io.TheVariants.{Done, End, NotYet, Failed}
use Rattle.rules_tftp.specs.Packets.{block_octets}
use Rattle.rules_tftp.specs.Transfers.{Outcome, Said, SeeksOctets, Settled, Transfer, octets_of, place_of, reads_on, refuses, seeks_block, sends_block, told_octets}
use Rattle.rules_tftp.specs.Asking.{AreAskedFor, IsServed, after_calls, by_answer, call_for, or_outcome}
use Rattle.rules_tftp.specs.Laws.{AreReadsOf, IsRead, octets_done, octets_read}
use Rattle.rules_tftp.proofs.Reading.{from_none, seeking}

-- a call that reads a file
pub record IsFileRead (e : Entry) (name : List ℕ) (place asked : ℕ) : Type 0 where
  pub answer : Io
  pub octets : List ℕ
  pub is : e ≡ FileRead name place asked answer octets

file_read : (e : Entry) (name : List ℕ) (place asked : ℕ) → call_of e ≡ CallFileRead name place asked → IsFileRead e name place asked
file_read (FileRead n p k answer octets) name place asked is = record { answer = answer; octets = octets; is = cc }
file_read e name place asked is = cc

-- where the calls so far have led
pub record Stands (now : ℕ) (t : Transfer) (others : List Transfer) (made : List Entry) (o : Outcome) : Type 0 where
  pub reads : AreReadsOf t made
  pub comes : (o ≡ reads_on now (octets_read made) t others) ⊎ (o ≡ refuses 0 t.mac t.guest others)

-- one answer more
told_is : (now : ℕ) (answer : Io) (octets there : List ℕ) (t : Transfer) (others : List Transfer)
    → (told_octets now answer octets there t others ≡ reads_on now (there ++ octets_done answer octets) t others) ⊎ (told_octets now answer octets there t others ≡ refuses 0 t.mac t.guest others)
told_is now (Done n) octets there t others = inl refl
told_is now End octets there t others = inr refl
told_is now NotYet octets there t others = inr refl
told_is now Failed octets there t others = inr refl

-- a call more, where one is asked for
joined : (p q a b : Outcome) → p ≡ q → (q ≡ a) ⊎ (q ≡ b) → (p ≡ a) ⊎ (p ≡ b)
joined p q a b same (inl is) = inl (same ∙ is)
joined p q a b same (inr is) = inr (same ∙ is)

asks_more : (now : ℕ) (t : Transfer) (others : List Transfer) (made : List Entry) (e : Entry) (o : Outcome) (b : Bool) → AreReadsOf t made
    → o ≡ cond b (sends_block now (octets_read made) t others) (seeking t (octets_read made) others) → call_for o.files.quest ≡ Some (call_of e) → Stands now t others (e ∷ made)
    (or_outcome (by_answer now e o.files) o)
asks_more now t others made e o true reads is asked = let none : call_for o.files.quest ≡ None = ap (λ (p : Outcome). call_for p.files.quest) is in cc
asks_more now t others made e o false reads is asked =
    let there = octets_read made in
    let place = place_of t + length there in
    let count = octets_of t - length there in
    let called : Some (CallFileRead t.file place count) ≡ Some (call_of e) = sym (ap (λ (p : Outcome). call_for p.files.quest) is) ∙ asked in
    let call : call_of e ≡ CallFileRead t.file place count = cc in
    let r = file_read e t.file place count call in
    let entry = FileRead t.file place count r.answer r.octets in
    let later : or_outcome (by_answer now entry o.files) o ≡ told_octets now r.answer r.octets there t others = ap (λ (p : Outcome). or_outcome (by_answer now entry p.files) p) is in
    subst (λ (x : Entry). Stands now t others (x ∷ made) (or_outcome (by_answer now x o.files) o)) (sym r.is)
    (record {
      reads = (refl, refl, refl, reads);
      comes = joined (or_outcome (by_answer now entry o.files) o) (told_octets now r.answer r.octets there t others)
          (reads_on now (there ++ octets_done r.answer r.octets) t others) (refuses 0 t.mac t.guest others) later (told_is now r.answer r.octets there t others);
    })

pub stands : (now : ℕ) (t : Transfer) (others : List Transfer) (made : List Entry) → AreAskedFor now (seeks_block now t others) made → Stands now t others made
    (after_calls now made (seeks_block now t others))
stands now t others [] asked = record { reads = tt; comes = inl (from_none now t others) }
stands now t others (e ∷ made) asked =
    let before = stands now t others made asked.1 in
    by (after_calls now made (seeks_block now t others)) before.reads before.comes asked.0
  where
    by : (o : Outcome) → AreReadsOf t made → (o ≡ reads_on now (octets_read made) t others) ⊎ (o ≡ refuses 0 t.mac t.guest others) → call_for o.files.quest ≡ Some (call_of e)
        → Stands now t others (e ∷ made) (or_outcome (by_answer now e o.files) o)
    by o reads (inl is) asked = asks_more now t others made e o (nat_le (octets_of t) (length (octets_read made))) reads is asked
    by o reads (inr is) asked = let none : call_for o.files.quest ≡ None = ap (λ (p : Outcome). call_for p.files.quest) is in cc

settled_is : (now : ℕ) (t : Transfer) (others : List Transfer) (there : List ℕ) (o : Outcome) (b : Bool) → o ≡ cond b (sends_block now there t others) (seeking t there others) →
    o.files.quest ≡ Settled
    → o.told ≡ Some (record { mac = t.mac; guest = t.guest; octets = block_octets (t.block % 2 ^ 16) there })
settled_is now t others there o true is settled = ap (λ (p : Outcome). p.told) is
settled_is now t others there o false is settled = let seeks : o.files.quest ≡ SeeksOctets t there = ap (λ (p : Outcome). p.files.quest) is in cc

pub is_read : (now : ℕ) (t : Transfer) (others new : List Transfer) (told : Option Said) (made : List Entry) → IsServed now (seeks_block now t others) new told made → IsRead t made told
is_read now t others new told made served =
    let end = stands now t others made served.asked in
    record { reads = end.reads; told_is = by (after_calls now made (seeks_block now t others)) end.comes served.settled served.tells }
  where
    by : (o : Outcome) → (o ≡ reads_on now (octets_read made) t others) ⊎ (o ≡ refuses 0 t.mac t.guest others) → o.files.quest ≡ Settled → told ≡ o.told
        → (told ≡ Some (record { mac = t.mac; guest = t.guest; octets = block_octets (t.block % 2 ^ 16) (octets_read made) })) ⊎ (told ≡ (refuses 0 t.mac t.guest []).told)
    by o (inl is) settled tells = inl (tells ∙ settled_is now t others (octets_read made) o (nat_le (octets_of t) (length (octets_read made))) is settled)
    by o (inr is) settled tells = inr (tells ∙ ap (λ (p : Outcome). p.told) is)
