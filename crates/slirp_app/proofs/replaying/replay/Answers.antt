use Rattle.std.proofs.Common.{ℕ, ◌≡◌, ◌⊎◌, inl, inr, Result, Err, true, sym, subst, ap}
use Rattle.std.specs.Result.{is_ok}
use Rattle.replay.specs.Unread.{IsFirstUnread}
use Rattle.replay.specs.declared.ScriptFault.{ScriptFault}
use Rattle.replay.specs.declared.ScriptFault.TheVariants.{Line as AtLine, NoMemory as OutOfMemory, TooLarge}
use Rattle.app_edges.specs.declared.outcome.Outcome.TheVariants.{ScheduleLine, NoMemory}
use Rattle.slirp_app.proofs.replaying.replay.Goals as goal

neither : {A B : Type 0} (result : Result A B) (a b : B) → is_ok result ≡ true → (result ≡ Err a) ⊎ (result ≡ Err b) → ⊥
neither result a b good (inl is) = cc
neither result a b good (inr is) = cc

pub returns-in-Ok-clause-misencoded : goal.returns-in-Ok-clause-misencoded
returns-in-Ok-clause-misencoded g c line unread =
    absurd (neither c.read.result _ _ (ap is_ok c.in-Ok.is) (c.read.ensures.only line (subst (λ l. IsFirstUnread l line) (sym c.deref.ensures.value) unread)))

named : {A : Type 0} (result : Result A ScriptFault) (fault : ScriptFault) (value at line : ℕ) → result ≡ Err fault → fault ≡ AtLine at → value ≡ at
    → (result ≡ Err (AtLine line)) ⊎ (result ≡ Err OutOfMemory) → (ScheduleLine value ≡ ScheduleLine line) ⊎ (ScheduleLine value ≡ NoMemory)
named result fault value at line is of same (inl only) = inl cc
named result fault value at line is of same (inr only) = inl cc

pub returns-in-Err-Line-clause-misencoded : goal.returns-in-Err-Line-clause-misencoded
returns-in-Err-Line-clause-misencoded g c line unread =
    named c.read.result c.in-Err-Line.field-0 _ c.in-Err-Line.line line c.in-Err-Line.is c.in-Err-Line.field-0-is c.in-Err-Line.line-is
    (c.read.ensures.only line (subst (λ l. IsFirstUnread l line) (sym c.deref.ensures.value) unread))

not_large : {A : Type 0} (result : Result A ScriptFault) (fault : ScriptFault) (line : ℕ) → result ≡ Err fault → fault ≡ TooLarge → (result ≡ Err (AtLine line)) ⊎ (result ≡ Err OutOfMemory) → ⊥
not_large result fault line is of (inl only) = cc
not_large result fault line is of (inr only) = cc

pub returns-in-Err-TooLarge-clause-misencoded : goal.returns-in-Err-TooLarge-clause-misencoded
returns-in-Err-TooLarge-clause-misencoded g c line unread =
    absurd (not_large c.read.result c.in-Err-TooLarge.field-0 line c.in-Err-TooLarge.is c.in-Err-TooLarge.field-0-is
    (c.read.ensures.only line (subst (λ l. IsFirstUnread l line) (sym c.deref.ensures.value) unread)))
