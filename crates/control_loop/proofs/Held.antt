-- What a connection keeps from call to call.
use Rattle.std.proofs.Common.{◌≡◌, ℕ, ◌+◌, ◌<◌, ◌≤◌, ◌&&◌, nat_le, not, Bool, true, false, cond, is_some, List, [], ◌∷◌, ◌++◌, length, Option, Some, None, option_map, refl, sym, ◌∙◌, ap, subst, arith, append-nil}
use Rattle.std.proofs.lemmas.Bool.Decides.{nat_tests}
use Rattle.std.proofs.lemmas.List.{length-append, length-drop}
use Rattle.world_face.specs.Journal.{Leaves}
use Rattle.world_face.specs.declared.Accepted.{Accepted}
use Rattle.world_face.specs.declared.Accepted.TheVariants.{From, NotYet as NoPeer, Failed as AcceptFailed}
use Rattle.world_face.specs.declared.Io.{Io}
use Rattle.world_face.specs.declared.Io.TheVariants.{Done, End, NotYet, Failed}
use Rattle.rules_control.specs.Talk.{Talk, after_accept, after_line, after_read, after_write, first_line, free, has_line, hung_up, is_endless, is_last, is_out, is_to_answer, line_and_rest, line_end, listener, rest_of, with_kept}
use Rattle.control_loop.specs.Standing.{IsHeld, IsReady, Says}

-- a connection that is over leaves no line
no_more : (t : Talk) → IsHeld t → IsHeld (hung_up t)
no_more t held = record { listens = held.listens; few = omega arith; short = λ none. omega arith; alone = λ none. refl; above = λ n is. cc }

pub accept_ready : (answer : Accepted) (t : Talk) → IsReady t → IsReady (after_accept answer t)
accept_ready (From peer) t ready = record {
  held = record { listens = ready.held.listens; few = omega arith; short = λ none. omega arith; alone = λ none. refl; above = λ n is. drawn (the_same is) };
  answered = λ out. refl;
}
  where
    the_same : {a b : ℕ} → ◌≡◌ {A = Option ℕ} (Some a) (Some b) → a ≡ b
    the_same same = cc

    drawn : {n : ℕ} → listener + 1 + t.had ≡ n → listener < n
    drawn is = omega (arith, is)
accept_ready NoPeer t ready = ready
accept_ready AcceptFailed t ready = ready

-- ---- octets came

endless_long : (octets : List ℕ) → is_endless octets ≡ false → has_line octets ≡ false → length octets ≤ 128
endless_long octets is none = by (nat_le 129 (length octets)) refl (ap (λ b. nat_le 129 (length octets) && not b) (sym none) ∙ is)
  where
    by : (b : Bool) → nat_le 129 (length octets) ≡ b → (b && true) ≡ false → length octets ≤ 128
    by true long is = cc
    by false long is = grind (arith, nat_tests, long)

nothing_there : (octets : List ℕ) → length octets ≡ 0 → octets ≡ []
nothing_there [] none = refl
nothing_there (x ∷ octets) none = absurd (omega (arith, none))

module _ (t : Talk) (held : IsHeld t) (octets : List ℕ) (few : length octets ≤ free t.kept) where
  kept_few : length (t.kept ++ octets) ≤ 129
  kept_few = omega (arith, length-append t.kept octets, few, held.few)

  held_with : (short : has_line (t.kept ++ octets) ≡ false → length (t.kept ++ octets) ≤ 128) → (n : ℕ) → t.peer ≡ Some n → IsHeld (with_kept (t.kept ++ octets) t)
  held_with short n open_yet = record {
    listens = held.listens;
    few = kept_few;
    short = short;
    alone = λ none. let never : ◌≡◌ {A = Option ℕ} (Some n) None = sym open_yet ∙ none in cc;
    above = held.above;
  }

  short_by : (answer : Io) → Leaves answer octets → is_last answer (t.kept ++ octets) ≡ false → has_line (t.kept ++ octets) ≡ false → length (t.kept ++ octets) ≤ 128
  short_by (Done n) left last none = endless_long (t.kept ++ octets) last none
  short_by End left last none = cc
  short_by Failed left last none = cc
  short_by NotYet left last none =
      let same : t.kept ++ octets ≡ t.kept = ap (λ l. t.kept ++ l) (nothing_there octets left.0) ∙ append-nil t.kept in
      subst (λ l. length l ≤ 128) (sym same) (held.short (ap has_line (sym same) ∙ none))

  pub read_held : (answer : Io) (n : ℕ) → t.peer ≡ Some n → Leaves answer octets → IsHeld (after_read answer octets t)
  read_held answer n open_yet left = by (is_last answer (t.kept ++ octets)) refl
    where
      by : (b : Bool) → is_last answer (t.kept ++ octets) ≡ b → IsHeld (cond b (hung_up t) (with_kept (t.kept ++ octets) t))
      by true last = no_more t held
      by false last = held_with (short_by answer left last) n open_yet

pub write_held : (answer : Io) (t : Talk) → IsHeld t → IsHeld (after_write answer t)
write_held (Done n) t held = record { listens = held.listens; few = held.few; short = held.short; alone = held.alone; above = held.above }
write_held End t held = held
write_held NotYet t held = held
write_held Failed t held = no_more t held

-- ---- a line is taken out, and something said

rest_short : (kept : List ℕ) (split : List ℕ × List ℕ) (o : Option ℕ) → length kept ≤ 129 → option_map (line_and_rest kept) o ≡ Some split → length split.1 ≤ 128
rest_short kept split None few is = cc
rest_short kept split (Some n) few is = subst (λ (s : List ℕ × List ℕ). length s.1 ≤ 128) (the_same is) (omega (arith, few, length-drop (n + 1) kept))
  where
    the_same : {a b : List ℕ × List ℕ} → ◌≡◌ {A = Option (List ℕ × List ℕ)} (Some a) (Some b) → a ≡ b
    the_same same = cc

pub said_ready : (t new : Talk) (split : List ℕ × List ℕ) (n : ℕ) → IsHeld t → t.peer ≡ Some n → first_line t.kept ≡ Some split → Says (after_line t) new → IsReady new
said_ready t new split n held open_yet is says = record {
  held = record {
    listens = says.listening ∙ held.listens;
    few = omega (arith, short);
    short = λ none. short;
    alone = λ none. let never : ◌≡◌ {A = Option ℕ} (Some n) None = sym open_yet ∙ sym says.peer ∙ none in cc;
    above = λ m at. held.above m (sym says.peer ∙ at);
  };
  answered = λ out. let never : true ≡ false = sym out ∙ says.some in cc;
}
  where
    short : length new.kept ≤ 128
    short = subst (λ l. length l ≤ 128) (sym (says.kept ∙ ap (rest_of t.kept) is)) (rest_short t.kept split (line_end t.kept) held.few is)

-- nothing was to be answered
pub quiet_ready : (t : Talk) → IsHeld t → is_to_answer t ≡ false → IsReady t
quiet_ready t held none = record { held = held; answered = λ out. by t.peer refl (is_out t) out (has_line t.kept) refl none }
  where
    by : (o : Option ℕ) → t.peer ≡ o → (out : Bool) → out ≡ true → (l : Bool) → has_line t.kept ≡ l → (out && is_some o && l) ≡ false → has_line t.kept ≡ false
    by None alone out is l here none = held.alone alone
    by (Some n) open_yet true is true here none = cc
    by (Some n) open_yet true is false here none = here
    by (Some n) open_yet false is l here none = cc

-- the connection that is there
pub peer_there : (t : Talk) → is_some t.peer ≡ true → (n : ℕ) × (t.peer ≡ Some n)
peer_there t is = by t.peer refl is
  where
    by : (o : Option ℕ) → t.peer ≡ o → is_some o ≡ true → (n : ℕ) × (t.peer ≡ Some n)
    by (Some n) here is = (n, here)
    by None here is = cc
