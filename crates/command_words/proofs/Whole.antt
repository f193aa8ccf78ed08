-- RULEs of which only the first are kept: what all of them mean.
use Rattle.std.proofs.Common.{◌≡◌, ℕ, zero, suc, ◌<◌, Bool, true, false, cond, MatchBool, List, [], ◌∷◌, length, take, inl, inr, refl, sym, ◌∙◌, ap, subst, arith}
use Rattle.std.proofs.lemmas.Bool.{cases_lt}
use Rattle.std.proofs.lemmas.List.{length-take, take_all}
use Rattle.net_octets.specs.declared.Endpoint.{Endpoint}
use Rattle.slirp_settings.specs.declared.Forward.{Forward}
use Rattle.command_words.specs.Narrowing.{held_forwards}
use Rattle.command_words.specs.Options.{Word}
use Rattle.address_text.specs.Rules.{AreForwards, AreGuestForwards, AreRuleWords, IsAddressOr, IsForward, IsGuestRule, IsPortAt, IsRule, guest_words, host_words, is_guest_word}
use Rattle.command_words.specs.Walking.{kept, own_words}
use Rattle.command_words.specs.declared.options.Verb.TheVariants.{Replay}
use Rattle.slirp_settings.specs.declared.GuestFwd.{GuestFwd}
use Rattle.address_text.proofs.Addresses.{made_of}
use Rattle.command_words.proofs.Ruled.{held_none, same_forwards}

-- a RULE is one whichever the first address that is leased
module _ (s t : ℕ) where
  address_anywhere : (text : List ℕ) (a : ℕ) → IsAddressOr s text a → (b : ℕ) × IsAddressOr t text b
  address_anywhere [] a is = (t, refl)
  address_anywhere (c ∷ cs) a is = (a, is)

  port_anywhere : (text : List ℕ) (at : Endpoint) → IsPortAt s text at → (to : Endpoint) × IsPortAt t text to
  port_anywhere text at is =
      let address = address_anywhere is.before at.addr.0 is.address in (
        made_of address.0 at.port,
        record { before = is.before; behind = is.behind; encoded = is.encoded; address = address.1; port = is.port },
      )

  forward_anywhere : (text : List ℕ) (f : Forward) → IsForward text s f → (g : Forward) × IsForward text t g
  forward_anywhere text f is =
      let guest = port_anywhere is.inside f.guest is.guest in (
        record { proto = f.proto; host = f.host; guest = guest.0 },
        record { kind = is.kind; outside = is.outside; inside = is.inside; encoded = is.encoded; type = is.type; host = is.host; guest = guest.1 },
      )

  rule_anywhere : (text : List ℕ) (f : Forward) → IsRule text s f → (g : Forward) × IsRule text t g
  rule_anywhere text f (inl is) = let g = forward_anywhere text f is in (g.0, inl g.1)
  rule_anywhere text f (inr is) = let g = forward_anywhere is.0 f is.2 in (g.0, inr (is.0, is.1, g.1))

-- a word that is a RULE of one kind or the other
abbrev IsOf : Bool → Word → Type 0
IsOf b word = MatchBool b ((forward : GuestFwd) × IsGuestRule word forward) ((forward : Forward) × IsRule word 0 forward)

pub rules_are_words : (words : List Word) (start : ℕ) (fs : List Forward) (gs : List GuestFwd) → AreForwards (host_words words) start fs → AreGuestForwards (guest_words words) gs → AreRuleWords words
rules_are_words [] start fs gs are led = tt
rules_are_words (word ∷ words) start fs gs are led = by_test (rules_are_words words start) (is_guest_word word) fs gs are led
  where
    by_test : ((fs : List Forward) (gs : List GuestFwd) → AreForwards (host_words words) start fs → AreGuestForwards (guest_words words) gs → AreRuleWords words) → (t : Bool) →
        (fs : List Forward) (gs : List GuestFwd)
        → AreForwards (cond t (host_words words) (word ∷ host_words words)) start fs → AreGuestForwards (cond t (word ∷ guest_words words) (guest_words words)) gs → IsOf t word × AreRuleWords words
    by_test rest true fs [] are led = absurd led
    by_test rest true fs (g ∷ gs) are led = ((g, led.0), rest fs gs are led.1)
    by_test rest false [] gs are led = absurd are
    by_test rest false (f ∷ fs) gs are led = (rule_anywhere start 0 word f are.0, rest fs gs are.1 led)

pub words_are_rules : (words : List Word) (start : ℕ) → AreRuleWords words → (fs : List Forward) × AreForwards (host_words words) start fs
words_are_rules [] start are = ([], tt)
words_are_rules (word ∷ words) start are = by_test (words_are_rules words start are.1) (is_guest_word word) are.0
  where
    by_test : ((fs : List Forward) × AreForwards (host_words words) start fs) → (t : Bool) → IsOf t word → (fs : List Forward) × AreForwards
        (cond t (host_words words) (word ∷ host_words words)) start fs
    by_test rest true is = rest
    by_test rest false is = let f = rule_anywhere 0 start word is.0 is.1 in (f.0 ∷ rest.0, (f.1, rest.1))

pub words_are_guests : (words : List Word) → AreRuleWords words → (gs : List GuestFwd) × AreGuestForwards (guest_words words) gs
words_are_guests [] are = ([], tt)
words_are_guests (word ∷ words) are = by_test (words_are_guests words are.1) (is_guest_word word) are.0
  where
    by_test : ((gs : List GuestFwd) × AreGuestForwards (guest_words words) gs) → (t : Bool) → IsOf t word → (gs : List GuestFwd) × AreGuestForwards
        (cond t (word ∷ guest_words words) (guest_words words)) gs
    by_test rest true is = (is.0 ∷ rest.0, (is.1, rest.1))
    by_test rest false is = rest

-- the first of them
pub rules_front : (n : ℕ) (words : List Word) (start : ℕ) (fs : List Forward) → AreForwards words start fs → AreForwards (take n words) start (take n fs)
rules_front zero words start fs are = tt
rules_front (suc n) [] start [] are = tt
rules_front (suc n) [] start (f ∷ fs) are = absurd are
rules_front (suc n) (word ∷ words) start [] are = absurd are
rules_front (suc n) (word ∷ words) start (f ∷ fs) are = (are.0, rules_front n words start fs are.1)

-- Of more than 32 none is held, so what all of them mean is held as what the first mean.
pub whole_rules : (n : ℕ) (all front : List Word) (start : ℕ) (fs : List Forward) → 32 < n → take n all ≡ front → ((gs : List Forward) × AreForwards all start gs) → AreForwards front start fs
    → (gs : List Forward) × AreForwards all start gs × (held_forwards fs ≡ held_forwards gs)
whole_rules n all front start fs room is g are =
    elim (cases_lt n (length all)) [
      | inl more ↦
          let long : 32 < length front = omega (arith, room, more, ap length is, length-take n all) in
          (g.0, g.1, sym (held_none front start fs are long) ∙ held_none all start g.0 g.1 (omega (arith, room, more)))
      | inr few ↦
          let same : front ≡ all = sym is ∙ take_all n all few in
          (g.0, g.1, ap held_forwards (same_forwards all start fs g.0 (subst (λ (w : List Word). AreForwards w start fs) same are) g.1))
    ]

-- the words behind the first, of which so many are kept
pub front_of : (file : Word) (rules all : List Word) → ◌≡◌ {A = List Word} (file ∷ rules) (kept (own_words Replay all)) → (behind : List Word) × (all ≡ file ∷ behind) ×
    (take 33 (host_words behind) ≡ rules)
front_of file rules [] is = absurd (cc is)
front_of file rules (word ∷ words) is =
    let first : file ≡ word = cc in
    let rest : rules ≡ take 33 (host_words words) = cc in
    (words, ap (λ (w : Word). w ∷ words) (sym first), sym rest)
