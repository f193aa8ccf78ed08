-- Numbers that 32 bits don't hold, and more than 32 forwards, are out of range, and stay so when they are narrowed.
use Rattle.std.proofs.Common.{◌≡◌, ℕ, ◌*◌, ◌<◌, ◌≤◌, Bool, true, false, cond, not, ◌&&◌, ◌||◌, ◌==◌, leb, List, [], ◌∷◌, ◌++◌, length, take, Option, Some, find, ◌⊎◌, inl, inr, refl, sym}
use Rattle.std.proofs.Common.{◌∙◌, ap, subst, arith}
use Rattle.std.proofs.lemmas.Bool.{cases_lt}
use Rattle.std.proofs.lemmas.Bool.Decides.{nat_tests}
use Rattle.std.proofs.lemmas.List.{length-take, take_all}
use Rattle.std.proofs.lemmas.Nat.{mul-le}
use Rattle.slirp_settings.specs.Addresses.{Config}
use Rattle.slirp_settings.specs.Ranges.{is_between, are_denied, are_forwards, are_guest_forwards, in_range, fields, first_broken, IsSound}
use Rattle.slirp_settings.specs.declared.Denial.{Denial}
use Rattle.slirp_settings.specs.declared.Forward.{Forward}
use Rattle.slirp_settings.specs.declared.GuestFwd.{GuestFwd}
use Rattle.slirp_settings.specs.declared.fields.Field.{Field}
use Rattle.slirp_settings.specs.declared.fields.Field.TheVariants.{Version, InEnabled, Vnetmask, Vnetwork, Vhost, Vnameserver, VdhcpStart, Vhostname, Vdomainname, TftpServerName, Bootfile}
use Rattle.slirp_settings.specs.declared.fields.Field.TheVariants.{TftpPath, IfMtu, IfMru, Flows, Ring, Resolver, Turns, Forwards, Outbound, DisableDns, DisableDhcp, Guestfwds, Control, Denied}
use Rattle.command_words.specs.Narrowing.{narrowed, portless, guest_portless, held_denials, held_guests, held_forwards, narrowed_settings}

over : (x y : Bool) → y ≡ false → x && y ≡ false
over true y h = h
over false y h = refl

too_many : (least n most : ℕ) → most < n → is_between least n most ≡ false
too_many least n most h = over (leb least n) (leb n most) (grind (arith, nat_tests, h))

same_between : (least most n : ℕ) → most < 4294967295 → is_between least (narrowed n) most ≡ is_between least n most
same_between least most n small = elim (cases_lt 4294967295 n) [
  | inl lt ↦ too_many least (narrowed n) most (omega (arith, small, lt)) ∙ sym (too_many least n most (omega (arith, small, lt)))
  | inr ge ↦ let same : narrowed n ≡ n = omega (arith, ge) in ap (λ (m : ℕ). is_between least m most) same
]

-- a ring of the least size in each of so many flows is too much
product : (f r : ℕ) → 4294967295 < f → 65535 ≤ r → leb (f * r) 268435456 ≡ false
product f r hf hr = let p = mul-le 4294967295 65535 f r (omega (arith, hf)) hr in let big : 268435456 < f * r = omega (arith, p) in grind (arith, nat_tests, big)

abbrev ring_fits : ℕ → ℕ → Bool
ring_fits f r = is_between 65535 r 1048576 && leb (f * r) 268435456

least_or : (f r : ℕ) → 4294967295 ≤ f → ring_fits f r ≡ false
least_or f r hf = elim (cases_lt r 65535) [
  | inl lt ↦ let low : leb 65535 r ≡ false = grind (arith, nat_tests, lt) in rw low refl
  | inr ge ↦ over (is_between 65535 r 1048576) (leb (f * r) 268435456) (let p = mul-le 4294967295 65535 f r hf ge in let big : 268435456 < f * r = omega (arith, p) in grind (arith, nat_tests, big))
]

same_ring : (f r : ℕ) → ring_fits (narrowed f) (narrowed r) ≡ ring_fits f r
same_ring f r = elim (cases_lt 4294967295 r) [
  | inl lt ↦
      let a : is_between 65535 (narrowed r) 1048576 ≡ false = too_many 65535 (narrowed r) 1048576 (omega (arith, lt)) in
      let b : is_between 65535 r 1048576 ≡ false = too_many 65535 r 1048576 (omega (arith, lt)) in
      rw (a, b) refl
  | inr ge ↦
      let size : narrowed r ≡ r = omega (arith, ge) in
      rw size (elim (cases_lt 4294967295 f) as (λ _. ring_fits (narrowed f) r ≡ ring_fits f r) [
        | inl lt ↦ least_or (narrowed f) r (omega (arith, lt)) ∙ sym (least_or f r (omega (arith, lt)))
        | inr few ↦ let count : narrowed f ≡ f = omega (arith, few) in ap (λ (n : ℕ). ring_fits n r) count
      ])
]

-- where two tests agree up to a field that both refuse, they find the same
abbrev Agree : (p q : Field → Bool) → List Field → Type 0
Agree p q [] = Unit {0}
Agree p q (x ∷ xs) = (p x ≡ q x) × Agree p q xs

same_until : (p q : Field → Bool) (front : List Field) (field : Field) (back : List Field) → Agree p q front → p field ≡ false → q field ≡ false → find (λ x. not (p x))
    (front ++ field ∷ back) ≡ find (λ x. not (q x)) (front ++ field ∷ back)
same_until p q [] field back agree hp hq = rw (hp, hq) refl
same_until p q (x ∷ xs) field back agree hp hq =
    ap (λ (b : Bool). cond (not b) (Some x) (find (λ x. not (p x)) (xs ++ field ∷ back))) agree.0
    ∙ ap (λ (o : Option Field). cond (not (q x)) (Some x) o) (same_until p q xs field back agree.1 hp hq)

same_find : (p q : Field → Bool) → ((field : Field) → p field ≡ q field) → (list : List Field) → find (λ field. not (p field)) list ≡ find (λ field. not (q field)) list
same_find p q each [] = refl
same_find p q each (x ∷ xs) = ap (λ (b : Bool). cond (not b) (Some x) (find (λ field. not (p field)) xs)) (each x) ∙ ap (λ (o : Option Field). cond (not (q x)) (Some x) o) (same_find p q each xs)

-- the numbers alone
abbrev narrowed_numbers : Config → Config
narrowed_numbers config = record config { flows = narrowed config.flows; ring = narrowed config.ring }

same_range : (config : Config) (field : Field) → in_range (narrowed_numbers config) field ≡ in_range config field
same_range config Version = refl
same_range config InEnabled = refl
same_range config Vnetmask = refl
same_range config Vnetwork = refl
same_range config Vhost = refl
same_range config Vnameserver = refl
same_range config VdhcpStart = refl
same_range config Vhostname = refl
same_range config Vdomainname = refl
same_range config TftpServerName = refl
same_range config Bootfile = refl
same_range config TftpPath = refl
same_range config IfMtu = refl
same_range config IfMru = refl
same_range config Flows = same_between 1 4096 config.flows (omega arith)
same_range config Ring = same_ring config.flows config.ring
same_range config Resolver = refl
same_range config Turns = refl
same_range config Forwards = refl
same_range config Outbound = refl
same_range config DisableDns = refl
same_range config DisableDhcp = refl
same_range config Guestfwds = refl
same_range config Control = refl
same_range config Denied = refl

-- the fields that are checked before the forwards
abbrev before : List Field
before =
    Version ∷ InEnabled ∷ Vnetmask ∷ Vnetwork ∷ Vhost ∷ Vnameserver ∷ VdhcpStart ∷ Vhostname ∷ Vdomainname ∷ TftpServerName ∷ Bootfile ∷ TftpPath
    ∷ IfMtu ∷ IfMru ∷ Flows ∷ Ring ∷ Resolver ∷ Turns ∷ []

abbrev behind : List Field
behind = Outbound ∷ DisableDns ∷ DisableDhcp ∷ Guestfwds ∷ Control ∷ Denied ∷ []

agree : (config : Config) (forwards : List Forward) → Agree (in_range (record (narrowed_numbers config) { forwards = forwards })) (in_range config) before
agree config forwards = (
  refl,
  (
    refl,
    (
      refl,
      (
        refl,
        (
          refl,
          (
            refl,
            (
              refl,
              (
                refl,
                (
                  refl,
                  (refl, (refl, (refl, (refl, (refl, (same_between 1 4096 config.flows (omega arith), (same_ring config.flows config.ring, (refl, (refl, tt))))))))),
                ),
              ),
            ),
          ),
        ),
      ),
    ),
  ),
)

crowd : (config : Config) (forwards : List Forward) → leb (length forwards) 32 ≡ false → are_forwards config forwards ≡ false
crowd config forwards many = rw many refl

kept : (forwards : List Forward) (t : Bool) → leb (length forwards) 32 ≡ t → (held_forwards forwards ≡ forwards) ⊎ ((held_forwards forwards ≡ portless ∷ []) × (leb (length forwards) 32 ≡ false))
kept forwards true is = inl (rw is refl)
kept forwards false is = inr (rw is refl, is)

-- the same field is the first that breaks its range, of the numbers and the forwards
same_others : (config : Config) → first_broken (record (narrowed_numbers config) { forwards = held_forwards config.forwards }) ≡ first_broken config
same_others config = elim (kept config.forwards (leb (length config.forwards) 32) refl) [
  | inl few ↦ ap (λ (f : List Forward). first_broken (record (narrowed_numbers config) { forwards = f })) few ∙ same_find (in_range (narrowed_numbers config)) (in_range config)
      (same_range config) fields
  | inr many ↦
      ap (λ (f : List Forward). first_broken (record (narrowed_numbers config) { forwards = f })) many.0
      ∙ same_until (in_range (record (narrowed_numbers config) { forwards = portless ∷ [] })) (in_range config) before Forwards behind (agree config (portless ∷ [])) refl
      (crowd config config.forwards many.1)
]

-- more denied networks than there may be are too many, and stay so
few_held : (ds : List Denial) → leb (length ds) 8 ≡ true → take 9 ds ≡ ds
few_held ds few = let small : length ds ≤ 8 = grind (arith, nat_tests, few) in take_all 9 ds (omega (arith, small))

many_held : (ds : List Denial) → leb (length ds) 8 ≡ false → leb (length (take 9 ds)) 8 ≡ false
many_held ds many = let big : 8 < length ds = grind (arith, nat_tests, many) in let held : 8 < length (take 9 ds) = omega (arith, big, length-take 9 ds) in grind (arith, nat_tests, held)

abbrev denied_range : Bool → List Denial → Bool
denied_range second ds = (length ds == 0) || (second && are_denied ds)

crowded : (second : Bool) (ds : List Denial) → leb (length ds) 8 ≡ false → denied_range second ds ≡ false
crowded second ds many =
    let big : 8 < length ds = grind (arith, nat_tests, many) in
    let some : (length ds == 0) ≡ false = grind (arith, nat_tests, big) in
    ap (λ (b : Bool). b || (second && are_denied ds)) some ∙ over second (are_denied ds) (rw many refl)

same_denied : (second : Bool) (ds : List Denial) → denied_range second (take 9 ds) ≡ denied_range second ds
same_denied second ds = by_test (leb (length ds) 8) refl
  where
    by_test : (t : Bool) → leb (length ds) 8 ≡ t → denied_range second (take 9 ds) ≡ denied_range second ds
    by_test true few = ap (denied_range second) (few_held ds few)
    by_test false many = crowded second (take 9 ds) (many_held ds many) ∙ sym (crowded second ds many)

abbrev led_range : Config → List GuestFwd → Bool
led_range config gs = (length gs == 0) || (config.version == 2) && are_guest_forwards config gs

guests_kept : (gs : List GuestFwd) (t : Bool) → leb (length gs) 16 ≡ t → (held_guests gs ≡ gs) ⊎ ((held_guests gs ≡ guest_portless ∷ []) × (leb (length gs) 16 ≡ false))
guests_kept gs true is = inl (rw is refl)
guests_kept gs false is = inr (rw is refl, is)

led_crowd : (config : Config) (gs : List GuestFwd) → leb (length gs) 16 ≡ false → led_range config gs ≡ false
led_crowd config gs many =
    let big : 16 < length gs = grind (arith, nat_tests, many) in
    let some : (length gs == 0) ≡ false = grind (arith, nat_tests, big) in
    ap (λ (b : Bool). b || (config.version == 2) && are_guest_forwards config gs) some ∙ over (config.version == 2) (are_guest_forwards config gs) (rw many refl)

led_portless : (config : Config) → led_range config (guest_portless ∷ []) ≡ false
led_portless config = over (config.version == 2) (are_guest_forwards config (guest_portless ∷ [])) refl

same_led : (config : Config) (gs : List GuestFwd) → led_range config (held_guests gs) ≡ led_range config gs
same_led config gs = elim (guests_kept gs (leb (length gs) 16) refl) [
  | inl few ↦ ap (led_range config) few
  | inr many ↦ ap (led_range config) many.0 ∙ led_portless config ∙ sym (led_crowd config gs many.1)
]

none_led : (config : Config) (gs : List GuestFwd) → led_range config (held_guests gs) ≡ true → held_guests gs ≡ gs
none_led config gs is = elim (guests_kept gs (leb (length gs) 16) refl) [
  | inl few ↦ few
  | inr many ↦ absurd (let clash : true ≡ false = sym is ∙ ap (led_range config) many.0 ∙ led_portless config in cc clash)
]

abbrev with_held : Config → Config
with_held config = record config { guest_forwards = held_guests config.guest_forwards; denied = held_denials config.denied }

denied_apart : (config : Config) (field : Field) → in_range (with_held config) field ≡ in_range config field
denied_apart config Version = refl
denied_apart config InEnabled = refl
denied_apart config Vnetmask = refl
denied_apart config Vnetwork = refl
denied_apart config Vhost = refl
denied_apart config Vnameserver = refl
denied_apart config VdhcpStart = refl
denied_apart config Vhostname = refl
denied_apart config Vdomainname = refl
denied_apart config TftpServerName = refl
denied_apart config Bootfile = refl
denied_apart config TftpPath = refl
denied_apart config IfMtu = refl
denied_apart config IfMru = refl
denied_apart config Flows = refl
denied_apart config Ring = refl
denied_apart config Resolver = refl
denied_apart config Turns = refl
denied_apart config Forwards = refl
denied_apart config Outbound = refl
denied_apart config DisableDns = refl
denied_apart config DisableDhcp = refl
denied_apart config Guestfwds = same_led config config.guest_forwards
denied_apart config Control = refl
denied_apart config Denied = same_denied (config.version == 2) config.denied

-- so the same field is the first of all
pub same_broken : (config : Config) → first_broken (narrowed_settings config) ≡ first_broken config
same_broken config = same_others (with_held config) ∙ same_find (in_range (with_held config)) (in_range config) (denied_apart config) fields

held : (least most n : ℕ) → most < 4294967295 → is_between least (narrowed n) most ≡ true → narrowed n ≡ n
held least most n small h = elim (cases_lt 4294967295 n) [
  | inl lt ↦ let no = too_many least (narrowed n) most (omega (arith, small, lt)) in absurd (cc (sym h ∙ no))
  | inr ge ↦ omega (arith, ge)
]

front : (x y : Bool) → x && y ≡ true → x ≡ true
front true y h = refl
front false y h = absurd (cc h)

all_held : (config : Config) (forwards : List Forward) → are_forwards config (held_forwards forwards) ≡ true → held_forwards forwards ≡ forwards
all_held config forwards are = elim (kept forwards (leb (length forwards) 32) refl) [
  | inl few ↦ few
  | inr many ↦ let no : are_forwards config (portless ∷ []) ≡ true = subst (λ (f : List Forward). are_forwards config f ≡ true) many.0 are in absurd (cc no)
]

none_more : (second : Bool) (ds : List Denial) → denied_range second (take 9 ds) ≡ true → take 9 ds ≡ ds
none_more second ds is = by_test (leb (length ds) 8) refl
  where
    by_test : (t : Bool) → leb (length ds) 8 ≡ t → take 9 ds ≡ ds
    by_test true few = few_held ds few
    by_test false many = absurd (let clash : true ≡ false = sym is ∙ crowded second (take 9 ds) (many_held ds many) in cc clash)

-- in their ranges nothing was narrowed
pub same_settings : (config : Config) → IsSound (narrowed_settings config) → narrowed_settings config ≡ config
same_settings config sound =
    let flows : narrowed config.flows ≡ config.flows = held 1 4096 config.flows (omega arith) (sound.each Flows) in
    let ring : narrowed config.ring ≡ config.ring = held 65535 1048576 config.ring (omega arith) (front (is_between 65535 (narrowed config.ring) 1048576)
    (leb (narrowed config.flows * narrowed config.ring) 268435456) (sound.each Ring)) in
    let forwards : held_forwards config.forwards ≡ config.forwards = all_held (narrowed_settings config) config.forwards (sound.each Forwards) in
    let denied : held_denials config.denied ≡ config.denied = none_more (config.version == 2) config.denied (sound.each Denied) in
    let guests : held_guests config.guest_forwards ≡ config.guest_forwards = none_led (narrowed_settings config) config.guest_forwards (sound.each Guestfwds) in
    ap (λ (n : ℕ). record config {
      flows = n;
      ring = narrowed config.ring;
      forwards = held_forwards config.forwards;
      guest_forwards = held_guests config.guest_forwards;
      denied = held_denials config.denied;
    }) flows
    ∙ ap (λ (n : ℕ). record config { ring = n; forwards = held_forwards config.forwards; guest_forwards = held_guests config.guest_forwards; denied = held_denials config.denied }) ring
    ∙ ap (λ (f : List Forward). record config { forwards = f; guest_forwards = held_guests config.guest_forwards; denied = held_denials config.denied }) forwards
    ∙ ap (λ (g : List GuestFwd). record config { guest_forwards = g; denied = held_denials config.denied }) guests
    ∙ ap (λ (ds : List Denial). record config { denied = ds }) denied
