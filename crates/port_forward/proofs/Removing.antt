-- What becomes of the list where a port is removed, and whose socket is closed.
use Rattle.std.proofs.Common.{◌≡◌, ◌+◌, length, arith, not, Bool, true, false, cond, List, [], ◌∷◌, map, filter, Some, None, option_map, is_some, refl, sym, ◌∙◌, ap, true≢false}
use Rattle.std.proofs.lemmas.Map.{lookup-none}
use Rattle.std.proofs.lemmas.Map.Entries.{none_past_head}
use Rattle.std.proofs.lemmas.Map.Keys.{IsDistinct-tail}
use Rattle.std.specs.List.{IsDistinct}
use Rattle.std.specs.Map.{keys_of, lookup}
use Rattle.net_octets.specs.declared.Endpoint.{Endpoint}
use Rattle.slirp_settings.specs.declared.Proto.{Proto}
use Rattle.port_forward.specs.Entries.{opened_of, port_of, same_port}
use Rattle.rules_forward.specs.Opened.{Opened, socket_at, without}
use Rattle.port_forward.specs.declared.ports.Lead.{Lead}
use Rattle.port_forward.specs.declared.ports.Port.{Port}
use Rattle.port_forward.proofs.Listing.{left_of, socket_there}
use Rattle.port_forward.proofs.Refilling.{same_laws}

abbrev others_of : (Port → Bool) → List (Port × Lead) → List (Port × Lead)
others_of test es = filter (λ e. not (test e.0)) es

one_left : (test : Port → Bool) (b : Bool) (e : Port × Lead) (es : List (Port × Lead)) → test e.0 ≡ b → lookup test (e ∷ es) ≡ None →
    (lookup test es ≡ None → others_of test es ≡ es) → others_of test (e ∷ es) ≡ e ∷ es
one_left test true e es is none rest = absurd (true≢false (ap is_some (sym (ap (λ b. cond b (Some e.1) (lookup test es)) is) ∙ none)))
one_left test false e es is none rest =
    ap (λ b. cond (not b) (e ∷ others_of test es) (others_of test es)) is
    ∙ ap (λ (l : List (Port × Lead)). e ∷ l) (rest (sym (ap (λ b. cond b (Some e.1) (lookup test es)) is) ∙ none))

none_left : (test : Port → Bool) (es : List (Port × Lead)) → lookup test es ≡ None → others_of test es ≡ es
none_left test [] none = refl
none_left test (e ∷ es) none = one_left test (test e.0) e es refl none (none_left test es)

one_gone : (port : Port) (b : Bool) (e : Port × Lead) (es : List (Port × Lead)) → same_port port e.0 ≡ b → IsDistinct same_port (keys_of (e ∷ es)) → is_some (lookup (same_port port) (e ∷ es)) ≡ true
    → (is_some (lookup (same_port port) es) ≡ true → length (others_of (same_port port) es) + 1 ≡ length es) → length (others_of (same_port port) (e ∷ es)) + 1 ≡ length (e ∷ es)
one_gone port true e es is distinct there rest =
    let left = none_left (same_port port) es (lookup-none (same_port port) es (none_past_head same_laws port e es distinct is)) in
    ap (λ b. length (cond (not b) (e ∷ others_of (same_port port) es) (others_of (same_port port) es)) + 1) is
    ∙ ap (λ (l : List (Port × Lead)). length l + 1) left ∙ omega arith
one_gone port false e es is distinct there rest =
    let further = sym (ap (λ b. is_some (cond b (Some e.1) (lookup (same_port port) es))) is) ∙ there in
    let fewer = rest further in
    ap (λ b. length (cond (not b) (e ∷ others_of (same_port port) es) (others_of (same_port port) es)) + 1) is ∙ omega (arith, fewer)

-- of distinct keys one passes, so one entry is gone
pub one_goes : (port : Port) (es : List (Port × Lead)) → IsDistinct same_port (keys_of es) → is_some (lookup (same_port port) es) ≡ true → length
    (filter (λ e. not (same_port port e.0)) es) + 1 ≡ length es
one_goes port [] distinct there = absurd (true≢false (sym there))
one_goes port (e ∷ es) distinct there = one_gone port (same_port port e.0) e es refl distinct there (one_goes port es (IsDistinct-tail same_port e.0 (keys_of es) distinct))

module _ (proto : Proto) (host : Endpoint) (port : Port) (es : List (Port × Lead)) (list : List Opened) (key : port ≡ port_of proto host) (view : map opened_of es ≡ list) where
  pub all_left : lookup (same_port port) es ≡ None → list ≡ without proto host list
  all_left none =
      sym view
      ∙ sym (ap (map opened_of) (none_left (same_port port) es none))
      ∙ ap (λ (p : Port). map opened_of (filter (λ (e : Port × Lead). not (same_port p e.0)) es)) key
      ∙ left_of proto host es
      ∙ ap (without proto host) view

  pub others_left : (new : List (Port × Lead)) → new ≡ filter (λ e. not (same_port port e.0)) es → map opened_of new ≡ without proto host list
  others_left new is =
      ap (map opened_of) is
      ∙ ap (λ (p : Port). map opened_of (filter (λ (e : Port × Lead). not (same_port p e.0)) es)) key
      ∙ left_of proto host es
      ∙ ap (without proto host) view

  pub whose : socket_at proto host list ≡ option_map (λ (lead : Lead). lead.number) (lookup (same_port port) es)
  whose =
      sym (ap (socket_at proto host) view) ∙ socket_there proto host es
      ∙ ap (λ (p : Port). option_map (λ (lead : Lead). lead.number) (lookup (same_port p) es)) (sym key)
