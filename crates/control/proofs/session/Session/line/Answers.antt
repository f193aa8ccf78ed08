use Rattle.std.proofs.Common.{◌≡◌, ℕ, true, List, is_some, Option, Some, None, Bor, IfSome, option_map, refl, sym, ◌∙◌, ap}
use Rattle.rules_control.specs.Talk.{Talk, first_line, is_out}
use Rattle.control.proofs.session.Session.line.Goals as goal

-- the first line, where there is one, is the first part of what is split
first_part : (out open_yet : Type 0) → out → open_yet → (line : Option (Bor (List ℕ))) (split : Option (List ℕ × List ℕ))
    → option_map (λ (l : Bor (List ℕ)). l.now) line ≡ option_map (λ (s : List ℕ × List ℕ). s.0) split → IfSome line (λ l. (s : List ℕ × List ℕ) × out × open_yet × (split ≡ Some s) × (l.now ≡ s.0))
first_part out open_yet is_so stands None split same = tt
first_part out open_yet is_so stands (Some line) (Some s) same = (s, is_so, stands, refl, cc)
first_part out open_yet is_so stands (Some line) None same = cc

pub returns-clause-some : goal.returns-clause-some
returns-clause-some c =
    let now = c.args.self.now in
    let out : is_out now ≡ true = sym c.is_out.ensures ∙ c.if-not-is_out.false in
    let stands : is_some now.peer ≡ true = sym (ap (λ (t : Talk). is_some t.peer) c.self.view_is) ∙ c.if-is_none.ensures in
    first_part (is_out now ≡ true) (is_some now.peer ≡ true) out stands c.first.result (first_line now.kept)
    (c.first.ensures ∙ ap (λ (t : Talk). option_map (λ (s : List ℕ × List ℕ). s.0) (first_line t.kept)) c.self.view_is)
