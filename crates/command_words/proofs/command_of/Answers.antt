use Rattle.std.proofs.Common.{◌≡◌, Bool, false, [], ◌∷◌, map, bytes_eq, string_bytes, codes, refl, sym, ◌∙◌, ap, subst}
use Rattle.command_words.specs.Meaning.{Helps, TellsVersion, IsHelp}
use Rattle.command_words.specs.Options.{Word}
use Rattle.command_words.proofs.Commanded.{alone_refused, begins_all, drive_command, drive_refused, help_alone, no_behind, no_command, replay_command, replay_refused, serve_command}
use Rattle.command_words.proofs.Commanded.{serve_refused, stops_at_once, version_alone}
use Rattle.command_words.proofs.Names.{same_text}
use Rattle.command_words.proofs.command_of.Goals as goal

pub returns-then-eq-clause-meant : goal.returns-then-eq-clause-meant
returns-then-eq-clause-meant c =
    let name = sym c.as_str.ensures.value ∙ same_text c.as_str.result.now (codes "replay") (sym c.eq.ensures ∙ c.if-eq.true) in
    let behind = map string_bytes c.in-Some.behind.now in
    replay_command (map string_bytes c.args.words.now) behind c.replay_of.result (ap (map string_bytes) c.in-Some.ensures.cases.0 ∙ ap (λ (w : Word). w ∷ behind) name) c.replay_of.ensures.meant

pub returns-then-eq-clause-refused : goal.returns-then-eq-clause-refused
returns-then-eq-clause-refused c =
    let name = sym c.as_str.ensures.value ∙ same_text c.as_str.result.now (codes "replay") (sym c.eq.ensures ∙ c.if-eq.true) in
    let behind = map string_bytes c.in-Some.behind.now in
    replay_refused (map string_bytes c.args.words.now) behind c.replay_of.result (ap (map string_bytes) c.in-Some.ensures.cases.0 ∙ ap (λ (w : Word). w ∷ behind) name) c.replay_of.ensures.refused

pub returns-then-eq-2-clause-meant : goal.returns-then-eq-2-clause-meant
returns-then-eq-2-clause-meant c =
    let name = sym c.as_str-2.ensures.value ∙ same_text c.as_str-2.result.now (codes "serve") (sym c.eq-2.ensures ∙ c.if-eq-2.true) in
    let behind = map string_bytes c.in-Some.behind.now in
    serve_command (map string_bytes c.args.words.now) behind c.serve_of.result (ap (map string_bytes) c.in-Some.ensures.cases.0 ∙ ap (λ (w : Word). w ∷ behind) name) c.serve_of.ensures.meant

pub returns-then-eq-2-clause-refused : goal.returns-then-eq-2-clause-refused
returns-then-eq-2-clause-refused c =
    let name = sym c.as_str-2.ensures.value ∙ same_text c.as_str-2.result.now (codes "serve") (sym c.eq-2.ensures ∙ c.if-eq-2.true) in
    let behind = map string_bytes c.in-Some.behind.now in
    serve_refused (map string_bytes c.args.words.now) behind c.serve_of.result (ap (map string_bytes) c.in-Some.ensures.cases.0 ∙ ap (λ (w : Word). w ∷ behind) name) c.serve_of.ensures.refused

pub returns-then-eq-3-clause-meant : goal.returns-then-eq-3-clause-meant
returns-then-eq-3-clause-meant c =
    let name = sym c.as_str-3.ensures.value ∙ same_text c.as_str-3.result.now (codes "drive") (sym c.eq-3.ensures ∙ c.if-eq-3.true) in
    let behind = map string_bytes c.in-Some.behind.now in
    drive_command (map string_bytes c.args.words.now) behind c.drive_of.result (ap (map string_bytes) c.in-Some.ensures.cases.0 ∙ ap (λ (w : Word). w ∷ behind) name) c.drive_of.ensures.meant

pub returns-then-eq-3-clause-refused : goal.returns-then-eq-3-clause-refused
returns-then-eq-3-clause-refused c =
    let name = sym c.as_str-3.ensures.value ∙ same_text c.as_str-3.result.now (codes "drive") (sym c.eq-3.ensures ∙ c.if-eq-3.true) in
    let behind = map string_bytes c.in-Some.behind.now in
    drive_refused (map string_bytes c.args.words.now) behind c.drive_of.result (ap (map string_bytes) c.in-Some.ensures.cases.0 ∙ ap (λ (w : Word). w ∷ behind) name) c.drive_of.ensures.refused

pub returns-then-is_help-clause-refused : goal.returns-then-is_help-clause-refused
returns-then-is_help-clause-refused c =
    let behind = map string_bytes c.in-Some.behind.now in
    let word = string_bytes c.in-Some.command.now in
    let help = subst IsHelp c.as_str-4.ensures.value c.if-is_help.ensures in
    alone_refused (map string_bytes c.args.words.now) behind c.alone.result word (Helps, (word, refl, help)) (help_alone word help)
    (ap (map string_bytes) c.in-Some.ensures.cases.0) (no_behind string_bytes c.in-Some.behind.now c.alone.result c.alone.ensures.refused)

pub returns-then-eq-4-clause-refused : goal.returns-then-eq-4-clause-refused
returns-then-eq-4-clause-refused c =
    let name = sym c.as_str-5.ensures.value ∙ same_text c.as_str-5.result.now (codes "--version") (sym c.eq-4.ensures ∙ c.if-eq-4.true) in
    let behind = map string_bytes c.in-Some.behind.now in
    alone_refused (map string_bytes c.args.words.now) behind c.alone-then-eq-4.result (codes "--version") (TellsVersion, refl) version_alone
    (ap (map string_bytes) c.in-Some.ensures.cases.0 ∙ ap (λ (w : Word). w ∷ behind) name) (no_behind string_bytes c.in-Some.behind.now c.alone-then-eq-4.result c.alone-then-eq-4.ensures.refused)

pub returns-clause-refused : goal.returns-clause-refused
returns-clause-refused c =
    let behind = map string_bytes c.in-Some.behind.now in
    let word = string_bytes c.in-Some.command.now in
    let other : (w : Word) → w ≡ word → (r : Bool) (t : Word) → r ≡ bytes_eq w t → r ≡ false → bytes_eq word t ≡ false = λ w is r t e no. ap (λ (x : Word). bytes_eq x t) (sym is) ∙ sym e ∙ no in (
      [],
      word,
      behind,
      ap (map string_bytes) c.in-Some.ensures.cases.0,
      refl,
      begins_all,
      (λ begins. no_command word begins.0
          (other c.as_str.result.now c.as_str.ensures.value c.eq.result (codes "replay") c.eq.ensures c.if-eq.false)
          (other c.as_str-2.result.now c.as_str-2.ensures.value c.eq-2.result (codes "serve") c.eq-2.ensures c.if-eq-2.false)
          (other c.as_str-3.result.now c.as_str-3.ensures.value c.eq-3.result (codes "drive") c.eq-3.ensures c.if-eq-3.false)
          (λ help. c.if-is_help.ensures (subst IsHelp (sym c.as_str-4.ensures.value) help))
          (other c.as_str-5.result.now c.as_str-5.ensures.value c.eq-4.result (codes "--version") c.eq-4.ensures c.if-eq-4.false)
          begins.1),
    )

pub returns-in_default-clause-refused : goal.returns-in_default-clause-refused
returns-in_default-clause-refused c = stops_at_once string_bytes c.args.words.now c.in_default.ensures.cases
