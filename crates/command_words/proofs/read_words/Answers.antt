use Rattle.std.proofs.Common.{◌≡◌, List, map, Result, Err, string_bytes, sym, ap, subst}
use Rattle.command_words.specs.declared.Command.{Command}
use Rattle.command_words.specs.declared.Stop.{Stop}
use Rattle.command_words.specs.declared.WordFault.{WordFault}
use Rattle.command_words.specs.declared.WordFault.TheVariants.{Usage}
use Rattle.command_words.specs.Stops.{StopsAt}
use Rattle.command_words.specs.Meaning.{Means}
use Rattle.command_words.specs.Options.{Word}
use Rattle.command_words.proofs.Answered.{answered}
use Rattle.command_words.proofs.Commanded.{one_meaning, stopped}
use Rattle.command_words.proofs.read_words.Goals as goal

pub returns-in-Ok-clause-meant : goal.returns-in-Ok-clause-meant
returns-in-Ok-clause-meant c =
    let words = map string_bytes c.args.words.now.items in
    let m = c.in-Ok.ensures.meant in
    let means = subst (λ (w : List Word). Means w m.0) (ap (map string_bytes) c.as_slice.ensures.value) m.1 in
    (answered (Means words) (one_meaning words) c.in-Ok.command m.0 means m.2 c.checked.result c.checked.ensures.same c.checked.ensures.sound c.checked.ensures.whole c.checked.ensures.broken).meant

pub returns-in-Ok-clause-bad_config : goal.returns-in-Ok-clause-bad_config
returns-in-Ok-clause-bad_config c =
    let words = map string_bytes c.args.words.now.items in
    let m = c.in-Ok.ensures.meant in
    let means = subst (λ (w : List Word). Means w m.0) (ap (map string_bytes) c.as_slice.ensures.value) m.1 in
    (answered (Means words) (one_meaning words) c.in-Ok.command m.0 means m.2 c.checked.result c.checked.ensures.same c.checked.ensures.sound c.checked.ensures.whole
    c.checked.ensures.broken).bad_config

pub returns-in-Ok-clause-only : goal.returns-in-Ok-clause-only
returns-in-Ok-clause-only c =
    let words = map string_bytes c.args.words.now.items in
    let m = c.in-Ok.ensures.meant in
    let means = subst (λ (w : List Word). Means w m.0) (ap (map string_bytes) c.as_slice.ensures.value) m.1 in
    (answered (Means words) (one_meaning words) c.in-Ok.command m.0 means m.2 c.checked.result c.checked.ensures.same c.checked.ensures.sound c.checked.ensures.whole c.checked.ensures.broken).only

pub returns-in-Err-clause-only : goal.returns-in-Err-clause-only
returns-in-Err-clause-only c = λ meaning m. absurd (stopped (map string_bytes c.as_slice.result.now) _ c.in-Err.ensures.refused (
  meaning,
  subst (λ (w : List Word). Means w meaning)
      (ap (map string_bytes) (sym c.as_slice.ensures.value)) m,
))

same_stop : (one other : Stop) → ◌≡◌ {A = Result Command WordFault} (Err (Usage one)) (Err (Usage other)) → one ≡ other
same_stop one other is = cc

pub returns-in-Err-clause-usage : goal.returns-in-Err-clause-usage
returns-in-Err-clause-usage c = λ stop is.
    subst (λ (s : Stop). StopsAt (map string_bytes c.args.words.now.items) s) (same_stop c.in-Err.stop stop is)
    (subst (λ (w : List Word). StopsAt w c.in-Err.stop) (ap (map string_bytes) c.as_slice.ensures.value) c.in-Err.ensures.refused)
