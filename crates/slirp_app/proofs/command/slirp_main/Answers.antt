use Rattle.std.proofs.Common.{◌≡◌, ◌↔◌, ◌⊎◌, ℕ, IsTrue, List, Option, None, Result, map, option_map, refl, sym, ◌∙◌, ap, subst}
use Rattle.std.specs.String.{string_bytes}
use Rattle.slirp_settings.specs.declared.Forward.{Forward}
use Rattle.command_words.specs.Meaning.{Drives, Helps, Meaning, Means, Replays, Serves, TellsVersion, broken_in}
use Rattle.command_words.specs.declared.Setting.TheVariants.{Of}
use Rattle.command_words.specs.Options.{Word}
use Rattle.slirp_app.specs.Doing.{DrivesRun, ReplaysFile, TellsText}
use Rattle.world_face.specs.Puts.{Puts, added}
use Rattle.world_face.specs.Tells.{Rose}
use Rattle.world_face.specs.declared.sink.Failed.{Failed}
use Rattle.app_edges.specs.Statuses.{code_of, is_unrun}
use Rattle.app_edges.specs.Texts.{Got, help_text, told_text, version_text}
use Rattle.app_edges.specs.declared.outcome.Outcome.{Outcome}
use Rattle.slirp_app.proofs.Causing as causing
use Rattle.slirp_app.proofs.Courses as courses
use Rattle.slirp_app.proofs.command.slirp_main.Goals as goal

-- what was told of these words and forwards
told : {X : Type 0} (words heard : List Word) (forwards led : List Forward) (old new : Option (List ℕ)) (f g : ℕ) (outcome : Outcome) (result : Result X Failed) → heard ≡ words → led ≡ forwards
    → Puts old new f g (told_text heard led outcome) result → Got words forwards old new f g outcome
told words heard forwards led old new f g outcome result is same puts =
    subst (λ (w : List Word). Got w forwards old new f g outcome) is (subst (λ (l : List Forward). Got heard l old new f g outcome) same
    (causing.got old new f g (told_text heard led outcome) result puts))

pub returns-clause-usage : goal.returns-clause-usage
returns-clause-usage g c = subst (λ n. (n ≡ 1) ↔ ((meaning : Meaning) → ¬ Means (map string_bytes c.args.words.now.items) meaning)) (sym c.code.ensures)
    (courses.usage _ _ _ _ _ _ c.run_words-outcome.ensures.course)

pub returns-clause-mistake : goal.returns-clause-mistake
returns-clause-mistake g c is =
    let words = map string_bytes c.args.words.now.items in
    let outcome = c.run_words-outcome.result.0 in
    let at = courses.mistake _ _ _ _ _ _ c.run_words-outcome.ensures.course (sym c.code.ensures ∙ is) in (
      at.0,
      at.1,
      subst (λ o. Got words c.forwards_of.result.now (g.E.Sink.holds c.args.err.now) (g.E.Sink.holds c.tell-told.new.err) (g.E.Sink.faults c.args.err.now) (g.E.Sink.faults c.tell-told.new.err) o) at.2
          (told words _ c.forwards_of.result.now c.forwards_of.result.now _ _ _ _ outcome c.tell-told.result (ap (map string_bytes) c.as_slice.ensures.value) refl c.tell-told.ensures.text),
    )

pub returns-clause-bad_config : goal.returns-clause-bad_config
returns-clause-bad_config g c meaning field means broken =
    let words = map string_bytes c.args.words.now.items in
    let outcome = c.run_words-outcome.result.0 in
    let is = courses.bad_config _ _ _ _ _ _ c.run_words-outcome.ensures.course meaning field means broken in (
      c.code.ensures ∙ ap code_of is,
      subst (λ o. Got words c.forwards_of.result.now (g.E.Sink.holds c.args.err.now) (g.E.Sink.holds c.tell-told.new.err) (g.E.Sink.faults c.args.err.now) (g.E.Sink.faults c.tell-told.new.err) o) is
          (told words _ c.forwards_of.result.now c.forwards_of.result.now _ _ _ _ outcome c.tell-told.result (ap (map string_bytes) c.as_slice.ensures.value) refl c.tell-told.ensures.text),
    )

pub returns-clause-only_config : goal.returns-clause-only_config
returns-clause-only_config g c is = courses.only_config _ _ _ _ _ _ c.run_words-outcome.ensures.course (sym c.code.ensures ∙ is)

pub returns-clause-untouched : goal.returns-clause-untouched
returns-clause-untouched g c is = courses.untouched _ _ _ _ _ _ c.run_words-outcome.ensures.course (subst (λ n. (n ≡ 1) ⊎ (n ≡ 2)) c.code.ensures is)

pub returns-clause-replays : goal.returns-clause-replays
returns-clause-replays g c file config means in_range =
    let sound : broken_in (Replays file config) ≡ None = ap (option_map Of) in_range in
    let words = map string_bytes c.args.words.now.items in
    let outcome = c.run_words-outcome.result.0 in
    let new = c.run_words-outcome.new in
    let led = c.forwards_of.ensures ∙ c.run_words-outcome.ensures.forwards (Replays file config) means sound in
    subst (λ n. ReplaysFile file config n (g.W.World.tells c.args.world.now) (g.W.World.tells new.world) (g.K.Sink.holds c.args.out.now) (g.K.Sink.holds new.out)
    (Got words config.forwards (g.E.Sink.holds c.args.err.now) (g.E.Sink.holds c.tell-told.new.err) (g.E.Sink.faults c.args.err.now) (g.E.Sink.faults c.tell-told.new.err))) (sym c.code.ensures)
    (causing.replays config _ _ file _ _ (Got words config.forwards (g.E.Sink.holds c.args.err.now) (g.E.Sink.holds c.tell-told.new.err) (g.E.Sink.faults c.args.err.now)
    (g.E.Sink.faults c.tell-told.new.err)) outcome
    (courses.does _ _ _ _ _ _ c.run_words-outcome.ensures.course (Replays file config) means sound)
    (told words _ config.forwards _ _ _ _ _ outcome c.tell-told.result (ap (map string_bytes) c.as_slice.ensures.value) led c.tell-told.ensures.text))

pub returns-clause-serves : goal.returns-clause-serves
returns-clause-serves g c config at tap means in_range =
    let sound : broken_in (Serves config at tap) ≡ None = ap (option_map Of) in_range in
    let words = map string_bytes c.args.words.now.items in
    let outcome = c.run_words-outcome.result.0 in
    let led = c.forwards_of.ensures ∙ c.run_words-outcome.ensures.forwards (Serves config at tap) means sound in
    let done = courses.does _ _ _ _ _ _ c.run_words-outcome.ensures.course (Serves config at tap) means sound in
    record {
      outcome = outcome;
      is = c.code.ensures;
      told = told words _ config.forwards _ _ _ _ _ outcome c.tell-told.result (ap (map string_bytes) c.as_slice.ensures.value) led c.tell-told.ensures.text;
      makes = done.0;
      counted = done.1;
    }

pub returns-clause-drives : goal.returns-clause-drives
returns-clause-drives g c number octets means small =
    let new = c.run_words-outcome.new in
    subst (λ n. DrivesRun number octets n (g.W.World.tells c.args.world.now) (g.W.World.tells new.world) (g.K.Sink.holds c.args.out.now) (g.K.Sink.holds new.out)) (sym c.code.ensures)
    (courses.does _ _ _ _ _ _ c.run_words-outcome.ensures.course (Drives number octets) means (courses.in_range number octets small))

pub returns-clause-helps : goal.returns-clause-helps
returns-clause-helps g c means =
    let new = c.run_words-outcome.new in
    subst (λ n. TellsText help_text n (g.W.World.tells c.args.world.now) (g.W.World.tells new.world) (g.K.Sink.holds c.args.out.now) (g.K.Sink.holds new.out)) (sym c.code.ensures)
    (courses.does _ _ _ _ _ _ c.run_words-outcome.ensures.course Helps means refl)

pub returns-clause-tells_its_version : goal.returns-clause-tells_its_version
returns-clause-tells_its_version g c means =
    let new = c.run_words-outcome.new in
    subst (λ n. TellsText version_text n (g.W.World.tells c.args.world.now) (g.W.World.tells new.world) (g.K.Sink.holds c.args.out.now) (g.K.Sink.holds new.out)) (sym c.code.ensures)
    (courses.does _ _ _ _ _ _ c.run_words-outcome.ensures.course TellsVersion means refl)

pub returns-clause-nothing : goal.returns-clause-nothing
returns-clause-nothing g c is = c.run_words-outcome.ensures.nothing (subst (λ n. IsTrue (is_unrun n)) c.code.ensures is)

pub returns-clause-silent : goal.returns-clause-silent
returns-clause-silent g c is = c.tell-told.ensures.silent (causing.no_text _ _ c.run_words-outcome.result.0 (subst (λ n. (n ≡ 0) ⊎ (n ≡ 12)) c.code.ensures is))

pub returns-clause-refused : goal.returns-clause-refused
returns-clause-refused g c is = c.run_words-outcome.ensures.refused (sym c.code.ensures ∙ is)

pub returns-clause-told : goal.returns-clause-told
returns-clause-told g c =
    let words = map string_bytes c.args.words.now.items in
    let outcome = c.run_words-outcome.result.0 in (
      outcome,
      c.forwards_of.result.now,
      c.code.ensures,
      told words _ c.forwards_of.result.now c.forwards_of.result.now _ _ _ _ outcome c.tell-told.result
          (ap (map string_bytes) c.as_slice.ensures.value) refl c.tell-told.ensures.text,
    )
