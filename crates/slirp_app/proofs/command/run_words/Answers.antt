use Rattle.std.proofs.Common.{map, refl, sym, ap, subst, Result, IfOk}
use Rattle.std.specs.String.{string_bytes}
use Rattle.world_face.proofs.Telling.{makes_none}
use Rattle.command_words.specs.Meaning.{HasPlace, Meaning, Means, broken_in, config_of, said}
use Rattle.command_words.specs.declared.Command.{Command}
use Rattle.command_words.specs.declared.WordFault.{WordFault}
use Rattle.slirp_app.specs.Doing.{Course, Meant}
use Rattle.app_edges.specs.declared.outcome.Outcome.{Outcome}
use Rattle.slirp_app.proofs.Courses.{answered_by_none, can_be_done, none_broken, one_meaning, refused_course}
use Rattle.slirp_app.proofs.command.run_words.Goals as goal

pub follow-outcome-requires-clause-meant : goal.follow-outcome-requires-clause-meant
follow-outcome-requires-clause-meant g c =
    let words = map string_bytes c.args.words.now.items in
    let read = c.read_words in
    let command = c.in-Ok.command in
    let means : Means words (said command) = subst (λ (r : Result Command WordFault). IfOk r (λ (k : Command). Means words (said k))) c.in-Ok.is read.ensures.meant in
    can_be_done words (said command) means
    (subst (λ (r : Result Command WordFault). IfOk r (λ (k : Command). HasPlace (said k))) c.in-Ok.is read.ensures.place)
    (none_broken read.result command c.in-Ok.is (read.ensures.only (said command) means))

pub returns-in-Ok-clause-course : goal.returns-in-Ok-clause-course
returns-in-Ok-clause-course g c =
    let words = map string_bytes c.args.words.now.items in
    let read = c.read_words in
    let command = c.in-Ok.command in
    let means : Means words (said command) = subst (λ (r : Result Command WordFault). IfOk r (λ (k : Command). Means words (said k))) c.in-Ok.is read.ensures.meant in
    Meant (said command) means (λ other this. one_meaning read.result command other c.in-Ok.is (read.ensures.only other this))
    (none_broken read.result command c.in-Ok.is (read.ensures.only (said command) means))
    c.follow-outcome.ensures.run.0 c.follow-outcome.ensures.run.1 c.follow-outcome.ensures.does

pub returns-in-Err-clause-course : goal.returns-in-Err-clause-course
returns-in-Err-clause-course g c =
    let words = map string_bytes c.args.words.now.items in
    let read = c.read_words in
    subst (λ (o : Outcome). Course words o (g.W.World.tells c.args.world.now) (g.W.World.tells c.args.world.now) (g.K.Sink.holds c.args.out.now) (g.K.Sink.holds c.args.out.now))
    (sym c.refusal.ensures)
    (refused_course words read.result c.in-Err.fault (g.W.World.tells c.args.world.now)
    (g.K.Sink.holds c.args.out.now) c.in-Err.is read.ensures.bad_config read.ensures.usage read.ensures.only (makes_none _ _ refl))

pub returns-in-Ok-clause-forwards : goal.returns-in-Ok-clause-forwards
returns-in-Ok-clause-forwards g c = λ meaning means whole.
    let read = c.read_words in
    ap (λ (m : Meaning). (config_of m).forwards) (sym (one_meaning read.result c.in-Ok.command meaning c.in-Ok.is (read.ensures.only meaning means)))

pub returns-in-Err-clause-forwards : goal.returns-in-Err-clause-forwards
returns-in-Err-clause-forwards g c = λ meaning means whole.
    let read = c.read_words in
    absurd (answered_by_none meaning (broken_in meaning) read.result c.in-Err.fault c.in-Err.is whole (read.ensures.only meaning means))
