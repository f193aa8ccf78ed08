use Rattle.std.proofs.Common.{ℕ, List, refl, sym, subst}
use Rattle.slirp_settings.specs.Settings.{settings}
use Rattle.world_face.specs.Journal.{Follows}
use Rattle.world_face.specs.Tells.{Makes}
use Rattle.world_face.proofs.Telling.{makes_none}
use Rattle.command_words.specs.Meaning.{said}
use Rattle.command_words.specs.declared.Command.{Command}
use Rattle.slirp_app.specs.Causes.{Caused}
use Rattle.slirp_app.specs.Doing.{Does}
use Rattle.app_edges.specs.Fetching.{MayFetch}
use Rattle.app_edges.specs.Texts.{help_text, version_text}
use Rattle.slirp_app.proofs.Courses.{drives_read, serves_nothing, serves_read, tells_read, texted, texted_nothing, texted_tells}
use Rattle.slirp_app.proofs.command.follow.Goals as goal

pub returns-in-Replay-clause-does : goal.returns-in-Replay-clause-does
returns-in-Replay-clause-does g c =
    subst (λ (k : Command). Does (said k) c.replay_file.result (g.W.World.tells c.args.world.now) (g.W.World.tells c.replay_file.new.world) (g.K.Sink.holds c.args.out.now)
    (g.K.Sink.holds c.replay_file.new.out)) (sym c.in-Replay.is)
    (subst (λ (name : List ℕ). Makes (g.W.World.tells c.args.world.now) (g.W.World.tells c.replay_file.new.world)
    (λ made. Follows (MayFetch name) made × Caused (settings c.in-Replay.config) c.replay_file.result made (g.K.Sink.holds c.args.out.now) (g.K.Sink.holds c.replay_file.new.out)))
    c.as_str.ensures.value c.replay_file.ensures.calls)

pub returns-in-Drive-clause-does : goal.returns-in-Drive-clause-does
returns-in-Drive-clause-does g c =
    subst (λ (k : Command). Does (said k) c.drive.result (g.W.World.tells c.args.world.now) (g.W.World.tells c.args.world.now) (g.K.Sink.holds c.args.out.now)
    (g.K.Sink.holds c.drive.new.out)) (sym c.in-Drive.is)
    (record { untouched = makes_none _ _ refl; ends = c.drive.ensures.ends; summary = c.drive.ensures.summary })

pub returns-in-Serve-clause-does : goal.returns-in-Serve-clause-does
returns-in-Serve-clause-does g c =
    subst (λ (k : Command). Does (said k) c.serve.result (g.W.World.tells c.args.world.now) (g.W.World.tells c.serve.new.world) (g.K.Sink.holds c.args.out.now)
    (g.K.Sink.holds c.serve.new.out)) (sym c.in-Serve.is) (c.serve.ensures.serves, c.serve.ensures.counted)

pub returns-in-Serve-clause-run : goal.returns-in-Serve-clause-run
returns-in-Serve-clause-run g c = serves_read _ _ _ c.serve.result _ _ _ _ c.serve.ensures.serves

pub returns-in-Serve-clause-nothing : goal.returns-in-Serve-clause-nothing
returns-in-Serve-clause-nothing g c = serves_nothing _ _ _ c.serve.result _ _ _ _ c.serve.ensures.serves

pub returns-in-Drive-clause-run : goal.returns-in-Drive-clause-run
returns-in-Drive-clause-run g c = drives_read _ c.drive.ensures.ends

pub returns-in-Help-clause-does : goal.returns-in-Help-clause-does
returns-in-Help-clause-does g c =
    subst (λ (k : Command). Does (said k) c.put_outcome.result (g.W.World.tells c.args.world.now) (g.W.World.tells c.args.world.now) (g.K.Sink.holds c.args.out.now)
    (g.K.Sink.holds c.put_help.new.out)) (sym c.in-Help.is)
    (texted_tells help_text c.put_outcome.result _ _ _ _ _ (makes_none _ _ refl)
    (texted help_text c.put_outcome.result _ _ _ _ c.put_help.result c.put_outcome.ensures.put c.put_outcome.ensures.failed c.put_help.ensures))

pub returns-in-Help-clause-run : goal.returns-in-Help-clause-run
returns-in-Help-clause-run g c = tells_read _ (texted help_text c.put_outcome.result _ _ _ _ c.put_help.result c.put_outcome.ensures.put c.put_outcome.ensures.failed c.put_help.ensures).ends

pub returns-in-Help-clause-nothing : goal.returns-in-Help-clause-nothing
returns-in-Help-clause-nothing g c = texted_nothing help_text c.put_outcome.result _ _ _ _
    (texted help_text c.put_outcome.result _ _ _ _ c.put_help.result c.put_outcome.ensures.put c.put_outcome.ensures.failed c.put_help.ensures)

pub returns-in-Help-clause-refused : goal.returns-in-Help-clause-refused
returns-in-Help-clause-refused g c = (texted help_text c.put_outcome.result _ _ _ _ c.put_help.result c.put_outcome.ensures.put c.put_outcome.ensures.failed c.put_help.ensures).refused

pub returns-in-Version-clause-does : goal.returns-in-Version-clause-does
returns-in-Version-clause-does g c =
    subst (λ (k : Command). Does (said k) c.put_outcome-in-Version.result (g.W.World.tells c.args.world.now) (g.W.World.tells c.args.world.now) (g.K.Sink.holds c.args.out.now)
    (g.K.Sink.holds c.put_version.new.out)) (sym c.in-Version.is)
    (texted_tells version_text c.put_outcome-in-Version.result _ _ _ _ _ (makes_none _ _ refl)
    (texted version_text c.put_outcome-in-Version.result _ _ _ _ c.put_version.result c.put_outcome-in-Version.ensures.put c.put_outcome-in-Version.ensures.failed c.put_version.ensures))

pub returns-in-Version-clause-run : goal.returns-in-Version-clause-run
returns-in-Version-clause-run g c = tells_read _ (texted version_text c.put_outcome-in-Version.result _ _ _ _ c.put_version.result c.put_outcome-in-Version.ensures.put
    c.put_outcome-in-Version.ensures.failed c.put_version.ensures).ends

pub returns-in-Version-clause-nothing : goal.returns-in-Version-clause-nothing
returns-in-Version-clause-nothing g c = texted_nothing version_text c.put_outcome-in-Version.result _ _ _ _
    (texted version_text c.put_outcome-in-Version.result _ _ _ _ c.put_version.result c.put_outcome-in-Version.ensures.put c.put_outcome-in-Version.ensures.failed c.put_version.ensures)

pub returns-in-Version-clause-refused : goal.returns-in-Version-clause-refused
returns-in-Version-clause-refused g c = (texted version_text c.put_outcome-in-Version.result _ _ _ _ c.put_version.result c.put_outcome-in-Version.ensures.put
    c.put_outcome-in-Version.ensures.failed c.put_version.ensures).refused
