use Rattle.std.proofs.Common.{◌≡◌, ◌++◌, ◌∙◌, ap, subst}
use Rattle.std.specs.Result.{is_ok, is_err}
use Rattle.world_face.specs.Puts.{added}
use Rattle.world_face.specs.Tells.{Makes}
use Rattle.slirp_settings.specs.Addresses.{Config}
use Rattle.slirp_settings.specs.Settings.{settings}
use Rattle.replay.specs.Script.{script_tells}
use Rattle.replay.specs.Text.{text}
use Rattle.app_edges.specs.Texts.{end_line}
use Rattle.slirp_app.specs.Serving.{ComesTo}
use Rattle.slirp_app.proofs.Followed.{replayed}
use Rattle.slirp_app.proofs.replaying.run.Goals as goal

pub returns-in-Ok-put_record-clause-came : goal.returns-in-Ok-put_record-clause-came
returns-in-Ok-put_record-clause-came g c =
    let new = c.run_network-done.new.world in
    let done = c.run_network-done.result in
    let runs = subst (λ (k : Config). Makes (script_tells c.args.script) (script_tells new) (ComesTo k done)) c.in-Ok.ensures c.run_network-done.ensures.runs in
    let put = c.put_record.ensures.ok (ap is_ok c.in-Ok-put_record.is) ∙ ap (λ n. added (text (script_tells new).kept ++ end_line n) (g.K.Sink.holds c.args.out.now)) c.code.ensures in
    let left = c.ended-outcome.ensures in
    replayed (settings c.args.config.now) c.args.script new done c.ended-outcome.result (g.K.Sink.holds c.args.out.now)
    (g.K.Sink.holds c.put_record.new.out) c.requires.fresh left.lives left.ceased left.fits_none left.within left.readable put runs

pub returns-clause-refused : goal.returns-clause-refused
returns-clause-refused g c is = c.put_record.ensures.err (ap is_err c.in-Err.is)
