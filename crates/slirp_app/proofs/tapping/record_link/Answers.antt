use Rattle.world_face.specs.Journal.{place_of}
use Rattle.slirp_app.proofs.Opened.{opened_recorded, refused_recorded}
use Rattle.slirp_app.proofs.Risen.{behind, unopened}
use Rattle.slirp_app.proofs.tapping.record_link.Goals as goal

pub returns-in-Done-clause-records : goal.returns-in-Done-clause-records
returns-in-Done-clause-records g c = opened_recorded _ _ _ (place_of c.args.at.now) c.record.result c.args.network _ _ c.in-Done.ensures c.record.ensures.recorded

pub returns-in-Failed-clause-records : goal.returns-in-Failed-clause-records
returns-in-Failed-clause-records g c = refused_recorded _ _ c.args.network (place_of c.args.at.now) _ c.in-Failed.ensures

pub returns-in-Done-clause-counted : goal.returns-in-Done-clause-counted
returns-in-Done-clause-counted g c = behind c.record.result _ _ _ _ c.in-Done.ensures.counted c.record.ensures.counted

pub returns-in-Failed-clause-counted : goal.returns-in-Failed-clause-counted
returns-in-Failed-clause-counted g c = unopened _ _ (place_of c.args.at.now) c.in-Failed.ensures
