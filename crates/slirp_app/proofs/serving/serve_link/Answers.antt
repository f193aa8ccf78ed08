use Rattle.world_face.specs.Journal.{place_of}
use Rattle.slirp_app.proofs.Opened.{opened, refused}
use Rattle.slirp_app.proofs.Risen.{behind, unopened}
use Rattle.slirp_app.proofs.serving.serve_link.Goals as goal

pub returns-in-Done-clause-opens : goal.returns-in-Done-clause-opens
returns-in-Done-clause-opens g c = opened _ _ _ (place_of c.args.at.now) c.run_network.result c.args.network c.in-Done.ensures c.run_network.ensures.runs

pub returns-in-Failed-clause-opens : goal.returns-in-Failed-clause-opens
returns-in-Failed-clause-opens g c = refused _ _ c.args.network (place_of c.args.at.now) c.in-Failed.ensures

pub returns-in-Done-clause-counted : goal.returns-in-Done-clause-counted
returns-in-Done-clause-counted g c = behind c.run_network.result _ _ _ _ c.in-Done.ensures.counted c.run_network.ensures.counted

pub returns-in-Failed-clause-counted : goal.returns-in-Failed-clause-counted
returns-in-Failed-clause-counted g c = unopened _ _ (place_of c.args.at.now) c.in-Failed.ensures
