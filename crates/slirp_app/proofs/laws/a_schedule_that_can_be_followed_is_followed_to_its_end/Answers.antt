use Rattle.app_edges.specs.Texts.{Got}
use Rattle.slirp_app.proofs.Following.{comes_to_done, follows_file}
use Rattle.slirp_app.proofs.Lined.{can_be_followed}
use Rattle.slirp_app.proofs.laws.a_schedule_that_can_be_followed_is_followed_to_its_end.Goals as goal

pub returns-clause-run : goal.returns-clause-run
returns-clause-run c = λ words forwards file config status world world_new old new err err_new faults faults_new replays. comes_to_done file config status world world_new old new
    (Got words forwards err err_new faults faults_new) replays

pub returns-clause-file : goal.returns-clause-file
returns-clause-file c = λ words forwards file config status world world_new old new err err_new faults faults_new replays. follows_file file config status world world_new old new
    (Got words forwards err err_new faults faults_new) replays

pub returns-clause-lines : goal.returns-clause-lines
returns-clause-lines c = can_be_followed
