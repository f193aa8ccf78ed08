use Rattle.app_edges.specs.Texts.{Got}
use Rattle.slirp_app.proofs.Repeated.{departs, prints_all, prints_first, prints_recorded}
use Rattle.slirp_app.proofs.laws.a_record_replays_to_itself.Goals as goal

pub returns-clause-itself : goal.returns-clause-itself
returns-clause-itself c = λ words forwards file config status world world_new old new err err_new faults faults_new run none replays allowed lawful. prints_all file config status world
    world_new old new (Got words forwards err err_new faults faults_new) run none replays allowed lawful

pub returns-clause-spent : goal.returns-clause-spent
returns-clause-spent c = λ words forwards file config status world world_new old new err err_new faults faults_new run none replays allowed lawful. prints_first file config status world
    world_new old new (Got words forwards err err_new faults faults_new) run none replays allowed lawful

pub returns-clause-diverged : goal.returns-clause-diverged
returns-clause-diverged c = λ words forwards file config status world world_new old new err err_new faults faults_new run none replays allowed lawful. departs file config status world
    world_new old new (Got words forwards err err_new faults faults_new) run none replays allowed lawful

pub returns-clause-recorded : goal.returns-clause-recorded
returns-clause-recorded c = λ asked words led forwards config at status again live live_new world world_new octets file old new said said_new err err_new told told_new faults
    faults_new none serves took replays made other unspent.
    prints_recorded config at status again live live_new world world_new octets file old new (Got asked led said said_new told told_new)
    (Got words forwards err err_new faults faults_new) none serves took replays made other unspent
