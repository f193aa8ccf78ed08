-- What contracts see of a network, by its parts.
use Rattle.slirp_core.specs.State.{SlirpState}
use Rattle.slirp_core.specs.declared.network.Slirp.TheInside.{Inside}

abbrev pub state_of : Inside → SlirpState
state_of i = record {
  config = i.policy;
  known = i.guests;
  sent = i.sent;
  pending = i.outgoing;
  moment = i.moment;
  number = i.number;
  associations = i.associations.list;
  questions = i.questions.list;
  fragments = i.reasm;
  flows = i.flows;
  leases = i.leases.leases;
  forwards = i.forwards;
  transfers = i.files.transfers;
}
