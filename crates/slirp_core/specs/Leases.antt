-- What the core makes of datagrams for its server of leases.
use Rattle.std.specs.Prelude.{}
use Rattle.rules_dhcp.specs.Serving.{leases_after}
use Rattle.spec_trace.specs.Packets.{Datagram}
use Rattle.spec_run.specs.Answers.{answers_of, frames_of}
use Rattle.spec_run.specs.Datagrams.{datagram_verdict}
use Rattle.spec_run.specs.Leasing.{lease_reply, leases_by_verdict}
use Rattle.slirp_core.specs.Packets.{owed_at_once}
use Rattle.slirp_core.specs.State.{SlirpState, serving_of}

-- the network once a message of a client is taken in
abbrev pub after_message : SlirpState → Datagram → SlirpState
after_message s d = record s {
  pending = frames_of s.config s.sent (answers_of (lease_reply s.config s.moment s.leases d));
  leases = leases_after s.config s.moment d.body s.leases;
}

-- and once any datagram of UDP is
abbrev pub after_udp : SlirpState → Datagram → SlirpState
after_udp s d = record s {
  pending = frames_of s.config s.sent (owed_at_once s.config (serving_of s) d);
  leases = leases_by_verdict s.config s.moment d (datagram_verdict s.config d) s.leases;
}
