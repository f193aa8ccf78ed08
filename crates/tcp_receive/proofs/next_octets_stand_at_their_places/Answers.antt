use Rattle.tcp_receive.proofs.Standing.{each_stands, all_stood}
use Rattle.tcp_receive.proofs.next_octets_stand_at_their_places.Goals as goal

pub returns-clause-each : goal.returns-clause-each
returns-clause-each c = λ r number octets k x is. each_stands r.first r.taken number r.ended octets k x is

pub returns-clause-all : goal.returns-clause-all
returns-clause-all c = λ r number octets k x on before there. all_stood r.first r.taken number r.ended octets k x on before there
