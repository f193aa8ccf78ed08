-- How questions are kept: as sockets with an idle life, each with the identifier of its question.
use Rattle.std.specs.Prelude.{List, map}
use Rattle.idle_sockets.specs.declared.IdleSocket.{IdleSocket}
use Rattle.rules_dns.specs.declared.Question.{Question}

abbrev pub as_question : IdleSocket → Question
as_question s = record { number = s.number; guest = s.guest; mac = s.mac; ident = s.ident; used = s.used }

abbrev pub questions : List IdleSocket → List Question
questions sockets = map as_question sockets
