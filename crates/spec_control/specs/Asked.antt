-- What a port of the host is opened or closed for while the run goes on: a command that came on the control's connection.
use Rattle.std.specs.Prelude.{◌≡◌, ℕ, List, Option, Some}
use Rattle.world_face.specs.Journal.{Entry, TcpRead, TcpWrite}
use Rattle.rules_control.specs.Talk.{Talk, after_read, after_write, first_line}
use Rattle.rules_control.specs.declared.Command.{Command}
use Rattle.spec_control.specs.ControlServer.{Reads}

-- the octets of lines that are kept once an entry is there
abbrev pub lines_after : Entry → Talk → List ℕ
lines_after (TcpRead socket asked answer octets) t = (after_read answer octets t).kept
lines_after (TcpWrite socket octets answer) t = (after_write answer t).kept
lines_after _ t = t.kept

-- a line that is read as this command, with what is behind it
pub record IsLine (read : Reads) (split : Option (List ℕ × List ℕ)) (command : Command) : Type 0 where
  pub line : List ℕ
  pub behind : List ℕ
  pub is : split ≡ Some (line, behind)
  pub says : read line ≡ command

-- the first whole line that came is this command
abbrev pub IsAskedBy : Reads → Entry → Talk → Command → Type 0
IsAskedBy read e t command = IsLine read (first_line (lines_after e t)) command
