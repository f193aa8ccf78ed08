use Rattle.std.proofs.Common.{map, take}
use Rattle.std.specs.String.{string_bytes}
use Rattle.command_words.proofs.Coming.{HasCome}
use Rattle.command_words.proofs.Ruled.{rule_words}
use Rattle.command_words.proofs.line.Line.read.Given as goal

abbrev pub invariant-loop-place : goal.invariant-loop-place
invariant-loop-place l = HasCome l.fn.verb (map string_bytes (take l.place l.words)) l.line (rule_words l.guests.items) (rule_words l.denied.items)
