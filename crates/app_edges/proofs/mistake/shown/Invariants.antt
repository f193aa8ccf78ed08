use Rattle.std.proofs.Common.{◌≡◌, map, take}
use Rattle.app_edges.specs.Texts.{shown_octet}
use Rattle.app_edges.proofs.mistake.shown.Given as goal

abbrev pub invariant-loop-octet : goal.invariant-loop-octet
invariant-loop-octet l = l.shown.items ≡ map shown_octet (take l.octet-index l.front)
