use Rattle.std.proofs.Common.{◌≡◌, ◌+◌, ◌≤◌, ◌++◌, not, filter, length}
use Rattle.port_forward.specs.Entries.{same_port}
use Rattle.port_forward.proofs.ports.others.Given as goal

abbrev pub invariant-loop-other : goal.invariant-loop-other
invariant-loop-other l =
    (l.kept.items ++ filter (λ e. not (same_port l.fn.port e.0)) l.other-iterator ≡ filter (λ e. not (same_port l.fn.port e.0)) l.fn.ports.entries)
    × (length l.kept.items + length l.other-iterator ≤ length l.fn.ports.entries)
    × (goal.iterator-loop-other).can_next l.other-iterator
    × (goal.iterator-loop-other).is_finite l.other-iterator
