use Rattle.std.proofs.Common.{◌≡◌, ◌+◌, length, List, ◌++◌, not, filter, sym, ◌∙◌, subst}
use Rattle.std.proofs.lemmas.List.{append-nil}
use Rattle.std.proofs.lemmas.Map.Iter.{rest_all}
use Rattle.std.proofs.lemmas.Map.Made.{IsDistinct-keys_filter}
use Rattle.std.specs.List.{IsDistinct}
use Rattle.std.specs.Map.{keys_of}
use Rattle.std.specs.Map.Iter.{deref_pair}
use Rattle.port_forward.specs.Entries.{same_port}
use Rattle.port_forward.specs.declared.ports.Lead.{Lead}
use Rattle.port_forward.specs.declared.ports.Port.{Port}
use Rattle.port_forward.proofs.Removing.{one_goes}
use Rattle.port_forward.proofs.ports.others.Goals as goal

pub returns-clause-distinct : goal.returns-clause-distinct
returns-clause-distinct c =
    let entries = c.args.ports.now.entries in
    let is_other = λ (e : Port × Lead). not (same_port c.args.port.now e.0) in
    let over = rest_all deref_pair c.loop-other.other-iterator c.next.new.self c.next.result c.in-None.is c.next.ensures.steps in
    let all = subst (λ (left : List (Port × Lead)). c.loop-other.kept.items ++ filter is_other left ≡ filter is_other entries) over c.loop-other.invariant.0 in
    subst (λ (kept : List (Port × Lead)). IsDistinct same_port (keys_of kept)) (sym all ∙ append-nil c.loop-other.kept.items)
    (IsDistinct-keys_filter same_port is_other entries c.iter-other-items.ensures.unique)

pub returns-clause-one : goal.returns-clause-one
returns-clause-one c there =
    let entries = c.args.ports.now.entries in
    let is_other = λ (e : Port × Lead). not (same_port c.args.port.now e.0) in
    let over = rest_all deref_pair c.loop-other.other-iterator c.next.new.self c.next.result c.in-None.is c.next.ensures.steps in
    let all = subst (λ (left : List (Port × Lead)). c.loop-other.kept.items ++ filter is_other left ≡ filter is_other entries) over c.loop-other.invariant.0 in
    subst (λ (kept : List (Port × Lead)). length kept + 1 ≡ length entries) (sym all ∙ append-nil c.loop-other.kept.items) (one_goes c.args.port.now entries c.iter-other-items.ensures.unique there)
