use Rattle.std.proofs.Common.{◌≡◌, List, ℕ, Some, get_or, take, set, ap, ◌∙◌}
use Rattle.std.specs.Prelude.{slice_get}
use Rattle.ipv4_head.specs.Sets.{part_of}
use Rattle.ipv4_reasm.specs.Areas.{Gathered, after_part, is_full, with_kept}
use Rattle.ipv4_reasm.proofs.Lists.{front_get, front_set}
use Rattle.ipv4_reasm.proofs.reasm.Reasm.put.Goals as goal

-- the area is the one that is read
abbrev is_read : (items now : List Gathered) (n i : ℕ) (g read : Gathered) → take n items ≡ now → slice_get now i ≡ Some g → read ≡ get_or items i read → read ≡ g
is_read items now n i g read view at is = front_get items n i g read (ap (λ (l : List Gathered). slice_get l i) view ∙ at) is

pub returns-clause-put : goal.returns-clause-put
returns-clause-put c = λ g at.
    let items = c.self.inside.areas.items in
    let read = is_read items _ c.self.inside.count c.args.i g c.index_mut-area.result.now c.self.view_is at c.index_mut-area.ensures.value in
    front_set items c.self.inside.count c.args.i c.put.new.self
    ∙ ap (λ (l : List Gathered). set l c.args.i c.put.new.self) c.self.view_is
    ∙ ap (λ (x : Gathered). set c.args.self.now c.args.i x) (c.put.ensures.put ∙ ap (λ (x : Gathered). after_part x (part_of c.args.part.now)) read)

pub returns-clause-whole : goal.returns-clause-whole
returns-clause-whole c = λ g at.
    let items = c.self.inside.areas.items in
    let read = is_read items _ c.self.inside.count c.args.i g c.index_mut-area.result.now c.self.view_is at c.index_mut-area.ensures.value in
    c.put.ensures.whole ∙ ap (λ (x : Gathered). is_full (with_kept x (part_of c.args.part.now))) read
