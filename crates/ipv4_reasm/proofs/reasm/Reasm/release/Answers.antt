use Rattle.std.proofs.Common.{◌≡◌, ◌-◌, ◌<◌, List, suc, take, length, ◌++◌, ◌∷◌, [], get_or, sym, ap, ◌∙◌, arith, length-append}
use Rattle.std.specs.List.{remove}
use Rattle.std.proofs.lemmas.List.{take_at, length-take-le}
use Rattle.std.proofs.lemmas.List.Edits.{length-remove}
use Rattle.std.proofs.lemmas.Slice.{put_mid-rotated}
use Rattle.ipv4_reasm.specs.Areas.{Gathered}
use Rattle.ipv4_reasm.proofs.Lists.{front_removed}
use Rattle.ipv4_reasm.proofs.reasm.Reasm.release.Goals as goal

-- for a place that none has
abbrev nothing : Gathered
nothing = record { key = record { from = 0; to = 0; proto = 0; ident = 0 }; since = 0; octets = []; holes = []; top = 0; life = 0; head = []; joined = [] }

pub returns : goal.returns
returns c =
    let items = c.self.inside.areas.items in
    let count = c.self.inside.count in
    let i = c.args.i in
    let value = c.deref_mut.ensures.value in
    let held : length (take count items) ≡ count = length-take-le count items (let n = c.self.invariant.0 in let m = c.self.invariant.1 in omega arith) in
    let same : length (take count items) ≡ length c.args.self.now = ap length c.self.view_is in
    let asked = c.requires in
    let n = c.self.invariant.0 in
    let m = c.self.invariant.1 in
    let i_in : i < length items = omega arith in
    let long : length c.deref_mut.result.now ≡ length items = ap length value in
    let x = get_or items i nothing in
    let rotated = put_mid-rotated i _ c.deref_mut.result.now c.rotate_left.new.self nothing (omega arith) (omega arith) c.rotate_left.ensures.after
    ∙ ap (λ (l : List Gathered). remove l i ++ get_or l i nothing ∷ []) value in
    let removed = length-remove items i i_in in
    let size = ap length rotated ∙ length-append (remove items i) (x ∷ []) ∙ removed in
    let one : suc (count - 1) ≡ count = omega arith in
    ap (take (count - 1)) (take_at _ _ _ (size ∙ sym long ∙ c.deref_mut.ensures.len) ∙ rotated)
    ∙ front_removed items (count - 1) i x (omega arith) (omega arith)
    ∙ ap (λ k. remove (take k items) i) one
    ∙ ap (λ (l : List Gathered). remove l i) c.self.view_is
