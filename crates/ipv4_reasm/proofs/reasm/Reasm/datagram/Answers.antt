use Rattle.std.proofs.Common.{◌≡◌, ℕ, List, sym, ap, ◌∙◌, subst}
use Rattle.std.specs.Prelude.{slice_get}
use Rattle.std.proofs.lemmas.Option.{same_Some}
use Rattle.ipv4_head.specs.Ip.{Ip}
use Rattle.ipv4_head.specs.Sets.{IsJoined, PartSet}
use Rattle.ipv4_reasm.specs.Areas.{Gathered, StandsFor, joined_in}
use Rattle.ipv4_reasm.proofs.Lists.{front_get, there}
use Rattle.ipv4_reasm.proofs.Standing.{stand_get}
use Rattle.ipv4_reasm.proofs.Wholeness.{is_joined}
use Rattle.ipv4_reasm.proofs.reasm.Reasm.datagram.Goals as goal

pub returns-clause-joined : goal.returns-clause-joined
returns-clause-joined c = λ sets s stand at whole.
    let area = c.args.area in
    let g = there c.args.self.now area c.requires in
    let t = stand_get c.args.self.now sets area g.0 stand g.1 in
    let stands = subst (λ (x : PartSet). StandsFor g.0 x) (same_Some t.0 s (sym t.1.0 ∙ at)) t.1.1 in
    let read : c.index-area.result.now ≡ g.0 = front_get c.self.inside.areas.items c.self.inside.count area g.0 c.index-area.result.now
    (ap (λ (l : List Gathered). slice_get l area) c.self.view_is ∙ g.1) c.index-area.ensures in
    subst (λ (ip : Ip). IsJoined s ip c.datagram.result.ttl) (sym (c.datagram.ensures.datagram ∙ ap joined_in read))
    (subst (λ (life : ℕ). IsJoined s (joined_in g.0) life) (sym (c.datagram.ensures.life ∙ ap (λ (x : Gathered). x.life) read)) (is_joined g.0 s stands whole))
