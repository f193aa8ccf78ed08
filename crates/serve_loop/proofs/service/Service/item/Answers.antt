use Rattle.std.proofs.Common.{◌≡◌, ◌<◌, ◌+◌, ◌∷◌, drop, length, get_or, false, List, sym, ◌∙◌, ap, subst}
use Rattle.poll_list.specs.declared.Want.{Want}
use Rattle.poll_list.specs.declared.Who.TheVariants.{Link}
use Rattle.serve_loop.specs.Served.{ServiceState}
use Rattle.serve_loop.proofs.Turning.{item_at}
use Rattle.serve_loop.proofs.service.Service.item.Goals as goal

pub returns : goal.returns
returns c =
    let ready = c.args.self.now.ready in
    let items = c.items.result.now in
    let same = c.items.ensures ∙ ap (λ (s : ServiceState). s.ready) c.self.view_is in
    let few = subst (λ (l : List Want). c.args.place < length l) (sym same) c.requires in
    subst (λ (l : List Want). drop c.args.place l ≡ get_or items c.args.place (record { of = Link; read = false; write = false }) ∷ drop (c.args.place + 1) l) same
    (item_at items c.args.place (record { of = Link; read = false; write = false }) few)
