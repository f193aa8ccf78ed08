use Rattle.std.proofs.Common.{◌≡◌, ◌∷◌, take, filter, not, refl, ap, ◌∙◌, rules, tests}
use Rattle.arp_table.specs.Table.{is_for}
use Rattle.arp_table.proofs.Learning.{retained}
use Rattle.arp_table.proofs.ArpTable.learn.Goals as goal

pub returns : goal.returns
returns c =
    let kept = retained _ (λ s. s.0.now ≡ c.args.ip.0) (λ pair. not (is_for c.args.ip pair)) (λ s x b t y same r. let told = r.called.met.0 in
    (search (rules, tests), cc, ap (λ q. q.now) r.called.met.1 ∙ same)) _ _ _ refl c.retain.ensures.filtered in
    c.insert.ensures.items ∙ ap (λ xs. (c.args.ip, c.args.mac) ∷ xs) (c.truncate.ensures.items ∙ ap (take 63) (kept ∙ ap (filter (λ pair. not (is_for c.args.ip pair))) c.self.view_is))
