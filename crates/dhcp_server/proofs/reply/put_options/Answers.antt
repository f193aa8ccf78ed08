-- The options one after another.
use Rattle.std.proofs.Common.{ℕ, List, [], ◌∷◌, ◌++◌, subst}
use Rattle.net_octets.specs.Octets.{four}
use Rattle.slirp_settings.specs.Settings.{settings}
use Rattle.tlv_table.specs.Putting.{put_octets}
use Rattle.rules_dhcp.specs.Messages.{form}
use Rattle.rules_dhcp.specs.Replies.{kind_of, further_options}
use Rattle.dhcp_server.specs.Writing.{Adds}
use Rattle.dhcp_server.proofs.Adding.{then_options}
use Rattle.dhcp_server.proofs.reply.put_options.Goals as goal

pub returns-clause-written : goal.returns-clause-written
returns-clause-written c =
    let config = settings c.args.config.now in
    let kind : List (ℕ × List ℕ) = (53, kind_of c.args.answer ∷ []) ∷ [] in
    let server : List (ℕ × List ℕ) = (54, four config.vhost) ∷ [] in
    let first = subst (λ (n : ℕ). Adds c.args.into.now c.args.at c.put-at.new.into c.put-at.result (put_octets form ((53, n ∷ []) ∷ []))) c.kind_of.ensures c.put-at.ensures.written in
    let second = then_options form _ _ _ kind server _ _ _ first c.put_number-at.ensures.written in
    then_options form _ _ _ (kind ++ server) (further_options config c.args.answer) _ _ _ second c.put_further.ensures.written
