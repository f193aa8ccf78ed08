use Rattle.std.proofs.Common.{◌≡◌, ℕ, [], refl, subst, sym, inl, inr, ◌⊎◌}
use Rattle.world_face.proofs.Telling.{makes_as, makes_none}
use Rattle.stream_netdev.specs.declared.Offered.{Offered}
use Rattle.stream_netdev.specs.declared.Offered.TheVariants.{Blocked, Failed}
use Rattle.tcp_connection.specs.declared.Owed.{Owed}
use Rattle.sim_connection.specs.Sending.{is_rst}
use Rattle.flow_splice.specs.Sends.{GoesOut, Marks}
use Rattle.flow_splice.specs.Splice.{Splice}
use Rattle.flow_splice.proofs.Spliced.mark.Goals as goal

untaken : (offer : Offered) (what : Owed) (f : Splice) (now : ℕ) → (offer ≡ Blocked) ⊎ (offer ≡ Failed) → Marks offer what f f now []
untaken offer what f now (inl is) = subst (λ (o : Offered). Marks o what f f now []) (sym is) (refl, refl)
untaken offer what f now (inr is) = subst (λ (o : Offered). Marks o what f f now []) (sym is) (refl, refl)

pub returns-in-Taken-clause-makes : goal.returns-in-Taken-clause-makes
returns-in-Taken-clause-makes g c =
    let f : Splice = c.args.self.now in
    let what : Owed = c.args.what.now in
    makes_as _ _ (GoesOut (is_rst what) what f c.go_out.new.self c.args.now) (Marks c.args.offered what f c.go_out.new.self c.args.now) c.go_out.ensures.makes
    (λ made goes. subst (λ (o : Offered). Marks o what f c.go_out.new.self c.args.now made) (sym c.in-Taken.is) goes)

pub returns-in-Blocked-clause-makes : goal.returns-in-Blocked-clause-makes
returns-in-Blocked-clause-makes g c = makes_none _ _ (untaken c.args.offered c.args.what.now c.args.self.now c.args.now c.in-Blocked.is)
