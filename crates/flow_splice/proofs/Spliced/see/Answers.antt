use Rattle.std.proofs.Common.{refl, ◌≡◌, ◌∷◌, [], Bool, true, ap, subst, sym, inl, inr, ◌⊎◌}
use Rattle.world_face.specs.Journal.{Close}
use Rattle.world_face.proofs.Telling.{makes_one}
use Rattle.tcp_connection.specs.declared.Change.{Change}
use Rattle.tcp_connection.specs.declared.Change.TheVariants.{GuestReset, Finished}
use Rattle.flow_splice.specs.Hosts.{Sees, ends}
use Rattle.flow_splice.proofs.Spliced.see.Goals as goal

over_by : (change : Change) → (change ≡ GuestReset) ⊎ (change ≡ Finished) → ends change ≡ true
over_by change (inl is) = ap ends is
over_by change (inr is) = ap ends is

pub returns-in-GuestReset : goal.returns-in-GuestReset
returns-in-GuestReset g c =
    let f = c.args.self.now in
    makes_one _ _ (Close f.face.number) (Sees (ends c.args.change) f c.close.new.self c.args.now) c.close.ensures.closes
    (λ allowed. subst (λ (b : Bool). Sees b f c.close.new.self c.args.now (Close f.face.number ∷ [])) (sym (over_by c.args.change c.in-GuestReset.is)) (refl, c.close.ensures.change))
