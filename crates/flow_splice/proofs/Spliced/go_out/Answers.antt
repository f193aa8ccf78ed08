use Rattle.std.proofs.Common.{◌≡◌, ℕ, Bool, false, subst, sym, ◌∙◌}
use Rattle.world_face.proofs.Telling.{makes_as}
use Rattle.tcp_connection.specs.declared.Change.{Change}
use Rattle.sim_connection.specs.Sending.{is_rst}
use Rattle.flow_splice.specs.Hosts.{Sees, ends}
use Rattle.flow_splice.specs.Sends.{GoesOut, went_out}
use Rattle.flow_splice.specs.Splice.{Splice}
use Rattle.flow_splice.proofs.Spliced.go_out.Goals as goal

pub returns-else-is_reset : goal.returns-else-is_reset
returns-else-is_reset g c =
    let f : Splice = c.args.self.now in
    let now : ℕ = c.args.now in
    let what = c.args.what.now in
    let noted = c.note_sent-change in
    let none : is_rst what ≡ false = sym c.is_reset.ensures ∙ c.if-is_reset.false in
    record {
      makes = makes_as _ _ (Sees (ends noted.result) noted.new.self c.see.new.self now) (GoesOut (is_rst what) what f c.see.new.self now) c.see.ensures
          (λ made sees.
          subst (λ (b : Bool). GoesOut b what f c.see.new.self now made) (sym none)
          (subst (λ (change : Change). Sees (ends change) (went_out f what now) c.see.new.self now made) noted.ensures.change
          (subst (λ (x : Splice). Sees (ends noted.result) x c.see.new.self now made) noted.ensures.sent sees)));
    }
