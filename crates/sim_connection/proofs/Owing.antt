-- The reset that a flow owes goes out, after its socket was closed.
use Rattle.std.proofs.Common.{refl, ◌≡◌, ℕ, ◌≤◌, ◌∷◌, Bool, true, false, not, ◌&&◌, ◌||◌, None, Some, if◌then◌else◌, ap, sym, ◌∙◌, arith}
use Rattle.seq_space.specs.declared.Seq.{Seq}
use Rattle.sock_buffers.specs.Downward.{Downward}
use Rattle.sock_buffers.specs.Upward.{Upward}
use Rattle.tcp_connection.specs.Connection.{Connection}
use Rattle.tcp_connection.specs.declared.Owed.TheVariants.{Reset}
use Rattle.tcp_connection.specs.declared.Stage.{Stage}
use Rattle.tcp_connection.specs.declared.Stage.TheVariants as stage
use Rattle.spec_flow.specs.Settings.{Settings}
use Rattle.spec_flow.specs.Event.{At, Departs, Segment, Story}
use Rattle.spec_flow.specs.Windows.{is_scaled, least_shift}
use Rattle.spec_flow.specs.Close.{is_owed_reset, owes_reset}
use Rattle.spec_flow.specs.Lawful.{May, Send}
use Rattle.spec_flow.specs.Dutiful.{MustClose}
use Rattle.sim_halves.proofs.Acts.{may_send, must_send}
use Rattle.sim_halves.proofs.Owed.{reset_may_go, reset_pays}
use Rattle.sim_connection.specs.Over.{IsOver, is_resets}
use Rattle.sim_connection.specs.Sending.{segment_out}
use Rattle.sim_connection.proofs.Closing.{runs_on}

no_scale : (a b c : Bool) (x : ℕ) → None ≡ (if a && false && b && c then Some x else None)
no_scale true b c x = refl
no_scale false b c x = refl

module _ (s : Settings) (c : Connection) (up : Upward) (down : Downward) (past : Story) (now m : ℕ) (on : now ≤ m) (h : IsOver s c past now) (seq ack : Seq) (at : c.stage ≡ stage.Resets seq ack) where
  abbrev seg : Segment
  seg = segment_out s.mru c up down (Reset seq ack)

  owed : owes_reset past ≡ true
  owed = h.owes ∙ ap (λ (st : Stage). is_resets st) at

  pays : is_owed_reset past seg ≡ true
  pays = h.pays seq ack at seg refl refl refl refl refl refl

  may : May s past m (Send seg)
  may = may_send s past m seg (refl, refl) (omega arith) refl (λ is. absurd cc) (λ is. absurd cc) (λ is. h.came seq ack at) h.well
      (reset_may_go past m seg refl refl refl refl owed pays) (λ is. (refl, refl, refl, refl)) (λ is. absurd cc) ((λ is. absurd cc), (λ is. absurd cc))
      (record { carries = λ is. absurd cc; acknowledges = ((λ is. refl), (λ is. absurd cc)); next = λ is. absurd cc; window = λ is. refl })
      (refl, no_scale s.scales false (not true || is_scaled s past) (least_shift s.ring))

  none_must : MustClose past → ⊥
  none_must must = let not_it = sym must.2 ∙ h.closed in absurd cc

  -- and none is owed then
  pub reset_goes : IsOver s (record c { stage = stage.Closed }) (At m (Departs seg) ∷ past) m
  reset_goes = record {
    runs = runs_on s past now m (Departs seg) (Send seg) h.runs on (λ none. none) refl may (must_send s past m seg (λ sent. absurd cc) none_must);
    closed = h.closed;
    well = refl;
    over = refl;
    owes = reset_pays past m seg refl refl refl refl pays;
    pays = λ q a is. absurd cc;
    came = λ q a is. absurd cc;
  }
