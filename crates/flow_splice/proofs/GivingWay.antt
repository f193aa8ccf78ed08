-- When a flow may give way to a SYN of a guest, and how it does.
use Rattle.std.proofs.Common.{refl, ◌≡◌, ℕ, ◌+◌, ◌-◌, ◌^◌, ◌<◌, ◌≤◌, ◌∷◌, Bool, true, false, not, ◌&&◌, ◌||◌, nat_eq, nat_le, if◌then◌else◌, arith, sym, ◌∙◌}
use Rattle.std.proofs.lemmas.Bool.Decides.{nat_tests}
use Rattle.tcp_transmit.specs.Transmission.{octets_read}
use Rattle.tcp_connection.specs.Hosts.{is_open as host_is_open, reset}
use Rattle.spec_flow.specs.Settings.{Settings}
use Rattle.spec_flow.specs.Event.{At, Closes, Story}
use Rattle.spec_flow.specs.Flow.{guest, host, is_closed, is_connecting}
use Rattle.spec_flow.specs.Guest.{is_empty, written}
use Rattle.spec_flow.specs.Host.{got, got_end}
use Rattle.spec_flow.specs.Close.{follows_reset, host_was_ended, is_short as is_short_by, last_at, may_give_way, our_fin_is_acked, quiet_time as quiet_time_by}
use Rattle.sim_halves.proofs.Rests.{our_fin}
use Rattle.sim_connection.specs.Holding.{is_at_connecting}
use Rattle.sim_connection.specs.Seen.{outward_of}
use Rattle.sim_connection.proofs.Causes.{way_closes}
use Rattle.sim_connection.proofs.Deserting.{empty_is, end_is_got, got_is, written_is}
use Rattle.flow_splice.specs.Follows.{Follows, IsOpen}
use Rattle.flow_splice.specs.Splice.{Splice, closed, is_in_use, is_open}
use Rattle.flow_splice.specs.Wants.{gives_way_at, is_short, quiet_time, reads_none}
use Rattle.flow_splice.proofs.Deserted.{none_is}
use Rattle.flow_splice.proofs.Opened.{open_is}
use Rattle.flow_splice.proofs.Shutting.{reset_follows}

module _ (s : Settings) (f : Splice) (past : Story) (now : ℕ) (o : IsOpen s f past now) where
  short_is : is_short_by past ≡ is_short f
  short_is =
      by (got_end (host past)) (host_was_ended past) (is_empty (got (host past))) (is_empty (written (guest past)))
      (end_is_got s f.conn f.up f.down past now o.holds) o.told
      (empty_is (got (host past)) (octets_read f.down) (got_is s f.conn f.up f.down past now o.holds) ∙ sym (none_is f.down))
      (empty_is (written (guest past)) f.up.written (written_is s f.conn f.up f.down past now o.holds))
    where
      by : (a b d e : Bool) → a ≡ not (host_is_open f.conn.transmission.end) → b ≡ f.told_end → d ≡ reads_none f.down → e ≡ nat_eq f.up.written 0
          → (a || b || (d && e)) ≡ (not (host_is_open f.conn.transmission.end) || f.told_end || (reads_none f.down && nat_eq f.up.written 0))
      by a b d e a_is b_is d_is e_is = rw (a_is, b_is, d_is, e_is) refl

  quiet_is : quiet_time_by past ≡ quiet_time f
  quiet_is = by (is_connecting past) (is_short_by past) o.holds.opened.connects short_is
    where
      by : (a b : Bool) → a ≡ is_at_connecting f.conn.stage → b ≡ is_short f → ◌≡◌ {A = ℕ} (if a then 10000 else (if b then 240000 else 7440000)) (quiet_time f)
      by a b a_is b_is = rw (a_is, b_is) refl

  acked_is : our_fin_is_acked past ≡ f.conn.fin_acked
  acked_is = our_fin (outward_of f.conn.transmission f.down) past o.holds.gives.keeps ∙ sym o.holds.gives.fin_acked

  pub way_open : (m : ℕ) → m ≤ 2 ^ 62 → may_give_way m past ≡ nat_le (gives_way_at f) m
  way_open m few =
      by (is_closed past) (host_was_ended past) (our_fin_is_acked past) (last_at past) (quiet_time_by past) o.holds.goes.open_yet o.told acked_is o.last quiet_is
      ∙ both (f.told_end && f.conn.fin_acked)
    where
      by : (a b d : Bool) (last quiet : ℕ) → a ≡ false → b ≡ f.told_end → d ≡ f.conn.fin_acked → last ≡ f.last → quiet ≡ quiet_time f
          → (not a && not (b && d) && nat_le (last + quiet) m) ≡ (not (f.told_end && f.conn.fin_acked) && nat_le (f.last + quiet_time f) m)
      by a b d last quiet a_is b_is d_is last_is quiet_eq = rw (a_is, b_is, d_is, last_is, quiet_eq) refl

      never : (n : ℕ) → m < n → false ≡ nat_le n m
      never n low = grind (arith, nat_tests)

      both : (b : Bool) → (not b && nat_le (f.last + quiet_time f) m) ≡ nat_le (if b then 2 ^ 64 - 1 else f.last + quiet_time f) m
      both true = never (2 ^ 64 - 1) (omega (arith, few))
      both false = refl

pub way_is : (s : Settings) (f : Splice) (past : Story) (now : ℕ) → Follows s f past now → is_open f ≡ true → (m : ℕ) → m ≤ 2 ^ 62 → may_give_way m past ≡ nat_le (gives_way_at f) m
way_is s f past now h yet = way_open s f past now (open_is s f past now yet h)

pub last_is : (s : Settings) (f : Splice) (past : Story) (now : ℕ) → Follows s f past now → is_open f ≡ true → f.last ≡ last_at past
last_is s f past now h yet = sym (open_is s f past now yet h).last

-- it gives way
pub way_follows : (f : Splice) (now : ℕ) → is_open f ≡ true → (s : Settings) (past : Story) (before : ℕ) (directly ended known : Bool) → before ≤ now → may_give_way now past ≡ true
    → follows_reset directly past ≡ false → Follows s f past before → Follows s (closed (record f { conn = reset f.conn }) now) (At now (Closes directly ended known) ∷ past) now
way_follows f now yet s past before directly ended known on may calm h =
    let o = open_is s f past before yet h in
    reset_follows s f past past before now directly ended known o refl (way_closes s f.conn f.up f.down past before now on o.holds known directly calm ended may)

pub closed_shut : (f : Splice) (now : ℕ) → is_open (closed f now) ≡ false
closed_shut f now = by (is_in_use (closed f now).place)
  where
    by : (b : Bool) → (b && not true) ≡ false
    by true = refl
    by false = refl
