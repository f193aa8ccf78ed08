use Rattle.std.proofs.Common.{◌&&◌, ℕ, [], Bool, refl, ap, subst, sym, ◌∙◌}
use Rattle.world_face.proofs.Telling.{makes_none}
use Rattle.tcp_segment.specs.Tcp.{Tcp, tcp_of}
use Rattle.tcp_connection.specs.Segments.{change_at}
use Rattle.flow_splice.specs.Guests.{Hears, ends_time_wait, is_unfit}
use Rattle.flow_splice.specs.Hosts.{IsAsOld}
use Rattle.flow_splice.specs.Splice.{Splice}
use Rattle.flow_splice.proofs.InTimeWait.{at_rest_as_old, hears_in_time_wait, hears_nothing}
use Rattle.flow_splice.proofs.Spliced.guest_segment.Goals as goal

pub take_in_time_wait-requires-clause-time_waits : goal.take_in_time_wait-requires-clause-time_waits
take_in_time_wait-requires-clause-time_waits g c = sym c.place.ensures ∙ c.in-InTimeWait.is

pub returns-in-InTimeWait-clause-makes : goal.returns-in-InTimeWait-clause-makes
returns-in-InTimeWait-clause-makes g c =
    let f : Splice = c.args.self.now in
    let tcp : Tcp = tcp_of c.args.seg.now in
    let since : ℕ = c.in-InTimeWait.since in
    makes_none _ _ (subst (λ (x : Splice). Hears f x tcp c.args.now []) (sym c.take_in_time_wait.ensures.heard) (hears_in_time_wait f c.args.now since tcp (sym c.place.ensures ∙ c.in-InTimeWait.is)), refl)

pub returns-in-InTimeWait-clause-stays : goal.returns-in-InTimeWait-clause-stays
returns-in-InTimeWait-clause-stays g c =
    let f : Splice = c.args.self.now in
    let tcp : Tcp = tcp_of c.args.seg.now in
    record {
      same = subst (λ (x : Splice). IsAsOld f x) (sym c.take_in_time_wait.ensures.heard) (at_rest_as_old (ends_time_wait f.conn tcp) f c.in-InTimeWait.since tcp c.args.now);
      up = c.take_in_time_wait.ensures.up;
      down = c.take_in_time_wait.ensures.down;
    }

pub returns-in_default : goal.returns-in_default
returns-in_default g c =
    let f : Splice = c.args.self.now in
    let tcp : Tcp = tcp_of c.args.seg.now in
    record {
      makes = makes_none _ _ (hears_nothing f c.args.now tcp (sym c.is_open.ensures ∙ c.if-is_open.false) (λ since at. c.in_default.not-InTimeWait since (c.place.ensures ∙ at)), refl);
      unfit = sym (ap (λ (b : Bool). b && is_unfit (change_at f.conn f.up f.down tcp c.args.now)) (sym c.is_open.ensures ∙ c.if-is_open.false));
      stays = record { same = record { face = refl; mac = refl; since = refl; accepted = refl; asked = refl; ask_at = refl; up_size = refl; down_size = refl; mru = refl }; up = refl; down = refl };
      time_waits = λ since at. absurd (c.in_default.not-InTimeWait since (c.place.ensures ∙ at));
      closed = λ shut awake. refl;
      quiet = λ shut. refl;
    }
