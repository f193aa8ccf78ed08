use Rattle.std.proofs.Common.{◌≡◌, ◌<◌, ◌⊎◌, Bool, true, arith, ap, subst, sym, refl, ◌∙◌}
use Rattle.std.proofs.lemmas.Grind.{common_steps}
use Rattle.sock_buffers.specs.Downward.{Downward}
use Rattle.tcp_transmit.specs.Acks.{IsSeenAs, acknowledged, after_ack, congested, congested_by, is_acceptable, is_duplicate, octets_acked, opened, place_acked, windowed}
use Rattle.tcp_transmit.specs.Timing.{watched, watched_over}
use Rattle.tcp_transmit.specs.Transmission.{Feeds, Transmission, is_closed, octets_read}
use Rattle.tcp_transmit.specs.declared.AckSeen.{AckSeen}
use Rattle.tcp_transmit.specs.declared.AckSeen.TheVariants.{Same}
use Rattle.tcp_transmit.proofs.Feeding.{ack_feeds, ack_reads, congested_feeds, congested_seen, duplicate_under, runs_on, same_steady}
use Rattle.tcp_transmit.proofs.Transmit.acked.Goals as goal

pub acknowledge-requires-clause-feeds : goal.acknowledge-requires-clause-feeds
acknowledge-requires-clause-feeds c =
    let t : Transmission = c.args.self.now in
    let seen = c.seen-seen.result in
    let is : c.count_congestion.new.self ≡ congested t c.args.window c.args.bare seen =
    c.count_congestion.ensures ∙ (λ i. congested_by t (c.is_duplicate-is_duplicate.ensures i) (c.octets.ensures i)) in
    subst (λ (x : Transmission). Feeds x c.args.down.now) (sym is)
    (congested_feeds t c.args.down.now (is_duplicate t c.args.window c.args.bare seen) (octets_acked seen) (duplicate_under t c.args.window c.args.bare seen) c.requires.feeds)

pub acknowledge-requires-clause-seen : goal.acknowledge-requires-clause-seen
acknowledge-requires-clause-seen c =
    let t : Transmission = c.args.self.now in
    let seen = c.seen-seen.result in
    let is : c.count_congestion.new.self ≡ congested t c.args.window c.args.bare seen =
    c.count_congestion.ensures ∙ (λ i. congested_by t (c.is_duplicate-is_duplicate.ensures i) (c.octets.ensures i)) in (
      place_acked t c.args.ack.0,
      subst (λ (x : Transmission). IsSeenAs x c.args.down.now (place_acked t c.args.ack.0) seen) (sym is)
          (congested_seen t c.args.down.now (is_duplicate t c.args.window c.args.bare seen) (octets_acked seen) (place_acked t c.args.ack.0) seen c.seen-seen.ensures),
    )

pub returns-clause-feeds : goal.returns-clause-feeds
returns-clause-feeds c =
    let t : Transmission = c.args.self.now in
    let seen = c.seen-seen.result in
    let acceptable : is_acceptable seen ≡ true = grind arith in
    let ready = ack_feeds t c.args.down.now c.args.seq c.args.window c.args.bare c.args.now (place_acked t c.args.ack.0) seen c.requires.now c.requires.feeds c.seen-seen.ensures acceptable in
    let is : c.count_congestion.new.self ≡ congested t c.args.window c.args.bare seen =
    c.count_congestion.ensures ∙ (λ i. congested_by t (c.is_duplicate-is_duplicate.ensures i) (c.octets.ensures i)) in
    let stepped : c.owe_probe.new.self ≡ opened (windowed (acknowledged (congested t c.args.window c.args.bare seen) seen c.args.now) c.args.seq c.args.window) =
    c.owe_probe.ensures ∙ ap opened (c.take_window.ensures ∙ ap (λ (x : Transmission). windowed x c.args.seq c.args.window)
    (c.acknowledge.ensures.change ∙ ap (λ (x : Transmission). acknowledged x seen c.args.now) is)) in
    let given = subst (λ (d : Downward). Feeds (watched_over (opened
    (windowed (acknowledged (congested t c.args.window c.args.bare seen) seen c.args.now) c.args.seq c.args.window)) d c.args.now) d) (sym c.acknowledge.ensures.dropped) ready in
    let noted = subst (λ (x : Transmission). Feeds (watched_over x c.acknowledge.new.down c.args.now) c.acknowledge.new.down) (sym stepped) given in
    subst (λ (x : Transmission). Feeds x c.acknowledge.new.down) (sym (c.watch.ensures ∙ ap (λ (b : Bool). watched c.owe_probe.new.self b c.args.now) c.has_unsent-unsent.ensures)) noted

pub returns-clause-change : goal.returns-clause-change
returns-clause-change c = grind (arith, common_steps)

pub returns-clause-read : goal.returns-clause-read
returns-clause-read c =
    subst (λ (d : Downward). octets_read d ≡ octets_read c.args.down.now) (sym c.acknowledge.ensures.dropped)
    (ack_reads c.args.self.now c.args.down.now (place_acked c.args.self.now c.args.ack.0) c.seen-seen.result c.requires.feeds c.seen-seen.ensures)

pub returns-clause-steady : goal.returns-clause-steady
returns-clause-steady c same runs left =
    let t : Transmission = c.args.self.now in
    let is : c.watch.new.self ≡ after_ack t c.acknowledge.new.down c.args.seq c.args.window c.args.bare c.args.now Same =
    returns-clause-change c ∙ ap (λ (s : AckSeen). after_ack t c.acknowledge.new.down c.args.seq c.args.window c.args.bare c.args.now s) same in
    subst (λ (x : Transmission). (x.acked < x.sent) ⊎ (is_closed x ≡ true) → x.resend.timer ≡ t.resend.timer) (sym is)
    (same_steady t c.args.down.now c.acknowledge.new.down c.args.seq c.args.window c.args.bare c.args.now c.requires.feeds (returns-clause-read c)
    (runs_on t.resend.timer t.resend.estimate.wait runs)) left
