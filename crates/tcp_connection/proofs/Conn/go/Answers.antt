use Rattle.std.proofs.Common.{◌≡◌, Some, ap, sym, subst, ◌∙◌}
use Rattle.tcp_transmit.specs.Pieces.{piece_owed}
use Rattle.tcp_transmit.specs.Transmission.{Feeds, Transmission}
use Rattle.tcp_connection.specs.Connection.{Connection}
use Rattle.tcp_connection.specs.declared.Owed.{Owed}
use Rattle.tcp_connection.proofs.Keeping.{data_owed}
use Rattle.tcp_connection.proofs.Conn.go.Goals as goal

pub returns-in-Data-clause-feeds : goal.returns-in-Data-clause-feeds
returns-in-Data-clause-feeds c down h owed =
    let t : c.self.inside.transmit ≡ c.args.self.now.transmission = ap (λ (x : Connection). x.transmission) (c.self.view_is ∙ c.tell-in-Data.ensures) in
    let piece = data_owed c.args.self.now.stage c.args.self.now c.args.up.now down c.in-Data.piece (owed ∙ ap (λ (w : Owed). Some w) c.in-Data.is) in
    c.sent.ensures.feeds down (subst (λ (x : Transmission). Feeds x down) (sym t) h.feeds) (ap (λ (x : Transmission). piece_owed x down) t ∙ piece)
