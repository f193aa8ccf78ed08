use Rattle.std.proofs.Common.{ℕ, Option, ap, ◌∙◌}
use Rattle.tcp_segment.specs.Tcp.{Tcp}
use Rattle.sim_connection.specs.Sending.{with_head}
use Rattle.flow_splice.specs.Frames.{tcp_out}
use Rattle.flow_splice.proofs.frames.outline.Goals as goal

pub returns : goal.returns
returns c down number held =
    let route = c.args.route.now in
    let base : Tcp = tcp_out (record { guest = route.guest; other = route.other; number = number; vhost = route.vhost }) (with_head c.args.head.now c.args.mru down c.args.what.now) in
    ap (λ (n : ℕ). record base { flags = n; mss = c.mss.result }) (c.flags.ensures down c.args.head.now c.args.mru held) ∙ ap (λ (o : Option ℕ). record base { mss = o }) c.mss.ensures
