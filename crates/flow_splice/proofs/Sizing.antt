-- The fields of a segment that goes out have their sizes.
use Rattle.std.proofs.Common.{ℕ, ◌-◌, ◌<◌, ◌≤◌, ◌^◌, length, drop, IfSome, length-take, arith}
use Rattle.sock_buffers.specs.Downward.{Downward}
use Rattle.tcp_connection.specs.declared.Owed.{Owed}
use Rattle.tcp_connection.specs.declared.Owed.TheVariants.{Syn, SynAck, Data, Ack, Reset}
use Rattle.sim_connection.specs.Sending.{carried, mss_in}
use Rattle.flow_splice.specs.Frames.{IsHeld}

pub mss_fits : (mru : ℕ) (what : Owed) → mru < 2 ^ 16 → IfSome (mss_in mru what) (λ (m : ℕ). m < 2 ^ 16)
mss_fits mru Syn fits = omega (arith, fits)
mss_fits mru SynAck fits = omega (arith, fits)
mss_fits mru (Data p) fits = tt
mss_fits mru Ack fits = tt
mss_fits mru (Reset seq ack) fits = tt

pub carries_few : (down : Downward) (what : Owed) → IsHeld down what → length (carried down what) ≤ 1460
carries_few down Syn held = omega arith
carries_few down SynAck held = omega arith
carries_few down (Data p) held =
    let long = length-take p.length (drop (p.place - down.first) down.octets) in
    let most = held.2 in
    omega (arith, long, most)
carries_few down Ack held = omega arith
carries_few down (Reset seq ack) held = omega arith
