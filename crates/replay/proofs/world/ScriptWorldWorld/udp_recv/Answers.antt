use Rattle.std.proofs.Common.{◌≤◌, List, ℕ, length, sym, ◌∙◌, ap, subst}
use Rattle.world_face.specs.Journal.{UdpRecv}
use Rattle.replay.specs.Last.{last_of, got_of, octets_of}
use Rattle.replay.proofs.Telling.{none_last, got_fits, got_told}
use Rattle.replay.proofs.world.ScriptWorldWorld.udp_recv.Goals as goal

pub fill-requires : goal.fill-requires
fill-requires c =
    let last = last_of c.follow.new.self in
    let few = got_fits (length c.args.into.now) (got_of last) (octets_of last) c.follow.ensures.allowed.0 c.follow.ensures.allowed.1 in
    subst (λ (l : List ℕ). length l ≤ length c.args.into.now) (sym (c.brought.ensures ∙ ap octets_of c.last-line.ensures)) few

pub returns-clause-answers : goal.returns-clause-answers
returns-clause-answers c =
    got_told _ _ (UdpRecv c.args.s (length c.args.into.now)) _ _ c.brought.result.now _ c.fill.new.into (c.got.ensures ∙ ap got_of c.last-line.ensures)
    (c.brought.ensures ∙ ap octets_of c.last-line.ensures) c.follow.ensures.allowed.1.0 c.fill.ensures c.follow.ensures

pub returns-clause-ceased : goal.returns-clause-ceased
returns-clause-ceased c dead = c.got.ensures ∙ ap got_of (c.last-line.ensures ∙ none_last c.follow.new.self dead)
