use Rattle.std.proofs.Common.{◌≤◌, List, ℕ, length, sym, ◌∙◌, ap, subst}
use Rattle.world_face.specs.Journal.{LinkRead}
use Rattle.replay.specs.Last.{last_of, io_of, octets_of}
use Rattle.replay.proofs.Telling.{none_last, read_fits, read_told}
use Rattle.replay.proofs.world.ScriptWorldWorld.link_read.Goals as goal

pub fill-requires : goal.fill-requires
fill-requires c =
    let last = last_of c.follow.new.self in
    let few = read_fits (length c.args.into.now) (io_of last) (octets_of last) c.follow.ensures.allowed.0 c.follow.ensures.allowed.1 in
    subst (λ (l : List ℕ). length l ≤ length c.args.into.now) (sym (c.brought.ensures ∙ ap octets_of c.last-line.ensures)) few

pub returns-clause-answers : goal.returns-clause-answers
returns-clause-answers c =
    read_told _ _ (LinkRead (length c.args.into.now)) _ _ c.brought.result.now _ c.fill.new.into (c.io.ensures ∙ ap io_of c.last-line.ensures)
    (c.brought.ensures ∙ ap octets_of c.last-line.ensures) c.follow.ensures.allowed.1.0 c.fill.ensures c.follow.ensures

pub returns-clause-ceased : goal.returns-clause-ceased
returns-clause-ceased c dead = c.io.ensures ∙ ap io_of (c.last-line.ensures ∙ none_last c.follow.new.self dead)
