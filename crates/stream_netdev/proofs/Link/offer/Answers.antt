use Rattle.std.proofs.Common.{◌≡◌, ◌<◌, [], length, refl, sym, ◌∙◌, subst}
use Rattle.world_face.specs.Journal.{LinkWrite, count_of}
use Rattle.world_face.proofs.Telling.{makes_one}
use Rattle.world_face.specs.Frames.{encoding, rest_after}
use Rattle.stream_netdev.proofs.Writing.{after_frame, left_after, encoding_some, settles, write_most}
use Rattle.stream_netdev.proofs.Failing.{write_rose}
use Rattle.stream_netdev.proofs.Link.offer.Goals as goal

pub link_write-answer-requires-clause-some : goal.link_write-answer-requires-clause-some
link_write-answer-requires-clause-some g c = subst (λ l. 0 < length l) (sym c.requires.encoded.1) (encoding_some c.requires.encoded.0)

pub settle-requires-clause-few : goal.settle-requires-clause-few
settle-requires-clause-few g c = write_most (length c.args.octets.now) c.link_write-answer.result c.link_write-answer.ensures.allowed.0

pub returns-clause-makes : goal.returns-clause-makes
returns-clause-makes g c =
    let old = c.args.self.now in
    let new = c.settle.new.self in
    let octets = c.args.octets.now in
    let answer = c.link_write-answer.result in
    let rest : new.tail ≡ rest_after answer octets [] = c.settle.ensures.rest ∙ left_after answer octets in
    makes_one _ _ (LinkWrite octets answer) _ c.link_write-answer.ensures (λ allowed. (
      (answer, refl, c.offered_of.ensures),
      λ past keeps. after_frame old new octets c.requires.encoded.0 answer past c.requires.encoded.1 c.requires.fits c.requires.none c.requires.free rest c.settle.ensures.blocked
          c.settle.ensures.same keeps,
    ))

pub returns-clause-settles : goal.returns-clause-settles
returns-clause-settles g c =
    let octets = c.args.octets.now in
    let some = subst (λ l. 0 < length l) (sym c.requires.encoded.1) (encoding_some c.requires.encoded.0) in
    settles c.settle.new.self c.link_write-answer.result octets c.offered_of.result some c.link_write-answer.ensures.allowed c.settle.ensures.blocked c.settle.ensures.rest c.offered_of.ensures

pub returns-clause-failed : goal.returns-clause-failed
returns-clause-failed g c is = write_rose _ _ _ _ _ (returns-clause-makes g c) is
