-- An option less is left.
use Rattle.std.proofs.Common.{sym, ◌∙◌, ap}
use Rattle.std.specs.Option.{option_map}
use Rattle.rules_tftp.specs.Packets.{terms_from}
use Rattle.tftp_server.specs.Reading.{options_of, pair_of}
use Rattle.tftp_server.proofs.Cutting.{options_end, options_more, pairs_more}
use Rattle.tftp_server.proofs.Knowing.{goes_on, stops}
use Rattle.tftp_server.proofs.options.Agreed.read.Goals as goal

pub loop-pair-preserved : goal.loop-pair-preserved
loop-pair-preserved c =
    let pair = pair_of c.in-Some.pair in
    let rest = c.loop-pair.rest.now in
    let found = sym c.first_pair.ensures.pair ∙ ap (option_map pair_of) c.in-Some.is in
    let step = goes_on c.args.length (pair.0, pair.1) (options_of pair.2) c.loop-pair.agreed c.take.new.self c.if-not-take.ensures in (
      sym (pairs_more rest pair found) ∙ c.loop-pair.invariant.0,
      sym step ∙ sym (ap (terms_from c.args.length c.loop-pair.agreed)
          (options_more rest pair found c.loop-pair.invariant.0)) ∙ c.loop-pair.invariant.1,
    )

pub returns : goal.returns
returns c =
    let rest = c.loop-pair.rest.now in
    let found = sym c.first_pair.ensures.pair ∙ ap (option_map pair_of) c.in_default.is in
    sym (ap (terms_from c.args.length c.loop-pair.agreed) (options_end rest found c.loop-pair.invariant.0)) ∙ c.loop-pair.invariant.1

pub returns-then-not-take : goal.returns-then-not-take
returns-then-not-take c =
    let pair = pair_of c.in-Some.pair in
    let rest = c.loop-pair.rest.now in
    let found = sym c.first_pair.ensures.pair ∙ ap (option_map pair_of) c.in-Some.is in
    sym (stops c.args.length (pair.0, pair.1) (options_of pair.2) c.loop-pair.agreed c.if-not-take.ensures)
    ∙ sym (ap (terms_from c.args.length c.loop-pair.agreed) (options_more rest pair found c.loop-pair.invariant.0)) ∙ c.loop-pair.invariant.1
