-- A pair less is left.
use Rattle.std.proofs.Common.{sym, ◌∙◌, ap}
use Rattle.std.specs.Option.{option_map}
use Rattle.tftp_server.specs.Reading.{pair_of}
use Rattle.tftp_server.proofs.Cutting.{pairs_end, pairs_more}
use Rattle.tftp_server.proofs.packets.are_pairs.Goals as goal

pub loop-pair-preserved : goal.loop-pair-preserved
loop-pair-preserved c = sym (pairs_more c.loop-pair.rest.now (pair_of c.in-Some.pair) (sym c.first_pair.ensures.pair ∙ ap (option_map pair_of) c.in-Some.is)) ∙ c.loop-pair.invariant

pub returns : goal.returns
returns c = c.is_empty.ensures ∙ sym (pairs_end c.loop-pair.rest.now (sym c.first_pair.ensures.pair ∙ ap (option_map pair_of) c.in_default.is)) ∙ c.loop-pair.invariant
