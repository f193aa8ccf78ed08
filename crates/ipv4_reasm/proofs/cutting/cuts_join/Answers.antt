use Rattle.ipv4_reasm.proofs.Arrivals.{last_joins, others_wait}
use Rattle.ipv4_reasm.proofs.Fragments.{joined}
use Rattle.ipv4_reasm.proofs.cutting.cuts_join.Goals as goal

pub returns : goal.returns
returns c = record {
  join = joined;
  waits = others_wait;
  whole = last_joins;
}
