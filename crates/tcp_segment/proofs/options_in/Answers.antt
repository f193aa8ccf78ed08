-- The body of a greatest segment size has two octets, and that of a window scale one.
use Rattle.tcp_segment.proofs.Sizes.{two_octets, one_octet}
use Rattle.tcp_segment.proofs.options_in.Goals as goal

pub map-requires : goal.map-requires
map-requires c body is _ _ _ _ = two_octets c.of-table.result c.args.options.now c.in-Ok.fields c.first.result body c.of-table.ensures c.in-Ok.ensures.found c.first.ensures is

pub map-requires-2 : goal.map-requires-2
map-requires-2 c body is _ _ _ _ = one_octet c.of-table.result c.args.options.now c.in-Ok.fields c.first-2.result body c.of-table.ensures c.in-Ok.ensures.found c.first-2.ensures is
