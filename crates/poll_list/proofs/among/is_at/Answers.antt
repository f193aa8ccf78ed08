use Rattle.std.proofs.Common.{◌<◌, length, arith, sym, ◌∙◌}
use Rattle.std.proofs.lemmas.Bool.Decides.{nat_tests}
use Rattle.poll_list.proofs.Standing.{stands_there}
use Rattle.poll_list.proofs.among.is_at.Goals as goal

pub returns : goal.returns
returns c is =
    let few : c.args.place < length c.args.wants.now = grind (arith, nat_tests, c.in-Some.ensures.lookup.0) in
    stands_there c.args.of c.args.way c.args.wants.now c.args.place c.in-Some.want.now c.in-Some.want.now few c.in-Some.ensures.lookup.1 (sym c.is_of.ensures ∙ is)
