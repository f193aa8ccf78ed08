use Rattle.std.proofs.Common.{◌≡◌, length, ap, arith}
use Rattle.poll_list.proofs.Picking.{picked_all, picked_wants, picked_differ}
use Rattle.drive_world.proofs.reporting.report.Goals as goal

pub returns-clause-picked : goal.returns-clause-picked
returns-clause-picked c = picked_all _ _ _ _ c.items.ensures c.requires.none c.add_parts.ensures.goes_on

pub returns-clause-may : goal.returns-clause-may
returns-clause-may c =
    let picked = picked_all _ _ _ _ c.items.ensures c.requires.none c.add_parts.ensures.goes_on in
    let none : length c.args.ready.now.items ≡ 0 = ap length c.requires.none in
    (picked_wants _ _ picked c.requires.some, picked_differ _ _ picked, omega (arith, c.add_parts.ensures.few, none, ap length c.items.ensures, c.requires.few))
