use Rattle.std.proofs.Common.{◌≡◌, Bool, true, false, refl}
use mathlib.Core.Bool.{beq}
use Rattle.net_world.proofs.Standing.{lists_same}
use Rattle.net_world.proofs.ready_list.relist.Goals as goal

same : (a b : Bool) → beq a b ≡ true → a ≡ b
same true true is = refl
same true false is = cc
same false true is = cc
same false false is = refl

not_both : (a b : Bool) → beq a b ≡ false → a ≡ true → b ≡ true → ⊥
not_both true true is x y = absurd (cc)
not_both true false is x y = absurd (cc)
not_both false b is x y = absurd (cc)

pub returns-then-was-is-clause-lists : goal.returns-then-was-is-clause-lists
returns-then-was-is-clause-lists c =
    lists_same c.args.readable.now.items c.args.listed c.args.was c.args.is c.requires.rise c.requires.has c.requires.alone (same c.args.was c.args.is c.if-was-is.true)

pub put_in-requires-clause-alone : goal.put_in-requires-clause-alone
put_in-requires-clause-alone c = λ other h of. not_both c.args.was c.args.is c.if-was-is.false (c.requires.alone other h of).1 c.if-is.true

pub take_out-requires-clause-alone : goal.take_out-requires-clause-alone
take_out-requires-clause-alone c = λ other h of. (c.requires.alone other h of).0
