use Rattle.std.proofs.Common.{◌≡◌, ◌-◌, true, false, Option, Some, None, sym, ◌∙◌, ap, arith, refl}
use Rattle.std.specs.Option.{is_none, is_some}
use Rattle.replay.specs.Last.{last_of}
use Rattle.replay.specs.declared.line.Stop.{Stop}
use Rattle.replay.proofs.Telling.{a_line}
use Rattle.replay.proofs.world.ScriptWorld.last.Goals as goal

goes_on : (stop : Option Stop) → is_some stop ≡ false → is_none stop ≡ true
goes_on None is = refl
goes_on (Some stop) is = cc

pub returns : goal.returns
returns c =
    let w = c.self.inside in
    a_line (is_none w.stop) w.rows.items w.used (w.used - 1) c.index.result.now (goes_on w.stop (sym c.is_some.ensures ∙ c.if-is_some.false)) (omega arith)
    (omega (arith, c.self.invariant.0)) c.index.ensures ∙ ap last_of c.self.view_is
