use Rattle.std.proofs.Common.{slice_set, sym, ◌∙◌, ap, subst, arith}
use Rattle.replay.specs.Fitting.{FitsNext, IsCompleted, last_moment}
use Rattle.std.specs.Option.{is_none}
use Rattle.replay.specs.Lines.{rows_of, stop_of}
use Rattle.replay.specs.Script.{Script}
use Rattle.replay.proofs.Completing as completing
use Rattle.replay.proofs.Entries.{not_stopped}
use Rattle.replay.proofs.Rowing.{set_length, set_roomy}
use Rattle.replay.proofs.world.ScriptWorld.complete.Goals as goal

pub complete-requires-clause-of : goal.complete-requires-clause-of
complete-requires-clause-of c =
    let w = c.self.inside in
    let e = c.requires.fits.0 in
    let next = subst (λ (s : Script). FitsNext s e) (sym c.self.view_is) c.requires.fits.1 in
    completing.of_call w.rows.items w.used c.index_mut.result.now c.index_mut.ensures.value e _ _ _ _ next c.requires.fits.2

pub complete-requires-clause-all : goal.complete-requires-clause-all
complete-requires-clause-all c =
    let w = c.self.inside in
    let e = c.requires.fits.0 in
    let next = subst (λ (s : Script). FitsNext s e) (sym c.self.view_is) c.requires.fits.1 in
    (completing.readable w.rows.items w.used c.index_mut.result.now c.index_mut.ensures.value e _ _ _ _ next c.requires.fits.2 c.self.invariant.6).all

pub complete-requires-clause-room : goal.complete-requires-clause-room
complete-requires-clause-room c =
    let w = c.self.inside in
    let e = c.requires.fits.0 in
    let next = subst (λ (s : Script). FitsNext s e) (sym c.self.view_is) c.requires.fits.1 in
    completing.roomy w.rows.items w.used c.index_mut.result.now c.index_mut.ensures.value e _ _ _ _ next c.requires.fits.2 c.self.invariant.7

pub invariant_of-self : goal.invariant_of-self
invariant_of-self c =
    let w = c.self.inside in
    let e = c.requires.fits.0 in
    let next = subst (λ (s : Script). FitsNext s e) (sym c.self.view_is) c.requires.fits.1 in
    let old = c.index_mut.result.now in
    let new = c.complete.new.self in
    let same = set_length w.rows.items w.used new in
    let kept = c.self.invariant in (
      omega (arith, kept.0, same),
      omega (arith, kept.1, same),
      kept.2,
      kept.3,
      λ call is. absurd (not_stopped w.stop w.octets.items w.wants.items call next.live is),
      kept.5 ∙ ap last_moment (sym (completing.all_kept w.rows.items w.used old c.index_mut.ensures.value e _ _ _ _ next c.requires.fits.2 new c.complete.ensures.row)),
      completing.all_readable w.rows.items w.used old c.index_mut.ensures.value e _ _ _ _ next c.requires.fits.2 new c.complete.ensures.row kept.6,
      set_roomy w.rows.items w.used new kept.7 c.complete.ensures.room,
    )

pub returns : goal.returns
returns c = λ e fits is.
    let w = c.self.inside in
    let next = subst (λ (s : Script). FitsNext s e) (sym c.self.view_is) fits in
    let after : Script = record {
      lines = rows_of (slice_set w.rows.items w.used c.complete.new.self);
      used = w.used;
      live = is_none w.stop;
      stop = stop_of w.stop w.octets.items w.wants.items;
      faults = record { link = w.link_faults; wait = w.wait_faults; socket = w.socket_faults; file = w.file_faults };
    } in
    subst (λ (s : Script). IsCompleted s after e) c.self.view_is (completing.completed w.rows.items w.used c.index_mut.result.now c.index_mut.ensures.value e _ _ _ _ next is
    c.complete.new.self c.complete.ensures.row)
