-- What a World that answers by a schedule tells of a run.
use Rattle.std.proofs.Common.{◌≡◌, ℕ, zero, suc, ◌+◌, ◌≤◌, true, false, List, [], ◌∷◌, ◌++◌, drop, length, Option, Some, None, IfSome, refl, sym, ◌∙◌, ap, subst, append_assoc, arith}
use Rattle.std.proofs.lemmas.List.{append-nil, length-map}
use Rattle.std.specs.List.{slice_get}
use Rattle.std.specs.Option.{option_map}
use Rattle.world_face.specs.Journal.{Entry, Call, AreAllowed, call_of}
use Rattle.world_face.specs.Puts.{added}
use Rattle.world_face.specs.Tells.{Told, on, ceased, silent, Makes}
use Rattle.world_face.proofs.Following.{all_before}
use Rattle.slirp_settings.specs.Addresses.{Config}
use Rattle.serve_loop.specs.declared.service.End.{End}
use Rattle.serve_loop.specs.declared.service.End.TheVariants.{Done, TooLong, Cut, LinkFault, WaitFault, TurnsSpent, ListenRefused, ControlRefused}
use Rattle.control_loop.specs.Runs.{BeginsRun, IsRun}
use Rattle.replay.specs.Fitting.{FitsNone, StopsRightly, divergence_of}
use Rattle.replay.specs.Names.{name_of}
use Rattle.replay.specs.Rows.{Row, AreReadable, Fits, FitsBefore, entries_of, row_text, schedule_text, turned_text}
use Rattle.replay.specs.Script.{Script, IsFresh, script_tells, newest_onto}
use Rattle.replay.specs.Text.{text}
use Rattle.replay.specs.declared.Divergence.{Divergence}
use Rattle.slirp_app.specs.Causes.{Came}
use Rattle.slirp_app.specs.Ran.{Replayed, Ceased}
use Rattle.app_edges.specs.Texts.{end_line}
use Rattle.slirp_app.specs.Serving.{ComesTo}
use Rattle.app_edges.specs.Statuses.{code_of}
use Rattle.slirp_app.specs.Statuses.{outcome_of}
use Rattle.app_edges.specs.declared.outcome.Outcome.{Outcome}
use Rattle.app_edges.specs.declared.outcome.Outcome.TheVariants.{Diverged}
use Rattle.slirp_app.proofs.Alone.{begun_before}

their_entries : (n : ℕ) (rows older : List Row) → entries_of (newest_onto n rows older) ≡ newest_onto n (entries_of rows) (entries_of older)
their_entries zero rows older = refl
their_entries (suc n) [] older = refl
their_entries (suc n) (row ∷ rows) older = their_entries n rows (row ∷ older)

still_readable : (n : ℕ) (rows older : List Row) → AreReadable rows → AreReadable older → AreReadable (newest_onto n rows older)
still_readable zero rows older h o = o
still_readable (suc n) [] older h o = o
still_readable (suc n) (row ∷ rows) older h o = still_readable n rows (row ∷ older) h.1 (h.0, o)

-- the text of the lines that are used up and of those that are left
front : (n : ℕ) (rows older : List Row) → turned_text (newest_onto n rows older) ++ schedule_text (drop n rows) ≡ turned_text older ++ schedule_text rows
front zero rows older = refl
front (suc n) [] older = refl
front (suc n) (row ∷ rows) older = front n rows (row ∷ older) ∙ append_assoc (turned_text older) (row_text row) (schedule_text rows)

-- as many lines are kept as are used up
kept_count : (n : ℕ) (lines older : List Entry) → n ≤ length lines → length (newest_onto n lines older) ≡ n + length older
kept_count zero lines older le = omega arith
kept_count (suc n) [] older le = absurd (omega (arith, le))
kept_count (suc n) (l ∷ lines) older le = omega (arith, kept_count n lines (l ∷ older) (omega (arith, le)))

-- the line that stands next is the first of those that are left
first_left : (n : ℕ) (lines : List Row) → slice_get (drop n lines) 0 ≡ slice_get lines n
first_left zero lines = refl
first_left (suc n) [] = refl
first_left (suc n) (l ∷ lines) = first_left n lines

none_left : (lines : List Row) (n : ℕ) (call : Call) → FitsNone lines n call → FitsNone (drop n lines) 0 call
none_left lines n call none e is of = none e (sym (first_left n lines) ∙ is) of

readable_left : (n : ℕ) (lines : List Row) → AreReadable lines → AreReadable (drop n lines)
readable_left zero lines readable = readable
readable_left (suc n) [] readable = readable
readable_left (suc n) (l ∷ lines) readable = readable_left n lines readable.1

-- the call at which it stopped
stopped_at : (stop : Option Call) (f : Call → Divergence) (divergence : Divergence) → option_map f stop ≡ Some divergence → (call : Call) × (stop ≡ Some call) × (divergence ≡ f call)
stopped_at None f divergence is = cc
stopped_at (Some call) f divergence is = (call, refl, cc)

-- a run that came to its end
at_end : (config : Config) (end : End) (schedule : List ℕ) (old new : Option (List ℕ)) → Replayed config (code_of (outcome_of end)) schedule old new
    (ComesTo config (outcome_of end)) → Came config (outcome_of end) schedule old new
at_end config Done schedule old new ran = ran
at_end config (TooLong n) schedule old new ran = ran
at_end config (Cut n) schedule old new ran = ran
at_end config LinkFault schedule old new ran = ran
at_end config WaitFault schedule old new ran = ran
at_end config (TurnsSpent n) schedule old new ran = ran
at_end config (ListenRefused n) schedule old new ran = ran
at_end config ControlRefused schedule old new ran = ran

module _ (config : Config) (script new : Script) (done outcome : Outcome) (before after : Option (List ℕ)) (fresh : IsFresh script)
    (lives : new.live ≡ true → outcome ≡ done)
    (dead : new.live ≡ false → (divergence : Divergence) × (outcome ≡ Diverged divergence) × (divergence_of new ≡ Some divergence))
    (rightly : StopsRightly new.lines new.used new.stop) (within : new.used ≤ length new.lines) (readable : AreReadable new.lines)
    (put : after ≡ added (text (script_tells new).kept ++ end_line (code_of outcome)) before) where
  nothing_kept : (script_tells script).kept ≡ []
  nothing_kept = ap (λ n. newest_onto n (entries_of script.lines) []) fresh.used

  put_as : (other : Outcome) → outcome ≡ other → after ≡ added (text (script_tells new).kept ++ end_line (code_of other)) before
  put_as other is = put ∙ ap (λ o. added (text (script_tells new).kept ++ end_line (code_of o)) before) is

  before_left : schedule_text new.lines ≡ schedule_text script.lines → FitsBefore (script_tells new).kept (schedule_text script.lines) (schedule_text (drop new.used new.lines))
  before_left same = record {
    rows = newest_onto new.used new.lines [];
    readable = still_readable new.used new.lines [] readable tt;
    entries = their_entries new.used new.lines [];
    is = sym (front new.used new.lines [] ∙ same);
  }

  fits : schedule_text new.lines ≡ schedule_text script.lines → Fits (script_tells new).kept (schedule_text script.lines)
  fits same = record { rest = schedule_text (drop new.used new.lines); before = before_left same }

  -- where it ceased
  there : (divergence : Divergence) → divergence_of new ≡ Some divergence → (told : List Entry) (e : Entry) → told ≡ (script_tells new).kept → IfSome new.stop (λ s. s ≡ call_of e)
      → BeginsRun config (e ∷ told) → schedule_text new.lines ≡ schedule_text script.lines → Ceased config (schedule_text script.lines) divergence (script_tells new).kept
  there divergence is told e kept stop next same =
      let f : Call → Divergence = λ call. record { line = new.used + 1; made = name_of call; wanted = option_map (λ (row : Row). name_of (call_of row.entry)) (slice_get new.lines new.used) } in
      let at = stopped_at new.stop f divergence is in
      let of : at.0 ≡ call_of e = subst (λ (o : Option Call). IfSome o (λ s. s ≡ call_of e)) at.1 stop in
      record {
        left = drop new.used new.lines;
        readable = readable_left new.used new.lines readable;
        before = before_left same;
        call = at.0;
        goes_on = record { next = e; is = of; begins = subst (λ k. BeginsRun config (e ∷ k)) kept next };
        fits_none = none_left new.lines new.used at.0 (rightly at.0 at.1);
        line = ap (λ (d : Divergence). d.line) at.2 ∙ ap (λ n. n + 1)
            (sym (omega (arith, kept_count new.used (entries_of new.lines) [] (omega (arith, within, length-map new.lines (λ (row : Row). row.entry))))));
        made = ap (λ (d : Divergence). d.made) at.2;
        wanted = ap (λ (d : Divergence). d.wanted) at.2 ∙ ap (λ o. option_map (λ (row : Row). name_of (call_of row.entry)) o) (sym (first_left new.used new.lines));
      }

  by_told : (made : List Entry) → schedule_text new.lines ≡ schedule_text script.lines → AreAllowed made → ComesTo config done made → Told (script_tells script)
      (script_tells new) made → Came config outcome (schedule_text script.lines) before after
  by_told made same allowed run (on was now kept) =
      let is : made ≡ (script_tells new).kept = sym (kept ∙ ap (λ l. made ++ l) nothing_kept ∙ append-nil made) in
      let ends : outcome ≡ outcome_of run.end = lives now ∙ run.is in
      let ran : IsRun config run.end (script_tells new).kept = subst (IsRun config run.end) is run.ran in
      subst (λ o. Came config o (schedule_text script.lines) before after) (sym ends) (at_end config run.end (schedule_text script.lines) before after (record {
        journal = (script_tells new).kept;
        put = put_as (outcome_of run.end) ends;
        fits = fits same;
        allowed = subst AreAllowed is allowed;
        begins = record { later = []; end = run.end; run = ran };
        holds = record { end = run.end; ran = ran; is = refl };
      }))
  by_told made same allowed run (ceased was now later told e made_is kept stop) =
      let is : told ≡ (script_tells new).kept = sym (kept ∙ ap (λ l. told ++ l) nothing_kept ∙ append-nil told) in
      let next : BeginsRun config (e ∷ told) = record { later = later; end = run.end; run = subst (IsRun config run.end) made_is run.ran } in
      let left = dead now in
      subst (λ o. Came config o (schedule_text script.lines) before after) (sym left.1) (record {
        journal = (script_tells new).kept;
        put = put_as (Diverged left.0) left.1;
        fits = fits same;
        allowed = subst AreAllowed is (all_before later (e ∷ told) (subst AreAllowed made_is allowed)).1;
        begins = subst (BeginsRun config) is (begun_before config e told next);
        holds = there left.0 left.2 told e is stop next same;
      })
  by_told made same allowed run (silent quiet now kept stop) = cc

  pub replayed : Makes (script_tells script) (script_tells new) (ComesTo config done) → Came config outcome (schedule_text script.lines) before after
  replayed makes = by_told makes.made makes.same makes.allowed makes.holds makes.told
