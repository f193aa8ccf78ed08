-- A trace that is replayed without divergence prints itself.
use Rattle.std.proofs.Common.{◌≡◌, ◌≢◌, ℕ, List, [], ◌∷◌, ◌++◌, IsTrue, true, Option, Some, None, refl, sym, ◌∙◌, ap, subst, arith}
use Rattle.slirp_settings.specs.Addresses.{Config}
use Rattle.replay.specs.Fitting.{FitsNone}
use Rattle.replay.specs.Pieces.{lines_text}
use Rattle.replay.specs.Rows.{AreReadable, FitsBefore, Row, schedule_text}
use Rattle.replay.specs.Text.{text}
use Rattle.spec_trace.specs.Moments.{waits}
use Rattle.spec_trace.specs.Shape.{By, Refused, Phase, Opening, Started, Woken, Working, Over, is_over, phase}
use Rattle.serve_loop.specs.Ends.{end_of}
use Rattle.serve_loop.specs.declared.service.End.{End}
use Rattle.control_loop.specs.Runs.{IsRun}
use Rattle.slirp_app.proofs.Alone.{alone, may_go_on}
use Rattle.slirp_app.proofs.Courses.{other}
use Rattle.slirp_app.proofs.Copied.{allowed_before, another, goes_on, later_than, onto}
use Rattle.slirp_app.proofs.Ending.{waits_spent}
use Rattle.slirp_app.proofs.Fitted.{allowed_later}
use Rattle.slirp_app.proofs.Halted.{no_more, nothing_later, waits_no_more}
use Rattle.slirp_app.specs.Doing.{ReplaysFile, ServesLink}
use Rattle.app_edges.specs.Fetching.{octets_read}
use Rattle.app_edges.specs.Texts.{end_line}
use Rattle.slirp_app.specs.Serving.{ComesTo, IsGiven, IsUnopened, HasNoMemory, Records, RecordsAt, Serves, ServesAt, Took, TookNot}
use Rattle.app_edges.specs.Statuses.{code_of, is_run}
use Rattle.slirp_app.specs.Statuses.{outcome_of}
use Rattle.app_edges.specs.declared.outcome.Outcome.{Outcome}
use Rattle.app_edges.specs.declared.outcome.Outcome.TheVariants.{TurnsSpent}
use Rattle.spec_run.specs.Laws.{Finished, Lawful, May}
use Rattle.command_words.specs.declared.Tap.TheVariants.{Record}
use Rattle.world_face.proofs.Telling.{makes_as}
use Rattle.world_face.specs.Frames.{LinkCut, LinkEnded, LinkFailed, LongFrame, Stopped, WaitFailed}
use Rattle.world_face.specs.Journal.{Allowed, AreAllowed, Call, Entry, LinkOpen, Place, call_of}
use Rattle.world_face.specs.declared.Made.TheVariants.{Done}
use Rattle.world_face.specs.Puts.{added}
use Rattle.world_face.specs.Tells.{Makes, Telling}

-- ---- where a run that isn't over ended its turns were spent

over_unless : (config : Config) (p : Phase) → code_of (outcome_of (end_of config p)) ≢ 10 → is_over p ≡ true
over_unless config (Opening opened forwards) other = absurd (other refl)
over_unless config Started other = absurd (other refl)
over_unless config Woken other = absurd (other refl)
over_unless config Working other = absurd (other refl)
over_unless config (Over cause) other = refl

spent_where : (config : Config) (p : Phase) → code_of (outcome_of (end_of config p)) ≡ 10 → outcome_of (end_of config p) ≡ TurnsSpent config.turns
spent_where config (Opening opened forwards) is = refl
spent_where config Started is = refl
spent_where config Woken is = refl
spent_where config Working is = refl
spent_where config (Over (By LinkEnded)) is = absurd (other 10 _ is refl refl)
spent_where config (Over (By (LinkCut octets))) is = absurd (other 10 _ is refl refl)
spent_where config (Over (By (LongFrame size))) is = absurd (other 10 _ is refl refl)
spent_where config (Over (By LinkFailed)) is = absurd (other 10 _ is refl refl)
spent_where config (Over (By Stopped)) is = absurd (other 10 _ is refl refl)
spent_where config (Over (By WaitFailed)) is = absurd (other 10 _ is refl refl)
spent_where config (Over (Refused forward)) is = absurd (other 10 _ is refl refl)

-- ---- what a replay of a trace prints

abbrev pub PrintsAll : Config → ℕ → (whole : List Entry) (old new : Option (List ℕ)) → Type 0
PrintsAll config status whole old new = (new ≡ added (text whole ++ end_line status) old) × Finished config whole × (status ≡ code_of (outcome_of (end_of config (phase config whole))))

abbrev pub PrintsFirst : Config → (whole : List Entry) (old new : Option (List ℕ)) → Type 0
PrintsFirst config whole old new = (rest : List Entry) × (front : List Entry) × (whole ≡ rest ++ front) × (new ≡ added (text front ++ end_line 10) old) × Finished config front ×
    (waits front ≡ config.turns) × (waits whole ≡ config.turns)

abbrev pub Departs : Config → (whole : List Entry) (old new : Option (List ℕ)) → Type 0
Departs config whole old new = (rest : List Entry) × (entry : Entry) × (front : List Entry) × (call : Call) × (whole ≡ rest ++ (entry ∷ front)) ×
    (new ≡ added (text front ++ end_line 5) old) × May config front call × (call ≢ call_of entry)

module _ (file : List ℕ) (config : Config) (status : ℕ) (world world_new : Telling) (old new : Option (List ℕ)) (Said : Outcome → Type 0) (whole : List Entry)
    (none : config.control ≡ None) (replays : ReplaysFile file config status world world_new old new Said) (allowed : AreAllowed whole) (lawful : Lawful config whole) where
  record EndedAlone (journal : List Entry) : Type 0 where
    lawful_all : Lawful config journal
    finished : Finished config journal
    told : status ≡ code_of (outcome_of (end_of config (phase config journal)))

  ended_alone : (journal : List Entry) → (end : End) × IsRun config end journal × (status ≡ code_of (outcome_of end)) → EndedAlone journal
  ended_alone journal at =
      let it = alone config at.0 journal none at.1 in
      record { lawful_all = it.lawful; finished = it.finished; told = at.2 ∙ ap (λ e. code_of (outcome_of e)) it.ends }

  pub prints_all : IsTrue (is_run status) → status ≢ 5 → status ≢ 10 → Makes world world_new (λ calls. octets_read calls ≡ text whole → PrintsAll config status whole old new)
  prints_all made other unspent = makes_as world world_new _ _ (replays.ran made) (λ calls ran same.
      let journal = ran.1.journal in
      let ended = ended_alone journal (ran.1.holds other) in
      let on = goes_on journal whole ran.1.fits.rest allowed (subst (λ s. FitsBefore journal s ran.1.fits.rest) same ran.1.fits.before) in
      let over : is_over (phase config journal) ≡ true = over_unless config (phase config journal) (λ is. unspent (ended.told ∙ is)) in
      let nothing : on.back ≡ [] = nothing_later config journal ended.finished over on.back (subst (Lawful config) on.is lawful) in
      let it : journal ≡ whole = sym (on.is ∙ ap (λ back. onto back journal) nothing) in (
        ran.1.put ∙ ap (λ run. added (text run ++ end_line status) old) it,
        subst (Finished config) it ended.finished,
        ended.told ∙ ap (λ run. code_of (outcome_of (end_of config (phase config run)))) it,
      ))

  pub prints_first : status ≡ 10 → Makes world world_new (λ calls. octets_read calls ≡ text whole → PrintsFirst config whole old new)
  prints_first spent =
      let made : IsTrue (is_run status) = subst (λ s. IsTrue (is_run s)) (sym spent) refl in
      let other : status ≢ 5 = λ is. omega (arith, spent, is) in
      makes_as world world_new _ _ (replays.ran made) (λ calls ran same.
      let journal = ran.1.journal in
      let ended = ended_alone journal (ran.1.holds other) in
      let on = goes_on journal whole ran.1.fits.rest allowed (subst (λ s. FitsBefore journal s ran.1.fits.rest) same ran.1.fits.before) in
      let all : waits journal ≡ config.turns = waits_spent config journal ended.lawful_all ended.finished (spent_where config (phase config journal) (sym ended.told ∙ spent)) in (
        onto on.back [],
        journal,
        on.is ∙ later_than on.back journal,
        ran.1.put ∙ ap (λ code. added (text journal ++ end_line code) old) spent,
        ended.finished,
        all,
        ap waits on.is ∙ waits_no_more config on.back journal (subst (Lawful config) on.is lawful) ended.finished.ended ∙ all,
      ))

  pub departs : Finished config whole → code_of (outcome_of (end_of config (phase config whole))) ≢ 10 → status ≡ 5 → Makes world world_new
      (λ calls. octets_read calls ≡ text whole → Departs config whole old new)
  departs finished unspent diverged = makes_as world world_new _ _ (replays.diverged diverged) (λ calls ran same.
      let ceased = ran.1.holds.1 in
      let on = goes_on ran.1.journal whole (schedule_text ceased.left) allowed (subst (λ s. FitsBefore ran.1.journal s (schedule_text ceased.left)) same ceased.before) in
      from_there ran.1.journal ceased.call ceased.left on.back on.is on.left ceased.readable (may_go_on config ran.1.journal ceased.call none ceased.goes_on) ceased.fits_none ran.1.put)
    where
      from_there : (journal : List Entry) (call : Call) (left : List Row) (back : List Entry) → whole ≡ onto back journal → schedule_text left ≡ lines_text back →
          AreReadable left → May config journal call → FitsNone left 0 call → new ≡ added (text journal ++ end_line 5) old → Departs config whole old new
      from_there journal call left [] is text_is readable may none_fits put = absurd (no_more config whole finished (over_unless config (phase config whole) unspent) call
          (subst (λ j. May config j call) (sym is) may))
      from_there journal call left (e ∷ back) is text_is readable may none_fits put =
          let allowed_e : Allowed e = (allowed_before back (e ∷ journal) (subst AreAllowed is allowed)).0 in
          (onto back [], e, journal, call, is ∙ later_than back (e ∷ journal), put, may, another left e (lines_text back) call readable allowed_e text_is none_fits)

-- ---- what was recorded is replayed

abbrev held : Option (List ℕ) → List ℕ
held None = []
held (Some octets) = octets

module _ (config : Config) (at : Place) (status again : ℕ) (live live_new world world_new : Telling) (octets file : List ℕ) (old new : Option (List ℕ)) (Told Said : Outcome → Type 0)
    (none : config.control ≡ None) (serves : ServesLink config at Record status live live_new (Some []) (Some octets) Told) (took : status ≢ 12)
    (replays : ReplaysFile file config again world world_new old new Said) (made : IsTrue (is_run again)) (other : again ≢ 5) (unspent : again ≢ 10) where
  abbrev Prints : List Entry → Type 0
  Prints calls = octets_read calls ≡ octets → (new ≡ added (octets ++ end_line again) old) × (again ≡ status)

  -- a run of no call would have spent its turns
  of_none : octets ≡ [] → Makes world world_new Prints
  of_none nothing = makes_as world world_new _ _ (prints_all file config again world world_new old new Said [] none replays tt tt made other unspent)
      (λ calls prints read. absurd (unspent (prints (read ∙ nothing)).2))

  of_run : (run : List Entry) → AreAllowed run → (outcome : Outcome) → ComesTo config outcome run → IsGiven (text run) outcome serves.outcome (Some []) (Some octets) → Makes world world_new Prints
  of_run run allowed outcome ran (Took put is) =
      let same : octets ≡ text run = ap held put in
      let it = alone config ran.end run none ran.ran in
      makes_as world world_new _ _ (prints_all file config again world world_new old new Said run none replays allowed it.lawful made other unspent) (λ calls prints read.
      let all = prints (read ∙ same) in (
        all.0 ∙ ap (λ t. added (t ++ end_line again) old) (sym same),
        all.2 ∙ ap code_of (sym (is ∙ ran.is ∙ ap outcome_of it.ends)) ∙ sym serves.is,
      ))
  of_run run allowed outcome ran (TookNot is) = absurd (took (serves.is ∙ ap code_of is))

  of_record : (calls : List Entry) → AreAllowed calls → RecordsAt config at serves.outcome (Some []) (Some octets) calls → Makes world world_new Prints
  of_record calls allowed (Records run is recorded) = of_run run (allowed_later run (LinkOpen at Done ∷ []) (subst AreAllowed is allowed)) recorded.done recorded.ran recorded.given
  of_record calls allowed (IsUnopened is outcome same) = of_none (ap held same)

  of_serving : (calls : List Entry) → AreAllowed calls → ServesAt config at Record serves.outcome (Some []) (Some octets) calls → Makes world world_new Prints
  of_serving calls allowed (Serves taps) = of_record calls allowed taps
  of_serving calls allowed (HasNoMemory is outcome same) = of_none (ap held same)

  pub prints_recorded : Makes world world_new Prints
  prints_recorded = of_serving serves.makes.made serves.makes.allowed serves.makes.holds
