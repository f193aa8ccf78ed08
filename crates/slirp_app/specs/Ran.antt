-- What a replay did.
use Rattle.std.specs.Prelude.{◌≡◌, ℕ, ◌+◌, List, ◌∷◌, ◌++◌, length, slice_get, Option, Some, option_map}
use Rattle.world_face.specs.Frames.{Ending, partial, ending}
use Rattle.world_face.specs.Journal.{Entry, Call, call_of, AreAllowed}
use Rattle.world_face.specs.Puts.{added}
use Rattle.slirp_settings.specs.Addresses.{Config}
use Rattle.control_loop.specs.Runs.{BeginsRun, GoesOnWith}
use Rattle.replay.specs.Fitting.{FitsNone}
use Rattle.replay.specs.Names.{name_of}
use Rattle.replay.specs.Rows.{Row, AreReadable, Fits, FitsBefore, schedule_text}
use Rattle.replay.specs.Text.{text}
use Rattle.replay.specs.declared.Divergence.{Divergence}
use Rattle.app_edges.specs.Texts.{end_line}

-- There is one trace of calls: it was put, and then the status; it fits the schedule's lines from the first; each answer is one that a World may give;
-- and these calls begin a run with these settings. P holds of it.
pub record Replayed (config : Config) (status : ℕ) (schedule : List ℕ) (old new : Option (List ℕ)) (P : List Entry → Type 0) : Type 0 where
  pub journal : List Entry
  pub put : new ≡ added (text journal ++ end_line status) old
  pub fits : Fits journal schedule
  pub allowed : AreAllowed journal
  pub begins : BeginsRun config journal
  pub holds : P journal

-- The run ceased at the call that comes next in it, and that fits no line: of the lines that are left the first isn't of this call, or its answer isn't one that
-- a World may give.
pub record Ceased (config : Config) (schedule : List ℕ) (divergence : Divergence) (journal : List Entry) : Type 0 where
  pub left : List Row
  pub readable : AreReadable left
  pub before : FitsBefore journal schedule (schedule_text left)
  pub call : Call
  pub goes_on : GoesOnWith config journal call
  pub fits_none : FitsNone left 0 call
  pub line : divergence.line ≡ length journal + 1
  pub made : divergence.made ≡ name_of call
  pub wanted : divergence.wanted ≡ option_map (λ (row : Row). name_of (call_of row.entry)) (slice_get left 0)

-- an entry of the trace ends a run for this cause
pub record EndsBy (why : Ending) (journal : List Entry) : Type 0 where
  pub later : List Entry
  pub past : List Entry
  pub entry : Entry
  pub is : journal ≡ later ++ (entry ∷ past)
  pub ends : ending entry (partial past) ≡ Some why
