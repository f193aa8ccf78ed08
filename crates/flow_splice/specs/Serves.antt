-- What a call makes, and what follows then.
use Rattle.std.specs.Prelude.{◌≡◌, ℕ, ◌≤◌, List, Bool, false, None, ◌++◌}
use Rattle.world_face.specs.Journal.{Entry}
use Rattle.spec_flow.specs.Settings.{Settings}
use Rattle.spec_flow.specs.Event.{Story}
use Rattle.flow_splice.specs.Entries.{AreEvents}
use Rattle.flow_splice.specs.Follows.{Follows}
use Rattle.flow_splice.specs.Splice.{Splice}

-- After a story the entries that were made are events of the flow, and the flow follows the story with these: each of them was allowed, and as it
-- must be, after what was before it.
pub record Serves (s : Settings) (f : Splice) (directly ended known : Bool) (ident now : ℕ) (past : Story) (made : List Entry) : Type 0 where
  pub beats : Story
  pub are : AreEvents s f.face f.mac directly ended known ident now past made beats
  pub follows : Follows s f (beats ++ past) now

-- After every story that a flow followed at an earlier moment, whatever the next identification is: no datagram goes out.
abbrev pub GoesOn : (old new : Splice) → (directly : Bool) → (now : ℕ) → List Entry → Type 0
GoesOn old new directly now made =
    (s : Settings) (past : Story) (before ident : ℕ) (ended known : Bool) → before ≤ now → Follows s old past before → Serves s new directly ended known ident now past made

-- The same while the run isn't over, whether or not what was made comes directly after the arrival of a segment of this flow.
abbrev pub GoesOnYet : (old new : Splice) → (now : ℕ) → List Entry → Type 0
GoesOnYet old new now made =
    (s : Settings) (past : Story) (before ident : ℕ) (directly known : Bool) → before ≤ now → Follows s old past before → Serves s new directly false known ident now past made

-- And where the guest's hardware address isn't known unless the flow has it.
abbrev pub TicksOn : (old new : Splice) → (now : ℕ) → List Entry → Type 0
TicksOn old new now made =
    (s : Settings) (past : Story) (before ident : ℕ) (directly known : Bool) → before ≤ now → (old.mac ≡ None → known ≡ false) → Follows s old past before
    → Serves s new directly false known ident now past made
