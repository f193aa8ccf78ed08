-- What a flow keeps, against the story.
use Rattle.std.specs.Prelude.{◌≡◌, ℕ, ◌≤◌, List, ◌++◌, length, true, false, Some}
use Rattle.sim_halves.specs.Received.{places_taken}
use Rattle.spec_flow.specs.Guest.{Asks, Up, first_of, ackd, written, Brought, Carries, EndsAt, Conforming, has_ended}
use Rattle.spec_flow.specs.Lawful.{AtPlaces}
use Rattle.sim_halves.specs.Part.{Part}

-- the guest's octets so far: those that were written, and then those that are held
abbrev pub so_far : Part → List Up → List ℕ
so_far p past = written past ++ p.up.held

-- what a flow with a ring of so many octets keeps
pub record Follows (ring : ℕ) (p : Part) (past : List Up) : Type 0 where
  pub first : first_of past ≡ p.received.first
  pub count : length (written past) ≡ p.up.written
  pub taken : p.received.taken ≡ length (so_far p past)
  pub acknowledged : ackd past ≤ places_taken p.received
  pub told : p.told_end ≡ has_ended past
  pub brought : AtPlaces (Brought past) (so_far p past)
  pub carried : Conforming past → AtPlaces (Carries past) (so_far p past)
  pub end : p.received.ended ≡ true → Conforming past → EndsAt past (length (so_far p past))
  pub kept_brought : (i x : ℕ) → p.kept i ≡ Some x → Brought past i x
  pub kept_carried : Conforming past → (i x : ℕ) → p.kept i ≡ Some x → Carries past i x
  pub size : p.up.size ≡ ring
  pub within : length p.up.held ≤ ring
  pub asked : Conforming past → (a : ℕ) → Asks ring past a → a ≤ places_taken p.received
  pub settled : p.ack_owed ≡ false → Conforming past → places_taken p.received ≤ ackd past

-- all that was asked for was acknowledged
abbrev pub IsAnswered : ℕ → List Up → Type 0
IsAnswered ring past = Conforming past → (a : ℕ) → Asks ring past a → a ≤ ackd past
