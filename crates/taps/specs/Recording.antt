-- What a sink gets of calls, and what a World that writes them down tells.
use base.Stored.{Gv, gnil, gnum, gcons}
use Rattle.std.specs.Coded.{Coded, codes}
use Rattle.std.specs.Prelude.{◌≡◌, ℕ, ◌≤◌, Bool, true, false, List, [], ◌∷◌, ◌++◌, Option, Some, None}
use Rattle.world_face.specs.Journal.{Entry}
use Rattle.world_face.specs.Puts.{added}
use Rattle.world_face.specs.Tells.{Telling, Counts, Rose, Makes}
use Rattle.replay.specs.Text.{text}

-- how often a sink had failed when its lines began, and what it held where it tells that; no two beginnings are one list
abbrev pub beginning : ℕ → Option (List ℕ) → List ℕ
beginning faults None = faults ∷ []
beginning faults (Some octets) = faults ∷ 0 ∷ octets

-- a sink, where what is put began, the calls since, newest first, and whether it failed to take some of it
pub record Written (K : Type 0) : Type 0 where
  pub out : K
  pub source : List ℕ
  pub made : List Entry
  pub failed : Bool

-- The sink got the text of these calls behind what it held, unless it failed; and where it failed its count rose.
pub record IsWritten (old new : Option (List ℕ)) (faults faults_new : ℕ) (made : List Entry) (failed : Bool) : Type 0 where
  pub put : failed ≡ false → new ≡ added (text made) old
  pub fault : failed ≡ true → Rose faults faults_new
  pub later : faults ≤ faults_new

-- The same once the lines that wait are put.
pub record IsKept (old new : Option (List ℕ)) (faults faults_new : ℕ) (lines : List ℕ) (made : List Entry) (failed : Bool) : Type 0 where
  pub put : failed ≡ false → added lines new ≡ added (text made) old
  pub fault : failed ≡ true → Rose faults faults_new
  pub later : faults ≤ faults_new

-- a World, what it was at first, and what is made of the calls on it
pub record Tapped (W B : Type 0) : Type 0 where
  pub world : W
  pub began : W
  pub book : B

-- Just these calls were made on a World, with these answers.
abbrev pub ArePassed : Telling → Telling → List Entry → Type 0
ArePassed old new made = Makes old new (λ past. past ≡ made)

-- What a World told, as numbers: no two tellings have the same ones.
pub telling_code : Coded Telling
telling_code = hlevel codes

unfoldable pub numbers_of : Gv → List ℕ
numbers_of gnil = 0 ∷ []
numbers_of (gnum n) = 1 ∷ n ∷ []
numbers_of (gcons front back) = 2 ∷ numbers_of front ++ numbers_of back

-- where a World began, and where its book did
unfoldable pub marked : Telling → List ℕ → List ℕ
marked began source = numbers_of (telling_code.code began) ++ source

-- Each call is told, whatever the World below tells. It answers by no text: in that place stands where both began, which stays the same too.
abbrev pub telling : List ℕ → Counts → List Entry → Telling
telling source faults made = record { source = source; kept = made; live = true; stop = None; faults = faults }
