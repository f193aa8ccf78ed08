-- One call more on the World below, and what is told of all.
use Rattle.std.proofs.Common.{◌≡◌, ℕ, List, [], ◌∷◌, sym, ◌∙◌, ap, append-nil}
use Rattle.world_face.specs.Journal.{Entry}
use Rattle.world_face.specs.Tells.{Telling, Answers, Counts, Told, on, ceased, silent}
use Rattle.world_face.proofs.Telling.{makes_next}
use Rattle.taps.specs.Recording.{ArePassed, telling}

-- one call more was made
pub passed_on : (began old new : Telling) (e : Entry) (made more : List Entry) → ArePassed began old made → Answers old new e → more ≡ e ∷ made → ArePassed began new more
passed_on began old new e made more so_far answers is =
    makes_next began old new e (λ past. past ≡ made) (λ past. past ≡ more) so_far answers (λ past same allowed. ap (λ l. e ∷ l) same ∙ sym is)

-- and noted by parts of it that are the same
pub passed_as : {began old new : Telling} {e noted : Entry} {made more : List Entry} → ArePassed began old made → Answers old new e → more ≡ noted ∷ made → noted ≡ e → ArePassed began new more
passed_as {began} {old} {new} {e} {noted} {made} {more} so_far answers is same = passed_on began old new e made more so_far answers (is ∙ ap (λ e. e ∷ made) same)

pub passed_after : {began old new : Telling} {e noted : Entry} {made same_made more : List Entry} → ArePassed began old made → Answers old new e → more ≡ noted ∷ same_made →
    same_made ≡ made → noted ≡ e → ArePassed began new more
passed_after {noted} so_far answers is as_before same = passed_as so_far answers (is ∙ ap (λ l. noted ∷ l) as_before) same

-- calls from the beginning on are just those that are told
pub just_those : (source source_new : List ℕ) (faults faults_new : Counts) (made kept : List Entry) → Told (telling source faults []) (telling source_new faults_new kept) made → kept ≡ made
just_those source source_new faults faults_new made kept (on was now is) = is ∙ append-nil made
just_those source source_new faults faults_new made kept (ceased was now later told e of is stop) = cc
just_those source source_new faults faults_new made kept (silent was now is stop) = cc
