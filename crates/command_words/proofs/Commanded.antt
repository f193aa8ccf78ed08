-- The first word is the command; words mean one thing.
use Rattle.std.proofs.Common.{◌≡◌, ◌≢◌, ℕ, ◌==◌, true, false, cond, List, [], ◌∷◌, ◌++◌, length, map, bytes_eq, codes, Result, Ok, Err, IfErr, IfOk, inl, inr, refl, sym, ◌∙◌, ap, subst}
use Rattle.std.proofs.Common.{arith, append_assoc}
use Rattle.std.proofs.lemmas.Bool.Decides.{nat_tests}
use Rattle.slirp_settings.specs.Addresses.{Config}
use Rattle.world_face.specs.Journal.{Place}
use Rattle.command_words.specs.declared.Command.{Command}
use Rattle.command_words.specs.declared.Stop.{Stop}
use Rattle.command_words.specs.declared.Stop.TheVariants.{Word as AtWord, End as AtEnd}
use Rattle.command_words.specs.declared.Tap.{Tap}
use Rattle.command_words.specs.Meaning.{Meaning, Replays, Serves, Drives, Helps, TellsVersion, HasPlace, IsHelp, Means, MeansReplay, MeansServe, MeansDrive, said}
use Rattle.command_words.specs.Narrowing.{narrowed_settings, narrowed_meaning}
use Rattle.command_words.specs.Options.{Word}
use Rattle.command_words.specs.Stops.{AreMeant, BeginsOne, StopsAt, StopsBehind}
use Rattle.command_words.proofs.Driven.{DriveMeant, one_drive}
use Rattle.command_words.proofs.Names.{own_text}
use Rattle.command_words.proofs.Only.{one_replay, one_serve}
use Rattle.command_words.proofs.Meant.{ReplayMeant, ServeMeant}

same_behind : (command other : Word) (b d : List Word) → ◌≡◌ {A = List Word} (command ∷ b) (other ∷ d) → b ≡ d
same_behind command other b d is = cc

same_first : (command other : Word) (b d : List Word) → ◌≡◌ {A = List Word} (command ∷ b) (other ∷ d) → command ≡ other
same_first command other b d is = cc

-- which command a word is, and which a meaning is of
abbrev word_kind : Word → ℕ
word_kind word =
    cond (bytes_eq word (codes "replay")) 0
    (cond (bytes_eq word (codes "serve")) 1
    (cond (bytes_eq word (codes "drive")) 2
    (cond (bytes_eq word (codes "--help")) 3
    (cond (bytes_eq word (codes "help")) 3
    (cond (bytes_eq word (codes "--version")) 4 5)))))

abbrev kind : Meaning → ℕ
kind (Replays file config) = 0
kind (Serves config at tap) = 1
kind (Drives number octets) = 2
kind Helps = 3
kind TellsVersion = 4

help_kind : (word : Word) → IsHelp word → word_kind word ≡ 3
help_kind word (inl is) = ap word_kind is
help_kind word (inr is) = ap word_kind is

kind_is : (word : Word) (b : List Word) (meaning : Meaning) → Means (word ∷ b) meaning → word_kind word ≡ kind meaning
kind_is word b (Replays file config) m = ap word_kind (same_first word (codes "replay") b m.0 m.1)
kind_is word b (Serves config at tap) m = ap word_kind (same_first word (codes "serve") b m.0 m.1)
kind_is word b (Drives number octets) m = ap word_kind (same_first word (codes "drive") b m.0 m.1)
kind_is word b Helps m = ap word_kind (same_first word m.0 b [] m.1) ∙ help_kind m.0 m.2
kind_is word b TellsVersion m = ap word_kind (same_first word (codes "--version") b [] m)

clash : {A : Type 0} (m n : ℕ) → m ≡ n → (m == n) ≡ false → A
clash m n is other = absurd (let same : (m == n) ≡ true = ap (λ (k : ℕ). m == k) (sym is) ∙ own_number m in let same_bool : true ≡ false = sym same ∙ other in cc same_bool)
  where
    own_number : (k : ℕ) → (k == k) ≡ true
    own_number k = grind (arith, nat_tests)

-- what words behind a command mean
only_replay : (b : List Word) (meaning : Meaning) → Means (codes "replay" ∷ b) meaning → ReplayMeant b
only_replay b (Replays file config) m = (file, config, subst (λ (d : List Word). MeansReplay d file config) (sym (same_behind (codes "replay") (codes "replay") b m.0 m.1)) m.2)
only_replay b (Serves config at tap) m = clash 0 1 (kind_is (codes "replay") b (Serves config at tap) m) refl
only_replay b (Drives number octets) m = clash 0 2 (kind_is (codes "replay") b (Drives number octets) m) refl
only_replay b Helps m = clash 0 3 (kind_is (codes "replay") b Helps m) refl
only_replay b TellsVersion m = clash 0 4 (kind_is (codes "replay") b TellsVersion m) refl

only_serve : (b : List Word) (meaning : Meaning) → Means (codes "serve" ∷ b) meaning → ServeMeant b
only_serve b (Serves config at tap) m = (config, at, tap, subst (λ (d : List Word). MeansServe d config at tap) (sym (same_behind (codes "serve") (codes "serve") b m.0 m.1)) m.2)
only_serve b (Replays file config) m = clash 1 0 (kind_is (codes "serve") b (Replays file config) m) refl
only_serve b (Drives number octets) m = clash 1 2 (kind_is (codes "serve") b (Drives number octets) m) refl
only_serve b Helps m = clash 1 3 (kind_is (codes "serve") b Helps m) refl
only_serve b TellsVersion m = clash 1 4 (kind_is (codes "serve") b TellsVersion m) refl

only_drive : (b : List Word) (meaning : Meaning) → Means (codes "drive" ∷ b) meaning → DriveMeant b
only_drive b (Drives number octets) m = (number, octets, subst (λ (d : List Word). MeansDrive d number octets) (sym (same_behind (codes "drive") (codes "drive") b m.0 m.1)) m.2)
only_drive b (Replays file config) m = clash 2 0 (kind_is (codes "drive") b (Replays file config) m) refl
only_drive b (Serves config at tap) m = clash 2 1 (kind_is (codes "drive") b (Serves config at tap) m) refl
only_drive b Helps m = clash 2 3 (kind_is (codes "drive") b Helps m) refl
only_drive b TellsVersion m = clash 2 4 (kind_is (codes "drive") b TellsVersion m) refl

-- where the words behind a command stop, all do
module _ (command : Word) (Read : List Word → Type 0) (only : (b : List Word) (meaning : Meaning) → Means (command ∷ b) meaning → Read b)
    (means : (b : List Word) → Read b → AreMeant (command ∷ b)) (words behind : List Word) (is : words ≡ command ∷ behind) where
  behind_stops : (stop : Stop) → StopsBehind Read behind stop → StopsAt words stop
  behind_stops (AtWord place) (before, word, rest, split, long, begun, none) = (
    command ∷ before,
    word,
    rest,
    is ∙ ap (λ (b : List Word). command ∷ b) split,
    omega (arith, long),
    (begun.0, means (before ++ begun.0) begun.1),
    (λ begins. none (begins.0, only ((before ++ word ∷ []) ++ begins.0) begins.1.0 begins.1.1)),
  )
  behind_stops AtEnd (begun, none) = (
    subst (λ (w : List Word). BeginsOne AreMeant w) (sym is) (begun.0, means (behind ++ begun.0) begun.1),
    (λ meant. none (only behind meant.0 (subst (λ (w : List Word). Means w meant.0) is meant.1))),
  )

  all_stop : {T : Type 0} (r : Result T Stop) → IfErr r (λ stop. StopsBehind Read behind stop) → IfErr r (λ stop. StopsAt words stop)
  all_stop (Ok t) h = tt
  all_stop (Err stop) h = behind_stops stop h

module _ (words behind : List Word) (r : Result Command Stop) where
  pub replay_command : words ≡ codes "replay" ∷ behind
      → IfOk r (λ c. (file : List ℕ) × (config : Config) × MeansReplay behind file config × (said c ≡ Replays file (narrowed_settings config)))
      → IfOk r (λ c. (meaning : Meaning) × Means words meaning × (said c ≡ narrowed_meaning meaning))
  replay_command is h = elim r as (λ x. IfOk x (λ c. (file : List ℕ) × (config : Config) × MeansReplay behind file config × (said c ≡ Replays file (narrowed_settings config))) →
      IfOk x (λ c. (meaning : Meaning) × Means words meaning × (said c ≡ narrowed_meaning meaning))) [
        | Ok c ↦ λ m. (Replays m.0 m.1, (behind, is, m.2), m.3)
        | Err e ↦ λ m. tt
      ] h

  pub serve_command : words ≡ codes "serve" ∷ behind
      → IfOk r (λ c. (config : Config) × (at : Place) × (tap : Tap) × MeansServe behind config at tap × (said c ≡ Serves (narrowed_settings config) at tap))
      → IfOk r (λ c. (meaning : Meaning) × Means words meaning × (said c ≡ narrowed_meaning meaning))
  serve_command is h = elim r as (λ x. IfOk x (λ c. (config : Config) × (at : Place) × (tap : Tap) × MeansServe behind config at tap ×
      (said c ≡ Serves (narrowed_settings config) at tap)) → IfOk x (λ c. (meaning : Meaning) × Means words meaning × (said c ≡ narrowed_meaning meaning))) [
        | Ok c ↦ λ m. (Serves m.0 m.1 m.2, (behind, is, m.3), m.4)
        | Err e ↦ λ m. tt
      ] h

  pub drive_command : words ≡ codes "drive" ∷ behind
      → IfOk r (λ c. (number : ℕ) × (octets : ℕ) × MeansDrive behind number octets × (said c ≡ Drives number octets))
      → IfOk r (λ c. (meaning : Meaning) × Means words meaning × (said c ≡ narrowed_meaning meaning))
  drive_command is h = elim r as (λ x. IfOk x (λ c. (number : ℕ) × (octets : ℕ) × MeansDrive behind number octets × (said c ≡ Drives number octets)) → IfOk x
      (λ c. (meaning : Meaning) × Means words meaning × (said c ≡ narrowed_meaning meaning))) [
        | Ok c ↦ λ m. (Drives m.0 m.1, (behind, is, m.2), m.3)
        | Err e ↦ λ m. tt
      ] h

  pub replay_refused : words ≡ codes "replay" ∷ behind → IfErr r (λ stop. StopsBehind ReplayMeant behind stop) → IfErr r (λ stop. StopsAt words stop)
  replay_refused is h = all_stop (codes "replay") ReplayMeant only_replay (λ b m. (Replays m.0 m.1, (b, refl, m.2))) words behind is r h

  pub serve_refused : words ≡ codes "serve" ∷ behind → IfErr r (λ stop. StopsBehind ServeMeant behind stop) → IfErr r (λ stop. StopsAt words stop)
  serve_refused is h = all_stop (codes "serve") ServeMeant only_serve (λ b m. (Serves m.0 m.1 m.2, (b, refl, m.3))) words behind is r h

  pub drive_refused : words ≡ codes "drive" ∷ behind → IfErr r (λ stop. StopsBehind DriveMeant behind stop) → IfErr r (λ stop. StopsAt words stop)
  drive_refused is h = all_stop (codes "drive") DriveMeant only_drive (λ b m. (Drives m.0 m.1, (b, refl, m.2))) words behind is r h

  -- a word that stands alone
  pub alone_command : (command : Command) (meaning : Meaning) → (behind ≡ [] → Means words meaning) → said command ≡ narrowed_meaning meaning
      → IfOk r (λ c. (c ≡ command) × (behind ≡ [])) → IfOk r (λ c. (meaning : Meaning) × Means words meaning × (said c ≡ narrowed_meaning meaning))
  alone_command command meaning means says h = elim r as (λ x. IfOk x (λ c. (c ≡ command) × (behind ≡ [])) → IfOk x (λ c. (meaning : Meaning) × Means words meaning ×
      (said c ≡ narrowed_meaning meaning))) [
        | Ok c ↦ λ m. (meaning, means m.1, ap said m.0 ∙ says)
        | Err e ↦ λ m. tt
      ] h

  pub alone_place : (command : Command) → HasPlace (said command) → IfOk r (λ c. (c ≡ command) × (behind ≡ [])) → IfOk r (λ c. HasPlace (said c))
  alone_place command place h = elim r as (λ x. IfOk x (λ c. (c ≡ command) × (behind ≡ [])) → IfOk x (λ c. HasPlace (said c))) [
    | Ok c ↦ λ m. subst (λ (x : Command). HasPlace (said x)) (sym m.0) place
    | Err e ↦ λ m. tt
  ] h

  more_refused : (word : Word) → AreMeant (word ∷ []) → ((b : Word) (more : List Word) → ¬ AreMeant (word ∷ b ∷ more)) → words ≡ word ∷ behind → behind ≢ [] → StopsAt words (AtWord 1)
  more_refused word meant none is more = by_cases behind refl
    where
      by_cases : (b : List Word) → behind ≡ b → StopsAt words (AtWord 1)
      by_cases [] e = absurd (more e)
      by_cases (b ∷ bs) e = (word ∷ [], b, bs, is ∙ ap (λ (x : List Word). word ∷ x) e, omega arith, ([], meant), (λ begins. none b begins.0 begins.1))

  pub alone_refused : (word : Word) → AreMeant (word ∷ []) → ((b : Word) (more : List Word) → ¬ AreMeant (word ∷ b ∷ more)) → words ≡ word ∷ behind
      → IfErr r (λ stop. (stop ≡ AtWord 1) × (behind ≢ [])) → IfErr r (λ stop. StopsAt words stop)
  alone_refused word meant none is h = elim r as (λ x. IfErr x (λ stop. (stop ≡ AtWord 1) × (behind ≢ [])) → IfErr x (λ stop. StopsAt words stop)) [
    | Ok c ↦ λ m. tt
    | Err stop ↦ λ m. subst (λ (s : Stop). StopsAt words s) (sym m.0) (more_refused word meant none is m.1)
  ] h

-- behind a word that stands alone no word does
pub help_alone : (word : Word) → IsHelp word → (b : Word) (more : List Word) → ¬ AreMeant (word ∷ b ∷ more)
help_alone word help b more (meaning, m) = by_meaning meaning m (sym (help_kind word help) ∙ kind_is word (b ∷ more) meaning m)
  where
    by_meaning : (n : Meaning) → Means (word ∷ b ∷ more) n → 3 ≡ kind n → ⊥
    by_meaning (Replays file config) m is = clash 3 0 is refl
    by_meaning (Serves config at tap) m is = clash 3 1 is refl
    by_meaning (Drives number octets) m is = clash 3 2 is refl
    by_meaning Helps m is = absurd (cc (same_behind word m.0 (b ∷ more) [] m.1))
    by_meaning TellsVersion m is = clash 3 4 is refl

pub version_alone : (b : Word) (more : List Word) → ¬ AreMeant (codes "--version" ∷ b ∷ more)
version_alone b more (meaning, m) = by_meaning meaning m (kind_is (codes "--version") (b ∷ more) meaning m)
  where
    by_meaning : (n : Meaning) → Means (codes "--version" ∷ b ∷ more) n → 4 ≡ kind n → ⊥
    by_meaning (Replays file config) m is = clash 4 0 is refl
    by_meaning (Serves config at tap) m is = clash 4 1 is refl
    by_meaning (Drives number octets) m is = clash 4 2 is refl
    by_meaning Helps m is = clash 4 3 is refl
    by_meaning TellsVersion m is = absurd (cc (same_behind (codes "--version") (codes "--version") (b ∷ more) [] m))

differs : (word other : Word) → bytes_eq word other ≡ false → word ≡ other → ⊥
differs word other unlike is = let same : true ≡ false = sym (own_text other) ∙ ap (λ (w : Word). bytes_eq w other) (sym is) ∙ unlike in cc same

-- a word that is no command
pub no_command : (word : Word) (more : List Word) → bytes_eq word (codes "replay") ≡ false → bytes_eq word (codes "serve") ≡ false → bytes_eq word (codes "drive") ≡ false
    → ¬ IsHelp word → bytes_eq word (codes "--version") ≡ false → ¬ AreMeant (word ∷ more)
no_command word more replay serve drive help version (Replays file config, m) = differs word (codes "replay") replay (same_first word (codes "replay") more m.0 m.1)
no_command word more replay serve drive help version (Serves config at tap, m) = differs word (codes "serve") serve (same_first word (codes "serve") more m.0 m.1)
no_command word more replay serve drive help version (Drives number octets, m) = differs word (codes "drive") drive (same_first word (codes "drive") more m.0 m.1)
no_command word more replay serve drive help version (Helps, m) = help (subst IsHelp (sym (same_first word m.0 more [] m.1)) m.2)
no_command word more replay serve drive help version (TellsVersion, m) = differs word (codes "--version") version (same_first word (codes "--version") more [] m)

-- no words mean nothing
pub no_words : ¬ AreMeant []
no_words (Replays file config, m) = absurd (cc m.1)
no_words (Serves config at tap, m) = absurd (cc m.1)
no_words (Drives number octets, m) = absurd (cc m.1)
no_words (Helps, m) = absurd (cc m.1)
no_words (TellsVersion, m) = absurd (cc m)

one_of_words : (word : Word) (b : List Word) (m n : Meaning) → Means (word ∷ b) m → Means (word ∷ b) n → kind m ≡ kind n → m ≡ n
one_of_words word b (Replays f c) (Replays e d) h g k =
    let s = one_replay g.0 f e c d (subst (λ (x : List Word). MeansReplay x f c) (same_behind (codes "replay") (codes "replay") h.0 g.0 (sym h.1 ∙ g.1)) h.2) g.2 in
    ap (λ (x : Word). Replays x c) s.0 ∙ ap (Replays e) s.1
one_of_words word b (Serves c p t) (Serves d q u) h g k =
    let s = one_serve g.0 c d p q t u (subst (λ (x : List Word). MeansServe x c p t) (same_behind (codes "serve") (codes "serve") h.0 g.0 (sym h.1 ∙ g.1)) h.2) g.2 in
    ap (λ (x : Config). Serves x p t) s.0 ∙ ap (λ (x : Place). Serves d x t) s.1 ∙ ap (Serves d q) s.2
one_of_words word b (Drives n o) (Drives m p) h g k =
    let s = one_drive g.0 n m o p (subst (λ (x : List Word). MeansDrive x n o) (same_behind (codes "drive") (codes "drive") h.0 g.0 (sym h.1 ∙ g.1)) h.2) g.2 in
    ap (λ (x : ℕ). Drives x o) s.0 ∙ ap (Drives m) s.1
one_of_words word b Helps Helps h g k = refl
one_of_words word b TellsVersion TellsVersion h g k = refl
one_of_words word b m n h g k = clash (kind m) (kind n) k refl

pub one_meaning : (words : List Word) (m n : Meaning) → Means words m → Means words n → m ≡ n
one_meaning [] m n h g = absurd (no_words (m, h))
one_meaning (word ∷ b) m n h g = one_of_words word b m n h g (sym (kind_is word b m h) ∙ kind_is word b n g)

-- where reading stops nothing is meant
pub stopped : (words : List Word) (stop : Stop) → StopsAt words stop → ¬ AreMeant words
stopped words (AtWord place) (before, word, behind, is, long, begun, none) meant = none (behind, (meant.0, subst (λ (w : List Word). Means w meant.0) (is ∙ moved before word behind) meant.1))
  where
    moved : (before : List Word) (word : Word) (behind : List Word) → before ++ word ∷ behind ≡ (before ++ word ∷ []) ++ behind
    moved before word behind = sym (append_assoc before (word ∷ []) behind)
stopped words AtEnd (begun, none) meant = none meant

-- a list of words isn't empty where what it is seen as isn't
pub no_behind : {X : Type 0} (f : X → Word) (behind : List X) (r : Result Command Stop) → IfErr r (λ stop. (stop ≡ AtWord 1) × (behind ≢ [])) → IfErr r
    (λ stop. (stop ≡ AtWord 1) × (map f behind ≢ []))
no_behind f behind (Ok c) h = tt
no_behind f [] (Err stop) h = absurd (h.1 refl)
no_behind f (x ∷ xs) (Err stop) h = (h.0, (λ is. absurd (cc is)))

-- no word at all begins one
pub begins_all : BeginsOne AreMeant []
begins_all = (codes "help" ∷ [], (Helps, (codes "help", refl, inr refl)))

pub stops_at_once : {X : Type 0} (f : X → Word) (words : List X) → length words ≡ 0 → BeginsOne AreMeant (map f words) × ¬ AreMeant (map f words)
stops_at_once f [] none = (begins_all, no_words)
stops_at_once f (x ∷ xs) none = absurd (omega (arith, none))
