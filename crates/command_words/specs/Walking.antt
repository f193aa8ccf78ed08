-- The walk over the words behind a command: what is kept of those that were read, and what the next one adds.
use Rattle.std.specs.Prelude.{◌≡◌, ℕ, ◌+◌, ◌==◌, ◌&&◌, ◌||◌, not, nat_lt, Bool, true, false, List, [], ◌∷◌, ◌++◌, length, take, bytes_eq, codes, map, MatchBool, MatchOption, Option, Some}
use Rattle.std.specs.Prelude.{None, is_some, option_copied, if◌then◌else◌}
use Rattle.std.specs.Option.{option_map}
use Rattle.std.specs.List.{before_first, after_first, list_all, list_any, position_or_len}
use Rattle.slirp_settings.specs.Ranges.{none_twice}
use Rattle.command_words.specs.declared.options.Verb.{Verb}
use Rattle.command_words.specs.declared.options.Verb.TheVariants.{Replay, Serve}
use Rattle.command_words.specs.declared.line.Given.{Given as GivenHere}
use Rattle.command_words.specs.declared.line.Line.{Line as LineHere}
use Rattle.command_words.specs.declared.options.Row.{Row as RowHere}
use Rattle.command_words.specs.declared.Stop.{Stop}
use Rattle.command_words.specs.declared.Stop.TheVariants.{Word as AtWord, End as AtEnd}
use Rattle.command_words.specs.Options.{Word, Given, Row, is_dashed, is_repeated, kind_of, repeated, rows, same_name, single, takes_value, value_in}
use Rattle.command_words.specs.Values.{CanHave}
use Rattle.address_text.specs.Rules.{AreRuleWords, IsRuleWord, guest_words, host_words, is_guest_word}
use Rattle.command_words.specs.Texts.{IsFile}

abbrev pub row_of : RowHere → Row
row_of row = record { name = row.name.now; kind = row.kind; serve_alone = row.serve_alone }

-- the options that were given; the words that stand by themselves; the option that waits for its value; and whether `--` came
pub record Walk : Type 0 where
  pub verb : Verb
  pub options : List Given
  pub alone : List Word
  pub waits : Option Word
  pub ended : Bool

abbrev pub fresh : Verb → Walk
fresh verb = record { verb = verb; options = []; alone = []; waits = None; ended = false }

abbrev pub given_of : GivenHere → Given
given_of given = record { name = given.name.now; value = given.value.now }

abbrev pub walk_of : LineHere → Walk
walk_of line = record { verb = line.verb; options = map given_of line.options.items; alone = map (λ word. word.now) line.alone.items; waits = option_copied line.waits; ended = line.ended }

-- an option may stand where none of its name does, or where it may stand several times
abbrev pub may_stand : List Given → Word → Bool
may_stand options name = is_repeated name || not (is_some (value_in options name))

-- one more option; `add` says what becomes of the options with it
abbrev pub put_option : (add : List Given → Given → Option (List Given)) → Walk → Word → Word → Option Walk
put_option add walk name value =
    if may_stand walk.options name
    then option_map (λ options. record walk { options = options }) (add walk.options (record { name = name; value = value }))
    else None

-- one more word stands by itself; `keep` says what is kept of these with it
abbrev pub put_alone : (keep : Walk → Word → List Word) → Walk → Word → Option Walk
put_alone keep walk word = Some (record walk { alone = keep walk word })

-- a value that stands apart
abbrev pub put_apart : (add : List Given → Given → Option (List Given)) → Walk → Word → Word → Option Walk
put_apart add walk name value = if nat_lt 0 (length value) && not (is_dashed value) then put_option add (record walk { waits = None }) name value else None

-- a value behind the name and a sign
abbrev pub put_joined : (add : List Given → Given → Option (List Given)) → Walk → Word → Word → Option Walk
put_joined add walk name value =
    elim (takes_value walk.verb name) [
      | None ↦ None
      | Some takes ↦ if takes && nat_lt 0 (length value) then put_option add walk name value else None
    ]

-- a name alone: a flag, or an option that may stand and waits for its value
abbrev pub put_name : (add : List Given → Given → Option (List Given)) → Walk → Word → Option Walk
put_name add walk name =
    elim (takes_value walk.verb name) [
      | None ↦ None
      | Some takes ↦ if takes then (if may_stand walk.options name then Some (record walk { waits = Some name }) else None) else put_option add walk name []
    ]

abbrev pub is_sign : ℕ → Bool
is_sign octet = octet == 61

abbrev pub put_dashed : (add : List Given → Given → Option (List Given)) → Walk → Word → Option Walk
put_dashed add walk word =
    if nat_lt (position_or_len is_sign word) (length word)
    then put_joined add walk (before_first is_sign word) (after_first is_sign word)
    else put_name add walk word

abbrev pub begin : (keep : Walk → Word → List Word) (add : List Given → Given → Option (List Given)) → Walk → Word → Option Walk
begin keep add walk word =
    if bytes_eq word (codes "--") then Some (record walk { ended = true })
    else (if is_dashed word then put_dashed add walk word else put_alone keep walk word)

abbrev pub step_with : (keep : Walk → Word → List Word) (add : List Given → Given → Option (List Given)) → Walk → Word → Option Walk
step_with keep add walk word =
    if walk.ended then put_alone keep walk word
    else elim walk.waits [ None ↦ begin keep add walk word | Some name ↦ put_apart add walk name word ]

-- all options and all words that stand by themselves are kept
abbrev pub add_all : List Given → Given → Option (List Given)
add_all options given = Some (options ++ given ∷ [])

abbrev pub keep_all : Walk → Word → List Word
keep_all walk word = walk.alone ++ word ∷ []

abbrev pub step : Walk → Word → Option Walk
step walk word = step_with keep_all add_all walk word

abbrev pub is_replay : Verb → Bool
is_replay Replay = true
is_replay Serve = false

abbrev pub has_none : List Word → Bool
has_none [] = true
has_none (word ∷ words) = false

abbrev pub wants_file : Walk → Bool
wants_file walk = is_replay walk.verb && has_none walk.alone

-- Of them a line has no room for RULEs of guests; and for the first 34 of the others: a file, and one RULE more than the settings have room for.
abbrev pub own_words : Verb → List Word → List Word
own_words Replay [] = []
own_words Replay (file ∷ rules) = file ∷ host_words rules
own_words Serve rules = host_words rules

abbrev pub kept : List Word → List Word
kept words = take 34 words

abbrev pub keep_own : Walk → Word → List Word
keep_own walk word = if not (wants_file walk) && is_guest_word word then walk.alone else kept (walk.alone ++ word ∷ [])

-- The RULEs of guests; the first 17 of them are kept beside the line: one more than the settings have room for.
abbrev pub guests_of : Verb → List Word → List Word
guests_of Replay [] = []
guests_of Replay (file ∷ rules) = guest_words rules
guests_of Serve rules = guest_words rules

abbrev pub kept_guests : List Word → List Word
kept_guests words = take 17 words

-- It has room for one option of each name, of which there are twenty-six, and for none that may stand several times.
abbrev pub hold : List Given → Given → Option (List Given)
hold options given = if is_repeated given.name then Some options else (if nat_lt (length options) 26 then Some (options ++ given ∷ []) else None)

abbrev pub kept_of : Walk → Walk
kept_of walk = record walk { options = single walk.options; alone = kept (own_words walk.verb walk.alone) }

-- The first 9 networks that are denied are kept beside it: one more than the settings may have.
abbrev pub kept_denied : List Word → List Word
kept_denied words = take 9 words

-- a word that stands by itself is the name of a file where `replay` has none yet, else a RULE
abbrev pub IsWanted : (is_file : Bool) → Word → Type 0
IsWanted is_file word = MatchBool is_file (IsFile word) (IsRuleWord word)

abbrev pub stands_alone : Walk → Word → Bool
stands_alone walk word = walk.ended || (not (is_some walk.waits) && not (is_dashed word))

-- the option that a word completes
abbrev pub flag_of : Verb → Word → Option Given
flag_of verb word =
    elim (takes_value verb word) [
      | None ↦ None
      | Some takes ↦ if takes then None else Some (record { name = word; value = [] })
    ]

abbrev pub named : Verb → Word → Option Given
named verb word =
    if nat_lt (position_or_len is_sign word) (length word)
    then Some (record { name = before_first is_sign word; value = after_first is_sign word })
    else flag_of verb word

abbrev pub completed : Walk → Word → Option Given
completed walk word =
    if walk.ended then None
    else elim walk.waits [ None ↦ if is_dashed word then named walk.verb word else None | Some name ↦ Some (record { name = name; value = word }) ]

abbrev pub listed : Option Given → List Given
listed None = []
listed (Some given) = given ∷ []

-- the RULE of guests that a word by itself is
abbrev pub guest_rule : Walk → Word → List Word
guest_rule walk word = if stands_alone walk word && not (wants_file walk) && is_guest_word word then word ∷ [] else []

-- its value is one that it can have
abbrev pub IsGiven : Verb → Given → Type 0
IsGiven verb given = MatchOption (kind_of verb given.name) (Unit {0}) (λ kind. CanHave kind given.value)

-- a run isn't recorded and captured
abbrev pub is_both : List Given → Bool
is_both options = is_some (value_in options (codes "--record")) && is_some (value_in options (codes "--capture"))

-- behind `--` the place of the link can't be told any more
abbrev pub has_link : Verb → List Given → Bool
has_link verb options = is_replay verb || is_some (value_in options (codes "--link"))

abbrev pub ends : Walk → Word → Bool
ends walk word = not walk.ended && not (is_some walk.waits) && bytes_eq word (codes "--")

abbrev pub can_end : Walk → Word → Bool
can_end walk word = not (ends walk word) || has_link walk.verb walk.options

abbrev pub FitsAlone : Walk → Word → Type 0
FitsAlone walk word = MatchBool (stands_alone walk word) (IsWanted (wants_file walk) word) (Unit {0})

abbrev pub FitsOption : Walk → Word → Type 0
FitsOption walk word = MatchOption (completed walk word) (Unit {0}) (λ given. IsGiven walk.verb given × (is_both (walk.options ++ given ∷ []) ≡ false))

-- the next word is one with which a reading can go on, where it has a step
abbrev pub Fits : Walk → Word → Type 0
Fits walk word = FitsAlone walk word × FitsOption walk word × (can_end walk word ≡ true)

abbrev pub next : (Walk → Option Walk) → Option Walk → Option Walk
next go None = None
next go (Some walk) = go walk

abbrev pub walk_on : List Word → Walk → Option Walk
walk_on [] walk = Some walk
walk_on (word ∷ words) walk = next (walk_on words) (step walk word)

-- no option waits at the end
abbrev pub finished : Walk → Option Walk
finished walk = if is_some walk.waits then None else Some walk

abbrev pub walked : Verb → List Word → Option Walk
walked verb words = next finished (walk_on words (fresh verb))

-- the words that stand by themselves are what their places want
abbrev pub AreWanted : Verb → List Word → Type 0
AreWanted Replay [] = Unit {0}
AreWanted Replay (file ∷ rules) = IsFile file × AreRuleWords rules
AreWanted Serve rules = AreRuleWords rules

abbrev pub AreGiven : Verb → List Given → Type 0
AreGiven verb [] = Unit {0}
AreGiven verb (given ∷ options) = IsGiven verb given × AreGiven verb options

-- what was read can go on to a reading
pub record IsGood (walk : Walk) : Type 0 where
  pub wanted : AreWanted walk.verb walk.alone
  pub given : AreGiven walk.verb walk.options
  pub one : is_both walk.options ≡ false
  pub linked : walk.ended ≡ true → has_link walk.verb walk.options ≡ true

abbrev pub option_names : List Word
option_names = map (λ (row : Row). row.name) rows

-- what every walk keeps: no option stands twice that may not, each is in the table, and one that waits for its value has one and may stand
pub record IsProper (walk : Walk) : Type 0 where
  pub once : none_twice same_name (single walk.options) ≡ true
  pub known : list_all (λ (given : Given). list_any (λ name. bytes_eq name given.name) option_names) (single walk.options) ≡ true
  pub waiting : MatchOption walk.waits (Unit {0}) (λ name. (takes_value walk.verb name ≡ Some true) × (may_stand walk.options name ≡ true))
  pub quiet : walk.ended ≡ true → walk.waits ≡ None

-- Words are walked so far, and can go on.
pub record Walks (verb : Verb) (words : List Word) : Type 0 where
  pub walk : Walk
  pub walks : walk_on words (fresh verb) ≡ Some walk
  pub verb_is : walk.verb ≡ verb
  pub good : IsGood walk
  pub proper : IsProper walk

-- the walk over words, of which a line keeps what it has room for, and beside it RULEs of guests and denied networks are kept
pub record HasWalked (verb : Verb) (words : List Word) (line : LineHere) (guests denied : List Word) : Type 0 where
  pub walk : Walk
  pub walks : walked verb words ≡ Some walk
  pub verb_is : walk.verb ≡ verb
  pub good : IsGood walk
  pub far : Walks verb words
  pub keeps : kept_of walk ≡ walk_of line
  pub leads : kept_guests (guests_of walk.verb walk.alone) ≡ guests
  pub denies : kept_denied (repeated walk.options) ≡ denied

-- The walk stops at a word: those before it can go on, and nothing that begins with the words up to it can. Or all can go on, and an option waits for its value.
abbrev pub WalkStops : Verb → List Word → Stop → Type 0
WalkStops verb words (AtWord place) = (before : List Word) × (word : Word) × (behind : List Word) × (words ≡ before ++ word ∷ behind) × (place ≡ length before + 1)
    × Walks verb before × ((more : List Word) (walk : Walk) → walked verb ((before ++ word ∷ []) ++ more) ≡ Some walk → ¬ IsGood walk)
WalkStops verb words AtEnd = Walks verb words × ((walk : Walk) → walked verb words ≡ Some walk → ⊥)
