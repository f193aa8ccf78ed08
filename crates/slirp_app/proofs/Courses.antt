-- What is done by what the words mean, and the status of it.
use Rattle.std.proofs.Common.{◌≡◌, ◌≢◌, ◌↔◌, ◌⊎◌, inl, inr, ℕ, ◌<◌, ◌≤◌, ◌==◌, ltb, Bool, true, false, cond, length, List, [], Option, Some, None, Result, Ok, Err, IsOk, IsErr}
use Rattle.std.proofs.Common.{MatchOption, refl, sym, ◌∙◌, ap, subst, arith}
use Rattle.std.proofs.lemmas.Bool.Decides.{nat_tests}
use Rattle.world_face.specs.Journal.{Entry, Place}
use Rattle.world_face.specs.Puts.{Puts, added}
use Rattle.world_face.specs.Tells.{Telling, Makes, Rose}
use Rattle.world_face.specs.declared.sink.Failed.{Failed}
use Rattle.slirp_settings.specs.Addresses.{Config}
use Rattle.command_words.specs.declared.Setting.{Setting}
use Rattle.command_words.specs.declared.Setting.TheVariants.{Octets}
use Rattle.command_words.specs.Meaning.{AnswersBy, Drives, HasPlace, Helps, TellsVersion, Meaning, Means, MeansReplay, Replays, Serves, broken_in, said}
use Rattle.command_words.specs.Options.{Word}
use Rattle.command_words.specs.Stops.{StopsAt}
use Rattle.command_words.specs.declared.Command.{Command}
use Rattle.command_words.specs.declared.Stop.{Stop}
use Rattle.command_words.specs.declared.Tap.{Tap}
use Rattle.command_words.specs.declared.Tap.TheVariants.{Off, Record, Capture}
use Rattle.command_words.specs.declared.WordFault.{WordFault}
use Rattle.command_words.specs.declared.WordFault.TheVariants.{Usage as Misread, BadConfig as BadField}
use Rattle.serve_loop.specs.declared.service.End.{End}
use Rattle.serve_loop.specs.declared.service.End.TheVariants.{Done as EndDone, TooLong, Cut, LinkFault as EndLink, WaitFault as EndWait, TurnsSpent as EndTurns, ListenRefused as EndRefused, ControlRefused as EndControl}
use Rattle.slirp_app.specs.Doing.{CanBeDone, Course, Meant, Misset, Misused, Does, TellsText, refusal_of}
use Rattle.slirp_app.specs.Serving.{HasNoMemory, IsGiven, IsRefused, IsUnopened, OpensAt, Records, Runs, Serves as Served, ServesAt, Took, TookNot}
use Rattle.app_edges.specs.Statuses.{code_of, is_unrun}
use Rattle.slirp_app.specs.Statuses.{outcome_of}
use Rattle.app_edges.specs.declared.outcome.Outcome.{Outcome}
use Rattle.app_edges.specs.declared.outcome.Outcome.TheVariants.{BadConfig, Done, NoMemory, SinkFault, Usage}

-- two numbers that a test tells apart
pub other : (n m : ℕ) → m ≡ n → (m == n) ≡ false → (n == n) ≡ true → ⊥
other n m is differs same = let clash : ◌≡◌ {A = Bool} true false = sym (subst (λ k. (k == n) ≡ true) (sym is) same) ∙ differs in cc clash

named : (behind : List Word) (file : Word) (config : Config) → MeansReplay behind file config → (0 < length file) × (length file ≤ 1280)
named behind file config (line, rules, same, all, alone, some, few, are, set, denied) = (some, few)

-- as many octets as a drill may have
few : (octets : ℕ) (over : Bool) → ltb 10000000 octets ≡ over → cond over (Some Octets) None ≡ None → octets ≤ 10000000
few octets true is none = absurd (cc none)
few octets false is none = grind (arith, nat_tests, is)

pub in_range : (number octets : ℕ) → octets ≤ 10000000 → broken_in (Drives number octets) ≡ None
in_range number octets small = let is : ltb 10000000 octets ≡ false = grind (arith, nat_tests, small) in rw is refl

pub can_be_done : (words : List Word) (meaning : Meaning) → Means words meaning → HasPlace meaning → broken_in meaning ≡ None → CanBeDone meaning
can_be_done words (Replays file config) (behind, is, meant) place none = named behind file config meant
can_be_done words (Serves config at tap) means place none = place
can_be_done words (Drives number octets) means place none = few octets (ltb 10000000 octets) refl none
can_be_done words Helps means place none = tt
can_be_done words TellsVersion means place none = tt

-- what is answered is the one meaning of the words
other_by : (other : Meaning) (o : Option Setting) (result : Result Command WordFault) (command : Command) → result ≡ Ok command
    → MatchOption o ((c : Command) × (result ≡ Ok c) × (said c ≡ other)) (λ setting. result ≡ Err (BadField setting)) → other ≡ said command
other_by other None result command is (c, that, says) = (let same : command ≡ c = cc in sym says ∙ ap said (sym same))
other_by other (Some setting) result command is that = cc

pub one_meaning : (result : Result Command WordFault) (command : Command) (other : Meaning) → result ≡ Ok command → AnswersBy result other → other ≡ said command
one_meaning result command other is answers = other_by other (broken_in other) result command is answers

-- a setting that is named is the first that breaks its range, whatever the words mean
field_by : (other : Meaning) (o : Option Setting) (result : Result Command WordFault) (setting : Setting) → result ≡ Err (BadField setting)
    → MatchOption o ((c : Command) × (result ≡ Ok c) × (said c ≡ other)) (λ f. result ≡ Err (BadField f)) → o ≡ Some setting
field_by other None result setting is (c, that, says) = cc
field_by other (Some f) result setting is that = (let same : setting ≡ f = cc in ap Some (sym same))

pub one_field : (result : Result Command WordFault) (setting : Setting) (other : Meaning) → result ≡ Err (BadField setting) → AnswersBy result other → broken_in other ≡ Some setting
one_field result setting other is answers = field_by other (broken_in other) result setting is answers

-- settings that are answered are in their ranges
unbroken : (other : Meaning) (o : Option Setting) (result : Result Command WordFault) (command : Command) → result ≡ Ok command
    → MatchOption o ((c : Command) × (result ≡ Ok c) × (said c ≡ other)) (λ setting. result ≡ Err (BadField setting)) → o ≡ None
unbroken other None result command is that = refl
unbroken other (Some setting) result command is that = cc

pub none_broken : (result : Result Command WordFault) (command : Command) → result ≡ Ok command → AnswersBy result (said command) → broken_in (said command) ≡ None
none_broken result command is answers = unbroken (said command) (broken_in (said command)) result command is answers

-- words that mean what can be done are answered by a command
pub answered_by_none : (other : Meaning) (o : Option Setting) (result : Result Command WordFault) (fault : WordFault) → result ≡ Err fault → o ≡ None
    → MatchOption o ((c : Command) × (result ≡ Ok c) × (said c ≡ other)) (λ setting. result ≡ Err (BadField setting)) → ⊥
answered_by_none other None result fault is whole (c, that, says) = cc
answered_by_none other (Some setting) result fault is whole that = cc

-- what comes of a text that is put
pub record Texted (text : List ℕ) (outcome : Outcome) (old new : Option (List ℕ)) (f g : ℕ) : Type 0 where
  pub ends : (code_of outcome ≡ 0) ⊎ (code_of outcome ≡ 12)
  pub put : code_of outcome ≡ 0 → new ≡ added text old
  pub ran : is_unrun (code_of outcome) ≡ false
  pub refused : code_of outcome ≡ 12 → Rose f g

pub texted : {X : Type 0} (text : List ℕ) (outcome : Outcome) (old new : Option (List ℕ)) (f g : ℕ) (put : Result X Failed) → (IsOk put → outcome ≡ Done) →
    (IsErr put → outcome ≡ SinkFault) → Puts old new f g text put → Texted text outcome old new f g
texted text outcome old new f g (Ok x) done failed puts =
    let is = done refl in
    record {
      ends = inl (ap code_of is);
      put = λ zero. puts.ok refl;
      ran = ap (λ (o : Outcome). is_unrun (code_of o)) is;
      refused = λ twelve. absurd
          (other 12 0 (sym (ap code_of is) ∙ twelve) refl refl);
    }
texted text outcome old new f g (Err e) done failed puts =
    let is = failed refl in
    record {
      ends = inr (ap code_of is);
      put = λ zero. absurd (other 0 12 (sym (ap code_of is) ∙ zero) refl refl);
      ran = ap (λ (o : Outcome). is_unrun (code_of o)) is;
      refused = λ twelve. puts.err refl;
    }

pub texted_tells : (text : List ℕ) (outcome : Outcome) (world : Telling) (old new : Option (List ℕ)) (f g : ℕ) → Makes world world (λ made. made ≡ []) →
    Texted text outcome old new f g → TellsText text (code_of outcome) world world old new
texted_tells text outcome world old new f g makes t = record { untouched = makes; ends = t.ends; put = t.put }

pub texted_nothing : (text : List ℕ) (outcome : Outcome) (old new : Option (List ℕ)) (f g : ℕ) → Texted text outcome old new f g → is_unrun (code_of outcome) ≡ true → new ≡ old
texted_nothing text outcome old new f g t unrun = let clash : ◌≡◌ {A = Bool} true false = sym unrun ∙ t.ran in absurd (cc clash)

-- A run's own end comes neither to a status of what wasn't run nor to that of a fault of `out`.
pub record IsOfRun (outcome : Outcome) : Type 0 where
  pub ran : is_unrun (code_of outcome) ≡ false
  pub taken : code_of outcome ≢ 12

end_code : (end : End) → IsOfRun (outcome_of end)
end_code EndDone = record { ran = refl; taken = λ is. cc }
end_code (TooLong n) = record { ran = refl; taken = λ is. cc }
end_code (Cut n) = record { ran = refl; taken = λ is. cc }
end_code EndLink = record { ran = refl; taken = λ is. cc }
end_code EndWait = record { ran = refl; taken = λ is. cc }
end_code (EndTurns n) = record { ran = refl; taken = λ is. cc }
end_code (EndRefused n) = record { ran = refl; taken = λ is. cc }
end_code EndControl = record { ran = refl; taken = λ is. cc }

pub end_of_run : (outcome : Outcome) (end : End) → outcome ≡ outcome_of end → IsOfRun outcome
end_of_run outcome end is = subst IsOfRun (sym is) (end_code end)

pub opens_code : (config : Config) (at : Place) (outcome : Outcome) (made : List Entry) → OpensAt config at outcome made → IsOfRun outcome
opens_code config at outcome made (Runs run is ran) = end_of_run outcome ran.end ran.is
opens_code config at outcome made (IsRefused is told) = subst IsOfRun (sym told) (record { ran = refl; taken = λ is. cc })

given_code : (octets : List ℕ) (course outcome : Outcome) (old new : Option (List ℕ)) → IsOfRun course → IsGiven octets course outcome old new → is_unrun (code_of outcome) ≡ false
given_code octets course outcome old new of (Took put is) = ap (λ (o : Outcome). is_unrun (code_of o)) is ∙ of.ran
given_code octets course outcome old new of (TookNot is) = ap (λ (o : Outcome). is_unrun (code_of o)) is

-- what serves was run, or there was no memory and nothing was put
pub served_code : (config : Config) (at : Place) (tap : Tap) (outcome : Outcome) (old new : Option (List ℕ)) (made : List Entry) → ServesAt config at tap outcome old new made
    → (is_unrun (code_of outcome) ≡ false) ⊎ ((outcome ≡ NoMemory) × (new ≡ old))
served_code config at Off outcome old new made (Served taps) = inl (opens_code config at outcome made taps.0).ran
served_code config at Record outcome old new made (Served (Records run is recorded)) =
    inl (given_code _ recorded.done outcome old new (end_of_run recorded.done recorded.ran.end recorded.ran.is) recorded.given)
served_code config at Record outcome old new made (Served (IsUnopened is told same)) = inl (ap (λ (o : Outcome). is_unrun (code_of o)) told)
served_code config at Capture outcome old new made (Served taps) = inl (given_code _ taps.done outcome old new (opens_code config at taps.done made taps.opens) taps.given)
served_code config at tap outcome old new made (HasNoMemory none is same) = inr (is, same)

run_status : (outcome : Outcome) → is_unrun (code_of outcome) ≡ false → (code_of outcome ≢ 1) × (code_of outcome ≢ 2)
run_status outcome ran = (
  λ is. let clash : ◌≡◌ {A = Bool} true false = ap is_unrun (sym is) ∙ ran in cc clash,
  λ is. let clash : ◌≡◌ {A = Bool} true false = ap is_unrun (sym is) ∙ ran in cc clash,
)

status_of : (outcome : Outcome) {P : Type 0} → (is_unrun (code_of outcome) ≡ false) ⊎ ((outcome ≡ NoMemory) × P) → (code_of outcome ≢ 1) × (code_of outcome ≢ 2)
status_of outcome (inl ran) = run_status outcome ran
status_of outcome (inr (is, same)) = subst (λ (o : Outcome). (code_of o ≢ 1) × (code_of o ≢ 2)) (sym is) (λ one. cc, λ two. cc)

nothing_put : (outcome : Outcome) {P : Type 0} → (is_unrun (code_of outcome) ≡ false) ⊎ ((outcome ≡ NoMemory) × P) → is_unrun (code_of outcome) ≡ true → P
nothing_put outcome (inl ran) unrun = let clash : ◌≡◌ {A = Bool} true false = sym unrun ∙ ran in absurd (cc clash)
nothing_put outcome (inr (is, same)) unrun = same

module _ (config : Config) (at : Place) (tap : Tap) (outcome : Outcome) (world world_new : Telling) (old new : Option (List ℕ))
    (makes : Makes world world_new (ServesAt config at tap outcome old new)) where
  pub serves_read : (code_of outcome ≢ 1) × (code_of outcome ≢ 2)
  serves_read = status_of outcome (served_code config at tap outcome old new makes.made makes.holds)

  pub serves_nothing : is_unrun (code_of outcome) ≡ true → new ≡ old
  serves_nothing unrun = nothing_put outcome (served_code config at tap outcome old new makes.made makes.holds) unrun

pub tells_read : (status : ℕ) → (status ≡ 0) ⊎ (status ≡ 12) → (status ≢ 1) × (status ≢ 2)
tells_read status (inl is) = (λ one. cc, λ two. cc)
tells_read status (inr is) = (λ one. cc, λ two. cc)

pub drives_read : (status : ℕ) → (status ≡ 0) ⊎ (status ≡ 12) ⊎ (status ≡ 13) → (status ≢ 1) × (status ≢ 2)
drives_read status (inl is) = (λ one. cc, λ two. cc)
drives_read status (inr (inl is)) = (λ one. cc, λ two. cc)
drives_read status (inr (inr is)) = (λ one. cc, λ two. cc)

one_none : (o : Option Setting) (setting : Setting) → o ≡ Some setting → o ≡ None → ⊥
one_none o setting is none = cc

module _ (words : List Word) (outcome : Outcome) (world world_new : Telling) (old new : Option (List ℕ)) where
  pub usage : Course words outcome world world_new old new → (code_of outcome ≡ 1) ↔ ((meaning : Meaning) → ¬ Means words meaning)
  usage (Meant m means one sound not_usage not_config does) = (λ code. absurd (not_usage code), λ none. absurd (none m means))
  usage (Misset m setting means all is makes) = (λ code. (let two : code_of outcome ≡ 2 = ap code_of is in absurd (other 1 2 (sym two ∙ code) refl refl)), λ none. absurd (none m means))
  usage (Misused stop at none is makes) = (λ code. none, λ n. ap code_of is)

  -- where reading stops
  pub mistake : Course words outcome world world_new old new → code_of outcome ≡ 1 → (stop : Stop) × StopsAt words stop × (outcome ≡ Usage stop)
  mistake (Meant m means one sound not_usage not_config does) code = absurd (not_usage code)
  mistake (Misset m setting means all is makes) code = (let two : code_of outcome ≡ 2 = ap code_of is in absurd (other 1 2 (sym two ∙ code) refl refl))
  mistake (Misused stop at none is makes) code = (stop, at, is)

  pub bad_config : Course words outcome world world_new old new → (meaning : Meaning) (setting : Setting) → Means words meaning → broken_in meaning ≡ Some setting → outcome ≡ BadConfig setting
  bad_config (Meant m means one sound not_usage not_config does) meaning setting this broken =
      absurd (one_none (broken_in meaning) setting broken (ap broken_in (one meaning this) ∙ sound))
  bad_config (Misset m f means all is makes) meaning setting this broken = (let same : Some f ≡ Some setting = sym (all meaning this) ∙ broken in let that : f ≡ setting = cc in is ∙ ap BadConfig that)
  bad_config (Misused stop at none is makes) meaning setting this broken = absurd (none meaning this)

  pub only_config : Course words outcome world world_new old new → code_of outcome ≡ 2 → (meaning : Meaning) × (setting : Setting) × Means words meaning × (broken_in meaning ≡ Some setting)
  only_config (Meant m means one sound not_usage not_config does) code = absurd (not_config code)
  only_config (Misset m setting means all is makes) code = (m, setting, means, all m means)
  only_config (Misused stop at none is makes) code = (let one : code_of outcome ≡ 1 = ap code_of is in absurd (other 2 1 (sym one ∙ code) refl refl))

  pub untouched : Course words outcome world world_new old new → (code_of outcome ≡ 1) ⊎ (code_of outcome ≡ 2) → Makes world world_new (λ made. made ≡ [])
  untouched (Meant m means one sound not_usage not_config does) (inl code) = absurd (not_usage code)
  untouched (Meant m means one sound not_usage not_config does) (inr code) = absurd (not_config code)
  untouched (Misset m setting means all is makes) code = makes
  untouched (Misused stop at none is makes) code = makes

  pub does : Course words outcome world world_new old new → (meaning : Meaning) → Means words meaning → broken_in meaning ≡ None → Does meaning outcome world world_new old new
  does (Meant m means one sound not_usage not_config done) meaning this sound_too = subst (λ k. Does k outcome world world_new old new) (sym (one meaning this)) done
  does (Misset m setting means all is makes) meaning this sound_too = absurd (one_none (broken_in meaning) setting (all meaning this) sound_too)
  does (Misused stop at none is makes) meaning this sound_too = absurd (none meaning this)

-- words whose reading stops
no_answer : (other : Meaning) (o : Option Setting) (result : Result Command WordFault) (stop : Stop) → result ≡ Err (Misread stop)
    → MatchOption o ((c : Command) × (result ≡ Ok c) × (said c ≡ other)) (λ setting. result ≡ Err (BadField setting)) → ⊥
no_answer other None result stop is (c, that, says) = cc
no_answer other (Some setting) result stop is that = cc

-- words that aren't followed
pub refused_course : (words : List Word) (result : Result Command WordFault) (fault : WordFault) (world : Telling) (old : Option (List ℕ)) → result ≡ Err fault
    → ((setting : Setting) → result ≡ Err (BadField setting) → (meaning : Meaning) × Means words meaning × (broken_in meaning ≡ Some setting))
    → ((stop : Stop) → result ≡ Err (Misread stop) → StopsAt words stop) → ((meaning : Meaning) → Means words meaning → AnswersBy result meaning)
    → Makes world world (λ made. made ≡ []) → Course words (refusal_of fault) world world old old
refused_course words result (Misread stop) world old is bad stops only makes = Misused stop (stops stop is) (λ meaning means. no_answer meaning (broken_in meaning) result stop is
    (only meaning means)) refl makes
refused_course words result (BadField setting) world old is bad stops only makes =
    let found = bad setting is in Misset found.0 setting found.1 (λ other this. one_field result setting other is (only other this)) refl makes
