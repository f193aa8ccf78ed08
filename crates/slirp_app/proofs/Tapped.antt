-- What a World that notes each call has of a run, and what a sink got of it.
use Rattle.std.proofs.Common.{◌≡◌, ◌≢◌, ℕ, Bool, true, false, List, [], Option, if◌then◌else◌, refl, sym, ◌∙◌, ap, subst}
use Rattle.world_face.specs.Journal.{Entry, Place, AreAllowed}
use Rattle.world_face.specs.Puts.{added}
use Rattle.world_face.specs.Tells.{Counts, Makes, Rose, Telling}
use Rattle.world_face.proofs.Telling.{makes_as}
use Rattle.slirp_settings.specs.Addresses.{Config}
use Rattle.replay.specs.Text.{text}
use Rattle.slirp_app.specs.Serving.{CapturesAt, ComesTo, IsGiven, IsRecorded, OpensAt, Took, TookNot}
use Rattle.app_edges.specs.Statuses.{code_of}
use Rattle.app_edges.specs.declared.outcome.Outcome.{Outcome}
use Rattle.app_edges.specs.declared.outcome.Outcome.TheVariants.{SinkFault}
use Rattle.slirp_app.proofs.Courses.{end_of_run, opens_code}
use Rattle.slirp_app.proofs.Fitted.{opened_fits}
use Rattle.taps.specs.Capturing.{IsCaptured, capture}
use Rattle.taps.specs.Recording.{ArePassed, IsWritten, Tapped, Written, beginning, marked, telling}
use Rattle.taps.proofs.Marking.{marked_once}
use Rattle.taps.proofs.Passing.{just_those}

-- what a run's calls were that are noted from the beginning on, and where the World and its book began
pub record Noted (P : List Entry → Type 0) (began began_new : Telling) (source source_new : List ℕ) (noted : List Entry) : Type 0 where
  pub holds : P noted
  pub allowed : AreAllowed noted
  pub same_world : began_new ≡ began
  pub same_sink : source_new ≡ source

pub all_noted : {P : List Entry → Type 0} (began began_new : Telling) (source source_new : List ℕ) (first noted : List Entry) (faults faults_new : Counts) → first ≡ []
    → Makes (telling (marked began source) faults first) (telling (marked began_new source_new) faults_new noted) P → Noted P began began_new source source_new noted
all_noted {P} began began_new source source_new first noted faults faults_new none makes =
    let from : Makes (telling (marked began source) faults []) (telling (marked began_new source_new) faults_new noted) P =
    subst (λ l. Makes (telling (marked began source) faults l) (telling (marked began_new source_new) faults_new noted) P) none makes in
    let same = just_those (marked began source) (marked began_new source_new) faults faults_new from.made noted from.told in
    let mark = marked_once began_new began source_new source from.same in
    record { holds = subst P (sym same) from.holds; allowed = subst AreAllowed (sym same) from.allowed; same_world = mark.0; same_sink = mark.1 }

module _ (failed : Bool) (done outcome : Outcome) (is : outcome ≡ (if failed then SinkFault else done)) where
  given_by : (octets : List ℕ) (old new : Option (List ℕ)) (b : Bool) → failed ≡ b → outcome ≡ (if b then SinkFault else done) → (failed ≡ false → new ≡ added octets old) →
      IsGiven octets done outcome old new
  given_by octets old new true of told put = TookNot told
  given_by octets old new false of told put = Took (put of) told

  pub given : (octets : List ℕ) (old new : Option (List ℕ)) → (failed ≡ false → new ≡ added octets old) → IsGiven octets done outcome old new
  given octets old new put = given_by octets old new failed refl is put

  fault_by : {R : Type 0} (b : Bool) → failed ≡ b → outcome ≡ (if b then SinkFault else done) → (failed ≡ true → R) → code_of done ≢ 12 → code_of outcome ≡ 12 → R
  fault_by true of told rose taken code = rose of
  fault_by false of told rose taken code = absurd (taken (ap code_of (sym told) ∙ code))

  -- a status of 12 comes of a fault of the sink alone
  pub fault : {R : Type 0} → (failed ≡ true → R) → code_of done ≢ 12 → code_of outcome ≡ 12 → R
  fault rose taken code = fault_by failed refl is rose taken code

pub recorded : (world world_new : Telling) (noted : List Entry) (config : Config) (done outcome : Outcome) (old new : Option (List ℕ))
    → ArePassed world world_new noted → ComesTo config done noted → IsGiven (text noted) done outcome old new → Makes world world_new (IsRecorded config outcome old new)
recorded world world_new noted config done outcome old new passed ran given =
    makes_as world world_new (λ made. made ≡ noted) (IsRecorded config outcome old new) passed (λ made is. subst (IsRecorded config outcome old new) (sym is)
    (record { done = done; ran = ran; given = given }))

pub captured : (world world_new : Telling) (noted : List Entry) (config : Config) (at : Place) (done outcome : Outcome) (old new : Option (List ℕ))
    → ArePassed world world_new noted → OpensAt config at done noted → IsGiven (capture noted) done outcome old new → Makes world world_new (CapturesAt config at outcome old new)
captured world world_new noted config at done outcome old new passed opens given =
    makes_as world world_new (λ made. made ≡ noted) (CapturesAt config at outcome old new) passed (λ made is. subst (CapturesAt config at outcome old new) (sym is)
    (record { done = done; opens = opens; given = given }))

-- a run that a World with a trace of it served
pub run_recorded : {W K : Type 0} (tells : W → Telling) (config : Config) (done outcome : Outcome) (failed : Bool) (world world_new : W) (sink : K) (before after : Option (List ℕ))
    (faults faults_new : ℕ)
    (counts counts_new : Counts) (fresh : Written K) (tap tap_new : Tapped W (Written K)) (book : Written K)
    → fresh ≡ record { out = sink; source = beginning faults before; made = []; failed = false }
    → tap ≡ record { world = world; began = world; book = fresh }
    → Makes (telling (marked (tells tap.began) tap.book.source) counts tap.book.made) (telling (marked (tells tap_new.began) tap_new.book.source) counts_new tap_new.book.made) (ComesTo config done)
    → ArePassed (tells tap_new.began) (tells world_new) book.made
    → book ≡ tap_new.book
    → ((old : Option (List ℕ)) (f : ℕ) → book.source ≡ beginning f old → IsWritten old after f faults_new book.made failed)
    → outcome ≡ (if failed then SinkFault else done)
    → Makes (tells world) (tells world_new) (IsRecorded config outcome before after) × (code_of outcome ≡ 12 → Rose faults faults_new)
run_recorded {W} {K} tells config done outcome failed world world_new sink before after faults faults_new counts counts_new fresh tap tap_new book fresh_is tap_is makes passed
    book_is written outcome_is =
    let none : tap.book.made ≡ [] = ap (λ (t : Tapped W (Written K)). t.book.made) tap_is ∙ ap (λ (b : Written K). b.made) fresh_is in
    let noted = all_noted {P = ComesTo config done} (tells tap.began) (tells tap_new.began) tap.book.source tap_new.book.source tap.book.made tap_new.book.made counts counts_new none makes in
    let began : tells tap_new.began ≡ tells world = noted.same_world ∙ ap (λ (t : Tapped W (Written K)). tells t.began) tap_is in
    let source : book.source ≡ beginning faults before = ap (λ (b : Written K). b.source) book_is ∙ noted.same_sink ∙ ap (λ (t : Tapped W (Written K)). t.book.source) tap_is ∙ ap
    (λ (b : Written K). b.source) fresh_is in
    let put = written before faults source in
    let ran : ComesTo config done book.made = subst (ComesTo config done) (sym (ap (λ (b : Written K). b.made) book_is)) noted.holds in (
      recorded (tells world) (tells world_new) book.made config done outcome before after (subst (λ t. ArePassed t (tells world_new) book.made) began passed)
          ran (given failed done outcome outcome_is (text book.made) before after put.put),
      fault failed done outcome outcome_is put.fault (end_of_run done ran.end ran.is).taken,
    )

-- and one whose frames were put
pub run_captured : {W K : Type 0} (tells : W → Telling) (config : Config) (at : Place) (done outcome : Outcome) (failed : Bool) (world world_new : W)
    (before after : Option (List ℕ)) (faults faults_new : ℕ)
    (counts counts_new : Counts) (fresh : Written K) (tap tap_new : Tapped W (Written K)) (book : Written K)
    → fresh.made ≡ [] → fresh.source ≡ beginning faults before
    → tap ≡ record { world = world; began = world; book = fresh }
    → Makes (telling (marked (tells tap.began) tap.book.source) counts tap.book.made) (telling (marked (tells tap_new.began) tap_new.book.source) counts_new tap_new.book.made) (OpensAt config at done)
    → ArePassed (tells tap_new.began) (tells world_new) book.made
    → book ≡ tap_new.book
    → ((old : Option (List ℕ)) (f : ℕ) → book.source ≡ beginning f old → IsCaptured old after f faults_new book.made failed)
    → outcome ≡ (if failed then SinkFault else done)
    → Makes (tells world) (tells world_new) (CapturesAt config at outcome before after) × (code_of outcome ≡ 12 → Rose faults faults_new)
run_captured {W} {K} tells config at done outcome failed world world_new before after faults faults_new counts counts_new fresh tap tap_new book made_is source_is tap_is makes
    passed book_is written outcome_is =
    let none : tap.book.made ≡ [] = ap (λ (t : Tapped W (Written K)). t.book.made) tap_is ∙ made_is in
    let noted = all_noted {P = OpensAt config at done} (tells tap.began) (tells tap_new.began) tap.book.source tap_new.book.source tap.book.made tap_new.book.made counts counts_new none makes in
    let began : tells tap_new.began ≡ tells world = noted.same_world ∙ ap (λ (t : Tapped W (Written K)). tells t.began) tap_is in
    let source : book.source ≡ beginning faults before = ap (λ (b : Written K). b.source) book_is ∙ noted.same_sink ∙ ap (λ (t : Tapped W (Written K)). t.book.source) tap_is ∙ source_is in
    let put = written before faults source in
    let same : book.made ≡ tap_new.book.made = ap (λ (b : Written K). b.made) book_is in
    let opens : OpensAt config at done book.made = subst (OpensAt config at done) (sym same) noted.holds in
    let allowed : AreAllowed book.made = subst AreAllowed (sym same) noted.allowed in (
      captured (tells world) (tells world_new) book.made config at done outcome before after (subst (λ t. ArePassed t (tells world_new) book.made) began passed)
          opens (given failed done outcome outcome_is (capture book.made) before after put.put),
      fault failed done outcome outcome_is (λ is. put.fault is (opened_fits config at done book.made opens allowed)) (opens_code config at done book.made opens).taken,
    )
