-- What an outcome tells, status by status.
use Rattle.std.proofs.Common.{◌≡◌, ◌↔◌, ◌≢◌, ◌⊎◌, inl, inr, ℕ, ◌<◌, ◌≤◌, List, [], ◌∷◌, Option, Result, Ok, Err, IsTrue, false, refl, sym, ◌∙◌, ap, subst, arith}
use Rattle.slirp_settings.specs.Addresses.{Config}
use Rattle.slirp_settings.specs.declared.Forward.{Forward}
use Rattle.replay.specs.Unread.{IsFirstUnread}
use Rattle.replay.specs.declared.Divergence.{Divergence}
use Rattle.slirp_app.specs.Causes.{Came, CannotRead, Caused, IsTooLarge, RanOn}
use Rattle.slirp_app.specs.Doing.{ReplaysFile}
use Rattle.app_edges.specs.Fetching.{IsUnreadable, MayFetch, is_read, octets_read}
use Rattle.slirp_app.specs.Ran.{Ceased, EndsBy, Replayed}
use Rattle.slirp_app.specs.Serving.{ComesTo}
use Rattle.app_edges.specs.Statuses.{code_of, is_run}
use Rattle.slirp_app.specs.Statuses.{outcome_of}
use Rattle.app_edges.specs.Texts.{text_of}
use Rattle.app_edges.specs.declared.outcome.Outcome.{Outcome}
use Rattle.app_edges.specs.declared.outcome.Outcome.TheVariants.{Done, Usage, BadConfig, ScheduleRead, ScheduleTooLarge, ScheduleLine, Diverged, FrameTooLong, FrameCut, LinkFault}
use Rattle.app_edges.specs.declared.outcome.Outcome.TheVariants.{WaitFault, TurnsSpent, ListenRefused, SinkFault, NoMemory, ControlRefused}
use Rattle.slirp_app.proofs.Courses.{other}
use Rattle.slirp_app.proofs.Ending.{Meant, ends_by, long_frame, meant_by, waited}
use Rattle.slirp_app.proofs.Seen.{refused, sees}
use Rattle.serve_loop.specs.Ends.{end_of}
use Rattle.serve_loop.specs.declared.service.End.{End as AnEnd}
use Rattle.serve_loop.specs.declared.service.End.TheVariants.{Done as EndDone, TooLong, Cut, LinkFault as EndLink, WaitFault as EndWait, TurnsSpent as EndTurns, ListenRefused as EndRefused, ControlRefused as EndControl}
use Rattle.spec_control.specs.Laws.{Refuses}
use Rattle.control_loop.specs.Runs.{IsRun, seen_by_network}
use Rattle.spec_trace.specs.Shape.{By, Over, Refused, phase}
use Rattle.spec_trace.specs.Moments.{waits}
use Rattle.world_face.specs.Frames.{LinkCut, LinkEnded, LinkFailed, LongFrame, Stopped, WaitFailed, partial}
use Rattle.world_face.specs.Journal.{Entry, AreAllowed, FileLen, FileRead, Follows}
use Rattle.world_face.specs.Puts.{Puts, added}
use Rattle.world_face.specs.Tells.{Telling, Counted, Makes, Rose}
use Rattle.world_face.specs.Faults.{file_failed}
use Rattle.world_face.proofs.Counting.{file_rose, some_failed}
use Rattle.world_face.proofs.Telling.{makes_as}
use Rattle.world_face.specs.declared.FileSize.TheVariants.{Length, Missing, Failed as SizeFailed}
use Rattle.world_face.specs.declared.Io.TheVariants.{Done as IoDone, End, NotYet, Failed as IoFailed}
use Rattle.world_face.specs.declared.sink.Failed.{Failed}

not_run : IsTrue false → ⊥
not_run is = cc

-- a file that can't be read
pub cannot_read : (old new : Telling) (made : List Entry) → AreAllowed made → Counted old.faults new.faults made → IsUnreadable made → CannotRead old new made
cannot_read old new [] allowed counted is = absurd (not_run is)
cannot_read old new (FileLen name (Length n) ∷ past) allowed counted is = inr is
cannot_read old new (FileLen name Missing ∷ past) allowed counted is = inr refl
cannot_read old new (FileLen name SizeFailed ∷ past) allowed counted is = inl (file_rose old.faults new.faults (FileLen name SizeFailed ∷ past) counted
    (some_failed file_failed (FileLen name SizeFailed) past refl))
cannot_read old new (FileRead name place asked (IoDone k) octets ∷ past) allowed counted is = absurd (not_run is)
cannot_read old new (FileRead name place asked End octets ∷ past) allowed counted is = inr refl
cannot_read old new (FileRead name place asked NotYet octets ∷ past) allowed counted is = absurd allowed.0.0
cannot_read old new (FileRead name place asked IoFailed octets ∷ past) allowed counted is = inl
    (file_rose old.faults new.faults (FileRead name place asked IoFailed octets ∷ past) counted (some_failed file_failed (FileRead name place asked IoFailed octets) past refl))
cannot_read old new (_ ∷ past) allowed counted is = absurd (not_run is)

-- a text that was put where the count of faults didn't rise
pub got : {X : Type 0} (old new : Option (List ℕ)) (f g : ℕ) (text : List ℕ) (result : Result X Failed) → Puts old new f g text result → ¬ Rose f g → new ≡ added text old
got old new f g text (Ok x) puts calm = puts.ok refl
got old new f g text (Err e) puts calm = absurd (calm (puts.err refl))

pub no_text : (words : List (List ℕ)) (forwards : List Forward) (outcome : Outcome) → (code_of outcome ≡ 0) ⊎ (code_of outcome ≡ 12) → text_of words forwards outcome ≡ []
no_text words forwards Done is = refl
no_text words forwards SinkFault is = refl
no_text words forwards _ (inl is) = absurd (other 0 _ is refl refl)
no_text words forwards _ (inr is) = absurd (other 12 _ is refl refl)

-- the outcome that has a status
is_misencoded : (outcome : Outcome) → code_of outcome ≡ 4 → (line : ℕ) × (outcome ≡ ScheduleLine line)
is_misencoded (ScheduleLine line) is = (line, refl)
is_misencoded _ is = absurd (other 4 _ is refl refl)

is_divergence : (outcome : Outcome) → code_of outcome ≡ 5 → (divergence : Divergence) × (outcome ≡ Diverged divergence)
is_divergence (Diverged divergence) is = (divergence, refl)
is_divergence _ is = absurd (other 5 _ is refl refl)

is_length : (outcome : Outcome) → code_of outcome ≡ 6 → (n : ℕ) × (outcome ≡ FrameTooLong n)
is_length (FrameTooLong n) is = (n, refl)
is_length _ is = absurd (other 6 _ is refl refl)

is_done : (outcome : Outcome) → code_of outcome ≡ 0 → outcome ≡ Done
is_done Done is = refl
is_done _ is = absurd (other 0 _ is refl refl)

is_no_schedule : (outcome : Outcome) → code_of outcome ≡ 3 → (outcome ≡ ScheduleRead) ⊎ (outcome ≡ ScheduleTooLarge)
is_no_schedule ScheduleRead is = inl refl
is_no_schedule ScheduleTooLarge is = inr refl
is_no_schedule _ is = absurd (other 3 _ is refl refl)

is_cut : (outcome : Outcome) → code_of outcome ≡ 7 → (n : ℕ) × (outcome ≡ FrameCut n)
is_cut (FrameCut n) is = (n, refl)
is_cut _ is = absurd (other 7 _ is refl refl)

is_link_fault : (outcome : Outcome) → code_of outcome ≡ 8 → outcome ≡ LinkFault
is_link_fault LinkFault is = refl
is_link_fault _ is = absurd (other 8 _ is refl refl)

is_wait_fault : (outcome : Outcome) → code_of outcome ≡ 9 → outcome ≡ WaitFault
is_wait_fault WaitFault is = refl
is_wait_fault _ is = absurd (other 9 _ is refl refl)

is_spent : (outcome : Outcome) → code_of outcome ≡ 10 → (n : ℕ) × (outcome ≡ TurnsSpent n)
is_spent (TurnsSpent n) is = (n, refl)
is_spent _ is = absurd (other 10 _ is refl refl)

is_refusal : (outcome : Outcome) → code_of outcome ≡ 11 → (n : ℕ) × (outcome ≡ ListenRefused n)
is_refusal (ListenRefused n) is = (n, refl)
is_refusal _ is = absurd (other 11 _ is refl refl)

is_control : (outcome : Outcome) → code_of outcome ≡ 14 → outcome ≡ ControlRefused
is_control ControlRefused is = refl
is_control _ is = absurd (other 14 _ is refl refl)

-- and the end
end_of_control : (end : AnEnd) → ControlRefused ≡ outcome_of end → end ≡ EndControl
end_of_control EndDone is = cc
end_of_control (TooLong n) is = cc
end_of_control (Cut n) is = cc
end_of_control EndLink is = cc
end_of_control EndWait is = cc
end_of_control (EndTurns n) is = cc
end_of_control (EndRefused n) is = cc
end_of_control EndControl is = refl

-- the same trace, of which more is known
replayed_as : (config : Config) (status : ℕ) (schedule : List ℕ) (old new : Option (List ℕ)) (P Q : List Entry → Type 0) → Replayed config status schedule old new P →
    ((journal : List Entry) → P journal → Q journal) → Replayed config status schedule old new Q
replayed_as config status schedule old new P Q ran here =
    record { journal = ran.journal; put = ran.put; fits = ran.fits; allowed = ran.allowed; begins = ran.begins; holds = here ran.journal ran.holds }

module _ (config : Config) (world world_new : Telling) (file : List ℕ) (old new : Option (List ℕ)) where
  abbrev By_calls : Outcome → Type 0
  By_calls outcome = Makes world world_new (λ made. Follows (MayFetch file) made × Caused config outcome made old new)

  -- of the trace of a run
  of_run : (outcome : Outcome) (status : ℕ) (P : List ℕ → List Entry → Type 0) (Q : List ℕ → List Entry → Type 0) → By_calls outcome → IsTrue (is_read (code_of outcome))
      → ((schedule : List ℕ) → Came config outcome schedule old new → Replayed config status schedule old new (Q schedule))
      → ((schedule : List ℕ) (journal : List Entry) → Q schedule journal → P schedule journal) → RanOn config world world_new status old new P
  of_run outcome status P Q makes read came here =
      makes_as world world_new _ _ makes (λ made holds. (
        holds.1.whole read,
        replayed_as config status (octets_read made) old new (Q (octets_read made)) (P (octets_read made))
            (came (octets_read made) (holds.1.came read)) (here (octets_read made)),
      ))

  unreadable_by : (outcome : Outcome) → By_calls outcome → (outcome ≡ ScheduleRead) ⊎ (outcome ≡ ScheduleTooLarge) → Makes world world_new (λ made. CannotRead world world_new made ⊎ IsTooLarge made)
  unreadable_by outcome makes (inl is) =
      record {
        made = makes.made;
        same = makes.same;
        allowed = makes.allowed;
        told = makes.told;
        counted = makes.counted;
        holds = inl
            (cannot_read world world_new makes.made makes.allowed makes.counted (makes.holds.1.unreadable.0 is));
      }
  unreadable_by outcome makes (inr is) = makes_as world world_new _ _ makes (λ made holds. inr (holds.1.large is))

  pub unreadable : (outcome : Outcome) → By_calls outcome → code_of outcome ≡ 3 → Makes world world_new (λ made. CannotRead world world_new made ⊎ IsTooLarge made)
  unreadable outcome makes is = unreadable_by outcome makes (is_no_schedule outcome is)

  -- a line that has no reading
  pub misencoded : (outcome : Outcome) → By_calls outcome → IsTrue (is_read (code_of outcome)) → Makes world world_new (λ made. (code_of outcome ≡ 4) ↔ (line : ℕ) × IsFirstUnread
      (octets_read made) line)
  misencoded outcome makes read = makes_as world world_new _ _ makes (λ made holds. (
    (λ is. let at = is_misencoded outcome is in (at.0, holds.1.first at.0 at.1)),
    (λ at. ap code_of (holds.1.misencoded read at.0 at.1)),
  ))

  pub named : (Told : Outcome → Type 0) (outcome : Outcome) → By_calls outcome → Told outcome → code_of outcome ≡ 4 → Makes world world_new
      (λ made. (line : ℕ) × IsFirstUnread (octets_read made) line × Told (ScheduleLine line))
  named Told outcome makes told is =
      let at = is_misencoded outcome is in
      makes_as world world_new _ _ makes (λ made holds. (at.0, holds.1.first at.0 at.1, subst Told at.1 told))

  abbrev AtEnd : ℕ → List ℕ → List Entry → Type 0
  AtEnd status schedule journal = status ≢ 5 → (end : AnEnd) × IsRun config end journal × (status ≡ code_of (outcome_of end))

  ended_run : (outcome : Outcome) → By_calls outcome → IsTrue (is_read (code_of outcome)) → ((schedule : List ℕ) → Came config outcome schedule old new → Replayed config
      (code_of outcome) schedule old new (ComesTo config outcome)) → RanOn config world world_new (code_of outcome) old new (AtEnd (code_of outcome))
  ended_run outcome makes read came = of_run outcome (code_of outcome) (AtEnd (code_of outcome)) (λ schedule. ComesTo config outcome) makes read came
      (λ schedule journal at other. (at.end, at.ran, ap code_of at.is))

  pub ran : (outcome : Outcome) → By_calls outcome → IsTrue (is_run (code_of outcome)) → RanOn config world world_new (code_of outcome) old new (AtEnd (code_of outcome))
  ran Done makes is = ended_run Done makes refl (λ schedule came. came)
  ran (Usage stop) _ is = absurd (not_run is)
  ran (BadConfig field) _ is = absurd (not_run is)
  ran ScheduleRead _ is = absurd (not_run is)
  ran ScheduleTooLarge _ is = absurd (not_run is)
  ran (ScheduleLine line) _ is = absurd (not_run is)
  ran (Diverged divergence) makes is = of_run (Diverged divergence) 5 (AtEnd 5) (λ schedule. Ceased config schedule divergence) makes refl (λ schedule came. came)
      (λ schedule journal ceased other. absurd (other refl))
  ran (FrameTooLong n) makes is = ended_run (FrameTooLong n) makes refl (λ schedule came. came)
  ran (FrameCut octets) makes is = ended_run (FrameCut octets) makes refl (λ schedule came. came)
  ran LinkFault makes is = ended_run LinkFault makes refl (λ schedule came. came)
  ran WaitFault makes is = ended_run WaitFault makes refl (λ schedule came. came)
  ran (TurnsSpent turns) makes is = ended_run (TurnsSpent turns) makes refl (λ schedule came. came)
  ran (ListenRefused forward) makes is = ended_run (ListenRefused forward) makes refl (λ schedule came. came)
  ran SinkFault _ is = absurd (not_run is)
  ran NoMemory _ is = absurd (not_run is)
  ran ControlRefused makes is = ended_run ControlRefused makes refl (λ schedule came. came)

  abbrev seen : List Entry → List Entry
  seen journal = seen_by_network config.control journal

  -- where a run stood that the network ended itself
  stood : (outcome : Outcome) (journal : List Entry) → ComesTo config outcome journal → code_of outcome ≢ 14 → Meant config outcome (phase config (seen journal))
  stood outcome journal at other_end =
      let to = sees config at.end journal at.ran (λ is. other_end (ap code_of (at.is ∙ ap outcome_of is))) in
      meant_by config outcome (phase config (seen journal)) (at.is ∙ ap outcome_of to.ends)

  module _ (Told : Outcome → Type 0) where
    abbrev Diverges : List ℕ → List Entry → Type 0
    Diverges schedule journal = (divergence : Divergence) × Ceased config schedule divergence journal × Told (Diverged divergence)

    of_divergence : (d : Divergence) → By_calls (Diverged d) → Told (Diverged d) → RanOn config world world_new 5 old new Diverges
    of_divergence d makes told = of_run (Diverged d) 5 Diverges (λ schedule. Ceased config schedule d) makes refl (λ schedule came. came) (λ schedule journal ceased. (d, ceased, told))

    pub diverged : (outcome : Outcome) → By_calls outcome → Told outcome → code_of outcome ≡ 5 → RanOn config world world_new 5 old new Diverges
    diverged outcome makes told is = let found = is_divergence outcome is in of_divergence found.0 (subst By_calls found.1 makes) (subst Told found.1 told)

    abbrev IsTooLong : List ℕ → List Entry → Type 0
    IsTooLong schedule journal = (size : ℕ) × EndsBy (LongFrame size) (seen journal) × (69632 < size) × Told (FrameTooLong size)

    of_length : (n : ℕ) → By_calls (FrameTooLong n) → Told (FrameTooLong n) → RanOn config world world_new 6 old new IsTooLong
    of_length n makes told = of_run (FrameTooLong n) 6 IsTooLong (λ schedule. ComesTo config (FrameTooLong n)) makes refl (λ schedule came. came)
        (λ schedule journal at. let by = ends_by config (LongFrame n) (seen journal) (stood (FrameTooLong n) journal at (λ is. cc)) in
        (n, by, long_frame by.entry (partial by.past) n by.ends, told))

    pub too_long : (outcome : Outcome) → By_calls outcome → Told outcome → code_of outcome ≡ 6 → RanOn config world world_new 6 old new IsTooLong
    too_long outcome makes told is = let found = is_length outcome is in of_length found.0 (subst By_calls found.1 makes) (subst Told found.1 told)

    abbrev IsCut : List ℕ → List Entry → Type 0
    IsCut schedule journal = (octets : ℕ) × EndsBy (LinkCut octets) (seen journal) × Told (FrameCut octets)

    of_cut : (n : ℕ) → By_calls (FrameCut n) → Told (FrameCut n)
        → RanOn config world world_new 7 old new IsCut
    of_cut n makes told = of_run (FrameCut n) 7 IsCut (λ schedule. ComesTo config (FrameCut n)) makes refl (λ schedule came. came)
        (λ schedule journal at. (n, ends_by config (LinkCut n) (seen journal) (stood (FrameCut n) journal at (λ is. cc)), told))

    pub cut : (outcome : Outcome) → By_calls outcome → Told outcome → code_of outcome ≡ 7 → RanOn config world world_new 7 old new IsCut
    cut outcome makes told is = let found = is_cut outcome is in of_cut found.0 (subst By_calls found.1 makes) (subst Told found.1 told)

    abbrev IsSpent : List ℕ → List Entry → Type 0
    IsSpent schedule journal = (waits journal ≡ config.turns) × Told (TurnsSpent config.turns)

    all_waited : (n : ℕ) (journal : List Entry) → ComesTo config (TurnsSpent n) journal → (n ≡ config.turns) × (waits journal ≡ config.turns)
    all_waited n journal at =
        let to = sees config at.end journal at.ran (λ is. let clash : 10 ≡ 14 = ap code_of (at.is ∙ ap outcome_of is) in cc) in
        let told : TurnsSpent n ≡ outcome_of (end_of config (phase config (seen journal))) = at.is ∙ ap outcome_of to.ends in
        let turns : n ≡ config.turns = meant_by config (TurnsSpent n) (phase config (seen journal)) told in
        let all : config.turns ≤ waits (seen journal) = waited config (phase config (seen journal)) (waits (seen journal)) to.ended (sym told ∙ ap TurnsSpent turns) in
        (turns, omega (arith, all, to.few, to.waited))

    of_spent : (n : ℕ) → By_calls (TurnsSpent n) → Told (TurnsSpent n)
        → RanOn config world world_new 10 old new IsSpent
    of_spent n makes told = of_run (TurnsSpent n) 10 IsSpent (λ schedule. ComesTo config (TurnsSpent n)) makes refl (λ schedule came. came)
        (λ schedule journal at. let all = all_waited n journal at in (all.1, subst (λ m. Told (TurnsSpent m)) all.0 told))

    pub spent : (outcome : Outcome) → By_calls outcome → Told outcome → code_of outcome ≡ 10 → RanOn config world world_new 10 old new IsSpent
    spent outcome makes told is = let found = is_spent outcome is in of_spent found.0 (subst By_calls found.1 makes) (subst Told found.1 told)

    abbrev IsRefused : List ℕ → List Entry → Type 0
    IsRefused schedule journal = (forward : ℕ) × (phase config (seen journal) ≡ Over (Refused forward)) × Told (ListenRefused forward)

    of_refusal : (n : ℕ) → By_calls (ListenRefused n) → Told (ListenRefused n) → RanOn config world world_new 11 old new IsRefused
    of_refusal n makes told = of_run (ListenRefused n) 11 IsRefused (λ schedule. ComesTo config (ListenRefused n)) makes refl (λ schedule came. came)
        (λ schedule journal at. (n, stood (ListenRefused n) journal at (λ is. cc), told))

    pub forward_refused : (outcome : Outcome) → By_calls outcome → Told outcome → code_of outcome ≡ 11 → RanOn config world world_new 11 old new IsRefused
    forward_refused outcome makes told is = let found = is_refusal outcome is in of_refusal found.0 (subst By_calls found.1 makes) (subst Told found.1 told)

  abbrev IsDone : List ℕ → List Entry → Type 0
  IsDone schedule journal = EndsBy Stopped (seen journal) ⊎ EndsBy LinkEnded (seen journal)

  either_end : (past : List Entry) → (phase config past ≡ Over (By Stopped)) ⊎ (phase config past ≡ Over (By LinkEnded)) → EndsBy Stopped past ⊎ EndsBy LinkEnded past
  either_end past (inl stopped) = inl (ends_by config Stopped past stopped)
  either_end past (inr ended) = inr (ends_by config LinkEnded past ended)

  of_done : By_calls Done → RanOn config world world_new 0 old new IsDone
  of_done makes = of_run Done 0 IsDone (λ schedule. ComesTo config Done) makes refl (λ schedule came. came)
      (λ schedule journal at. either_end (seen journal) (stood Done journal at (λ is. cc)))

  pub done : (outcome : Outcome) → By_calls outcome → code_of outcome ≡ 0 → RanOn config world world_new 0 old new IsDone
  done outcome makes is = of_done (subst By_calls (is_done outcome is) makes)

  abbrev HasLinkFault : List ℕ → List Entry → Type 0
  HasLinkFault schedule journal = EndsBy LinkFailed (seen journal)

  of_link_fault : By_calls LinkFault → RanOn config world world_new 8 old new HasLinkFault
  of_link_fault makes = of_run LinkFault 8 HasLinkFault (λ schedule. ComesTo config LinkFault) makes refl (λ schedule came. came)
      (λ schedule journal at. ends_by config LinkFailed (seen journal) (stood LinkFault journal at (λ is. cc)))

  pub link_fault : (outcome : Outcome) → By_calls outcome → code_of outcome ≡ 8 → RanOn config world world_new 8 old new HasLinkFault
  link_fault outcome makes is = of_link_fault (subst By_calls (is_link_fault outcome is) makes)

  abbrev HasWaitFault : List ℕ → List Entry → Type 0
  HasWaitFault schedule journal = EndsBy WaitFailed (seen journal)

  of_wait_fault : By_calls WaitFault → RanOn config world world_new 9 old new HasWaitFault
  of_wait_fault makes = of_run WaitFault 9 HasWaitFault (λ schedule. ComesTo config WaitFault) makes refl (λ schedule came. came)
      (λ schedule journal at. ends_by config WaitFailed (seen journal) (stood WaitFault journal at (λ is. cc)))

  pub wait_fault : (outcome : Outcome) → By_calls outcome → code_of outcome ≡ 9 → RanOn config world world_new 9 old new HasWaitFault
  wait_fault outcome makes is = of_wait_fault (subst By_calls (is_wait_fault outcome is) makes)

  abbrev HasNoControl : List ℕ → List Entry → Type 0
  HasNoControl schedule journal = Refuses config journal

  of_control : By_calls ControlRefused → RanOn config world world_new 14 old new HasNoControl
  of_control makes = of_run ControlRefused 14 HasNoControl (λ schedule. ComesTo config ControlRefused) makes refl (λ schedule came. came)
      (λ schedule journal at. refused config at.end journal at.ran (end_of_control at.end at.is))

  pub control_refused : (outcome : Outcome) → By_calls outcome → code_of outcome ≡ 14 → RanOn config world world_new 14 old new HasNoControl
  control_refused outcome makes is = of_control (subst By_calls (is_control outcome is) makes)

  -- all of it
  pub replays : (Told : Outcome → Type 0) (outcome : Outcome) → By_calls outcome → Told outcome → ReplaysFile file config (code_of outcome) world world_new old new Told
  replays Told outcome makes told = record {
    only_unreadable = makes_as world world_new _ _ makes (λ made holds unread. ap code_of (holds.1.unreadable.1 unread));
    calls = makes_as world world_new _ _ makes (λ made ran. ran.0);
    unreadable = unreadable outcome makes;
    whole = λ is. makes_as world world_new _ _ makes (λ made ran. ran.1.whole is);
    misencoded = misencoded outcome makes;
    named = named Told outcome makes told;
    ran = ran outcome makes;
    diverged = diverged Told outcome makes told;
    done = done outcome makes;
    too_long = too_long Told outcome makes told;
    cut = cut Told outcome makes told;
    link_fault = link_fault outcome makes;
    wait_fault = wait_fault outcome makes;
    spent = spent Told outcome makes told;
    forward_refused = forward_refused Told outcome makes told;
    control_refused = control_refused outcome makes;
  }
