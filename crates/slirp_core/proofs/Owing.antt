-- Which frames are pending and which transfers of files are kept, entry by entry.
use Rattle.std.proofs.Common.{◌≡◌, ℕ, ◌<◌, ◌%◌, ◌^◌, ◌&&◌, not, Bool, true, false, is_some, List, [], ◌∷◌, ◌++◌, length, Option, Some, None, option_map, inl, inr, refl, sym, ◌∙◌, ap, subst, arith}
use Rattle.std.specs.Option.{option_or}
use Rattle.poll_list.specs.declared.Want.{Want}
use Rattle.world_face.specs.Journal.{Entry, LinkWrite, Wait}
use Rattle.world_face.specs.Frames.{goes_out}
use Rattle.world_face.specs.declared.Io.{Io}
use Rattle.world_face.specs.declared.Waited.{Waited}
use Rattle.slirp_settings.specs.Addresses.{Config}
use Rattle.spec_trace.specs.Moments.{moment}
use Rattle.rules_tftp.specs.Transfers.{Files, Said, Settled as SeeksNothing, Transfer, are_left, begun, next_again, said_again, ticked}
use Rattle.rules_tftp.proofs.Turning.{next_left, ticked_none}
use Rattle.spec_run.specs.Answers.{Serving, again_frames, begins_again, begun_by, datagrams_out, files_begun, files_sent, frames_of, identification, is_free, is_out, ledger, left}
use Rattle.spec_run.specs.Answers.{serving, starts, taken, told_of_files, unless_begun, with_datagrams}
use Rattle.spec_run.proofs.KeptFiles.{now_is}
use Rattle.tcp_flows.specs.Runs.{LeavesOthers}
use Rattle.spec_run.specs.Datagrams.{Step, NeedsNothing, NeedsRoom, NeedsSocket, NeedsSending}
use Rattle.slirp_core.specs.Owed.{IsOwed, IsOwedAt, OfFile, OfLeft, kept_by}
use Rattle.slirp_core.specs.State.{SlirpState}

-- ---- where nothing is pending

pub of_left : (config : Config) (aged : Bool) (slirp : SlirpState) (past : List Entry) → slirp.pending ≡ [] → IsOwed config aged slirp past → OfLeft config aged slirp past
of_left config aged slirp past none (inl l) = l
of_left config aged slirp past none (inr f) = absurd (omega (arith, f.some, ap length none))

pub nothing_left : (config : Config) (aged : Bool) (slirp : SlirpState) (past : List Entry) → slirp.pending ≡ [] → IsOwed config aged slirp past → left config past ≡ []
nothing_left config aged slirp past none owed = (of_left config aged slirp past none owed).left ∙ none

-- ---- entries that leave it

-- the trace has the same left, and the same of files
pub record SameLedger (config : Config) (past later : List Entry) : Type 0 where
  pub left : left config later ≡ left config past
  pub files : (serving config later).files ≡ (serving config past).files
  pub again : (serving config later).again ≡ (serving config past).again
  pub now : (serving config later).now ≡ (serving config past).now
  pub ident : identification later ≡ identification past

pub owed_on : (config : Config) (aged : Bool) (slirp : SlirpState) (past later : List Entry) → SameLedger config past later → IsOwed config aged slirp past → IsOwed config aged slirp later
owed_on config aged slirp past later same (inl l) = inl (record {
  left = same.left ∙ l.left;
  again = same.again ∙ l.again;
  files = l.files ∙ sym (λ i. kept_by aged false (same.now i) (same.files i).transfers);
})
owed_on config aged slirp past later same (inr f) = inr (record {
  said = f.said;
  left = same.left ∙ f.left;
  may = (λ i. option_or (same.again i) (option_map said_again (next_again (same.now i) (same.files i).transfers))) ∙ f.may;
  some = f.some;
  pending = f.pending ∙ sym (ap (λ n. frames_of config n (told_of_files config (Some f.said))) same.ident);
  on_its_way = λ is. same.again ∙ f.on_its_way is;
  files = f.files ∙ sym (λ i. kept_by aged (not (is_some (same.again i))) (same.now i) (same.files i).transfers);
})

-- calls for flows, that leave what is left
pub same_beside : (config : Config) (past made : List Entry) → left config (made ++ past) ≡ left config past → identification (made ++ past) ≡ identification past → moment
    (made ++ past) ≡ moment past → LeavesOthers config past made
    → SameLedger config past (made ++ past)
same_beside config past made same_left same_ident same others = record {
  left = same_left;
  files = others.files;
  again = others.again;
  now = now_is config (made ++ past) ∙ same ∙ sym (now_is config past);
  ident = same_ident;
}

-- the same of another state of the core
pub owed_as : (config : Config) (aged : Bool) (slirp new : SlirpState) (past : List Entry) → new.pending ≡ slirp.pending → new.transfers ≡ slirp.transfers →
    IsOwed config aged slirp past → IsOwed config aged new past
owed_as config aged slirp new past pending transfers (inl l) = inl (record { left = l.left ∙ sym pending; again = l.again; files = transfers ∙ l.files })
owed_as config aged slirp new past pending transfers (inr f) = inr (record {
  said = f.said;
  left = f.left;
  may = f.may;
  some = subst (λ (p : List (List ℕ)). 0 < length p) (sym pending) f.some;
  pending = pending ∙ f.pending;
  on_its_way = f.on_its_way;
  files = transfers ∙ f.files;
})

-- one entry that leaves it, and the state of the core after it
module _ (config : Config) (aged : Bool) (slirp new : SlirpState) (e : Entry) (past : List Entry) (same_files : (serving config (e ∷ past)).files ≡ (serving config past).files)
    (same_again : (serving config (e ∷ past)).again ≡ (serving config past).again)
    (same_moment : moment (e ∷ past) ≡ moment past) (same_transfers : new.transfers ≡ slirp.transfers) where
  same_now : (serving config (e ∷ past)).now ≡ (serving config past).now
  same_now = same_moment ∙ sym (now_is config past)

  -- what is left of the answer is pending
  pub left_then : left config (e ∷ past) ≡ new.pending → OfLeft config aged slirp past → OfLeft config aged new (e ∷ past)
  left_then pending l = record {
    left = pending;
    again = same_again ∙ l.again;
    files = same_transfers ∙ l.files ∙ sym (λ i. kept_by aged false (same_now i) (same_files i).transfers);
  }

  pub left_stays : left config (e ∷ past) ≡ left config past → new.pending ≡ slirp.pending → OfLeft config aged slirp past → OfLeft config aged new (e ∷ past)
  left_stays same_left same_pending l = left_then (same_left ∙ l.left ∙ sym same_pending) l

  pub owed_stays : left config (e ∷ past) ≡ left config past → identification (e ∷ past) ≡ identification past → new.pending ≡ slirp.pending → IsOwed config aged slirp past →
      IsOwed config aged new (e ∷ past)
  owed_stays same_left same_ident same_pending owed =
      owed_as config aged slirp new (e ∷ past) same_pending same_transfers
      (owed_on config aged slirp past (e ∷ past) (record { left = same_left; files = same_files; again = same_again; now = same_now; ident = same_ident }) owed)

-- where something is still asked for
pub owed_at : (step : Step) (config : Config) (aged : Bool) (slirp : SlirpState) (past : List Entry) → OfLeft config aged slirp past → IsOwedAt step config aged slirp past
owed_at NeedsNothing config aged slirp past l = inl l
owed_at (NeedsRoom oldest errand) config aged slirp past l = l
owed_at (NeedsSocket errand) config aged slirp past l = l
owed_at (NeedsSending socket errand) config aged slirp past l = l

-- ---- the end of a turn

-- those that are over are gone
pub owed_aged : (config : Config) (slirp : SlirpState) (past : List Entry) → moment past ≡ slirp.moment → IsOwed config false slirp past
    → IsOwed config true (record slirp { transfers = are_left slirp.moment slirp.transfers }) past
owed_aged config slirp past at (inl l) = inl (record { left = l.left; again = l.again; files = λ i. are_left (sym (now_is config past ∙ at) i) (l.files i) })
owed_aged config slirp past at (inr f) = inr (record {
  said = f.said;
  left = f.left;
  may = f.may;
  some = f.some;
  pending = f.pending;
  on_its_way = λ never. cc;
  files = (λ i. are_left (sym (now_is config past ∙ at) i) (f.files i)) ∙ sym (ap (λ o. ticked (serving config past).now (not (is_some o)) (serving config past).files.transfers) (f.on_its_way refl));
})

-- a wait: what the core had sent on its way is on its way by the trace
module _ (config : Config) (slirp : SlirpState) (past : List Entry) (wants : List Want) (timeout : Option ℕ) (answer : Waited) (ready : List Want) where
  abbrev transfers_then : Bool → List Transfer
  transfers_then free = ticked (serving config past).now free (serving config past).files.transfers

  abbrev again_then : Option Said → Bool → Option Said
  again_then o free = option_or o (begun (serving config past).now free (serving config past).files.transfers)

  free_by : (o : Option Said) (frames : List (List ℕ)) → left config past ≡ frames → (serving config past).again ≡ o → is_free (ledger config past) ≡ is_out frames && not (is_some o)
  free_by o frames out again = λ i. is_out (out i) && not (is_some (again i))

  waited_left : (frames : List (List ℕ)) → slirp.pending ≡ frames → moment past ≡ slirp.moment → (slirp.pending ≡ [] → next_again slirp.moment slirp.transfers ≡ None) →
      OfLeft config true slirp past → OfLeft config false slirp (Wait wants timeout answer ready ∷ past)
  waited_left [] is at none l =
      let free : is_free (ledger config past) ≡ true = free_by None [] (l.left ∙ is) l.again in
      let nothing : next_again (serving config past).now (serving config past).files.transfers ≡ None =
      sym (next_left (serving config past).now (serving config past).files.transfers) ∙ (λ i. next_again ((now_is config past ∙ at) i) (sym l.files i)) ∙ none is in
      record {
        left = l.left;
        again = (λ i. again_then (l.again i) (free i)) ∙ ap (option_map said_again) nothing;
        files = l.files ∙ sym (ticked_none (serving config past).now true (serving config past).files.transfers nothing) ∙ sym (ap transfers_then free);
      }
  waited_left (frame ∷ frames) is at none l =
      let busy : is_free (ledger config past) ≡ false = free_by None (frame ∷ frames) (l.left ∙ is) l.again in
      record {
        left = l.left;
        again = λ i. again_then (l.again i) (busy i);
        files = l.files ∙ sym (ap transfers_then busy);
      }

  waited_file : OfFile config true slirp past → OfFile config false slirp (Wait wants timeout answer ready ∷ past)
  waited_file f =
      let s = serving config past in
      let after = serving config (Wait wants timeout answer ready ∷ past) in
      let free : is_free (ledger config past) ≡ not (is_some s.again) = ap (λ l. is_out l && not (is_some s.again)) f.left in
      let goes : option_or s.again (begun s.now (is_free (ledger config past)) s.files.transfers) ≡ Some f.said = ap (again_then s.again) free ∙ by s.again ∙ f.may in
      record {
        said = f.said;
        left = f.left;
        may = ap (λ o. option_or o (option_map said_again (next_again after.now after.files.transfers))) goes;
        some = f.some;
        pending = f.pending;
        on_its_way = λ is. goes;
        files = f.files ∙ sym (ap transfers_then free);
      }
    where
      by : (o : Option Said) → again_then o (not (is_some o)) ≡ option_or o (option_map said_again (next_again (serving config past).now (serving config past).files.transfers))
      by None = refl
      by (Some said) = refl

  pub owed_waited : moment past ≡ slirp.moment → (slirp.pending ≡ [] → next_again slirp.moment slirp.transfers ≡ None) → IsOwed config true slirp past → IsOwed config false slirp
      (Wait wants timeout answer ready ∷ past)
  owed_waited at none (inl l) = inl (waited_left slirp.pending refl at none l)
  owed_waited at none (inr f) = inr (waited_file f)

-- the moment after it
pub owed_told : (config : Config) (slirp new : SlirpState) (past later : List Entry) → left config later ≡ left config past → (serving config later).files ≡
    (serving config past).files → (serving config later).again ≡ (serving config past).again → identification later ≡ identification past
    → new.pending ≡ slirp.pending → new.transfers ≡ slirp.transfers → IsOwed config false slirp past → IsOwed config false new later
owed_told config slirp new past later same_left same_files same_again same_ident pending transfers (inl l) = inl (record {
  left = same_left ∙ l.left ∙ sym pending;
  again = same_again ∙ l.again;
  files = transfers ∙ l.files ∙ sym (ap (λ (f : Files). f.transfers) same_files);
})
owed_told config slirp new past later same_left same_files same_again same_ident pending transfers (inr f) =
    let goes = same_again ∙ f.on_its_way refl in
    inr (record {
      said = f.said;
      left = same_left ∙ f.left;
      may = ap (λ o. option_or o (option_map said_again (next_again (serving config later).now (serving config later).files.transfers))) goes;
      some = subst (λ (p : List (List ℕ)). 0 < length p) (sym pending) f.some;
      pending = pending ∙ f.pending ∙ sym (ap (λ n. frames_of config n (told_of_files config (Some f.said))) same_ident);
      on_its_way = λ is. goes;
      files = transfers ∙ f.files ∙ sym (ap (λ (f : Files). f.transfers) same_files);
    })

-- ---- a frame goes out

-- a write that begins no frame
pub unbegun : (config : Config) (octets : List ℕ) (answer : Io) (past : List Entry) → goes_out (LinkWrite octets answer) past ≡ None → SameLedger config past (LinkWrite octets answer ∷ past)
unbegun config octets answer past none = record {
  left = ap (λ o. taken o (again_frames config (identification past) (serving config past)) (left config past)) none;
  files = ap (λ o. files_sent (begins_again config (identification past) (ledger config past) o) (serving config past)) none;
  again = ap (λ o. unless_begun (begins_again config (identification past) (ledger config past) o) (serving config past).again) none;
  now = sym (now_is config past);
  ident = ap (λ o. with_datagrams o (datagrams_out past) % 2 ^ 16) none;
}

-- one that begins the first frame that is left begins no packet of a file
module _ (config : Config) (octets : List ℕ) (answer : Io) (past : List Entry) (frame : List ℕ) (rest : List (List ℕ)) (is : left config past ≡ frame ∷ rest) where
  begins_none : (o : Option (List ℕ)) → begins_again config (identification past) (ledger config past) o ≡ false
  begins_none None = refl
  begins_none (Some f) = ap (λ l. is_out l && starts_it f) is
    where
      starts_it : List ℕ → Bool
      starts_it f = starts f (again_frames config (identification past) (serving config past))

  pub files_stay : (serving config (LinkWrite octets answer ∷ past)).files ≡ (serving config past).files
  files_stay = ap (λ (b : Bool). files_sent b (serving config past)) (begins_none (goes_out (LinkWrite octets answer) past))

  pub again_stays : (serving config (LinkWrite octets answer ∷ past)).again ≡ (serving config past).again
  again_stays = ap (λ (b : Bool). unless_begun b (serving config past).again) (begins_none (goes_out (LinkWrite octets answer) past))

-- no write changes what is sought
sought_sent : (b : Bool) (s : Serving) → (files_sent b s).quest ≡ s.files.quest
sought_sent false s = refl
sought_sent true s = by s.again
  where
    next : (o : Option Transfer) → (begun_by s.now o s.files).quest ≡ s.files.quest
    next None = refl
    next (Some t) = refl

    by : (o : Option Said) → (files_begun s.now o s.files).quest ≡ s.files.quest
    by None = next (next_again s.now s.files.transfers)
    by (Some said) = refl

pub quest_written : (config : Config) (octets : List ℕ) (answer : Io) (past : List Entry) → (serving config past).files.quest ≡ SeeksNothing →
    (serving config (LinkWrite octets answer ∷ past)).files.quest ≡ SeeksNothing
quest_written config octets answer past is = sought_sent (begins_again config (identification past) (ledger config past) (goes_out (LinkWrite octets answer) past)) (serving config past) ∙ is
