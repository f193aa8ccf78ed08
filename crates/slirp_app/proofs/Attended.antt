-- A link that is served: what an untroubled run comes to.
use Rattle.std.proofs.Common.{refl, ◌≡◌, ℕ, List, [], ◌∷◌, ◌++◌, Option, ◌⊎◌, inl, inr, ap, subst, sym, ◌∙◌}
use Rattle.std.proofs.lemmas.List.{append_cancel_right}
use Rattle.world_face.specs.Journal.{AreAllowed, Entry, LinkOpen, Place}
use Rattle.world_face.specs.Tells.{Makes, Telling}
use Rattle.world_face.specs.declared.Made.TheVariants.{Done as MadeDone, Failed as MadeFailed}
use Rattle.slirp_settings.specs.Addresses.{Config}
use Rattle.command_words.specs.declared.Tap.{Tap}
use Rattle.command_words.specs.declared.Tap.TheVariants.{Off, Record, Capture}
use Rattle.app_edges.specs.Statuses.{code_of}
use Rattle.app_edges.specs.declared.outcome.Outcome.{Outcome}
use Rattle.app_edges.specs.declared.outcome.Outcome.TheVariants.{Done, SinkFault}
use Rattle.slirp_app.specs.Doing.{ServesLink}
use Rattle.slirp_app.specs.Serving.{CapturesAt, ComesTo, HasNoMemory, IsGiven, IsRefused, IsUnopened, OpensAt, Records, RecordsAt, Runs, Serves, ServesAt, TapsAt, Took, TookNot}
use Rattle.slirp_app.specs.Untroubled.{IsUntroubledBehind, Untroubled}
use Rattle.slirp_app.proofs.Fitted.{allowed_later}
use Rattle.slirp_app.proofs.Following.{is_served}

-- nothing, or a link that couldn't be opened, is no run behind one that was
none_made : (x : Entry) (run : List Entry) → [] ≡ run ++ x ∷ [] → ⊥
none_made x [] is = cc
none_made x (e ∷ run) is = cc

not_refused : (at : Place) (run : List Entry) → LinkOpen at MadeFailed ∷ [] ≡ run ++ LinkOpen at MadeDone ∷ [] → ⊥
not_refused at [] is = cc
not_refused at (e ∷ []) is = cc
not_refused at (e ∷ f ∷ run) is = cc

module _ (config : Config) (at : Place) (made : List Entry) (allowed : AreAllowed made) (u : IsUntroubledBehind config at made) where
  of_run : (run : List Entry) (came : Outcome) → made ≡ run ++ LinkOpen at MadeDone ∷ [] → ComesTo config came run → came ≡ Done
  of_run run came is ran =
      is_served config came run ran (allowed_later run (LinkOpen at MadeDone ∷ []) (subst AreAllowed is allowed))
      (subst (Untroubled config) (append_cancel_right u.run run (LinkOpen at MadeDone ∷ []) (sym u.is ∙ is)) u.untroubled)

  of_opened : (came : Outcome) → OpensAt config at came made → came ≡ Done
  of_opened came (Runs run is ran) = of_run run came is ran
  of_opened came (IsRefused is fault) = absurd (not_refused at u.run (sym is ∙ u.is))

  of_given : (octets : List ℕ) (came outcome : Outcome) (old new : Option (List ℕ)) → IsGiven octets came outcome old new → came ≡ Done → (outcome ≡ Done) ⊎ (outcome ≡ SinkFault)
  of_given octets came outcome old new (Took put is) ended = inl (is ∙ ended)
  of_given octets came outcome old new (TookNot is) ended = inr is

  of_record : (outcome : Outcome) (old new : Option (List ℕ)) → RecordsAt config at outcome old new made → (outcome ≡ Done) ⊎ (outcome ≡ SinkFault)
  of_record outcome old new (Records run is recorded) = of_given _ recorded.done outcome old new recorded.given (of_run run recorded.done is recorded.ran)
  of_record outcome old new (IsUnopened is fault same) = absurd (not_refused at u.run (sym is ∙ u.is))

  of_tap : (tap : Tap) (outcome : Outcome) (old new : Option (List ℕ)) → TapsAt config at tap outcome old new made → (outcome ≡ Done) ⊎ (outcome ≡ SinkFault)
  of_tap Off outcome old new taps = inl (of_opened outcome taps.0)
  of_tap Record outcome old new taps = of_record outcome old new taps
  of_tap Capture outcome old new taps = of_given _ taps.done outcome old new taps.given (of_opened taps.done taps.opens)

  of_served : (tap : Tap) (outcome : Outcome) (old new : Option (List ℕ)) → ServesAt config at tap outcome old new made → (outcome ≡ Done) ⊎ (outcome ≡ SinkFault)
  of_served tap outcome old new (Serves taps) = of_tap tap outcome old new taps
  of_served tap outcome old new (HasNoMemory nothing memory same) = absurd (none_made (LinkOpen at MadeDone) u.run (sym nothing ∙ u.is))

  of_plain : (outcome : Outcome) (old new : Option (List ℕ)) → ServesAt config at Off outcome old new made → outcome ≡ Done
  of_plain outcome old new (Serves taps) = of_opened outcome taps.0
  of_plain outcome old new (HasNoMemory nothing memory same) = absurd (none_made (LinkOpen at MadeDone) u.run (sym nothing ∙ u.is))

module _ (config : Config) (at : Place) (status : ℕ) (live live_new : Telling) (old new : Option (List ℕ)) (Said : Outcome → Type 0) where
  pub plain_done : ServesLink config at Off status live live_new old new Said → Makes live live_new (λ made. IsUntroubledBehind config at made → status ≡ 0)
  plain_done serves =
      let makes = serves.makes in
      record {
        made = makes.made;
        same = makes.same;
        allowed = makes.allowed;
        told = makes.told;
        counted = makes.counted;
        holds = λ u. serves.is ∙ ap code_of (of_plain config at makes.made makes.allowed u serves.outcome old new makes.holds);
      }

  pub tapped_done : (tap : Tap) → ServesLink config at tap status live live_new old new Said
      → Makes live live_new (λ made. IsUntroubledBehind config at made → (status ≡ 0) ⊎ (status ≡ 12))
  tapped_done tap serves =
      let makes = serves.makes in
      record {
        made = makes.made;
        same = makes.same;
        allowed = makes.allowed;
        told = makes.told;
        counted = makes.counted;
        holds = λ u. coded (of_served config at makes.made makes.allowed u tap serves.outcome old new makes.holds);
      }
    where
      coded : (serves.outcome ≡ Done) ⊎ (serves.outcome ≡ SinkFault) → (status ≡ 0) ⊎ (status ≡ 12)
      coded (inl is) = inl (serves.is ∙ ap code_of is)
      coded (inr is) = inr (serves.is ∙ ap code_of is)
