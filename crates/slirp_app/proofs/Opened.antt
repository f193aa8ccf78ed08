-- The calls of `serve`.
use Rattle.std.proofs.Common.{◌≡◌, ℕ, List, [], ◌∷◌, ◌++◌, Option, refl, sym, subst}
use Rattle.world_face.specs.Journal.{Entry, Place, LinkOpen}
use Rattle.world_face.specs.Tells.{Telling, Answers, Makes}
use Rattle.world_face.specs.declared.Made.TheVariants.{Done, Failed}
use Rattle.world_face.proofs.Telling.{makes_as, makes_one, makes_then}
use Rattle.slirp_settings.specs.Addresses.{Config}
use Rattle.slirp_app.specs.Serving.{ComesTo, IsRecorded, IsRefused, IsUnopened, OpensAt, Records, RecordsAt, Runs}
use Rattle.slirp_app.specs.Statuses.{outcome_of}
use Rattle.app_edges.specs.declared.outcome.Outcome.{Outcome}
use Rattle.app_edges.specs.declared.outcome.Outcome.TheVariants.{LinkFault}
use Rattle.control_loop.specs.Runs.{IsRun}
use Rattle.serve_loop.specs.declared.service.End.{End}

-- the calls of a run, and what its end comes to
pub runs : (a b : Telling) (config : Config) (end : End) (outcome : Outcome) → Makes a b (IsRun config end) → outcome ≡ outcome_of end → Makes a b (ComesTo config outcome)
runs a b config end outcome calls told = makes_as a b (IsRun config end) (ComesTo config outcome) calls (λ made ran. record { end = end; ran = ran; is = told })

-- the link was opened, and some calls were made
behind : {P Q : List Entry → Type 0} (a b c : Telling) (at : Place) → Answers a b (LinkOpen at Done) → Makes b c P → ((run : List Entry) → P run → Q (run ++ LinkOpen at Done ∷ [])) → Makes a c Q
behind {P} {Q} a b c at first calls here =
    makes_then a b c (λ made. made ≡ LinkOpen at Done ∷ []) P Q
    (makes_one a b (LinkOpen at Done) (λ made. made ≡ LinkOpen at Done ∷ []) first (λ allowed. refl))
    calls
    (λ before run is holds. subst (λ l. Q (run ++ l)) (sym is) (here run holds))

pub opened : (a b c : Telling) (at : Place) (outcome : Outcome) (config : Config) → Answers a b (LinkOpen at Done) → Makes b c (ComesTo config outcome) → Makes a c (OpensAt config at outcome)
opened a b c at outcome config first calls = behind a b c at first calls (λ run holds. Runs run refl holds)

pub opened_recorded : (a b c : Telling) (at : Place) (outcome : Outcome) (config : Config) (old new : Option (List ℕ)) → Answers a b (LinkOpen at Done) → Makes b c
    (IsRecorded config outcome old new) → Makes a c (RecordsAt config at outcome old new)
opened_recorded a b c at outcome config old new first calls = behind a b c at first calls (λ run holds. Records run refl holds)

-- it couldn't be opened
pub refused : (a b : Telling) (config : Config) (at : Place) → Answers a b (LinkOpen at Failed) → Makes a b (OpensAt config at LinkFault)
refused a b config at first = makes_one a b (LinkOpen at Failed) (OpensAt config at LinkFault) first (λ allowed. IsRefused refl refl)

pub refused_recorded : (a b : Telling) (config : Config) (at : Place) (old : Option (List ℕ)) → Answers a b (LinkOpen at Failed) → Makes a b (RecordsAt config at LinkFault old old)
refused_recorded a b config at old first = makes_one a b (LinkOpen at Failed) (RecordsAt config at LinkFault old old) first (λ allowed. IsUnopened refl refl refl)
