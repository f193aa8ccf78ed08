-- The newest entry takes a flow out of use: its socket was closed, or the reset that it owed went out. It is in TIME-WAIT or is gone.
use Rattle.std.proofs.Common.{◌≡◌, ℕ, ◌==◌, true, false, List, [], ◌∷◌, ◌++◌, Option, Some, None, is_some, if◌then◌else◌, sym, ◌∙◌, ap, subst}
use Rattle.world_face.specs.Journal.{Entry}
use Rattle.slirp_settings.specs.Addresses.{Config}
use Rattle.spec_flow.specs.Close.{in_time_wait_since}
use Rattle.spec_flows.specs.Book.{after_close, time_wait, turned, scene, book}
use Rattle.spec_flows.specs.Doings.{Shuts, doing}
use Rattle.spec_flows.specs.Flows.{Flow, TimeWait, flow_of, is_among_time_waits}
use Rattle.sim_flows.specs.Only.{IsOf, AreOf, StaysInUse}
use Rattle.sim_flows.proofs.InTimeWait.{rests_apart, stays_out}

-- what a close makes of the TIME-WAITs
pub closed_rests : (now : ℕ) (f : Flow) (m : ℕ) (time_waits : List TimeWait) → in_time_wait_since f.story ≡ Some m → after_close now (Some f) time_waits ≡ time_waits ++ (time_wait f.number now ∷ [])
closed_rests now f m time_waits is = ap (λ (o : Option ℕ). if is_some o then time_waits ++ (time_wait f.number now ∷ []) else time_waits) is

module _ (config : Config) (number : ℕ) (past made : List Entry) (e : Entry) (g : Flow)
    (are : AreOf config number past made) (in_use : StaysInUse config number past made)
    (awake : (f : Flow) → (f.number == number) ≡ true → is_among_time_waits (book config past).time_waits (Some f) ≡ false)
    (is : flow_of number (book config (e ∷ made ++ past)).flows ≡ Some g) where
  before : (book config (made ++ past)).time_waits ≡ (book config past).time_waits
  before = stays_out config number past made are in_use awake

  -- where it isn't in TIME-WAIT the TIME-WAITs stay
  pub rests_without : IsOf number (book config (made ++ past)) (doing config (made ++ past) e) → in_time_wait_since g.story ≡ None → (book config (e ∷ made ++ past)).time_waits ≡ (book config past).time_waits
  rests_without of_it none =
      rests_apart config (scene config (made ++ past)) number (book config (made ++ past)) (doing config (made ++ past) e) of_it
      (λ f same. ap (λ (r : List TimeWait). is_among_time_waits r (Some f)) before ∙ awake f same)
      (λ f found. ap (λ (h : Flow). in_time_wait_since h.story) (one f found) ∙ none) ∙ before
    where
      some_same : (x y : Flow) → Some x ≡ Some y → x ≡ y
      some_same x y same = cc

      one : (f : Flow) → flow_of number (turned config (scene config (made ++ past)) (doing config (made ++ past) e) (book config (made ++ past))).flows ≡ Some f → f ≡ g
      one f found = some_same f g (sym found ∙ is)

  -- where it does it is the last of them
  pub rests_with : doing config (made ++ past) e ≡ Shuts number → (m : ℕ) → in_time_wait_since g.story ≡ Some m
      → (book config (e ∷ made ++ past)).time_waits ≡ (book config past).time_waits ++ (time_wait g.number (scene config (made ++ past)).moment ∷ [])
  rests_with shuts m since =
      let found : flow_of number (turned config (scene config (made ++ past)) (Shuts number) (book config (made ++ past))).flows ≡ Some g =
      subst (λ d. flow_of number (turned config (scene config (made ++ past)) d (book config (made ++ past))).flows ≡ Some g) shuts is in
      ap (λ d. (turned config (scene config (made ++ past)) d (book config (made ++ past))).time_waits) shuts
      ∙ ap (λ o. after_close (scene config (made ++ past)).moment o (book config (made ++ past)).time_waits) found
      ∙ closed_rests (scene config (made ++ past)).moment g m (book config (made ++ past)).time_waits since
      ∙ ap (λ (r : List TimeWait). r ++ (time_wait g.number (scene config (made ++ past)).moment ∷ [])) before
