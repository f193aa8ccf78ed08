-- At the end of a run the open sockets are closed by rising number, those of flows among them.
use Rattle.std.proofs.Common.{◌≡◌, ℕ, ◌==◌, ◌||◌, Bool, true, false, List, ◌∷◌, MatchOption, Option, Some, None, IsTrue, if◌then◌else◌, inl, refl, sym, ◌∙◌, ap, subst}
use Rattle.world_face.specs.Journal.{Entry, Close, CallClose}
use Rattle.slirp_settings.specs.Addresses.{Config}
use Rattle.spec_trace.specs.Moments.{moment}
use Rattle.spec_trace.specs.Shape.{is_ended, is_over, is_working, phase}
use Rattle.spec_trace.specs.Sockets.{first, is_among, next_number, open_sockets}
use Rattle.spec_flow.specs.Close.{finds_no_guest, host_failed, is_done}
use Rattle.spec_flow.specs.Flow.{is_closed}
use Rattle.spec_flow.specs.Lawful.{May as MayOfOne}
use Rattle.spec_flows.specs.Book.{book, scene}
use Rattle.spec_flows.specs.Flows.{Flow, closing, comes_directly, comes_last, flow_of, guest_is_known, is_it, is_numbered}
use Rattle.spec_flows.specs.Laws.{MayShut, flow_settings}
use Rattle.spec_flows.specs.SegmentVerdicts.{due_for_flows}
use Rattle.spec_flows.proofs.Lists.{found_number, each_found}
use Rattle.spec_run.specs.Laws.{Lawful, May, MayDue, is_closing, parts}
use Rattle.spec_run.proofs.Bools.{and_both, same}
use Rattle.spec_run.proofs.Deeds.{FlowsAskNothing, closes}
use Rattle.spec_run.proofs.OpenSockets.{among_first, at_the_end, least_first}
use Rattle.sim_flows.proofs.Sockets.{InStep, each_in_step}
use Rattle.sim_flows.proofs.Options.{true_false}
use Rattle.sim_halves.proofs.Acts.{may_close}

-- a flow that is closed has no open socket
pub closed_has_none : (config : Config) (past : List Entry) (n : ℕ) (f : Flow) → Lawful config past → flow_of n (book config past).flows ≡ Some f → is_closed f.story ≡ true →
    is_among n (open_sockets past) ≡ false
closed_has_none config past n f lawful is shut =
    subst (λ m. is_among m (open_sockets past) ≡ false) (found_number n (book config past).flows f is)
    ((each_found (InStep past) (is_numbered n) (book config past).flows f (each_in_step config past lawful) is).shut shut)

-- ---- the end

false_true : {b : Bool} → b ≡ false → b ≡ true → ⊥
false_true none is = true_false (sym is ∙ none)

last_of_all : (a e h g : Bool) → e ≡ true → IsTrue (a || e || h || g)
last_of_all true e h g is = refl
last_of_all false true h g is = refl
last_of_all false false h g is = cc

module _ (config : Config) (past : List Entry) (lawful : Lawful config past) (ended : is_ended config past ≡ true) (n : ℕ) (least : first (open_sockets past) ≡ Some n) where
  open_yet : is_among n (open_sockets past) ≡ true
  open_yet = among_first (open_sockets past) n least

  still_open : (f : Flow) → flow_of n (book config past).flows ≡ Some f → is_closed f.story ≡ false
  still_open f is = by (is_closed f.story) refl
    where
      by : (b : Bool) → is_closed f.story ≡ b → b ≡ false
      by true shut = absurd (false_true (closed_has_none config past n f lawful is shut) open_yet)
      by false shut = refl

  is_last : (f : Flow) → flow_of n (book config past).flows ≡ Some f → comes_last (scene config past) f ≡ true
  is_last f is =
      ap (λ b. is_it f.number (if b then first (open_sockets past) else None)) ended
      ∙ ap (is_it f.number) least
      ∙ ap (λ m. n == m) (found_number n (book config past).flows f is)
      ∙ same n

  flow_may : (f : Flow) → flow_of n (book config past).flows ≡ Some f → MayOfOne (flow_settings config) f.story (moment past) (closing (scene config past) (book config past).came f)
  flow_may f is =
      may_close (flow_settings config) f.story (moment past) (comes_directly (book config past).came f) (comes_last (scene config past) f) (guest_is_known (scene config past) f)
      (inl (inl (last_of_all (is_done f.story) (comes_last (scene config past) f) (host_failed f.story) (finds_no_guest (guest_is_known (scene config past) f) (moment past) f.story) (is_last f is))))
      (still_open f is)

  may_shut : (o : Option Flow) → flow_of n (book config past).flows ≡ o → MayShut (flow_settings config) (scene config past) (book config past).came o
  may_shut None is = tt
  may_shut (Some f) is = flow_may f is

  -- the least open socket may be closed, whatever it is for
  pub may_close_least : MayDue config past (CallClose n) → (is_working (phase config past) || is_over (phase config past)) ≡ true → FlowsAskNothing config past → May config past (CallClose n)
  may_close_least due place nothing =
      closes config past n due place
      (and_both (is_among n (open_sockets past)) _ open_yet (at_the_end (is_closing config past) (parts config past n) (is_ended config past) (is_it n (first (open_sockets past))) ended
      (least_first (open_sockets past) n least)))
      (record {
        due = subst (λ o. MatchOption o (Unit {0}) (λ d. CallClose n ≡ d)) (sym nothing.due) tt;
        touches = may_shut (flow_of n (book config past).flows) refl;
        must = tt;
        at_once = λ number f found closes. absurd (nothing.stay number f found closes);
      })

  -- and then no flow asks for a call
  pub none_asks : due_for_flows config (book config (Close n ∷ past)) (next_number (Close n ∷ past)) ≡ None
  none_asks = refl
