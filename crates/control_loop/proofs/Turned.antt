-- A turn of the network, and what closes its sockets: what the control server has come to stays, and each call may come where there is a control.
use Rattle.std.proofs.Common.{◌≡◌, ℕ, ◌+◌, ◌≤◌, true, false, is_some, List, [], ◌∷◌, ◌++◌, Option, Some, None, refl, sym, ◌∙◌, ap, subst, arith}
use Rattle.std.specs.Option.{option_map_or}
use Rattle.poll_list.specs.Picks.{as_list}
use Rattle.poll_list.specs.declared.Want.{Want}
use Rattle.world_face.specs.Frames.{ending, partial}
use Rattle.world_face.specs.Journal.{AreAllowed, Entry, Follows}
use Rattle.net_octets.specs.declared.Endpoint.{Endpoint}
use Rattle.slirp_settings.specs.Addresses.{Config}
use Rattle.slirp_settings.specs.declared.Forward.{Forward}
use Rattle.spec_trace.specs.Moments.{waits}
use Rattle.spec_trace.specs.Shape.{phase, phase_after}
use Rattle.spec_trace.specs.Sockets.{next_number}
use Rattle.spec_run.specs.Laws.{Finished, Lawful}
use Rattle.spec_duties.specs.Duties.{Dutiful}
use Rattle.stream_netdev.specs.State.{LinkState}
use Rattle.slirp_core.specs.Holds.{after, as_given}
use Rattle.slirp_core.specs.State.{SlirpState}
use Rattle.serve_loop.specs.Ends.{end_of}
use Rattle.serve_loop.specs.Turns.{AttendsNow}
use Rattle.serve_loop.specs.declared.service.End.{End}
use Rattle.rules_control.specs.Apart.{without_control}
use Rattle.rules_control.specs.Talk.{Talk, listener, want_of}
use Rattle.control.specs.Stretches.{AreSeen, IsItem, last_reported}
use Rattle.spec_control.specs.ControlServer.{ControlServer, Nothing, Reads, by_control, control_server, with_changes}
use Rattle.spec_control.specs.Laws.{MayControl, reported, wants_of}
use Rattle.control_loop.specs.Standing.{Agrees, Closes, HasAll, Stands, with_lists}
use Rattle.control_loop.proofs.Added.{has_just}
use Rattle.control_loop.proofs.Answering.{stands_as}
use Rattle.control_loop.proofs.Keeping.{Settled, keep_on, settled_yet}
use Rattle.control_loop.proofs.Off.{keeps_off}
use Rattle.control_loop.proofs.Stretch.{IsLed, led}

-- what the control waits for, as a list
wants_as_list : (t : Talk) (o : Option Want) → want_of t ≡ o → as_list o ≡ wants_of t
wants_as_list t None is = ap (λ o. option_map_or (λ want. want ∷ []) o []) (sym is)
wants_as_list t (Some want) is = ap (λ o. option_map_or (λ want. want ∷ []) o []) (sym is)

-- the phase of a run doesn't look at what was added
pub phase_as : (config : Config) (added : List (ℕ × Forward)) (removed : List ℕ) (past : List Entry) → phase (with_lists config added removed) past ≡ phase config past
phase_as config added removed [] = refl
phase_as config added removed (e ∷ past) = ap (phase_after e (ending e (partial past))) (phase_as config added removed past)

module _ (read : Reads) (config : Config) (d : ControlServer) (item : Option Want) (past : List Entry) (own : IsItem item) (wanted : as_list item ≡ wants_of d.talk) (calm : d.awaited ≡ Nothing)
    (here : control_server read config past ≡ d) (none : reported past ≡ []) (control : Follows (MayControl read config) past) (listens : d.talk.listening ≡ is_some config.control)
    (settled : Settled (with_lists config d.added d.removed) (without_control past)) where
  -- some calls of the network that are lawful and as they must be by the settings with just what was added and taken back, and draw few numbers
  pub led_by : (made seen : List Entry) → AreSeen item made seen → AreAllowed seen → Lawful (with_lists config d.added d.removed) (seen ++ without_control past)
      → Dutiful (with_lists config d.added d.removed) (seen ++ without_control past) → waits (seen ++ without_control past) ≤ waits (without_control past) + 1
      → next_number (seen ++ without_control past) ≤ listener → IsLed read config d item past own wanted calm here none made seen
  led_by made seen are allowed lawful dutiful once few =
      let off = keeps_off (with_lists config d.added d.removed) seen (without_control past) lawful dutiful allowed few in
      led read config d item past own wanted calm here none made seen are off.0 off.1
      (keep_on d.talk.listening (is_some config.control) (with_lists config d.added d.removed) seen (without_control past) lawful listens settled).keep once control

-- ---- where a turn began

module _ {talk : Talk} {slirp : SlirpState} {link : LinkState} (read : Reads) (config : Config) (at : Endpoint) (count : ℕ) (past : List Entry) (given : config ≡ as_given config) (own_place : config.control ≡ Some at)
    (listening : talk.listening ≡ true) (stands : Stands [] talk slirp link read config count past) where
  abbrev d : ControlServer
  d = control_server read config past

  abbrev before : List Entry
  before = without_control past

  abbrev just : Config
  just = with_lists config d.added d.removed

  attended : AttendsNow just (after count) false slirp link before
  attended = stands.agrees.network just (has_just config d.added d.removed given)

  settled : Settled just before
  settled = record {
    later = λ n above. stands.agrees.later n (omega (arith, above, attended.0.sockets.number));
    gone = λ n is. let it = stands.agrees.gone n is in record { drawn = it.0; shut = it.1 };
  }

  listens : d.talk.listening ≡ is_some config.control
  listens = ap (λ (t : Talk). t.listening) stands.agrees.talk ∙ listening ∙ sym (ap is_some own_place)

  module _ (item : Option Want) (own : IsItem item) (is_want : want_of talk ≡ item) where
    wanted : as_list item ≡ wants_of d.talk
    wanted = wants_as_list talk item is_want ∙ ap wants_of (sym stands.agrees.talk)

    stretch : (made seen : List Entry) → AreSeen item made seen → AreAllowed seen → Lawful just (seen ++ before) → Dutiful just (seen ++ before) → waits (seen ++ before) ≤ waits before + 1
        → next_number (seen ++ before) ≤ listener → IsLed read config d item past own wanted stands.agrees.calm refl stands.reported made seen
    stretch made seen are allowed lawful dutiful once few =
        led_by read config d item past own wanted stands.agrees.calm refl stands.reported stands.control listens settled made seen are allowed lawful dutiful once few

    -- the turn goes on
    module _ (new : SlirpState) (new_link : LinkState) (made seen : List Entry) (are : AreSeen item made seen) (allowed : AreAllowed seen)
        (attends : (settings : Config) → HasAll config d.added d.removed settings → AttendsNow settings (after (count + 1)) false new new_link (seen ++ before)) (few : new.number ≤ listener)
        (forwards : new.forwards ≡ slirp.forwards) where
      abbrev now_just : AttendsNow just (after (count + 1)) false new new_link (seen ++ before)
      now_just = attends just (has_just config d.added d.removed given)

      its_stretch : IsLed read config d item past own wanted stands.agrees.calm refl stands.reported made seen
      its_stretch =
          stretch made seen are allowed now_just.0.lawful now_just.1.0 (let so_far = attended.0.clock.counted in let so_many = now_just.0.clock.counted in omega (arith, so_far, so_many))
          (let drawn = now_just.0.sockets.number in omega (arith, drawn, few))

      settled_then : Settled just (seen ++ before)
      settled_then = settled_yet just seen before now_just.0.lawful settled

      pub goes_on : Stands (last_reported item made) talk new new_link read config (count + 1) (made ++ past)
      goes_on =
          stands_as read config (count + 1) (made ++ past) d its_stretch.control its_stretch.reports its_stretch.stays
          (subst (λ l. Agrees config d (count + 1) talk new new_link l) (sym its_stretch.saw)
          (record {
            calm = stands.agrees.calm;
            talk = stands.agrees.talk;
            forwards = stands.agrees.forwards ∙ sym forwards;
            network = attends;
            later = λ n above. settled_then.later n (let drawn = now_just.0.sockets.number in omega (arith, drawn, above));
            gone = λ n is. let it = settled_then.gone n is in (it.drawn, it.shut);
          }))

    -- it ended the run
    pub ends : (end : End) (made seen : List Entry) → AreSeen item made seen → AreAllowed seen → Lawful just (seen ++ before) → Dutiful just (seen ++ before) → Finished just (seen ++ before)
        → end ≡ end_of just (phase just (seen ++ before)) → waits (seen ++ before) ≤ waits before + 1 → next_number (seen ++ before) ≤ listener → Closes end talk read config (made ++ past)
    ends end made seen are allowed lawful dutiful finished is once few =
        let it = stretch made seen are allowed lawful dutiful once few in
        let same : by_control read config (made ++ past) ≡ just = ap (λ x. with_changes config x) it.stays in
        record {
          control = it.control;
          calm = ap (λ (x : ControlServer). x.awaited) it.stays ∙ stands.agrees.calm;
          talk = ap (λ (x : ControlServer). x.talk) it.stays ∙ stands.agrees.talk;
          lawful = subst (λ k. Lawful k (without_control (made ++ past))) (sym same) (subst (Lawful just) (sym it.saw) lawful);
          dutiful = subst (λ k. Dutiful k (without_control (made ++ past))) (sym same) (subst (Dutiful just) (sym it.saw) dutiful);
          finished = subst (λ k. Finished k (without_control (made ++ past))) (sym same) (subst (Finished just) (sym it.saw) finished);
          ends = is ∙ ap (end_of config) (phase_as config d.added d.removed (seen ++ before)) ∙ ap (λ l. end_of config (phase config l)) (sym it.saw);
        }
