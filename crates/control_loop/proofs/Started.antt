-- The beginning of a run: the ports of the settings are opened, then the control's listener, and then the clock is asked. Or the host refuses one of them.
use Rattle.std.proofs.Common.{◌≡◌, ℕ, zero, suc, ◌+◌, ◌≤◌, ◌==◌, ◌||◌, nat_le, false, is_some, List, [], ◌∷◌, ◌++◌, length, map, reverse, slice_get, Option, Some, None, refl, sym, ◌∙◌, ap, subst, arith, append-nil}
use Rattle.std.proofs.lemmas.Bool.Decides.{nat_tests}
use Rattle.std.proofs.lemmas.List.{length-append}
use Rattle.std.specs.List.{list_any}
use Rattle.net_octets.specs.declared.Endpoint.{Endpoint}
use Rattle.world_face.specs.Journal.{AreAllowed, CallListen, Close, Entry, Follows, Listen, Wait}
use Rattle.world_face.specs.declared.Made.{Made}
use Rattle.world_face.specs.declared.Made.TheVariants.{Done, Failed}
use Rattle.slirp_settings.specs.Addresses.{Config, forward_on}
use Rattle.slirp_settings.specs.declared.Forward.{Forward}
use Rattle.spec_trace.specs.Moments.{waits}
use Rattle.spec_trace.specs.Shape.{Opening as OpeningPorts, Over, Refused, phase}
use Rattle.spec_trace.specs.Sockets.{next_number, open_sockets}
use Rattle.std.specs.Option.{option_or}
use Rattle.poll_list.specs.Picks.{as_list}
use Rattle.poll_list.specs.declared.Want.{Want}
use Rattle.spec_run.specs.Laws.{Finished, Lawful}
use Rattle.spec_duties.specs.Duties.{Dutiful}
use Rattle.spec_duties.proofs.Ended.{dutiful_unwaited, refused_unwaited}
use Rattle.stream_netdev.specs.State.{LinkState}
use Rattle.slirp_core.specs.Forwards.{with_numbers}
use Rattle.rules_forward.specs.Opened.{forward_sockets}
use Rattle.slirp_core.specs.Holds.{Opens, Ran, after, as_given}
use Rattle.slirp_core.specs.State.{SlirpState}
use Rattle.serve_loop.specs.Ends.{end_of}
use Rattle.serve_loop.specs.Turns.{AttendsNow}
use Rattle.serve_loop.specs.declared.service.End.TheVariants.{ControlRefused, ListenRefused}
use Rattle.rules_control.specs.Apart.{without_control}
use Rattle.rules_control.specs.Talk.{after_listen, listener, silent}
use Rattle.control.specs.Stretches.{AreSeen, IsItem, last_reported}
use Rattle.control.proofs.Apartness.{is_wait, passed_as_they_are}
use Rattle.spec_control.specs.ControlServer.{AreOffControl, ControlServer, Nothing, Reads, at_first, by_control, control_server, numbered_from, with_changes, with_talk}
use Rattle.spec_control.specs.Laws.{MayControl, is_its_listen, reported, wants_of}
use Rattle.control_loop.specs.Runs.{IsRefused, RunsWith, Serves}
use Rattle.control_loop.specs.Standing.{Agrees, Stands, with_lists}
use Rattle.control_loop.proofs.Answering.{awaited_may, stands_as}
use Rattle.control_loop.proofs.Keeping.{Settled}
use Rattle.control_loop.proofs.Off.{keeps_off, rise}
use Rattle.control_loop.proofs.Opening.{IsEarly, all_early}
use Rattle.control_loop.proofs.Stretch.{IsLed, all_off, led}
use Rattle.control_loop.proofs.Turned.{led_by, phase_as}

-- the settings as they were given
abbrev plain : Config → Config
plain config = with_lists config [] []

-- a stretch without a wait is made as it is seen
none_waits : (seen : List Entry) → waits seen ≡ 0 → list_any is_wait seen ≡ false
none_waits [] none = refl
none_waits (Wait wants timeout answer ready ∷ seen) none = absurd (omega (arith, none))
none_waits (_ ∷ seen) none = none_waits seen none

-- ---- calls before all others

module _ (read : Reads) (config : Config) (given : config ≡ as_given config) (made seen : List Entry) (are : AreSeen None made seen) (allowed : AreAllowed seen) (lawful : Lawful (plain config) seen)
    (early : IsEarly (phase (plain config) seen)) (unwaited : waits seen ≡ 0) (few : next_number seen ≤ listener) where
  same : seen ++ [] ≡ seen
  same = append-nil seen

  lawful_so : Lawful (plain config) (seen ++ [])
  lawful_so = subst (Lawful (plain config)) (sym same) lawful

  first_led : IsLed read config (at_first config) None [] tt refl refl refl refl made seen
  first_led =
      let off = keeps_off (plain config) seen [] lawful_so (subst (Dutiful (plain config)) (sym same) (dutiful_unwaited (plain config) seen unwaited)) allowed (omega (arith, few, ap next_number same)) in
      led read config (at_first config) None [] tt refl refl refl refl made seen are off.0 off.1
      (all_early false (is_some config.control) (plain config) seen [] lawful_so (subst (λ l. IsEarly (phase (plain config) l)) (sym same) early))
      (omega (arith, unwaited, ap waits same)) tt

  made_same : made ++ [] ≡ made
  made_same = append-nil made

  pub control_first : Follows (MayControl read config) made
  control_first = subst (Follows (MayControl read config)) made_same first_led.control

  pub control_server_first : control_server read config made ≡ at_first config
  control_server_first = ap (control_server read config) (sym made_same) ∙ first_led.stays

  pub seen_first : without_control made ≡ seen
  seen_first = ap without_control (sym made_same) ∙ first_led.saw ∙ same

  pub reported_first : reported made ≡ []
  reported_first = ap reported (sym made_same) ∙ first_led.reports ∙ none_reported made seen are
    where
      none_reported : (made seen : List Entry) → AreSeen None made seen → last_reported None made ≡ []
      none_reported [] seen are = refl
      none_reported (Wait wants timeout answer ready ∷ made) seen are = refl
      none_reported (e ∷ made) [] are = absurd are
      none_reported (_ ∷ made) (s ∷ seen) are = none_reported made seen are.1

  pub off_first : AreOffControl made
  off_first = all_off None made seen tt are (keeps_off (plain config) seen [] lawful_so (subst (Dutiful (plain config)) (sym same) (dutiful_unwaited (plain config) seen unwaited)) allowed
      (omega (arith, few, ap next_number same))).0

  pub same_first : made ≡ seen
  same_first = passed_as_they_are None made seen are (none_waits seen unwaited)

-- ---- the host refused a port

pub port_refused : (read : Reads) (config : Config) → config ≡ as_given config → (place : ℕ) (made seen : List Entry) → AreSeen None made seen → AreAllowed seen → Ran (plain config) (Over (Refused place)) seen
    → next_number seen ≤ listener → RunsWith read config (ListenRefused place) made
port_refused read config given place made seen are allowed ran few =
    let early = subst IsEarly ran.2 tt in
    let none = refused_unwaited (plain config) seen place ran.0 (sym ran.2) in
    let its = control_server_first read config given made seen are allowed ran.0 early none few in
    let saw = seen_first read config given made seen are allowed ran.0 early none few in
    let same_settings : by_control read config made ≡ plain config = ap (with_changes config) its in
    Serves (record {
      control = control_first read config given made seen are allowed ran.0 early none few;
      lawful = subst (λ k. Lawful k (without_control made)) (sym same_settings) (subst (Lawful (plain config)) (sym saw) ran.0);
      dutiful = subst (λ k. Dutiful k (without_control made)) (sym same_settings) (subst (Dutiful (plain config)) (sym saw) (dutiful_unwaited (plain config) seen none));
      finished = subst (λ k. Finished k (without_control made)) (sym same_settings) (subst (Finished (plain config)) (sym saw) ran.1);
      unawaited = ap (λ (x : ControlServer). x.awaited) its;
      deaf = ap (λ (x : ControlServer). x.talk.listening) its;
      alone = ap (λ (x : ControlServer). x.talk.peer) its;
    })
    (ap (end_of config) (ran.2 ∙ phase_as config [] [] seen) ∙ ap (λ l. end_of config (phase config l)) (sym saw))

-- ---- all ports are open, and the control listens or doesn't

numbered_as : (n : ℕ) (forwards : List Forward) → numbered_from n forwards ≡ with_numbers n forwards
numbered_as n [] = refl
numbered_as n (f ∷ forwards) = ap (λ l. (f, n) ∷ l) (numbered_as (n + 1) forwards)

past_end : (forwards : List Forward) (n : ℕ) → length forwards ≤ n → slice_get forwards n ≡ None
past_end [] n more = refl
past_end (f ∷ forwards) zero more = absurd (omega (arith, more))
past_end (f ∷ forwards) (suc n) more = past_end forwards n (omega (arith, more))

no_listen : (made : List Entry) → AreOffControl made → list_any is_its_listen made ≡ false
no_listen [] off = refl
no_listen (Listen socket at answer ∷ made) off = ap (λ b. b || list_any is_its_listen made) (not_it listener socket off.0) ∙ no_listen made off.1
  where
    not_it : (l n : ℕ) → nat_le l n ≡ false → (n == l) ≡ false
    not_it l n less = grind (arith, nat_tests, less)
no_listen (_ ∷ made) off = no_listen made off.1

nothing_left : (forwards done left : List Forward) (count : ℕ) → forwards ≡ done ++ left → count ≡ length done → count ≡ length forwards → left ≡ []
nothing_left forwards done [] count all many count_is = refl
nothing_left forwards done (f ∷ left) count all many count_is = absurd (omega (arith, many, count_is, ap length all, length-append done (f ∷ left)))

module _ (read : Reads) (config : Config) (at : Endpoint) (given : config ≡ as_given config) (own_place : config.control ≡ Some at) (slirp : SlirpState) (link : LinkState) (made seen : List Entry) (are : AreSeen None made seen)
    (allowed : AreAllowed seen) (opens : (settings : Config) → config ≡ as_given settings → Opens settings (length settings.forwards) slirp link seen) (few : slirp.number ≤ 32) where
  now_open : Opens (plain config) (length config.forwards) slirp link seen
  now_open = opens (plain config) given

  none_left : now_open.left ≡ []
  none_left = nothing_left config.forwards now_open.done now_open.left (length config.forwards) now_open.all now_open.many refl

  all_done : config.forwards ≡ now_open.done
  all_done = now_open.all ∙ ap (λ l. now_open.done ++ l) none_left ∙ append-nil now_open.done

  its_phase : phase (plain config) seen ≡ OpeningPorts (length config.forwards) []
  its_phase = now_open.opening ∙ ap (OpeningPorts (length config.forwards)) none_left

  early : IsEarly (phase (plain config) seen)
  early = subst IsEarly (sym its_phase) tt

  unwaited : waits seen ≡ 0
  unwaited = now_open.clock.counted

  drawn : next_number seen ≤ listener
  drawn = let is = now_open.sockets.number in omega (arith, is, few)

  its_control_server : control_server read config made ≡ at_first config
  its_control_server = control_server_first read config given made seen are allowed now_open.lawful early unwaited drawn

  saw : without_control made ≡ seen
  saw = seen_first read config given made seen are allowed now_open.lawful early unwaited drawn

  abbrev listens : Made → Entry
  listens answer = Listen listener at answer

  may_listen : MayControl read config made (CallListen listener at)
  may_listen = awaited_may read config made (CallListen listener at) Nothing (ap (λ (x : ControlServer). x.awaited) its_control_server)
      (record {
        number = refl;
        configured = own_place;
        opening = (length config.forwards, ap (λ x. phase (with_changes config x) (without_control made)) its_control_server ∙ ap (phase (plain config)) saw ∙ its_phase);
        first = no_listen made (off_first read config given made seen are allowed now_open.lawful early unwaited drawn);
      })

  -- the host refused the control
  pub control_refused : (more : List Entry) → more ≡ map Close (reverse (forward_sockets slirp.forwards)) → RunsWith read config ControlRefused (more ++ (listens Failed ∷ made))
  control_refused more is = IsRefused (record {
    before = seen;
    at = at;
    is = ap (λ l. l ++ (listens Failed ∷ made)) (is ∙ ap (λ l. map Close (reverse l)) (sym now_open.are_open))
        ∙ ap (λ l. map Close (reverse (open_sockets seen)) ++ (listens Failed ∷ l)) (same_first read config given made seen are allowed now_open.lawful early unwaited drawn);
    configured = own_place;
    lawful = subst (λ k. Lawful k seen) (sym given_plain) now_open.lawful;
    opening = sym (phase_as config [] [] seen) ∙ its_phase;
  }) refl
    where
      given_plain : config ≡ plain config
      given_plain = given

  -- it listens, and the clock is asked
  module _ (new : SlirpState) (new_link : LinkState) (item : Option Want) (own : IsItem item) (wanted : as_list item ≡ wants_of (after_listen Done silent)) (more later : List Entry) (are_more : AreSeen item more later)
      (allowed_more : AreAllowed later) (attends : (settings : Config) → config ≡ as_given settings → AttendsNow settings (after 0) false new new_link (later ++ seen)) (few_yet : new.number ≤ 32)
      (forwards : new.forwards ≡ slirp.forwards) where
    abbrev d : ControlServer
    d = with_talk (after_listen Done silent) (at_first config)

    abbrev so_far : List Entry
    so_far = listens Done ∷ made

    control_server_so_far : control_server read config so_far ≡ d
    control_server_so_far = ap (λ (x : ControlServer). with_talk (after_listen Done x.talk) x) its_control_server

    none_later : (n : ℕ) → length config.forwards ≤ n → forward_on (plain config) n ≡ None
    none_later n above = ap (λ o. option_or o None) (past_end config.forwards n above)

    settled_at_first : Settled (plain config) (without_control so_far)
    settled_at_first = record {
      later = λ n above. none_later n (let is = now_open.sockets.number in let many = now_open.number in let same_number = ap next_number saw in omega (arith, is, many, same_number, above));
      gone = λ n is. cc;
    }

    just_attends : AttendsNow (plain config) (after 0) false new new_link (later ++ seen)
    just_attends = attends (plain config) given

    reported_so : reported so_far ≡ []
    reported_so = reported_first read config given made seen are allowed now_open.lawful early unwaited drawn

    its_led : IsLed read config d item so_far own wanted refl control_server_so_far reported_so more later
    its_led =
        led_by read config d item so_far own wanted refl control_server_so_far reported_so (may_listen, control_first read config given made seen are allowed now_open.lawful early unwaited drawn) (sym (ap is_some own_place)) settled_at_first
        more later are_more allowed_more (subst (λ l. Lawful (plain config) (later ++ l)) (sym saw) just_attends.0.lawful) (subst (λ l. Dutiful (plain config) (later ++ l)) (sym saw) just_attends.1.0)
        (let none = just_attends.0.clock.counted in let same_seen = ap (λ l. waits (later ++ l)) saw in omega (arith, none, same_seen))
        (let is = just_attends.0.sockets.number in let same_seen = ap (λ l. next_number (later ++ l)) saw in omega (arith, is, same_seen, few_yet))

    pub begun : Stands (last_reported item more) (after_listen Done silent) new new_link read config 0 (more ++ so_far)
    begun =
        stands_as read config 0 (more ++ so_far) d its_led.control its_led.reports its_led.stays
        (subst (λ l. Agrees config d 0 (after_listen Done silent) new new_link l) (sym (its_led.saw ∙ ap (λ l. later ++ l) saw))
        (record {
          calm = refl;
          talk = refl;
          forwards = numbered_as 0 config.forwards ∙ ap (with_numbers 0) all_done ∙ sym now_open.forwards ∙ sym forwards;
          network = λ settings has. attends settings has.given;
          later = λ n above. none_later n (let drawn_now = just_attends.0.sockets.number in let rising = rise later seen in let is = now_open.sockets.number in let many = now_open.number in omega (arith, drawn_now, rising, is, many, above));
          gone = λ n is. cc;
        }))
