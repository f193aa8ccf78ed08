-- A command is followed: what was called for it, and what is said, is what the control server comes to.
use Rattle.std.proofs.Common.{◌≡◌, ℕ, ◌+◌, ◌<◌, ◌&&◌, nat_le, not, Bool, true, false, cond, is_some, List, [], ◌∷◌, ◌++◌, find, length, Option, Some, None, option_map, refl, sym, ◌∙◌, ap, subst, if◌then◌else◌}
use Rattle.net_octets.specs.declared.Endpoint.{Endpoint}
use Rattle.std.specs.Option.{option_map_or}
use Rattle.world_face.specs.Journal.{Close, Entry}
use Rattle.world_face.specs.declared.Made.{Made}
use Rattle.world_face.specs.declared.Made.TheVariants.{Done, Failed}
use Rattle.slirp_settings.specs.Addresses.{Config, address, is_guest}
use Rattle.slirp_settings.specs.Ranges.{same_proto}
use Rattle.slirp_settings.specs.Classes.{same_endpoint}
use Rattle.slirp_settings.specs.declared.Forward.{Forward}
use Rattle.slirp_settings.specs.declared.Proto.{Proto}
use Rattle.slirp_settings.specs.declared.Proto.TheVariants.{Tcp}
use Rattle.rules_forward.specs.Adding.{Adds, AddsBy, fault_of, opening_of}
use Rattle.rules_forward.specs.Opened.{Opened, is_at, is_taken, most_forwards, socket_at, socket_of, without}
use Rattle.rules_forward.specs.declared.FwdFault.{FwdFault}
use Rattle.rules_forward.specs.declared.FwdFault.TheVariants.{Taken, BadGuest, Full, Refused}
use Rattle.stream_netdev.specs.State.{LinkState}
use Rattle.slirp_core.specs.Added.{MayAdd, MayRemove, closed_at, number_after}
use Rattle.spec_trace.specs.Sockets.{is_among, open_sockets}
use Rattle.spec_run.proofs.OpenSockets.{closes_open}
use Rattle.slirp_core.specs.Holds.{after, as_given}
use Rattle.slirp_core.specs.State.{SlirpState}
use Rattle.serve_loop.specs.Served.{ServiceState}
use Rattle.serve_loop.specs.Turns.{AttendsNow}
use Rattle.rules_control.specs.Apart.{is_controls, without_control}
use Rattle.rules_control.specs.Talk.{Talk, with_left}
use Rattle.spec_control.specs.ControlServer.{ControlServer, Reads, adds_unless, control_server, is_its_own, removes, with_changes}
use Rattle.spec_control.specs.Replies.{added_text, removed_text, reply_line}
use Rattle.rules_control.specs.declared.Command.TheVariants.{Add, Remove}
use Rattle.control_loop.specs.Standing.{Asks, AttendsOn, Stands, cause_against, with_lists}
use Rattle.control_loop.proofs.Added.{has_closed, has_just, has_open}
use Rattle.control_loop.proofs.Answering.{added, removed, said}

-- the host alone refuses
never_refused : (config : Config) (at : Endpoint) (f : Forward) (forwards : List Opened) → cause_against config at f forwards ≡ Some Refused → ⊥
never_refused config at f forwards is = by (same_proto f.proto Tcp && same_endpoint f.host at) (is_taken f.proto f.host forwards) (not (is_guest config (address f.guest))) (nat_le most_forwards (length forwards)) is
  where
    by : (a b c d : Bool) → (if a then Some Taken else (if b then Some Taken else (if c then Some BadGuest else (if d then Some Full else None)))) ≡ Some Refused → ⊥
    by true b c d is = cc
    by false true c d is = cc
    by false false true d is = cc
    by false false false true is = cc
    by false false false false is = cc

number_kept : (cause : FwdFault) (n : ℕ) → (cause ≡ Refused → ⊥) → number_after (Some cause) n ≡ n
number_kept Taken n asked = refl
number_kept BadGuest n asked = refl
number_kept Full n asked = refl
number_kept Refused n asked = absurd (asked refl)

-- none is taken out of a list that has none there
none_there : (proto : Proto) (host : Endpoint) (list : List Opened) → find (is_at proto host) list ≡ None → without proto host list ≡ list
none_there proto host [] none = refl
none_there proto host (o ∷ list) none = by (is_at proto host o) none (none_there proto host list)
  where
    by : (b : Bool) → cond b (Some o) (find (is_at proto host) list) ≡ None → (find (is_at proto host) list ≡ None → without proto host list ≡ list)
        → cond (not b) (o ∷ without proto host list) (without proto host list) ≡ o ∷ list
    by true none behind = cc
    by false none behind = ap (λ l. o ∷ l) (behind none)

not_found : (o : Option Opened) → option_map socket_of o ≡ None → o ≡ None
not_found None none = refl
not_found (Some x) none = cc

module _ (talk : Talk) (old new : ServiceState) (read : Reads) (config : Config) (count : ℕ) (some : 0 < count) (past : List Entry) (given : config ≡ as_given config) (its : old.slirp.config ≡ config) where
  -- ---- an add

  module _ (at : Endpoint) (f : Forward) (own_port : config.control ≡ Some at) (asks : Asks (Add f) talk old.slirp old.link read config count past) (off : is_controls old.slirp.number ≡ false) (link : new.link ≡ old.link) where
    abbrev d : ControlServer
    d = asks.before

    -- by the control server's settings and list the same speaks against it
    same_cause : (if is_its_own (with_changes config d) f then Some Taken else fault_of (with_changes config d) f d.forwards) ≡ cause_against old.slirp.config at f old.slirp.forwards
    same_cause =
        ap (λ o. if same_proto f.proto Tcp && option_map_or (same_endpoint f.host) o false then Some Taken else fault_of (with_changes config d) f d.forwards) own_port
        ∙ ap (λ l. cause_against config at f l) asks.agrees.forwards ∙ ap (λ k. cause_against k at f old.slirp.forwards) (sym its)

    is_by : (cause : Option FwdFault) → cause_against old.slirp.config at f old.slirp.forwards ≡ cause → control_server read config past ≡ adds_unless cause f d
    is_by cause is = asks.is ∙ ap (λ o. adds_unless o f d) (same_cause ∙ is)

    pub add_led : (fault : Option FwdFault) (made : List Entry) → new.slirp ≡ record old.slirp { number = number_after fault old.slirp.number; forwards = new.slirp.forwards }
        → Adds (cause_against old.slirp.config at f old.slirp.forwards) f old.slirp.number old.slirp.forwards new.slirp.forwards fault made
        → AttendsOn (λ settings. MayAdd settings old.slirp f) old new made
        → Stands [] (with_left (reply_line (added_text fault)) talk) new.slirp new.link read config count (made ++ past)
    add_led fault made slirp adds attends = by (cause_against old.slirp.config at f old.slirp.forwards) refl adds
      where
        by : (cause : Option FwdFault) → cause_against old.slirp.config at f old.slirp.forwards ≡ cause → Adds cause f old.slirp.number old.slirp.forwards new.slirp.forwards fault made
            → Stands [] (with_left (reply_line (added_text fault)) talk) new.slirp new.link read config count (made ++ past)
        by (Some cause) is adds =
            let kept : new.slirp ≡ old.slirp =
            slirp ∙ ap (λ o. record old.slirp { number = number_after o old.slirp.number; forwards = new.slirp.forwards }) adds.0
            ∙ ap (λ n. record old.slirp { number = n; forwards = new.slirp.forwards }) (number_kept cause old.slirp.number (λ refused. never_refused old.slirp.config at f old.slirp.forwards (is ∙ ap Some refused)))
            ∙ ap (λ l. record old.slirp { forwards = l }) adds.1 in
            subst (λ l. Stands [] (with_left (reply_line (added_text fault)) talk) new.slirp new.link read config count (l ++ past)) (sym adds.2)
            (subst (λ o. Stands [] (with_left (reply_line (added_text o)) talk) new.slirp new.link read config count past) (sym adds.0)
            (subst (λ (s : SlirpState). Stands [] (with_left (reply_line (added_text (Some cause))) talk) s new.link read config count past) (sym kept)
            (subst (λ (l : LinkState). Stands [] (with_left (reply_line (added_text (Some cause))) talk) old.slirp l read config count past) (sym link)
            (said read config count past d (reply_line (added_text (Some cause))) asks.control asks.reported (is_by (Some cause) is) asks.agrees))))
        by None is adds =
            let answer = adds.0 in
            subst (λ l. Stands [] (with_left (reply_line (added_text fault)) talk) new.slirp new.link read config count (l ++ past)) (sym adds.1)
            (subst (λ (l : LinkState). Stands [] (with_left (reply_line (added_text fault)) talk) new.slirp l read config count (adds_entry answer ∷ past)) (sym link)
            (added read config count past d given asks.control asks.reported asks.agrees f answer new.slirp (is_by None is) off
            (λ settings on attended. subst (λ (l : LinkState). AttendsNow settings (after count) false new.slirp l (adds_entry answer ∷ without_control past)) link
            (subst (λ l. AttendsNow settings (after count) false new.slirp new.link (l ++ without_control past)) adds.1
            (attends settings count some (λ none. on) (without_control past) attended)))
            (ap (λ (s : SlirpState). s.number) slirp ∙ asked_number answer fault adds.2) fault adds.2))
          where
            adds_entry : Made → Entry
            adds_entry answer = opening_of f.proto old.slirp.number f.host answer

            asked_number : (answer : Made) (fault : Option FwdFault) → AddsBy answer f old.slirp.number old.slirp.forwards new.slirp.forwards fault → number_after fault old.slirp.number ≡ old.slirp.number + 1
            asked_number Done fault adds = ap (λ o. number_after o old.slirp.number) adds.0
            asked_number Failed fault adds = ap (λ o. number_after o old.slirp.number) adds.0

  -- ---- a removal

  module _ (proto : Proto) (host : Endpoint) (asks : Asks (Remove proto host) talk old.slirp old.link read config count past) (off : (n : ℕ) → is_among n (open_sockets (without_control past)) ≡ true → is_controls n ≡ false)
      (slirp : new.slirp ≡ record old.slirp { forwards = without proto host old.slirp.forwards }) (link : new.link ≡ old.link) where
    its_control_server : control_server read config past ≡ removes (socket_at proto host old.slirp.forwards) proto host asks.before
    its_control_server = asks.is ∙ ap (λ l. removes (socket_at proto host l) proto host asks.before) asks.agrees.forwards

    pub remove_led : (made : List Entry) → made ≡ closed_at (socket_at proto host old.slirp.forwards) → AttendsOn (λ settings. MayRemove settings old.slirp proto host) old new made
        → Stands [] (with_left (reply_line (removed_text (is_some (socket_at proto host old.slirp.forwards)))) talk) new.slirp new.link read config count (made ++ past)
    remove_led made is attends = subst (λ l. Stands [] (with_left (reply_line (removed_text (is_some (socket_at proto host old.slirp.forwards)))) talk) new.slirp new.link read config count (l ++ past)) (sym is)
        (by (socket_at proto host old.slirp.forwards) refl)
      where
        some_number : (n m : ℕ) → ◌≡◌ {A = Option ℕ} (Some n) (Some m) → n ≡ m
        some_number n m same = cc

        brings_it : (socket : ℕ) → socket_at proto host old.slirp.forwards ≡ Some socket → (settings : Config) → is_among socket settings.removed ≡ true
            → AttendsNow settings (after count) false old.slirp old.link (without_control past) → AttendsNow settings (after count) false new.slirp old.link (Close socket ∷ without_control past)
        brings_it socket there settings taken attended =
            subst (λ (l : LinkState). AttendsNow settings (after count) false new.slirp l (Close socket ∷ without_control past)) link
            (subst (λ l. AttendsNow settings (after count) false new.slirp new.link (l ++ without_control past)) (is ∙ ap closed_at there)
            (attends settings count some (λ n at. ap (λ m. is_among m settings.removed) (some_number n socket (sym at ∙ there)) ∙ taken) (without_control past) attended))

        closes_it : (socket : ℕ) → socket_at proto host old.slirp.forwards ≡ Some socket → is_among socket (open_sockets (without_control past)) ≡ true
        closes_it socket there =
            let settings = with_lists config asks.before.added (asks.before.removed ++ (socket ∷ [])) in
            closes_open settings (without_control past) socket
            (brings_it socket there settings (has_closed config asks.before.added asks.before.removed socket settings (has_just config asks.before.added (asks.before.removed ++ (socket ∷ [])) given))
            (asks.agrees.network settings (has_open config asks.before.added asks.before.removed socket settings (has_just config asks.before.added (asks.before.removed ++ (socket ∷ [])) given)))).0.lawful.0

        by : (o : Option ℕ) → socket_at proto host old.slirp.forwards ≡ o → Stands [] (with_left (reply_line (removed_text (is_some o))) talk) new.slirp new.link read config count (closed_at o ++ past)
        by None none =
            let kept : new.slirp ≡ old.slirp = slirp ∙ ap (λ l. record old.slirp { forwards = l }) (none_there proto host old.slirp.forwards (not_found (find (is_at proto host) old.slirp.forwards) none)) in
            subst (λ (s : SlirpState). Stands [] (with_left (reply_line (removed_text false)) talk) s new.link read config count past) (sym kept)
            (subst (λ (l : LinkState). Stands [] (with_left (reply_line (removed_text false)) talk) old.slirp l read config count past) (sym link)
            (said read config count past asks.before (reply_line (removed_text false)) asks.control asks.reported (its_control_server ∙ ap (λ o. removes o proto host asks.before) none) asks.agrees))
        by (Some socket) there =
            subst (λ (l : LinkState). Stands [] (with_left (reply_line (removed_text true)) talk) new.slirp l read config count (Close socket ∷ past)) (sym link)
            (removed read config count past asks.before given asks.control asks.reported asks.agrees proto host socket new.slirp (its_control_server ∙ ap (λ o. removes o proto host asks.before) there)
            (off socket (closes_it socket there))
            (brings_it socket there) (ap (λ (s : SlirpState). s.forwards) slirp) (ap (λ (s : SlirpState). s.number) slirp))
