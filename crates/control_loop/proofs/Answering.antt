-- A line is answered: what the control server comes to is what the connection and the network have afterwards.
use Rattle.std.proofs.Common.{◌≡◌, ℕ, ◌+◌, ◌<◌, ◌≤◌, ◌==◌, ◌&&◌, ◌||◌, nat_le, not, Bool, true, false, cond, List, [], ◌∷◌, ◌++◌, Option, Some, None, refl, sym, ◌∙◌, ap, subst, arith}
use Rattle.std.proofs.lemmas.Bool.Decides.{nat_tests}
use Rattle.net_octets.specs.declared.Endpoint.{Endpoint}
use Rattle.poll_list.specs.declared.Want.{Want}
use Rattle.world_face.specs.Journal.{Call, Entry, Follows, call_of, CallClose, Close}
use Rattle.world_face.specs.declared.Made.{Made}
use Rattle.world_face.specs.declared.Made.TheVariants.{Done, Failed}
use Rattle.slirp_settings.specs.Addresses.{Config, forward_on}
use Rattle.slirp_settings.specs.declared.Forward.{Forward}
use Rattle.slirp_settings.specs.declared.Proto.{Proto}
use Rattle.slirp_settings.specs.declared.Proto.TheVariants.{Tcp, Udp}
use Rattle.rules_forward.specs.Adding.{AddsBy, opening_of}
use Rattle.rules_forward.specs.Opened.{without}
use Rattle.rules_forward.specs.declared.FwdFault.{FwdFault}
use Rattle.rules_forward.specs.declared.FwdFault.TheVariants.{Refused}
use Rattle.spec_trace.specs.Shape.{opening_of as opening_call}
use Rattle.spec_trace.specs.Sockets.{is_among, next_number, open_sockets}
use Rattle.spec_run.specs.Laws.{Lawful, May}
use Rattle.spec_run.proofs.Bools.{among_last, among_without, same}
use Rattle.spec_run.proofs.OpenSockets.{closes_open, gone_by, open_below}
use Rattle.stream_netdev.specs.State.{LinkState}
use Rattle.slirp_core.specs.Holds.{after, as_given}
use Rattle.slirp_core.specs.State.{SlirpState}
use Rattle.serve_loop.specs.Turns.{AttendsNow}
use Rattle.rules_control.specs.Apart.{is_controls, is_on_control, seen as seen_of, without_control}
use Rattle.rules_control.specs.Talk.{Talk, after_listen, deaf, hung_up, listener, with_left}
use Rattle.spec_control.specs.ControlServer.{Awaited, ControlServer, Nothing, Opening, Shutting, Reads, after_entry, awaits, control_server, is_peer, opened, removes, says, shut, with_changes, with_talk}
use Rattle.spec_control.specs.Laws.{MayControl, MayWhere, reported}
use Rattle.spec_control.specs.Replies.{added_text, removed_text, reply_line}
use Rattle.spec_control.proofs.Staying.{OwnPeer, no_peer, own_peer}
use Rattle.control_loop.specs.Standing.{Agrees, HasAll, Stands, with_lists}
use Rattle.control_loop.proofs.Added.{added_new, and_one, has_closed, has_fewer, has_just, has_open, later_none}

-- ---- nothing is called

module _ (config : Config) (count : ℕ) (talk : Talk) (slirp : SlirpState) (link : LinkState) (seen : List Entry) where
  -- another word is said
  pub agrees_with : (d : ControlServer) (new : Talk) → Agrees config d count talk slirp link seen → Agrees config (with_talk new d) count new slirp link seen
  agrees_with d new agrees = record {
    calm = agrees.calm;
    talk = refl;
    forwards = agrees.forwards;
    network = agrees.network;
    later = agrees.later;
    gone = agrees.gone;
  }

pub stands_as : {items : List Want} {talk : Talk} {slirp : SlirpState} {link : LinkState} (read : Reads) (config : Config) (count : ℕ) (past : List Entry) (d : ControlServer)
    → Follows (MayControl read config) past → reported past ≡ items → control_server read config past ≡ d → Agrees config d count talk slirp link (without_control past)
    → Stands items talk slirp link read config count past
stands_as {items} {talk} {slirp} {link} read config count past d control left is agrees = record {
  control = control;
  reported = left;
  agrees = subst (λ (x : ControlServer). Agrees config x count talk slirp link (without_control past)) (sym is) agrees;
}

-- so it stands where something is said and nothing is called
pub said : {talk : Talk} {slirp : SlirpState} {link : LinkState} (read : Reads) (config : Config) (count : ℕ) (past : List Entry) (d : ControlServer) (text : List ℕ)
    → Follows (MayControl read config) past → reported past ≡ [] → control_server read config past ≡ says text d → Agrees config d count talk slirp link (without_control past)
    → Stands [] (with_left text talk) slirp link read config count past
said {talk} {slirp} {link} read config count past d text control none is agrees =
    stands_as read config count past (says text d) control none is
    (subst (λ (t : Talk). Agrees config (says text d) count (with_left text t) slirp link (without_control past)) agrees.talk
    (agrees_with config count talk slirp link (without_control past) d (with_left text d.talk) agrees))

-- ---- a port of the host is opened

-- a call that is awaited comes
pub awaited_may : (read : Reads) (config : Config) (past : List Entry) (call : Call) (a : Awaited) → (control_server read config past).awaited ≡ a → MayWhere a read config past call → MayControl read config past call
awaited_may read config past call a is may = subst (λ x. MayWhere x read config past call) (sym is) may

-- the control server after the entry that opens it
opened_control_server : (read : Reads) (config : Config) (seen : List Entry) (proto : Proto) (n : ℕ) (host : Endpoint) (answer : Made) (f : Forward) (d : ControlServer) → is_controls n ≡ false
    → after_entry read config seen (opening_of proto n host answer) (awaits (Opening f) d) ≡ opened answer f n (awaits (Opening f) d)
opened_control_server read config seen Tcp n host answer f d off = ap (λ b. cond b (with_talk (after_listen answer d.talk) (awaits (Opening f) d)) (opened answer f n (awaits (Opening f) d))) off
opened_control_server read config seen Udp n host answer f d off = refl

opening_off : (proto : Proto) (n : ℕ) (host : Endpoint) (answer : Made) → is_controls n ≡ false → is_on_control (opening_of proto n host answer) ≡ false
opening_off Tcp n host answer off = off
opening_off Udp n host answer off = off

opening_seen : (proto : Proto) (n : ℕ) (host : Endpoint) (answer : Made) → seen_of (opening_of proto n host answer) ≡ opening_of proto n host answer
opening_seen Tcp n host answer = refl
opening_seen Udp n host answer = refl

pub no_wait_opens : (proto : Proto) (n : ℕ) (host : Endpoint) (answer : Made) (past : List Entry) → reported (opening_of proto n host answer ∷ past) ≡ reported past
no_wait_opens Tcp n host answer past = refl
no_wait_opens Udp n host answer past = refl

call_opens : (f : Forward) (proto : Proto) (n : ℕ) (answer : Made) → call_of (opening_of proto n f.host answer) ≡ opening_call proto n f
call_opens f Tcp n answer = refl
call_opens f Udp n answer = refl

-- what the network sees of one entry more that isn't the control's
pub seen_next : (e : Entry) (past : List Entry) → is_on_control e ≡ false → seen_of e ≡ e → without_control (e ∷ past) ≡ e ∷ without_control past
seen_next e past off same = ap (λ b. cond b (without_control past) (seen_of e ∷ without_control past)) off ∙ ap (λ x. x ∷ without_control past) same

-- what is gone stays so
gone_on : (settings : Config) (n : ℕ) (e : Entry) (seen : List Entry) → May settings seen (call_of e) → (n < next_number seen) × (is_among n (open_sockets seen) ≡ false)
    → (n < next_number (e ∷ seen)) × (is_among n (open_sockets (e ∷ seen)) ≡ false)
gone_on settings n e seen may gone =
    let then = gone_by settings n e seen may (record { drawn = gone.0; shut = gone.1 }) in
    (then.drawn, then.shut)

gone_then : (settings : Config) (socket : ℕ) (seen : List Entry) → Lawful settings (Close socket ∷ seen)
    → (socket < next_number (Close socket ∷ seen)) × (is_among socket (open_sockets (Close socket ∷ seen)) ≡ false)
gone_then settings socket seen lawful = (
  open_below settings seen lawful.1 socket (closes_open settings seen socket lawful.0),
  among_without socket socket (open_sockets seen) ∙ ap (λ b. not b && is_among socket (open_sockets seen)) (same socket),
)

module _ {talk : Talk} {slirp : SlirpState} {link : LinkState} (read : Reads) (config : Config) (count : ℕ) (past : List Entry) (d : ControlServer) (given : config ≡ as_given config)
    (control : Follows (MayControl read config) past) (none : reported past ≡ []) (agrees : Agrees config d count talk slirp link (without_control past)) where
  abbrev saw : List Entry
  saw = without_control past

  -- the settings with just what was added and taken back so far
  pub attends : AttendsNow (with_lists config d.added d.removed) (after count) false slirp link saw
  attends = agrees.network (with_lists config d.added d.removed) (has_just config d.added d.removed given)

  pub next_is : next_number saw ≡ slirp.number
  next_is = attends.0.sockets.number

  module _ (f : Forward) (answer : Made) (new : SlirpState) (is : control_server read config past ≡ awaits (Opening f) d) (off : is_controls slirp.number ≡ false)
      (brings : (settings : Config) → forward_on settings slirp.number ≡ Some f → AttendsNow settings (after count) false slirp link saw
      → AttendsNow settings (after count) false new link (opening_of f.proto slirp.number f.host answer ∷ saw))
      (number : new.number ≡ slirp.number + 1) where
    abbrev opens : Entry
    opens = opening_of f.proto slirp.number f.host answer

    abbrev more : List (ℕ × Forward)
    more = and_one slirp.number f d.added

    network_on : (settings : Config) → HasAll config more d.removed settings → AttendsNow settings (after count) false new link (opens ∷ saw)
    network_on settings has =
        brings settings (has.forwards slirp.number f (added_new config d.added d.removed slirp.number f (agrees.later slirp.number (omega arith))))
        (agrees.network settings (has_fewer config d.added d.removed slirp.number f settings has))

    may_open : May (with_lists config more d.removed) saw (call_of opens)
    may_open = (network_on (with_lists config more d.removed) (has_just config more d.removed given)).0.lawful.0

    later_on : (m : ℕ) → new.number ≤ m → forward_on (with_lists config more d.removed) m ≡ None
    later_on m above = later_none config d.added d.removed slirp.number f slirp.number refl agrees.later m (omega (arith, above, number))

    agrees_by : (made : Made) (fault : Option FwdFault) → answer ≡ made → AddsBy made f slirp.number slirp.forwards new.forwards fault
        → Agrees config (opened made f slirp.number (awaits (Opening f) d)) count (with_left (reply_line (added_text fault)) talk) new link (opens ∷ saw)
    agrees_by Done fault same adds = record {
      calm = refl;
      talk = ap (λ t. with_left (reply_line (added_text None)) t) agrees.talk ∙ ap (λ o. with_left (reply_line (added_text o)) talk) (sym adds.0);
      forwards = ap (λ l. l ++ ((f, slirp.number) ∷ [])) agrees.forwards ∙ sym adds.1;
      network = network_on;
      later = later_on;
      gone = λ n among. gone_on (with_lists config more d.removed) n opens saw may_open (agrees.gone n among);
    }
    agrees_by Failed fault same adds = record {
      calm = refl;
      talk = ap (λ t. with_left (reply_line (added_text (Some Refused))) t) agrees.talk ∙ ap (λ o. with_left (reply_line (added_text o)) talk) (sym adds.0);
      forwards = agrees.forwards ∙ sym adds.1;
      network = network_on;
      later = later_on;
      gone = λ n among. gone_on (with_lists config more d.removed) n opens saw may_open (agrees.gone n among);
    }

    pub added : (fault : Option FwdFault) → AddsBy answer f slirp.number slirp.forwards new.forwards fault
        → Stands [] (with_left (reply_line (added_text fault)) talk) new link read config count (opens ∷ past)
    added fault adds =
        stands_as read config count (opens ∷ past) (opened answer f slirp.number (awaits (Opening f) d))
        (awaited_may read config past (call_of opens) (Opening f) (ap (λ (x : ControlServer). x.awaited) is) (call_opens f f.proto slirp.number answer ∙ ap (λ n. opening_call f.proto n f) (sym next_is)), control)
        (no_wait_opens f.proto slirp.number f.host answer past ∙ none)
        (ap (λ x. after_entry read (with_changes config x) saw opens x) is ∙ opened_control_server read (with_changes config (awaits (Opening f) d)) saw f.proto slirp.number f.host answer f d off)
        (subst (λ l. Agrees config (opened answer f slirp.number (awaits (Opening f) d)) count (with_left (reply_line (added_text fault)) talk) new link l)
        (sym (seen_next opens past (opening_off f.proto slirp.number f.host answer off) (opening_seen f.proto slirp.number f.host answer))) (agrees_by answer fault refl adds))

  -- ---- one is taken back

  module _ (proto : Proto) (host : Endpoint) (socket : ℕ) (new : SlirpState) (is : control_server read config past ≡ removes (Some socket) proto host d) (off : is_controls socket ≡ false)
      (brings : (settings : Config) → is_among socket settings.removed ≡ true → AttendsNow settings (after count) false slirp link saw
      → AttendsNow settings (after count) false new link (Close socket ∷ saw))
      (forwards : new.forwards ≡ without proto host slirp.forwards) (number : new.number ≡ slirp.number) where
    abbrev fewer : List ℕ
    fewer = d.removed ++ (socket ∷ [])

    network_without : (settings : Config) → HasAll config d.added fewer settings → AttendsNow settings (after count) false new link (Close socket ∷ saw)
    network_without settings has =
        brings settings (has_closed config d.added d.removed socket settings has) (agrees.network settings (has_open config d.added d.removed socket settings has))

    lawful_without : Lawful (with_lists config d.added fewer) (Close socket ∷ saw)
    lawful_without = (network_without (with_lists config d.added fewer) (has_just config d.added fewer given)).0.lawful

    gone_without : (n : ℕ) → is_among n fewer ≡ true → (n < next_number (Close socket ∷ saw)) × (is_among n (open_sockets (Close socket ∷ saw)) ≡ false)
    gone_without n among = by (is_among n d.removed) (n == socket) refl refl (sym (among_last n socket d.removed) ∙ among)
      where
        by : (a b : Bool) → is_among n d.removed ≡ a → (n == socket) ≡ b → (a || b) ≡ true → (n < next_number (Close socket ∷ saw)) × (is_among n (open_sockets (Close socket ∷ saw)) ≡ false)
        by true b old here some = gone_on (with_lists config d.added fewer) n (Close socket) saw lawful_without.0 (agrees.gone n old)
        by false true old here some =
            let it = gone_then (with_lists config d.added fewer) socket saw lawful_without in
            let is_it : socket ≡ n = grind (arith, nat_tests, here) in
            (subst (λ m. m < next_number (Close socket ∷ saw)) is_it it.0, subst (λ m. is_among m (open_sockets (Close socket ∷ saw)) ≡ false) is_it it.1)
        by false false old here some = cc

    -- the control server after the close
    abbrev waits_for_close : ControlServer
    waits_for_close = removes (Some socket) proto host d

    shut_control_server : shut socket waits_for_close ≡ awaits Nothing waits_for_close
    shut_control_server =
        ap (λ b. cond b (awaits Nothing (with_talk (deaf waits_for_close.talk) waits_for_close)) (cond (is_peer socket d.talk.peer) (awaits Nothing (with_talk (hung_up waits_for_close.talk) waits_for_close)) (awaits Nothing waits_for_close)))
        (not_the_listener listener socket off)
        ∙ ap (λ b. cond b (awaits Nothing (with_talk (hung_up waits_for_close.talk) waits_for_close)) (awaits Nothing waits_for_close)) (no_peer socket d.talk.peer own off)
      where
        not_the_listener : (l n : ℕ) → nat_le l n ≡ false → (n == l) ≡ false
        not_the_listener l n less = grind (arith, nat_tests, less)

        own : OwnPeer d.talk.peer
        own = subst (λ (x : ControlServer). OwnPeer x.talk.peer) is (own_peer read config past)

    pub removed : Stands [] (with_left (reply_line (removed_text true)) talk) new link read config count (Close socket ∷ past)
    removed =
        stands_as read config count (Close socket ∷ past) (awaits Nothing waits_for_close)
        (awaited_may read config past (CallClose socket) (Shutting socket) (ap (λ (x : ControlServer). x.awaited) is) refl, control)
        none
        (ap (λ x. shut socket x) is ∙ shut_control_server)
        (subst (λ l. Agrees config (awaits Nothing waits_for_close) count (with_left (reply_line (removed_text true)) talk) new link l) (sym (seen_next (Close socket) past off refl))
        (record {
          calm = refl;
          talk = ap (λ t. with_left (reply_line (removed_text true)) t) agrees.talk;
          forwards = ap (without proto host) agrees.forwards ∙ sym forwards;
          network = network_without;
          later = λ n above. agrees.later n (omega (arith, above, number));
          gone = gone_without;
        }))
