-- The control's own sockets are closed: the run is one with a control.
use Rattle.std.proofs.Common.{◌≡◌, ℕ, ◌<◌, ◌==◌, true, false, cond, List, [], ◌∷◌, ◌++◌, Option, Some, None, refl, sym, ◌∙◌, ap, subst, arith}
use Rattle.std.proofs.lemmas.Bool.Decides.{nat_tests}
use Rattle.world_face.specs.Journal.{CallClose, Close, Entry}
use Rattle.slirp_settings.specs.Addresses.{Config}
use Rattle.spec_trace.specs.Shape.{phase}
use Rattle.spec_run.specs.Laws.{Finished, Lawful}
use Rattle.spec_duties.specs.Duties.{Dutiful}
use Rattle.serve_loop.specs.Ends.{end_of}
use Rattle.serve_loop.specs.declared.service.End.{End}
use Rattle.rules_control.specs.Apart.{is_controls, without_control}
use Rattle.rules_control.specs.Talk.{Talk, all_closed, closed_if, deaf, hung_up, listener, peer_closed}
use Rattle.spec_control.specs.ControlServer.{ControlServer, Nothing, Reads, awaits, by_control, control_server, is_peer, shut, with_changes, with_talk}
use Rattle.spec_control.specs.Laws.{Either, MayClose, MayControl, MayGiveUp, first_open}
use Rattle.control_loop.specs.Runs.{RunsWith, Serves}
use Rattle.control_loop.specs.Standing.{Closes}
use Rattle.control_loop.proofs.Answering.{awaited_may}
use Rattle.control_loop.proofs.Talking.{above_other, above_own, hides}

module _ {end : End} {talk : Talk} (read : Reads) (config : Config) (past : List Entry) (closes : Closes end talk read config past) where
  -- the next of the control's sockets is closed
  module _ (socket : ℕ) (own : is_controls socket ≡ true) (next : first_open talk ≡ Some socket) where
    may_close : MayControl read config past (CallClose socket)
    may_close = awaited_may read config past (CallClose socket) Nothing closes.calm
        (subst (λ b. Either b (MayClose read config past socket) (MayGiveUp read config past socket)) (sym own)
        (record { ended = closes.finished.ended; others = closes.finished.closed; next = ap first_open closes.talk ∙ next }))

    hidden : without_control (Close socket ∷ past) ≡ without_control past
    hidden = hides (Close socket) past (is_controls socket) own

    pub closed_one : (t : Talk) → shut socket (control_server read config past) ≡ awaits Nothing (with_talk t (control_server read config past)) → Closes end t read config (Close socket ∷ past)
    closed_one t is =
        let same : by_control read config (Close socket ∷ past) ≡ by_control read config past = ap (with_changes config) is in
        record {
          control = (may_close, closes.control);
          calm = ap (λ (x : ControlServer). x.awaited) is;
          talk = ap (λ (x : ControlServer). x.talk) is;
          lawful = subst (λ k. Lawful k (without_control (Close socket ∷ past))) (sym same) (subst (Lawful (by_control read config past)) (sym hidden) closes.lawful);
          dutiful = subst (λ k. Dutiful k (without_control (Close socket ∷ past))) (sym same) (subst (Dutiful (by_control read config past)) (sym hidden) closes.dutiful);
          finished = subst (λ k. Finished k (without_control (Close socket ∷ past))) (sym same) (subst (Finished (by_control read config past)) (sym hidden) closes.finished);
          ends = closes.ends ∙ ap (λ l. end_of config (phase config l)) (sym hidden);
        }

  -- none is left
  pub over_now : talk.listening ≡ false → talk.peer ≡ None → RunsWith read config end past
  over_now shut_off alone = Serves (record {
    control = closes.control;
    lawful = closes.lawful;
    dutiful = closes.dutiful;
    finished = closes.finished;
    unawaited = closes.calm;
    deaf = ap (λ (t : Talk). t.listening) closes.talk ∙ shut_off;
    alone = ap (λ (t : Talk). t.peer) closes.talk ∙ alone;
  }) closes.ends

listener_own : is_controls listener ≡ true
listener_own = refl

-- the listener first
without_listener : {end : End} {talk : Talk} (read : Reads) (config : Config) (past : List Entry) → talk.listening ≡ true → Closes end talk read config past → Closes end (deaf talk) read config (Close listener ∷ past)
without_listener {end} {talk} read config past listens closes =
    closed_one read config past closes listener listener_own (ap (λ b. cond b (Some listener) talk.peer) listens) (deaf talk) (ap (λ (t : Talk). awaits Nothing (with_talk (deaf t) (control_server read config past))) closes.talk)

-- and then the connection
without_peer : {end : End} {talk : Talk} (read : Reads) (config : Config) (past : List Entry) (socket : ℕ) → listener < socket → talk.listening ≡ false → talk.peer ≡ Some socket
    → Closes end talk read config past → Closes end (hung_up talk) read config (Close socket ∷ past)
without_peer {end} {talk} read config past socket above deaf_now open_yet closes =
    closed_one read config past closes socket (above_own listener socket above) (ap (λ b. cond b (Some listener) talk.peer) deaf_now ∙ open_yet) (hung_up talk)
    (ap (λ b. cond b (awaits Nothing (with_talk (deaf its.talk) its)) (cond (is_peer socket its.talk.peer) (awaits Nothing (with_talk (hung_up its.talk) its)) (awaits Nothing its))) (above_other listener socket above)
    ∙ ap (λ o. cond (is_peer socket o) (awaits Nothing (with_talk (hung_up its.talk) its)) (awaits Nothing its)) (ap (λ (t : Talk). t.peer) closes.talk ∙ open_yet)
    ∙ ap (λ b. cond b (awaits Nothing (with_talk (hung_up its.talk) its)) (awaits Nothing its)) itself
    ∙ ap (λ (t : Talk). awaits Nothing (with_talk (hung_up t) its)) closes.talk)
  where
    its : ControlServer
    its = control_server read config past

    itself : (socket == socket) ≡ true
    itself = grind (arith, nat_tests)

pub closed_all : {end : End} {talk : Talk} (read : Reads) (config : Config) (past : List Entry) → talk.listening ≡ true → ((n : ℕ) → talk.peer ≡ Some n → listener < n) → Closes end talk read config past
    → RunsWith read config end (all_closed talk ++ past)
closed_all {end} {talk} read config past listens above closes =
    subst (λ b. RunsWith read config end ((peer_closed talk.peer ++ closed_if b listener) ++ past)) (sym listens) (by talk.peer refl)
  where
    first : Closes end (deaf talk) read config (Close listener ∷ past)
    first = without_listener read config past listens closes

    by : (o : Option ℕ) → talk.peer ≡ o → RunsWith read config end ((peer_closed o ++ (Close listener ∷ [])) ++ past)
    by None alone = over_now read config (Close listener ∷ past) first refl alone
    by (Some socket) open_yet =
        over_now read config (Close socket ∷ Close listener ∷ past) (without_peer read config (Close listener ∷ past) socket (above socket open_yet) refl open_yet first) refl refl
