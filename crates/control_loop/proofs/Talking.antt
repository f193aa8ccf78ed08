-- A call on the control's own sockets: what the control server comes to is what the connection has afterwards.
use Rattle.std.proofs.Common.{◌≡◌, ℕ, ◌<◌, ◌==◌, ◌&&◌, nat_le, Bool, true, false, cond, is_some, List, [], ◌∷◌, ◌++◌, take, Option, Some, None, refl, sym, ◌∙◌, ap, subst, arith}
use Rattle.std.proofs.lemmas.Bool.Decides.{nat_tests}
use Rattle.poll_list.specs.Listing.{reads, writes}
use Rattle.poll_list.specs.declared.Want.{Want}
use Rattle.poll_list.specs.declared.Who.TheVariants.{Listener as AListener, Tcp}
use Rattle.world_face.specs.Journal.{Call, CallAccept, CallClose, CallTcpRead, CallTcpWrite, Entry, call_of, Accept, Close, TcpRead, TcpWrite}
use Rattle.world_face.specs.declared.Accepted.{Accepted}
use Rattle.world_face.specs.declared.Io.{Io}
use Rattle.world_face.specs.declared.Io.TheVariants.{Done, End, NotYet, Failed}
use Rattle.slirp_settings.specs.Addresses.{Config}
use Rattle.stream_netdev.specs.State.{LinkState}
use Rattle.slirp_core.specs.State.{SlirpState}
use Rattle.rules_control.specs.Apart.{is_controls, seen as seen_of, without_control}
use Rattle.rules_control.specs.Talk.{Talk, after_accept, after_read, after_write, closed_if, deaf, fails, first_line, free, hung_up, is_last, is_out, listener, most_at_once, next_peer, with_kept}
use Rattle.spec_control.specs.ControlServer.{ControlServer, Nothing, Shutting, Reads, after_call, answers_line, awaits, control_server, is_peer, serves, shut, with_changes, with_talk}
use Rattle.spec_control.specs.Laws.{Either, MayControl, MayRead, MayWhere, MayWrite, reported, without_read, without_write}
use Rattle.control_loop.specs.Standing.{Agrees, Owes, Stands}
use Rattle.control_loop.proofs.Answering.{agrees_with, awaited_may, stands_as}

pub above_own : (l n : ℕ) → l < n → nat_le l n ≡ true
above_own l n above = grind (arith, nat_tests, above)

pub above_other : (l n : ℕ) → l < n → (n == l) ≡ false
above_other l n above = grind (arith, nat_tests, above)

-- an entry of the control's isn't seen
pub hides : (e : Entry) (past : List Entry) (b : Bool) → b ≡ true → cond b (without_control past) (seen_of e ∷ without_control past) ≡ without_control past
hides e past b own = ap (λ x. cond x (without_control past) (seen_of e ∷ without_control past)) own

module _ {items : List Want} {talk : Talk} {slirp : SlirpState} {link : LinkState} (read : Reads) (config : Config) (count : ℕ) (past : List Entry)
    (stands : Stands items talk slirp link read config count past) where
  abbrev d : ControlServer
  d = control_server read config past

  talks : d.talk ≡ talk
  talks = stands.agrees.talk

  may_now : (call : Call) → MayWhere Nothing read config past call → MayControl read config past call
  may_now call may = awaited_may read config past call Nothing stands.agrees.calm may

  -- ---- a peer comes, or none does

  pub accepted : (answer : Accepted) → talk.peer ≡ None → reads (AListener listener) items ≡ true → without_read (AListener listener) items ≡ []
      → Stands [] (after_accept answer talk) slirp link read config count (Accept listener (next_peer talk) answer ∷ past)
  accepted answer alone waits served =
      stands_as read config count (Accept listener (next_peer talk) answer ∷ past) (with_talk (after_accept answer d.talk) d) (
        may_now (CallAccept listener (next_peer talk)) (record {
          on = refl;
          number = ap next_peer (sym talks);
          alone = ap (λ (t : Talk). t.peer) talks ∙ alone;
          reported = ap (reads (AListener listener)) stands.reported ∙ waits;
        }),
        stands.control,
      )
      (ap (without_read (AListener listener)) stands.reported ∙ served)
      refl
      (subst (λ t. Agrees config (with_talk (after_accept answer d.talk) d) count (after_accept answer t) slirp link (without_control past)) talks
      (agrees_with config count talk slirp link (without_control past) d (after_accept answer d.talk) stands.agrees))

  -- ---- a call on the connection, whether it is the last one or not

  module _ (socket : ℕ) (above : listener < socket) (open_yet : talk.peer ≡ Some socket) where
    own : is_controls socket ≡ true
    own = above_own listener socket above

    -- it goes on: a line may be whole now
    goes_on : (e : Entry) (t : Talk) (left : List Want) → MayControl read config past (call_of e) → reported (e ∷ past) ≡ left → left ≡ [] → without_control (e ∷ past) ≡ without_control past
        → control_server read config (e ∷ past) ≡ serves read (with_changes config d) (without_control past) (with_talk t d) → Owes t slirp link read config count (e ∷ past)
    goes_on e t left may reports none hidden is = record {
      control = (may, stands.control);
      reported = reports ∙ none;
      before = with_talk t d;
      is = is ∙ ap (λ l. serves read (with_changes config d) l (with_talk t d)) (sym hidden);
      agrees = subst (λ l. Agrees config (with_talk t d) count t slirp link l) (sym hidden) (agrees_with config count talk slirp link (without_control past) d t stands.agrees);
    }

    -- it was the last one, and the close follows
    abbrev over_at : Talk → ControlServer
    over_at t = awaits (Shutting socket) (with_talk t d)

    shut_it : (t : Talk) → t.peer ≡ None → shut socket (over_at t) ≡ awaits Nothing (with_talk t d)
    shut_it t gone =
        ap (λ b. cond b (awaits Nothing (with_talk (deaf t) (over_at t))) (cond (is_peer socket t.peer) (awaits Nothing (with_talk (hung_up t) (over_at t))) (awaits Nothing (over_at t))))
        (above_other listener socket above)
        ∙ ap (λ o. cond (is_peer socket o) (awaits Nothing (with_talk (hung_up t) (over_at t))) (awaits Nothing (over_at t))) gone

    -- nothing is answered where no connection is open
    serves_none : (c : Config) (seen : List Entry) (b : ControlServer) → b.talk.peer ≡ None → serves read c seen b ≡ b
    serves_none c seen b none = by b.talk.peer none (is_out b.talk)
      where
        by : (o : Option ℕ) → o ≡ None → (out : Bool) → cond (out && is_some o) (answers_line read c seen (first_line b.talk.kept) b) b ≡ b
        by None is true = refl
        by None is false = refl
        by (Some n) is out = cc

    ends : (e : Entry) (t : Talk) → t.peer ≡ None → MayControl read config past (call_of e) → reported (e ∷ past) ≡ [] → without_control (e ∷ past) ≡ without_control past
        → control_server read config (e ∷ past) ≡ over_at t → Owes t slirp link read config count (Close socket ∷ e ∷ past)
    ends e t gone may none hidden is =
        let hidden_both = hides (Close socket) (e ∷ past) (is_controls socket) own ∙ hidden in
        record {
          control = (awaited_may read config (e ∷ past) (CallClose socket) (Shutting socket) (ap (λ (x : ControlServer). x.awaited) is) refl, (may, stands.control));
          reported = none;
          before = awaits Nothing (with_talk t d);
          is = ap (λ x. shut socket x) is ∙ shut_it t gone ∙ sym (serves_none (with_changes config d) (without_control (Close socket ∷ e ∷ past)) (awaits Nothing (with_talk t d)) gone);
          agrees = subst (λ l. Agrees config (awaits Nothing (with_talk t d)) count t slirp link l) (sym hidden_both)
              (record {
                calm = refl;
                talk = refl;
                forwards = stands.agrees.forwards;
                network = stands.agrees.network;
                later = stands.agrees.later;
                gone = stands.agrees.gone;
              });
        }

    -- ---- octets of lines were asked for

    abbrev asked : Io → List ℕ → Entry
    asked answer octets = TcpRead socket (free talk.kept) answer octets

    may_read : is_out talk ≡ true → reads (Tcp socket) items ≡ true → MayControl read config past (CallTcpRead socket (free talk.kept))
    may_read out waits = may_now (CallTcpRead socket (free talk.kept)) (subst (λ b. Either b (MayRead read config past socket (free talk.kept)) (Unit {0})) (sym own) (record {
      peer = ap (λ (t : Talk). t.peer) talks ∙ open_yet;
      out = ap is_out talks ∙ out;
      asked = ap (λ (t : Talk). free t.kept) (sym talks);
      reported = ap (reads (Tcp socket)) stands.reported ∙ waits;
    }))

    read_control_server : (answer : Io) (octets : List ℕ) (last : Bool) → is_last answer (talk.kept ++ octets) ≡ last
        → control_server read config (asked answer octets ∷ past) ≡ after_call read (with_changes config d) (without_control past) last socket (with_talk (after_read answer octets talk) d)
    read_control_server answer octets last is =
        ap (λ b. cond b (after_call read (with_changes config d) (without_control past) (is_last answer (d.talk.kept ++ octets)) socket (with_talk (after_read answer octets d.talk) d)) d) own
        ∙ ap (λ (t : Talk). after_call read (with_changes config d) (without_control past) (is_last answer (t.kept ++ octets)) socket (with_talk (after_read answer octets t) d)) talks
        ∙ ap (λ b. after_call read (with_changes config d) (without_control past) b socket (with_talk (after_read answer octets talk) d)) is

    hidden_read : (answer : Io) (octets : List ℕ) → without_control (asked answer octets ∷ past) ≡ without_control past
    hidden_read answer octets = hides (asked answer octets) past (is_controls socket) own

    over_read : (answer : Io) (octets : List ℕ) → is_last answer (talk.kept ++ octets) ≡ true → (after_read answer octets talk).peer ≡ None
    over_read answer octets is = ap (λ b. (cond b (hung_up talk) (with_kept (talk.kept ++ octets) talk)).peer) is

    pub came : (answer : Io) (octets : List ℕ) → is_out talk ≡ true → reads (Tcp socket) items ≡ true → without_read (Tcp socket) items ≡ [] → (last : Bool) → is_last answer (talk.kept ++ octets) ≡ last
        → Owes (after_read answer octets talk) slirp link read config count ((closed_if last socket ++ (asked answer octets ∷ [])) ++ past)
    came answer octets out waits served false is =
        goes_on (asked answer octets) (after_read answer octets talk) (without_read (Tcp socket) (reported past)) (may_read out waits) refl
        (ap (without_read (Tcp socket)) stands.reported ∙ served) (hidden_read answer octets) (read_control_server answer octets false is)
    came answer octets out waits served true is =
        ends (asked answer octets) (after_read answer octets talk) (over_read answer octets is) (may_read out waits)
        (ap (without_read (Tcp socket)) stands.reported ∙ served) (hidden_read answer octets) (read_control_server answer octets true is)

    -- ---- the front of the reply was offered

    abbrev offered : Io → Entry
    offered answer = TcpWrite socket (take most_at_once talk.left) answer

    may_write : is_out talk ≡ false → writes (Tcp socket) items ≡ true → MayControl read config past (CallTcpWrite socket (take most_at_once talk.left))
    may_write left waits = may_now (CallTcpWrite socket (take most_at_once talk.left)) (subst (λ b. Either b (MayWrite read config past socket (take most_at_once talk.left)) (Unit {0})) (sym own) (record {
      peer = ap (λ (t : Talk). t.peer) talks ∙ open_yet;
      left = ap is_out talks ∙ left;
      front = ap (λ (t : Talk). take most_at_once t.left) (sym talks);
      reported = ap (writes (Tcp socket)) stands.reported ∙ waits;
    }))

    write_control_server : (answer : Io) (last : Bool) → fails answer ≡ last
        → control_server read config (offered answer ∷ past) ≡ after_call read (with_changes config d) (without_control past) last socket (with_talk (after_write answer talk) d)
    write_control_server answer last is =
        ap (λ b. cond b (after_call read (with_changes config d) (without_control past) (fails answer) socket (with_talk (after_write answer d.talk) d)) d) own
        ∙ ap (λ (t : Talk). after_call read (with_changes config d) (without_control past) (fails answer) socket (with_talk (after_write answer t) d)) talks
        ∙ ap (λ b. after_call read (with_changes config d) (without_control past) b socket (with_talk (after_write answer talk) d)) is

    hidden_write : (answer : Io) → without_control (offered answer ∷ past) ≡ without_control past
    hidden_write answer = hides (offered answer) past (is_controls socket) own

    over_write : (answer : Io) → fails answer ≡ true → (after_write answer talk).peer ≡ None
    over_write Failed is = refl
    over_write (Done n) is = cc
    over_write End is = cc
    over_write NotYet is = cc

    pub went : (answer : Io) → is_out talk ≡ false → writes (Tcp socket) items ≡ true → without_write (Tcp socket) items ≡ [] → (last : Bool) → fails answer ≡ last
        → Owes (after_write answer talk) slirp link read config count ((closed_if last socket ++ (offered answer ∷ [])) ++ past)
    went answer left waits served false is =
        goes_on (offered answer) (after_write answer talk) (without_write (Tcp socket) (reported past)) (may_write left waits) refl
        (ap (without_write (Tcp socket)) stands.reported ∙ served) (hidden_write answer) (write_control_server answer false is)
    went answer left waits served true is =
        ends (offered answer) (after_write answer talk) (over_write answer is) (may_write left waits)
        (ap (without_write (Tcp socket)) stands.reported ∙ served) (hidden_write answer) (write_control_server answer true is)
