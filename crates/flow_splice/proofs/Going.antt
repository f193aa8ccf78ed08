-- A segment is offered to the link: the flow's story goes on where something of it was taken.
use Rattle.std.proofs.Common.{refl, ◌≡◌, ℕ, ◌+◌, ◌<◌, ◌≤◌, ◌^◌, ◌%◌, [], ◌∷◌, ◌++◌, List, Bool, true, false, not, ◌&&◌, ◌||◌, Option, None, Some, if◌then◌else◌, nat_lt, arith, ap, subst}
use Rattle.std.proofs.Common.{sym, ◌∙◌, inl}
use Rattle.std.proofs.lemmas.Bool.Decides.{nat_tests}
use Rattle.net_octets.specs.declared.Mac.{Mac}
use Rattle.seq_space.specs.declared.Seq.{Seq}
use Rattle.world_face.specs.Frames.{encoding}
use Rattle.world_face.specs.Journal.{Allowed, Close, Entry, LinkWrite, count_of}
use Rattle.world_face.specs.declared.Io.{Io}
use Rattle.world_face.specs.declared.Io.TheVariants.{Done, End, NotYet, Failed as IoFailed}
use Rattle.stream_netdev.specs.Offers.{offered}
use Rattle.stream_netdev.specs.declared.Offered.{Offered}
use Rattle.stream_netdev.specs.declared.Offered.TheVariants.{Taken, Blocked, Failed}
use Rattle.tcp_connection.specs.Connection.{Connection, HasBuffers, is_synchronized}
use Rattle.tcp_connection.specs.Owing.{ack_if, gone, owed_by, owed_of, piece_or_ack, told}
use Rattle.tcp_connection.specs.Segments.{is_done, settling}
use Rattle.tcp_connection.specs.Windows.{is_update_owed, our_shift}
use Rattle.tcp_transmit.specs.Pieces.{piece_owed}
use Rattle.tcp_transmit.specs.declared.Piece.{Piece}
use Rattle.sock_buffers.specs.Downward.{Downward}
use Rattle.sock_buffers.specs.Upward.{Upward}
use Rattle.tcp_connection.specs.declared.Change.TheVariants.{Nothing, Finished}
use Rattle.tcp_connection.specs.declared.Owed.{Owed}
use Rattle.tcp_connection.specs.declared.Owed.TheVariants.{Syn, SynAck, Data, Ack, Reset}
use Rattle.tcp_connection.specs.declared.Stage.{Stage}
use Rattle.tcp_connection.specs.declared.Stage.TheVariants as stage
use Rattle.spec_flow.specs.Settings.{Settings}
use Rattle.spec_flow.specs.Event.{At, Closes, Departs, Segment, Story}
use Rattle.spec_flow.specs.Lawful.{HasOwnCause, IsLawful}
use Rattle.spec_flow.specs.Dutiful.{IsDutiful}
use Rattle.sim_connection.specs.Holding.{Holds, is_live}
use Rattle.sim_connection.specs.Over.{IsOver, IsInTimeWait, is_resets}
use Rattle.sim_connection.specs.Sending.{is_rst, is_syn, segment_out}
use Rattle.sim_connection.proofs.Departing.{departs}
use Rattle.sim_connection.proofs.Owing.{reset_goes}
use Rattle.sim_connection.proofs.InTimeWait.{ack_goes}
use Rattle.flow_splice.specs.Entries.{AreEvents, ident_after, went}
use Rattle.flow_splice.specs.Follows.{Follows, FollowsAt, FollowsInTimeWait, IsOpen, IsOwing}
use Rattle.flow_splice.specs.Frames.{IsSized, segment_frame}
use Rattle.flow_splice.specs.Hosts.{Sees, ends}
use Rattle.flow_splice.specs.Sends.{GoesOut, Marks, Sends, ident_if, went_out}
use Rattle.flow_splice.specs.Serves.{Serves}
use Rattle.flow_splice.specs.Splice.{Splice, closed, is_in_use, is_open}
use Rattle.flow_splice.specs.declared.Place.{Place}
use Rattle.flow_splice.specs.declared.Place.TheVariants.{Empty, InUse, InTimeWait}
use Rattle.flow_splice.proofs.Opened.{follows_later, goes_on, open_follows}
use Rattle.flow_splice.proofs.Sending.{went_has}
use Rattle.flow_splice.proofs.Restless.{owing_none}
use Rattle.flow_splice.proofs.Shutting.{done_follows, finished_cause, settled_same}

-- what is offered, and taken or not
module _ (f : Splice) (now first : ℕ) (what : Owed) (mac : Mac) (known_mac : f.mac ≡ Some mac) (late : now ≤ 2 ^ 62) (small : first < 2 ^ 16)
    (buffers : HasBuffers f.conn f.up f.down) (owed : owed_of f.conn f.up f.down ≡ Some what) (used : f.place ≡ Empty → ⊥)
    (sized : IsSized f.face mac first (segment_out f.mru f.conn f.up f.down what)) where
  abbrev seg : Segment
  seg = segment_out f.mru f.conn f.up f.down what

  abbrev octets : List ℕ
  octets = encoding (segment_frame f.face mac first seg)

  stays : first ≡ (first + 0) % 2 ^ 16
  stays = omega (arith, small)

  nobody : f.mac ≡ None → ⊥
  nobody none = let not_it = sym known_mac ∙ none in cc

  module _ (answer : Io) (allowed : Allowed (LinkWrite octets answer)) (s : Settings) (past : Story) (before : ℕ) (ended known : Bool) (on : before ≤ now) (h : Follows s f past before) where
    abbrev out : Story
    out = At now (Departs seg) ∷ past

    -- what was made where nothing of it was taken, or something
    offers : (x : Splice) → x.face ≡ f.face → x.mac ≡ f.mac → IsLawful s out → IsDutiful s out → (beats : Story) → beats ≡ went answer now (Departs seg) [] →
        AreEvents s x.face x.mac false ended known first now past (LinkWrite octets answer ∷ []) beats
    offers x same_face same_mac lawful dutiful beats is =
        subst (λ face. AreEvents s face x.mac false ended known first now past (LinkWrite octets answer ∷ []) beats) (sym same_face)
        (subst (λ (m : Option Mac). AreEvents s f.face m false ended known first now past (LinkWrite octets answer ∷ []) beats) (sym same_mac) (
          [],
          refl,
          inl (
            seg,
            record {
              to = mac;
              known = known_mac;
              frame = ap (λ (n : ℕ). encoding (segment_frame f.face mac n seg)) stays;
              may = lawful.0;
              must = dutiful.0;
              sized = subst (λ (n : ℕ). IsSized f.face mac n seg) stays sized;
            },
            is,
          ),
        ))

    -- it wasn't taken
    untaken : IsLawful s out → IsDutiful s out → count_of answer ≡ 0 → (new : Splice) (made : List Entry) → made ≡ [] → new ≡ f
        → (serves : Serves s new false ended known first now past (made ++ (LinkWrite octets answer ∷ []))) × (first ≡ ident_after first serves.beats)
    untaken lawful dutiful none new made made_is new_is = (
      record {
        beats = [];
        are = subst (λ (es : List Entry). AreEvents s new.face new.mac false ended known first now past (es ++ (LinkWrite octets answer ∷ [])) []) (sym made_is)
            (offers new (ap (λ (x : Splice). x.face) new_is) (ap (λ (x : Splice). x.mac) new_is) lawful dutiful [] (sym (ap (λ (n : ℕ). if nat_lt 0 n then At now (Departs seg) ∷ [] else []) none)));
        follows = subst (λ (x : Splice). Follows s x past now) (sym new_is) (follows_later s f past before now on h);
      },
      stays,
    )

    module _ (some : nat_lt 0 (count_of answer) ≡ true) where
      taken_is : At now (Departs seg) ∷ [] ≡ went answer now (Departs seg) []
      taken_is = sym (ap (λ (b : Bool). if b then At now (Departs seg) ∷ [] else []) some)

      -- it was, and nothing else was made
      taken : IsLawful s out → IsDutiful s out → (x new : Splice) (made : List Entry) → x.face ≡ f.face → x.mac ≡ f.mac → made ≡ [] → new ≡ x → Follows s x out now
          → (serves : Serves s new false ended known first now past (made ++ (LinkWrite octets answer ∷ []))) × ((first + 1) % 2 ^ 16 ≡ ident_after first serves.beats)
      taken lawful dutiful x new made face_is mac_is made_is new_is q = (
        record {
          beats = At now (Departs seg) ∷ [];
          are = subst (λ (es : List Entry). AreEvents s new.face new.mac false ended known first now past (es ++ (LinkWrite octets answer ∷ [])) (At now (Departs seg) ∷ [])) (sym made_is)
              (offers new (ap (λ (y : Splice). y.face) new_is ∙ face_is) (ap (λ (y : Splice). y.mac) new_is ∙ mac_is) lawful dutiful (At now (Departs seg) ∷ []) taken_is);
          follows = subst (λ (y : Splice). Follows s y out now) (sym new_is) q;
        },
        (let same : (first + 1) % 2 ^ 16 ≡ (first + (0 + 1)) % 2 ^ 16 = omega arith in same),
      )

      -- it was, and the socket was closed then
      taken_last : IsLawful s out → IsDutiful s out → (x new : Splice) (made : List Entry) → x.face ≡ f.face → x.mac ≡ f.mac → made ≡ Close f.face.number ∷ [] → new ≡ x →
          HasOwnCause false false known now out → Follows s x (At now (Closes false ended known) ∷ out) now
          → (serves : Serves s new false ended known first now past (made ++ (LinkWrite octets answer ∷ []))) × ((first + 1) % 2 ^ 16 ≡ ident_after first serves.beats)
      taken_last lawful dutiful x new made face_is mac_is made_is new_is cause q = (
        record {
          beats = At now (Closes false ended known) ∷ At now (Departs seg) ∷ [];
          are = subst (λ (es : List Entry). AreEvents s new.face new.mac false ended known first now past (es ++ (LinkWrite octets answer ∷ []))
              (At now (Closes false ended known) ∷ At now (Departs seg) ∷ [])) (sym made_is) (
                At now (Departs seg) ∷ [],
                offers new (ap (λ (y : Splice). y.face) new_is ∙ face_is) (ap (λ (y : Splice). y.mac) new_is ∙ mac_is) lawful dutiful (At now (Departs seg) ∷ []) taken_is,
                (sym (ap (λ (y : Splice). y.face.number) new_is ∙ ap (λ face. face.number) face_is), refl, cause),
              );
          follows = subst (λ (y : Splice). Follows s y (At now (Closes false ended known) ∷ out) now) (sym new_is) q;
        },
        (let same : (first + 1) % 2 ^ 16 ≡ (first + (0 + 1)) % 2 ^ 16 = omega arith in same),
      )

-- ---- by where the flow stands

if_none : (b : Bool) (w what : Owed) → is_rst w ≡ false → (if b then Some w else None) ≡ Some what → is_rst what ≡ false
if_none true w what none is = let same : w ≡ what = cc in ap is_rst (sym same) ∙ none
if_none false w what none is = absurd cc

live_none : (st : Stage) (c : Connection) (up : Upward) (down : Downward) (what : Owed) → is_live st ≡ true → owed_by st c up down ≡ Some what → is_rst what ≡ false
live_none stage.Connecting c up down what live owed = absurd cc
live_none stage.SynSent c up down what live owed = if_none c.syn_owed Syn what refl owed
live_none stage.SynReceived c up down what live owed = by c.syn_owed owed
  where
    by : (b : Bool) → (if b then Some SynAck else ack_if c.ack_owed) ≡ Some what → is_rst what ≡ false
    by true is = if_none true SynAck what refl is
    by false is = if_none c.ack_owed Ack what refl is
live_none stage.Synchronized c up down what live owed = by (piece_owed c.transmission down) owed
  where
    by : (p : Option Piece) → piece_or_ack p (c.ack_owed || is_update_owed c up) ≡ Some what → is_rst what ≡ false
    by None is = if_none (c.ack_owed || is_update_owed c up) Ack what refl is
    by (Some p) is = if_none true (Data p) what refl is
live_none stage.TimeWait c up down what live owed = absurd cc
live_none (stage.Resets seq ack) c up down what live owed = absurd cc
live_none stage.Closed c up down what live owed = absurd cc

resets_stage : (st : Stage) → is_resets st ≡ true → (seq : Seq) × (ack : Seq) × (st ≡ stage.Resets seq ack)
resets_stage stage.Connecting is = absurd cc
resets_stage stage.SynSent is = absurd cc
resets_stage stage.SynReceived is = absurd cc
resets_stage stage.Synchronized is = absurd cc
resets_stage stage.TimeWait is = absurd cc
resets_stage (stage.Resets seq ack) is = (seq, ack, refl)
resets_stage stage.Closed is = absurd cc

ack_is : (b : Bool) (what : Owed) → ack_if b ≡ Some what → (b ≡ true) × (Ack ≡ what)
ack_is true what is = (refl, cc)
ack_is false what is = absurd cc

-- our SYN is no reset
syn_only : (what : Owed) → (is_syn what && not (is_rst what)) ≡ is_syn what
syn_only Syn = refl
syn_only SynAck = refl
syn_only (Data p) = refl
syn_only Ack = refl
syn_only (Reset seq ack) = refl

taken_some : (n : ℕ) → 0 < n → nat_lt 0 n ≡ true
taken_some n some = grind (arith, nat_tests)

module _ (f : Splice) (now first : ℕ) (what : Owed) (mac : Mac) (known_mac : f.mac ≡ Some mac) (late : now ≤ 2 ^ 62) (small : first < 2 ^ 16)
    (buffers : HasBuffers f.conn f.up f.down) (owed : owed_of f.conn f.up f.down ≡ Some what) (used : f.place ≡ Empty → ⊥)
    (sized : IsSized f.face mac first (segment_out f.mru f.conn f.up f.down what)) (result : Offered) (answer : Io) (result_is : result ≡ offered answer)
    (allowed : Allowed (LinkWrite (encoding (segment_frame f.face mac first (segment_out f.mru f.conn f.up f.down what))) answer))
    (new : Splice) (made : List Entry) (marks : Marks result what f new now made) where
  abbrev c : Connection
  c = f.conn

  abbrev frame : List ℕ
  frame = encoding (segment_frame f.face mac first (segment_out f.mru f.conn f.up f.down what))

  module _ (s : Settings) (past : Story) (before : ℕ) (ended known : Bool) (on : before ≤ now) (h : Follows s f past before) where
    abbrev gone_out : Story
    gone_out = At now (Departs (segment_out f.mru c f.up f.down what)) ∷ past

    abbrev Result : ℕ → Type 0
    Result last = (serves : Serves s new false ended known first now past (made ++ (LinkWrite frame answer ∷ []))) × (last ≡ ident_after first serves.beats)

    by_answer : IsLawful s gone_out → IsDutiful s gone_out → (nat_lt 0 (count_of answer) ≡ true → GoesOut (is_rst what) what f new now made → Result ((first + 1) % 2 ^ 16)) →
        Result (ident_if result first)
    by_answer lawful dutiful goes = by answer refl
      where
        none : count_of answer ≡ 0 → (made ≡ []) × (new ≡ f) → Result first
        none zero same = untaken f now first what mac known_mac late small buffers owed used sized answer allowed s past before ended known on h lawful dutiful zero new made same.0 same.1

        by : (a : Io) → answer ≡ a → Result (ident_if result first)
        by (Done n) is =
            let taken_now : result ≡ Taken = result_is ∙ ap offered is in
            let some = subst (λ (q : Io). Allowed (LinkWrite frame q)) is allowed in
            subst (λ (r : Offered). Result (ident_if r first)) (sym taken_now)
            (goes (ap (λ (q : Io). nat_lt 0 (count_of q)) is ∙ taken_some n some.0.0) (subst (λ (r : Offered). Marks r what f new now made) taken_now marks))
        by End is =
            let blocked : result ≡ Blocked = result_is ∙ ap offered is in
            subst (λ (r : Offered). Result (ident_if r first)) (sym blocked) (none (ap count_of is) (subst (λ (r : Offered). Marks r what f new now made) blocked marks))
        by NotYet is =
            let blocked : result ≡ Blocked = result_is ∙ ap offered is in
            subst (λ (r : Offered). Result (ident_if r first)) (sym blocked) (none (ap count_of is) (subst (λ (r : Offered). Marks r what f new now made) blocked marks))
        by IoFailed is =
            let failed : result ≡ Failed = result_is ∙ ap offered is in
            subst (λ (r : Offered). Result (ident_if r first)) (sym failed) (none (ap count_of is) (subst (λ (r : Offered). Marks r what f new now made) failed marks))

    -- its socket is open
    sends_open : is_open f ≡ true → IsOpen s f past before → Result (ident_if result first)
    sends_open open_yet o =
        by_answer x_holds.goes.lawful x_holds.goes.dutiful (λ some goes. by_done some (is_done (gone what c f.up now)) refl (subst (λ (b : Bool). GoesOut b what f new now made)
        (live_none c.stage c f.up f.down what o.holds.opened.live owed) goes))
      where
        x_holds : Holds s (gone what c f.up now) f.up f.down gone_out now
        x_holds = subst (λ (n : ℕ). Holds s (gone what c f.up now) f.up f.down (At now (Departs (segment_out n c f.up f.down what)) ∷ past) now) (sym o.mru)
            (departs s c f.up f.down past before now on late o.holds what owed (went_has what c f.up f.down now late buffers owed))

        no_mac : f.mac ≡ None → ⊥
        no_mac none = let not_it = sym known_mac ∙ none in cc

        by_done : nat_lt 0 (count_of answer) ≡ true → (b : Bool) → is_done (gone what c f.up now) ≡ b → Sees (ends (settling (gone what c f.up now)))
            (went_out f what now) new now made → Result ((first + 1) % 2 ^ 16)
        by_done some true done sees =
            let shut = subst (λ (b : Bool). Sees (ends (if b then Finished else Nothing)) (went_out f what now) new now made) done sees in
            taken_last f now first what mac known_mac late small buffers owed used sized answer allowed s past before ended known on h some x_holds.goes.lawful x_holds.goes.dutiful
            (closed (went_out f what now) now) new made refl refl shut.0 shut.1
            (finished_cause s f (gone what c f.up now) gone_out now false known x_holds done refl)
            (done_follows s (record f { last = now; called = if is_syn what then now else f.called }) (gone what c f.up now) gone_out now false ended known x_holds done refl o.mru (λ none. absurd (no_mac none)))
        by_done some false unfinished sees =
            let stays = subst (λ (b : Bool). Sees (ends (if b then Finished else Nothing)) (went_out f what now) new now made) unfinished sees in
            taken f now first what mac known_mac late small buffers owed used sized answer allowed s past before ended known on h some x_holds.goes.lawful x_holds.goes.dutiful
            (went_out f what now) new made refl refl stays.0 stays.1
            (subst (λ (y : Connection). Follows s (record f { conn = y; last = now; called = if is_syn what then now else f.called }) gone_out now) (sym (settled_same (gone what c f.up now) unfinished))
            (open_follows s (record f { conn = gone what c f.up now; last = now; called = if is_syn what then now else f.called }) gone_out now open_yet
            (subst (λ (b : Bool). IsOpen s (record f { conn = gone what c f.up now; last = now; called = if b then now else f.called }) gone_out now) (syn_only what)
            (goes_on s f (gone what c f.up now) f.up f.down f.told_end past before now (Departs (segment_out f.mru c f.up f.down what)) on (λ none. none) o x_holds o.told unfinished
            (λ none. absurd (no_mac none)) (λ unowed. refl)))))

    -- it owes a reset
    sends_reset : IsOwing s f past before → Result (ident_if result first)
    sends_reset q =
        by_answer lawful dutiful (λ some goes.
        let sent = subst (λ (w : Owed). GoesOut (is_rst w) w f new now made) (sym what_is) goes in
        taken f now first what mac known_mac late small buffers owed used sized answer allowed s past before ended known on h some lawful dutiful
        (record f { conn = record c { stage = stage.Closed }; place = Empty; last = now }) new made refl refl sent.0 sent.1
        (record { over = over_now; owes_none = refl; rests_none = owing_none past (q.over.owes ∙ q.owes) }))
      where
        at : (seq : Seq) × (ack : Seq) × (c.stage ≡ stage.Resets seq ack)
        at = resets_stage c.stage q.owes

        what_is : Reset at.0 at.1 ≡ what
        what_is = let is : Some (Reset at.0 at.1) ≡ Some what = sym (ap (λ (st : Stage). owed_by st c f.up f.down) at.2) ∙ owed in cc

        over_now : IsOver s (record c { stage = stage.Closed }) gone_out now
        over_now =
            subst (λ (w : Owed). IsOver s (record c { stage = stage.Closed }) (At now (Departs (segment_out f.mru c f.up f.down w)) ∷ past) now) what_is
            (subst (λ (n : ℕ). IsOver s (record c { stage = stage.Closed }) (At now (Departs (segment_out n c f.up f.down (Reset at.0 at.1))) ∷ past) now) (sym q.mru)
            (reset_goes s c f.up f.down past before now on q.over at.0 at.1 at.2))

        lawful : IsLawful s gone_out
        lawful = over_now.runs.lawful

        dutiful : IsDutiful s gone_out
        dutiful = over_now.runs.dutiful

    -- it is in TIME-WAIT
    sends_ack : (since : ℕ) → f.place ≡ InTimeWait since → FollowsInTimeWait s f past before since → Result (ident_if result first)
    sends_ack since at q =
        by_answer rests_now.over.runs.lawful rests_now.over.runs.dutiful (λ some goes.
        let sent = subst (λ (w : Owed). GoesOut (is_rst w) w f new now made) (sym two.1) goes in
        let stays = subst (λ (b : Bool). Sees (ends (if b then Finished else Nothing)) (went_out f Ack now) new now made) unfinished sent in
        taken f now first what mac known_mac late small buffers owed used sized answer allowed s past before ended known on h some rests_now.over.runs.lawful
        rests_now.over.runs.dutiful (went_out f Ack now) new made refl refl stays.0 stays.1
        (subst (λ (p : Place). FollowsAt p f.shut s (went_out f Ack now) gone_out now) (sym at)
        (record {
          time_waits = subst (λ (y : Connection). IsInTimeWait s y f.up f.down gone_out now since) (sym (settled_same (told c f.up (our_shift c)) unfinished)) rests_now;
          mru = q.mru;
          known = q.known;
        })))
      where
        two : (c.ack_owed ≡ true) × (Ack ≡ what)
        two = ack_is c.ack_owed what (sym (ap (λ (st : Stage). owed_by st c f.up f.down) q.time_waits.at) ∙ owed)

        unfinished : is_done (told c f.up (our_shift c)) ≡ false
        unfinished = ap (λ (st : Stage). is_synchronized st && c.host_ended && c.fin_acked && (c.end_acknowledged || c.received.ended)) q.time_waits.at

        rests_now : IsInTimeWait s (told c f.up (our_shift c)) f.up f.down gone_out now since
        rests_now =
            subst (λ (w : Owed). IsInTimeWait s (told c f.up (our_shift c)) f.up f.down (At now (Departs (segment_out f.mru c f.up f.down w)) ∷ past) now since) two.1
            (subst (λ (n : ℕ). IsInTimeWait s (told c f.up (our_shift c)) f.up f.down (At now (Departs (segment_out n c f.up f.down Ack)) ∷ past) now since) (sym q.mru)
            (ack_goes s c f.up f.down past before now since on q.time_waits two.0))

    all : Result (ident_if result first)
    all = by f.place f.shut refl refl h
      where
        by : (p : Place) (b : Bool) → f.place ≡ p → f.shut ≡ b → FollowsAt p b s f past before → Result (ident_if result first)
        by Empty b at shut q = absurd (used at)
        by InUse true at shut q = sends_reset q
        by InUse false at shut q = sends_open (ap (λ (p : Place). is_in_use p && not f.shut) at ∙ ap not shut) q
        by (InTimeWait since) b at shut q = sends_ack since at q

  pub sends : Sends f new first (ident_if result first) now (made ++ (LinkWrite frame answer ∷ []))
  sends s past before ended known on h = all s past before ended known on h
