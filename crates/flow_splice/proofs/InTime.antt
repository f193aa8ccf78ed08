-- When time doesn't close a flow, call by call.
use Rattle.std.proofs.Common.{refl, ◌≡◌, ℕ, ◌+◌, ◌^◌, ◌<◌, ◌≤◌, List, [], ◌∷◌, ◌++◌, length, length-append, nat_lt, Option, Bool, true, false, not, ◌&&◌, ◌⊎◌, inl, inr, nat_le, if◌then◌else◌, arith, ap, subst, sym, ◌∙◌}
use Rattle.std.proofs.lemmas.Bool.Decides.{nat_tests}
use Rattle.net_octets.specs.declared.Mac.{Mac}
use Rattle.retransmit.specs.Resending.{after_expired as resend_expired}
use Rattle.sock_buffers.specs.Downward.{Downward}
use Rattle.sock_buffers.specs.Upward.{Upward}
use Rattle.stream_netdev.specs.declared.Offered.{Offered}
use Rattle.stream_netdev.specs.declared.Offered.TheVariants.{Taken, Blocked, Failed}
use Rattle.tcp_transmit.specs.Timing.{after_expired as transmission_expired}
use Rattle.tcp_connection.specs.Connection.{Connection, closes_first, is_opening}
use Rattle.tcp_connection.specs.Hosts.{reset}
use Rattle.tcp_connection.specs.Owing.{change_gone, gone}
use Rattle.tcp_connection.specs.Segments.{is_done, settled}
use Rattle.tcp_connection.specs.Timing.{after_tick, due_of as conn_due, is_due, is_spent}
use Rattle.tcp_connection.specs.declared.Owed.{Owed}
use Rattle.tcp_connection.specs.declared.Owed.TheVariants.{Syn, SynAck, Data, Ack, Reset}
use Rattle.tcp_connection.specs.declared.Stage.{Stage}
use Rattle.tcp_connection.specs.declared.Stage.TheVariants as stage
use Rattle.world_face.specs.Journal.{Entry}
use Rattle.spec_flow.specs.Guest.{is_empty}
use Rattle.sim_connection.specs.Holding.{is_at_connecting, is_live}
use Rattle.sim_connection.specs.Sending.{is_rst}
use Rattle.flow_splice.specs.Hosts.{IsRead, Sees, conn_given, down_given, ends, read_by}
use Rattle.flow_splice.specs.Sends.{GoesOut, Marks, asked, learnt, went_out}
use Rattle.flow_splice.specs.Splice.{Splice, closed, is_open}
use Rattle.flow_splice.specs.Wants.{HasTime, connect_end, is_deserted, left_at, patience_end}
use Rattle.flow_splice.proofs.Deserted.{deserted_parts}
use Rattle.flow_splice.proofs.Shutting.{reset_dead, shut_is}

-- the later moment, or the earlier, where both are small
pub either_moment : (b : Bool) (now earlier : ℕ) → now ≤ 2 ^ 62 → earlier ≤ 2 ^ 62 → (if b then now else earlier) ≤ 2 ^ 62
either_moment true now earlier soon low = soon
either_moment false now earlier soon low = low

-- octets that were read are a sign of life, as the buffer tells
grows : (held octets : List ℕ) → nat_lt (length held) (length (held ++ octets)) ≡ not (is_empty octets)
grows held octets = by octets (length-append held octets)
  where
    less : (a b n : ℕ) → n ≡ a + (b + 1) → nat_lt a n ≡ true
    less a b n is = grind (arith, nat_tests)

    same : (a n : ℕ) → n ≡ a + 0 → nat_lt a n ≡ false
    same a n is = grind (arith, nat_tests)

    by : (xs : List ℕ) → length (held ++ xs) ≡ length held + length xs → nat_lt (length held) (length (held ++ xs)) ≡ not (is_empty xs)
    by [] is = same (length held) (length (held ++ [])) is
    by (x ∷ xs) is = less (length held) (length xs) (length (held ++ x ∷ xs)) (omega (arith, is))

pub given_is : (b : Bool) (f : Splice) (conn : Connection) (down : Downward) (octets : List ℕ) (now last : ℕ) → IsRead b f.conn f.down octets now conn down
    → last ≡ (if nat_lt (length f.down.octets) (length down.octets) then now else f.last) → record f { conn = conn; down = down; last = last } ≡ read_by b f octets now
given_is true f conn down octets now last is last_is =
    ap (λ (n : ℕ). record f { conn = conn; down = down; last = n }) last_is
    ∙ ap (λ (d : Downward). record f { conn = conn; down = d; last = if nat_lt (length f.down.octets) (length d.octets) then now else f.last }) is.1
    ∙ ap (λ (c : Connection). record f {
      conn = c;
      down = down_given f.down octets;
      last = if nat_lt (length f.down.octets) (length (f.down.octets ++ octets)) then now else f.last;
    }) is.0
    ∙ ap (λ (t : Bool). record f { conn = conn_given f.conn (down_given f.down octets) now; down = down_given f.down octets; last = if t then now else f.last }) (grows f.down.octets octets)
given_is false f conn down octets now last is last_is =
    ap (λ (n : ℕ). record f { conn = conn; down = down; last = n }) last_is
    ∙ ap (λ (d : Downward). record f { conn = conn; down = d; last = if nat_lt (length f.down.octets) (length d.octets) then now else f.last }) is.1
    ∙ ap (λ (c : Connection). record f { conn = c; last = if nat_lt (length f.down.octets) (length f.down.octets) then now else f.last }) is.0
    ∙ ap (λ (t : Bool). record f { last = if t then now else f.last }) (never (length f.down.octets))
  where
    never : (n : ℕ) → nat_lt n n ≡ false
    never n = grind (arith, nat_tests)

-- one whose socket is closed
pub shut_time : (f : Splice) (now : ℕ) → is_open f ≡ false → HasTime f now
shut_time f now shut = record {
  connects = λ yet connects. let not_it = sym shut ∙ yet in absurd cc;
  deserted = λ yet deserted. let not_it = sym shut ∙ yet in absurd cc;
}

pub closed_time : (f : Splice) (now : ℕ) → HasTime (closed f now) now
closed_time f now = record { connects = λ yet connects. absurd (shut_is f now yet); deserted = λ yet deserted. absurd (shut_is f now yet) }

-- it is so where it is so of an open one
pub open_time : (f : Splice) (now : ℕ) → (is_open f ≡ true → HasTime f now) → HasTime f now
open_time f now time = record { connects = λ yet connects. (time yet).connects yet connects; deserted = λ yet deserted. (time yet).deserted yet deserted }

dead_opening : (st : Stage) → is_live st ≡ false → is_opening st ≡ false
dead_opening stage.Connecting is = absurd cc
dead_opening stage.SynSent is = absurd cc
dead_opening stage.SynReceived is = absurd cc
dead_opening stage.Synchronized is = absurd cc
dead_opening stage.TimeWait is = refl
dead_opening (stage.Resets seq ack) is = refl
dead_opening stage.Closed is = refl

reset_serves : (f : Splice) → is_deserted (record f { conn = reset f.conn }) ≡ true → {A : Type 0} → A
reset_serves f is = let not_it = sym (dead_opening (reset f.conn).stage (reset_dead f.conn)) ∙ (deserted_parts (record f { conn = reset f.conn }) is).opening in absurd cc

-- its socket was to connect
pub connected_time : (old new : Splice) (now : ℕ) → is_at_connecting old.conn.stage ≡ true → (new.conn ≡ old.conn) ⊎ (new.conn ≡ reset old.conn) → (is_open new ≡ true → now < connect_end new) → HasTime new now
connected_time old new now connects same soon = record { connects = λ yet is. soon yet; deserted = λ yet is. absurd (by same (deserted_parts new is).connected (deserted_parts new is).opening) }
  where
    by : (new.conn ≡ old.conn) ⊎ (new.conn ≡ reset old.conn) → is_at_connecting new.conn.stage ≡ false → is_opening new.conn.stage ≡ true → ⊥
    by (inl is) apart opening = let not_it = sym connects ∙ ap (λ (c : Connection). is_at_connecting c.stage) (sym is) ∙ apart in cc
    by (inr is) apart opening =
        let not_it = sym (dead_opening (reset old.conn).stage (reset_dead old.conn)) ∙ ap (λ (c : Connection). is_opening c.stage) (sym is) ∙ opening in cc

-- it has connected, and isn't left for too long
pub rest_time : (f : Splice) (now : ℕ) → is_at_connecting f.conn.stage ≡ false → (is_deserted f && nat_le (patience_end f) now) ≡ false → HasTime f now
rest_time f now apart yet_on = record {
  connects = λ yet connects. let not_it = sym apart ∙ connects in absurd cc;
  deserted = λ yet deserted. by (nat_le (patience_end f) now) refl (sym (ap (λ (b : Bool). b && nat_le (patience_end f) now) deserted) ∙ yet_on);
}
  where
    soon : (n : ℕ) → nat_le n now ≡ false → now < n
    soon n is = grind (arith, nat_tests)

    by : (b : Bool) → nat_le (patience_end f) now ≡ b → (true && b) ≡ false → now < left_at f
    by true is none = absurd cc
    by false is none = let low = soon (patience_end f) is in omega (arith, low)

-- the connection's timer
ticked_deserts : (f : Splice) (now : ℕ) → is_deserted (record f { conn = after_tick f.conn now }) ≡ true → is_deserted f ≡ true
ticked_deserts f now is = by (is_due (conn_due f.conn) now) (is_spent f.conn) f.conn.ack_owed (is_opening f.conn.stage) refl is
  where
    by : (a b d e : Bool) → is_opening f.conn.stage ≡ e
        → is_deserted (record f {
          conn = if a then (if b then (if d then f.conn else reset f.conn) else (if e then record f.conn {
            syn = resend_expired f.conn.syn;
            syn_owed = true;
          } else record f.conn { transmission = transmission_expired f.conn.transmission })) else f.conn;
        }) ≡ true → is_deserted f ≡ true
    by true true true e e_is is = is
    by true true false e e_is is = reset_serves f is
    by true false d true e_is is = is
    by true false d false e_is is =
        let not_it = sym e_is ∙ (deserted_parts (record f { conn = record f.conn { transmission = transmission_expired f.conn.transmission } }) is).opening in absurd cc
    by false b d e e_is is = is

pub ticked_time : (f : Splice) (now : ℕ) → is_at_connecting f.conn.stage ≡ false → (after_tick f.conn now).stage ≡ f.conn.stage → (is_deserted f && nat_le (patience_end f) now) ≡ false
    → HasTime (record f { conn = after_tick f.conn now }) now
ticked_time f now apart same yet_on =
    let t = rest_time f now apart yet_on in
    record {
      connects = λ yet connects. let not_it = sym apart ∙ ap (λ (st : Stage). is_at_connecting st) (sym same) ∙ connects in absurd cc;
      deserted = λ yet deserted. t.deserted yet (ticked_deserts f now deserted);
    }

-- ---- a pump

gone_connects : (what : Owed) (c : Connection) (up : Upward) (now : ℕ) → is_at_connecting (gone what c up now).stage ≡ true → is_at_connecting c.stage ≡ true
gone_connects Syn c up now is = is
gone_connects SynAck c up now is = is
gone_connects (Data p) c up now is = is
gone_connects Ack c up now is = is
gone_connects (Reset seq ack) c up now is = absurd cc

settled_connects : (x : Connection) → is_at_connecting (settled x).stage ≡ true → is_at_connecting x.stage ≡ true
settled_connects x is = by (is_done x) (closes_first x) is
  where
    by : (b d : Bool) → is_at_connecting (if b then (if d then record x { stage = stage.TimeWait } else record x { stage = stage.Closed }) else x).stage ≡ true → is_at_connecting x.stage ≡ true
    by true true is = absurd cc
    by true false is = absurd cc
    by false d is = is

out_time : (what : Owed) (f : Splice) (now : ℕ) → HasTime f now → HasTime (went_out f what now) now
out_time what f now t = record {
  connects = λ yet connects. t.connects yet (gone_connects what f.conn f.up now (settled_connects (gone what f.conn f.up now) connects));
  deserted = λ yet deserted. omega arith;
}

pub marks_time : (o : Offered) (what : Owed) (f new : Splice) (now : ℕ) (made : List Entry) → Marks o what f new now made → HasTime f now → HasTime new now
marks_time Blocked what f new now made marks t = subst (λ (x : Splice). HasTime x now) (sym marks.1) t
marks_time Failed what f new now made marks t = subst (λ (x : Splice). HasTime x now) (sym marks.1) t
marks_time Taken what f new now made marks t = goes (is_rst what) marks
  where
    goes : (b : Bool) → GoesOut b what f new now made → HasTime new now
    goes true is = subst (λ (x : Splice). HasTime x now) (sym is.1) (shut_time _ now refl)
    goes false is = by (ends (change_gone what f.conn f.up now)) is
      where
        by : (e : Bool) → Sees e (went_out f what now) new now made → HasTime new now
        by true sees = subst (λ (x : Splice). HasTime x now) (sym sees.1) (closed_time (went_out f what now) now)
        by false sees = subst (λ (x : Splice). HasTime x now) (sym sees.1) (out_time what f now t)

pub learnt_time : (f : Splice) (mac : Option Mac) (now : ℕ) → HasTime f now → HasTime (learnt f mac) now
learnt_time f mac now t = record { connects = t.connects; deserted = t.deserted }

pub asked_time : (f : Splice) (o : Offered) (now : ℕ) → HasTime f now → HasTime (asked o f now) now
asked_time f Taken now t = record { connects = t.connects; deserted = t.deserted }
asked_time f Blocked now t = t
asked_time f Failed now t = t
