-- What a connection owes goes out.
use Rattle.std.proofs.Common.{refl, ◌≡◌, ℕ, ◌<◌, ◌≤◌, ◌^◌, ◌∷◌, Bool, true, false, ◌&&◌, ◌||◌, Option, None, Some, if◌then◌else◌, ap, subst, sym, ◌∙◌, inl, inr, ◌⊎◌}
use Rattle.sock_buffers.specs.Downward.{Downward}
use Rattle.sock_buffers.specs.Upward.{Upward}
use Rattle.tcp_transmit.specs.Pieces.{numbers, piece_owed}
use Rattle.tcp_transmit.specs.declared.Piece.{Piece}
use Rattle.tcp_connection.specs.Connection.{Connection, HasBuffers, closes_first, is_opening, is_synchronized}
use Rattle.tcp_connection.specs.Owing.{ack_if, gone, owed_by, owed_of, piece_or_ack}
use Rattle.tcp_connection.specs.Segments.{is_done, settled}
use Rattle.tcp_connection.specs.Windows.{is_update_owed}
use Rattle.tcp_connection.specs.declared.Owed.{Owed}
use Rattle.tcp_connection.specs.declared.Owed.TheVariants.{Syn, SynAck, Data, Ack}
use Rattle.tcp_connection.specs.declared.Stage.{Stage}
use Rattle.tcp_connection.specs.declared.Stage.TheVariants as stage
use Rattle.spec_flow.specs.Settings.{Settings}
use Rattle.spec_flow.specs.Event.{At, Departs, Story}
use Rattle.sim_connection.specs.Holding.{Holds, is_calls, is_live}
use Rattle.sim_connection.specs.Sending.{segment_out}
use Rattle.sim_connection.proofs.Acking.{owed_ack_goes}
use Rattle.sim_connection.proofs.Calling.{syn_goes_out}
use Rattle.sim_connection.proofs.Pieces.{piece_goes, some_numbers}
use Rattle.sim_connection.proofs.Syns.{syn_ack_goes}

-- ---- before it is looked at whether both ends passed

-- a connection that was finished had its buffers before
pub unsettled : (c : Connection) (up : Upward) (down : Downward) → HasBuffers (settled c) up down → HasBuffers c up down
unsettled c up down h = by (is_done c) (closes_first c) refl h
  where
    past_opening : (st : Stage) (rest : Bool) → (is_synchronized st && rest) ≡ true → is_opening st ≡ false
    past_opening stage.Connecting rest is = absurd cc
    past_opening stage.SynSent rest is = absurd cc
    past_opening stage.SynReceived rest is = absurd cc
    past_opening stage.Synchronized rest is = refl
    past_opening stage.TimeWait rest is = refl
    past_opening (stage.Resets seq ack) rest is = refl
    past_opening stage.Closed rest is = refl

    three : (a b d e : Bool) → (a && b && d && e) ≡ true → a ≡ true
    three true b d e is = refl
    three false b d e is = absurd cc

    whole : (a rest : Bool) → a ≡ true → (a && true) ≡ true
    whole a rest is = rw is refl

    back : (st : Stage) → is_done c ≡ true → HasBuffers (record c { stage = st }) up down → HasBuffers c up down
    back st done x =
        let late : is_opening c.stage ≡ false = past_opening c.stage true (whole (is_synchronized c.stage) true (three (is_synchronized c.stage) c.host_ended c.fin_acked c.end_acknowledged done)) in
        record {
          sound = record {
            first = x.sound.first;
            few = x.sound.few;
            untaken = λ is. let not_it = sym is ∙ late in absurd cc;
            unended = λ is. let not_it = sym is ∙ late in absurd cc;
            unsent = λ is. let not_it = sym is ∙ late in absurd cc;
            unanswered = λ is. let not_it = sym is ∙ late in absurd cc;
            alone = λ is. let not_it = sym is ∙ late in absurd cc;
          };
          fills = x.fills;
          feeds = x.feeds;
          size = x.size;
        }

    by : (b d : Bool) → is_done c ≡ b → HasBuffers (if b then (if d then record c { stage = stage.TimeWait } else record c { stage = stage.Closed }) else c) up down → HasBuffers c up down
    by true true done x = back stage.TimeWait done x
    by true false done x = back stage.Closed done x
    by false d done x = x

-- ---- each thing that is owed

module _ (s : Settings) (c : Connection) (up : Upward) (down : Downward) (past : Story) (now m : ℕ) (on : now ≤ m) (late : m ≤ 2 ^ 62) (h : Holds s c up down past now) where
  if_syn : (b : Bool) (what : Owed) → (if b then Some Syn else None) ≡ Some what → (b ≡ true) × (Syn ≡ what)
  if_syn true what is = (refl, cc)
  if_syn false what is = absurd cc

  if_answer : (b d : Bool) (what : Owed) → (if b then Some SynAck else ack_if d) ≡ Some what → ((b ≡ true) × (SynAck ≡ what)) ⊎ (Ack ≡ what)
  if_answer true d what is = inl (refl, cc)
  if_answer false true what is = inr cc
  if_answer false false what is = absurd cc

  if_piece : (p : Option Piece) (d : Bool) (what : Owed) → piece_or_ack p d ≡ Some what → ((q : Piece) × (p ≡ Some q) × (Data q ≡ what)) ⊎ (Ack ≡ what)
  if_piece None true what is = inr cc
  if_piece None false what is = absurd cc
  if_piece (Some q) d what is = inl (q, refl, cc)

  abbrev Goes_out : Owed → Type 0
  Goes_out what = HasBuffers (gone what c up m) up down → Holds s (gone what c up m) up down (At m (Departs (segment_out s.mru c up down what)) ∷ past) m

  goes_at : (st : Stage) → c.stage ≡ st → is_live st ≡ true → (what : Owed) → owed_by st c up down ≡ Some what → Goes_out what
  goes_at stage.Connecting at live what owed = absurd cc
  goes_at stage.SynSent at live what owed =
      let two = if_syn c.syn_owed what owed in
      subst (λ (w : Owed). Goes_out w) two.1 (λ buffers. syn_goes_out s c up down past now m on late h at two.0 buffers)
  goes_at stage.SynReceived at live what owed = by (if_answer c.syn_owed c.ack_owed what owed)
    where
      by : ((c.syn_owed ≡ true) × (SynAck ≡ what)) ⊎ (Ack ≡ what) → Goes_out what
      by (inl two) = subst (λ (w : Owed). Goes_out w) two.1 (λ buffers. syn_ack_goes s c up down past now m on late h at two.0 buffers)
      by (inr is) = subst (λ (w : Owed). Goes_out w) is (λ buffers. owed_ack_goes s c up down past now h m on (ap (λ (q : Stage). owed_by q c up down) at ∙ owed ∙ ap
          (λ (w : Owed). Some w) (sym is)) buffers)
  goes_at stage.Synchronized at live what owed = by (if_piece (piece_owed c.transmission down) (c.ack_owed || is_update_owed c up) what owed)
    where
      by : ((q : Piece) × (piece_owed c.transmission down ≡ Some q) × (Data q ≡ what)) ⊎ (Ack ≡ what) → Goes_out what
      by (inl three) =
          let numbered = some_numbers c.transmission down three.0 three.1 in
          subst (λ (w : Owed). Goes_out w) three.2
          (λ buffers. piece_goes s c up down past now m on h (ap (λ (q : Stage). is_calls q) at) (ap (λ (q : Stage). is_opening q) at) (ap (λ (q : Stage). is_synchronized q) at) three.0 numbered.0
          (subst (λ (p : Piece). 0 < numbers p) (sym numbered.0) numbered.1) buffers)
      by (inr is) = subst (λ (w : Owed). Goes_out w) is (λ buffers. owed_ack_goes s c up down past now h m on (ap (λ (q : Stage). owed_by q c up down) at ∙ owed ∙ ap
          (λ (w : Owed). Some w) (sym is)) buffers)
  goes_at stage.TimeWait at live what owed = absurd cc
  goes_at (stage.Resets seq ack) at live what owed = absurd cc
  goes_at stage.Closed at live what owed = absurd cc

  -- what is owed may go out, and the connection follows the story then
  pub departs : (what : Owed) → owed_of c up down ≡ Some what → HasBuffers (settled (gone what c up m)) up down
      → Holds s (gone what c up m) up down (At m (Departs (segment_out s.mru c up down what)) ∷ past) m
  departs what owed buffers = goes_at c.stage refl h.opened.live what owed (unsettled (gone what c up m) up down buffers)
