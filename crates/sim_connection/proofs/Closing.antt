-- The socket is closed: by which cause, and what is owed then.
use Rattle.std.proofs.Common.{refl, ◌≡◌, ℕ, ◌+◌, ◌^◌, ◌%◌, ◌≤◌, ◌∷◌, Bool, true, false, not, ◌&&◌, ◌||◌, Option, None, Some, if◌then◌else◌, MatchOption, arith, ap, subst, sym, ◌∙◌, inl}
use Rattle.seq_space.specs.declared.Seq.{Seq}
use Rattle.sock_buffers.specs.Downward.{Downward}
use Rattle.sock_buffers.specs.Upward.{Upward}
use Rattle.tcp_receive.specs.Received.{next_number, places_taken}
use Rattle.tcp_connection.specs.Connection.{Connection, has_gone, is_opening, is_synchronized}
use Rattle.tcp_connection.specs.Hosts.{numbers_sent, over_by, reset, resets}
use Rattle.tcp_connection.specs.declared.Stage.{Stage}
use Rattle.tcp_connection.specs.declared.Stage.TheVariants as stage
use Rattle.spec_flow.specs.Settings.{Settings}
use Rattle.sim_connection.proofs.Telling.{came_of}
use Rattle.spec_flow.specs.Guest.{Acked, HasCome, Conforming, ackd}
use Rattle.spec_flow.specs.Event.{Closes, At, Event, Story, Opens}
use Rattle.spec_flow.specs.Flow.{host, is_accepted, is_closed, next_number as number_after, syn_is_out, their_number, guest}
use Rattle.spec_flow.specs.Close.{host_failed, owes_reset}
use Rattle.spec_flow.specs.Lawful.{Act, Close, HasCause, HasOwnCause, May, act_of, HasNumberThatCame}
use Rattle.spec_flow.specs.Dutiful.{Must, MustClose}
use Rattle.sim_halves.specs.Sends.{Keeps}
use Rattle.sim_halves.proofs.Acts.{may_close, must_close}
use Rattle.sim_halves.proofs.Owed.{first_is_owed, next_is_owed, unsent_owes_none}
use Rattle.sim_connection.specs.Holding.{Goes, Holds, is_calls, is_at_connecting, is_live}
use Rattle.sim_connection.specs.Over.{IsOver, Pays, Runs, is_resets}
use Rattle.sim_connection.specs.Seen.{outward_of}
use Rattle.sim_connection.proofs.Going.{longer}

-- ---- what was done stays lawful

pub runs_of : (s : Settings) (past : Story) (now : ℕ) → Goes s past now → Runs s past now
runs_of s past now g = record { story = g.story; moment = g.moment; lawful = g.lawful; dutiful = g.dutiful }

-- one thing more was done
pub runs_on : (s : Settings) (past : Story) (now m : ℕ) (e : Event) (act : Act) → Runs s past now → now ≤ m → (Opens e → ⊥) → act_of e ≡ Some act → May s past m act →
    Must s past m act → Runs s (At m e ∷ past) m
runs_on s past now m e act r on opens_none is may must = record {
  story = longer past m e opens_none (omega (arith, r.moment, on)) r.story;
  moment = omega arith;
  lawful = (subst (λ (o : Option Act). MatchOption o (host_failed past ≡ false) (λ a. May s past m a)) (sym is) may, r.lawful);
  dutiful = (subst (λ (o : Option Act). MatchOption o (MustClose past → ⊥) (λ a. Must s past m a)) (sym is) must, r.dutiful);
}

-- the close
pub closes_for : (s : Settings) (past : Story) (now m : ℕ) (directly ended known : Bool) → Runs s past now → now ≤ m → is_closed past ≡ false → HasCause directly ended known m past
    → Runs s (At m (Closes directly ended known) ∷ past) m
closes_for s past now m directly ended known r on open_yet cause =
    runs_on s past now m (Closes directly ended known) (Close directly ended known) r on (λ none. none) refl (may_close s past m directly ended known cause open_yet)
    (must_close s past m directly ended known)

-- for a cause of its own
pub closes : (s : Settings) (past : Story) (now m : ℕ) (directly ended known : Bool) → Runs s past now → now ≤ m → is_closed past ≡ false → HasOwnCause directly ended known m past
    → Runs s (At m (Closes directly ended known) ∷ past) m
closes s past now m directly ended known r on open_yet cause = closes_for s past now m directly ended known r on open_yet (inl cause)

-- ---- the reset that is owed has the numbers of the definition

resets_are : (a b : ℕ) (seq ack : Seq) → resets a b ≡ stage.Resets seq ack → (a ≡ seq.0) × (b ≡ ack.0)
resets_are a b seq ack is = (cc, cc)

or_is : (a b : Bool) → a ≡ true → (a || b) ≡ true
or_is true b is = refl
or_is false b is = absurd cc

-- The flow's story goes on from `past` to `last` by at most a call that failed.
module _ (s : Settings) (c : Connection) (up : Upward) (down : Downward) (past : Story) (now m : ℕ) (h : Holds s c up down past now) (last : Story)
    (out_is : syn_is_out last ≡ syn_is_out past) (accepted_is : is_accepted last ≡ is_accepted past) (theirs_is : their_number last ≡ their_number past)
    (keeps : Keeps (outward_of c.transmission down) (host last))
    (comes : (n : ℕ) → (Conforming (guest past) → HasCome (guest past) (ackd (Acked n ∷ guest past))) → Conforming (guest last) → HasCome (guest last) (ackd (Acked n ∷ guest last)))
    (directly ended known : Bool) where
  abbrev shut : Story
  shut = At m (Closes directly ended known) ∷ last

  untaken : is_opening c.stage ≡ true → next_number c.received ≡ number_after c.received.first
  untaken opening =
      let none : places_taken c.received ≡ 0 = ap (λ (b : Bool). if b then c.received.taken + 1 else c.received.taken) (h.buffers.sound.unended opening) ∙ h.buffers.sound.untaken opening in
      ap (λ (n : ℕ). (c.received.first + 1 + n) % 2 ^ 32) none ∙ ap (λ (n : ℕ). n % 2 ^ 32) (let same : c.received.first + 1 + 0 ≡ c.received.first + 1 = omega arith in same)

  -- with the number after all that was sent
  next_pays : (e : ℕ) → has_gone c.sendings ≡ true → Pays shut (numbers_sent c) e
  next_pays e gone seg rst ack syn fin number acknowledgement =
      next_is_owed shut m seg rst ack syn fin (outward_of c.transmission down) keeps (or_is (syn_is_out last) (is_accepted last) (out_is ∙ h.opened.out ∙ gone)) number

  -- or 0, where our SYN didn't go out
  first_pays : is_calls c.stage ≡ false → has_gone c.sendings ≡ false → is_accepted past ≡ false → is_opening c.stage ≡ true → Pays shut 0 (next_number c.received)
  first_pays no_call unsent unaccepted opening seg rst ack syn fin number acknowledgement =
      first_is_owed shut m seg rst ack syn fin c.received.first (theirs_is ∙ h.opened.theirs ∙ ap (λ (b : Bool). if b then None else Some c.received.first) no_call)
      (ap (λ (b : Bool). b || is_accepted last) (out_is ∙ h.opened.out ∙ unsent) ∙ accepted_is ∙ unaccepted) number (acknowledgement ∙ untaken opening)

  unaccepted_is : (a b d : Bool) → not (a || b || d) ≡ true → a ≡ false
  unaccepted_is true true true is = absurd cc
  unaccepted_is true true false is = absurd cc
  unaccepted_is true false true is = absurd cc
  unaccepted_is true false false is = absurd cc
  unaccepted_is false b d is = refl

  not_accepted : is_calls c.stage ≡ false → has_gone c.sendings ≡ false → is_accepted past ≡ false
  not_accepted no_call unsent = by (is_accepted past) refl
    where
      by : (b : Bool) → is_accepted past ≡ b → b ≡ false
      by true is = let not_it = sym (h.opened.called is no_call) ∙ unsent in absurd cc
      by false is = refl

  -- the reset of the connection is the one of the definition
  pays_at : (st : Stage) → c.stage ≡ st → is_live st ≡ true → (seq ack : Seq) → over_by st c ≡ stage.Resets seq ack → Pays shut seq.0 ack.0
  pays_at stage.Connecting at live seq ack is =
      let two = resets_are 0 (next_number c.received) seq ack is in
      let no_call : is_calls c.stage ≡ false = ap (λ (q : Stage). is_calls q) at in
      let unsent = h.opened.unsent (ap (λ (q : Stage). is_at_connecting q) at) in
      subst (λ (x : ℕ). Pays shut x ack.0) two.0 (subst (λ (x : ℕ). Pays shut 0 x) two.1
      (first_pays no_call unsent (not_accepted no_call unsent) (ap (λ (q : Stage). is_opening q) at)))
  pays_at stage.SynSent at live seq ack is = by (has_gone c.sendings) refl is
    where
      by : (b : Bool) → has_gone c.sendings ≡ b → (if b then resets (numbers_sent c) 0 else stage.Closed) ≡ stage.Resets seq ack → Pays shut seq.0 ack.0
      by true gone so = let two = resets_are (numbers_sent c) 0 seq ack so in subst (λ (x : ℕ). Pays shut x ack.0) two.0 (next_pays ack.0 gone)
      by false gone so = absurd cc
  pays_at stage.SynReceived at live seq ack is = by (has_gone c.sendings) refl is
    where
      no_call : is_calls c.stage ≡ false
      no_call = ap (λ (q : Stage). is_calls q) at

      by : (b : Bool) → has_gone c.sendings ≡ b → resets (if b then numbers_sent c else 0) (next_number c.received) ≡ stage.Resets seq ack → Pays shut seq.0 ack.0
      by true gone so = let two = resets_are (numbers_sent c) (next_number c.received) seq ack so in subst (λ (x : ℕ). Pays shut x ack.0) two.0 (next_pays ack.0 gone)
      by false gone so =
          let two = resets_are 0 (next_number c.received) seq ack so in
          subst (λ (x : ℕ). Pays shut x ack.0) two.0 (subst (λ (x : ℕ). Pays shut 0 x) two.1 (first_pays no_call gone (not_accepted no_call gone) (ap (λ (q : Stage). is_opening q) at)))
  pays_at stage.Synchronized at live seq ack is =
      let two = resets_are (numbers_sent c) (next_number c.received) seq ack is in
      subst (λ (x : ℕ). Pays shut x ack.0) two.0 (next_pays ack.0 (h.opened.sent (ap (λ (q : Stage). is_synchronized q) at)))
  pays_at stage.TimeWait at live seq ack is = absurd cc
  pays_at (stage.Resets a b) at live seq ack is = absurd cc
  pays_at stage.Closed at live seq ack is = absurd cc

  -- and acknowledges what came
  came_next : is_calls c.stage ≡ false → HasNumberThatCame shut (next_number c.received)
  came_next no_call =
      subst (λ (o : Option ℕ). MatchOption o (next_number c.received ≡ 0) (λ f. Conforming (guest last) → HasCome (guest last) (ackd (Acked (next_number c.received) ∷ guest last))))
      (sym (theirs_is ∙ h.opened.theirs ∙ ap (λ (b : Bool). if b then None else Some c.received.first) no_call))
      (comes (next_number c.received) (came_of s c up past h.opened (h.receives no_call)))

  came_none : is_calls c.stage ≡ true → HasNumberThatCame shut 0
  came_none calls =
      subst (λ (o : Option ℕ). MatchOption o (◌≡◌ {A = ℕ} 0 0) (λ f. Conforming (guest last) → HasCome (guest last) (ackd (Acked 0 ∷ guest last))))
      (sym (theirs_is ∙ h.opened.theirs ∙ ap (λ (b : Bool). if b then None else Some c.received.first) calls)) refl

  came_at : (st : Stage) → c.stage ≡ st → is_live st ≡ true → (seq ack : Seq) → over_by st c ≡ stage.Resets seq ack → HasNumberThatCame shut ack.0
  came_at stage.Connecting at live seq ack is =
      let two = resets_are 0 (next_number c.received) seq ack is in
      subst (HasNumberThatCame shut) two.1 (came_next (ap (λ (q : Stage). is_calls q) at))
  came_at stage.SynSent at live seq ack is = by (has_gone c.sendings) is
    where
      by : (b : Bool) → (if b then resets (numbers_sent c) 0 else stage.Closed) ≡ stage.Resets seq ack → HasNumberThatCame shut ack.0
      by true so = let two = resets_are (numbers_sent c) 0 seq ack so in subst (HasNumberThatCame shut) two.1 (came_none (ap (λ (q : Stage). is_calls q) at))
      by false so = absurd cc
  came_at stage.SynReceived at live seq ack is =
      let two = resets_are (if has_gone c.sendings then numbers_sent c else 0) (next_number c.received) seq ack is in
      subst (HasNumberThatCame shut) two.1 (came_next (ap (λ (q : Stage). is_calls q) at))
  came_at stage.Synchronized at live seq ack is =
      let two = resets_are (numbers_sent c) (next_number c.received) seq ack is in
      subst (HasNumberThatCame shut) two.1 (came_next (ap (λ (q : Stage). is_calls q) at))
  came_at stage.TimeWait at live seq ack is = absurd cc
  came_at (stage.Resets a b) at live seq ack is = absurd cc
  came_at stage.Closed at live seq ack is = absurd cc

  -- whether it owes one
  silent : (a b : Bool) → (a ≡ true → b ≡ true) → not (a && not b) ≡ true
  silent true true only = refl
  silent true false only = let not_it = only refl in absurd cc
  silent false b only = refl

  speaks_at : (st : Stage) → c.stage ≡ st → is_live st ≡ true → is_resets (over_by st c) ≡ not (is_accepted last && not (syn_is_out last))
  speaks_at stage.Connecting at live =
      let no_call : is_calls c.stage ≡ false = ap (λ (q : Stage). is_calls q) at in
      let unsent = h.opened.unsent (ap (λ (q : Stage). is_at_connecting q) at) in
      sym (silent (is_accepted last) (syn_is_out last) (λ is. let not_it = sym is ∙ accepted_is ∙ not_accepted no_call unsent in absurd cc))
  speaks_at stage.SynSent at live = by (has_gone c.sendings) refl
    where
      by : (b : Bool) → has_gone c.sendings ≡ b → is_resets (if b then resets (numbers_sent c) 0 else stage.Closed) ≡ not (is_accepted last && not (syn_is_out last))
      by true gone = sym (silent (is_accepted last) (syn_is_out last) (λ is. out_is ∙ h.opened.out ∙ gone))
      by false gone = sym (ap (λ (b : Bool). not (b && not (syn_is_out last))) (accepted_is ∙ h.opened.calls (ap (λ (q : Stage). is_calls q) at)) ∙ ap
          (λ (b : Bool). not (true && not b)) (out_is ∙ h.opened.out ∙ gone))
  speaks_at stage.SynReceived at live =
      let no_call : is_calls c.stage ≡ false = ap (λ (q : Stage). is_calls q) at in
      sym (silent (is_accepted last) (syn_is_out last) (λ is. out_is ∙ h.opened.out ∙ h.opened.called (sym accepted_is ∙ is) no_call))
  speaks_at stage.Synchronized at live = sym (silent (is_accepted last) (syn_is_out last) (λ is. out_is ∙ h.opened.out ∙ h.opened.sent (ap (λ (q : Stage). is_synchronized q) at)))
  speaks_at stage.TimeWait at live = absurd cc
  speaks_at (stage.Resets a b) at live = absurd cc
  speaks_at stage.Closed at live = absurd cc

  dead_at : (st : Stage) → is_live st ≡ true → is_live (over_by st c) ≡ false
  dead_at stage.Connecting live = refl
  dead_at stage.SynSent live = by (has_gone c.sendings)
    where
      by : (b : Bool) → is_live (if b then resets (numbers_sent c) 0 else stage.Closed) ≡ false
      by true = refl
      by false = refl
  dead_at stage.SynReceived live = refl
  dead_at stage.Synchronized live = refl
  dead_at stage.TimeWait live = absurd cc
  dead_at (stage.Resets a b) live = absurd cc
  dead_at stage.Closed live = absurd cc

  -- closed for a cause by which a reset is owed to a guest that knows of the flow
  pub resets_over : Runs s shut m → (((is_accepted last && not (syn_is_out last)) ≡ false) → owes_reset shut ≡ true) → IsOver s (reset c) shut m
  resets_over runs owed = record {
    runs = runs;
    closed = refl;
    well = refl;
    over = dead_at c.stage h.opened.live;
    owes = by (is_accepted last && not (syn_is_out last)) refl ∙ sym (speaks_at c.stage refl h.opened.live);
    pays = pays_at c.stage refl h.opened.live;
    came = came_at c.stage refl h.opened.live;
  }
    where
      by : (b : Bool) → (is_accepted last && not (syn_is_out last)) ≡ b → owes_reset shut ≡ not b
      by true is = unsent_owes_none last m directly ended known is
      by false is = owed is

  -- closed for another, by which none is owed
  pub gone_over : Runs s shut m → owes_reset shut ≡ false → IsOver s (record c { stage = stage.Closed }) shut m
  gone_over runs none = record {
    runs = runs;
    closed = refl;
    well = refl;
    over = refl;
    owes = none;
    pays = λ seq ack is. absurd cc;
    came = λ seq ack is. absurd cc;
  }
