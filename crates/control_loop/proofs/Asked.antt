-- A line that is whole asks for a command, or none is whole.
use Rattle.std.proofs.Common.{◌≡◌, ℕ, ◌&&◌, Bool, true, false, cond, is_some, List, [], Option, Some, None, option_map, refl, sym, ◌∙◌, ap, subst, codes}
use Rattle.world_face.specs.Journal.{Entry}
use Rattle.slirp_settings.specs.Addresses.{Config}
use Rattle.spec_flows.specs.Book.{book}
use Rattle.stream_netdev.specs.State.{LinkState}
use Rattle.slirp_core.specs.Holds.{after, as_given}
use Rattle.slirp_core.specs.State.{SlirpState}
use Rattle.serve_loop.specs.Turns.{AttendsNow}
use Rattle.rules_control.specs.Apart.{without_control}
use Rattle.rules_control.specs.Talk.{Talk, after_line, first_line, is_out, is_to_answer, line_and_rest, line_end, with_left}
use Rattle.rules_control.specs.Commands.{Means}
use Rattle.rules_control.specs.declared.Command.{Command}
use Rattle.rules_control.specs.declared.Command.TheVariants.{List as Lists, What}
use Rattle.control.proofs.Encoding.{one_command}
use Rattle.spec_control.specs.ControlServer.{ControlServer, Reads, answers, answers_line, flows_in_use, says, serves, with_changes, with_talk}
use Rattle.spec_control.specs.Laws.{IsReading}
use Rattle.spec_control.specs.Replies.{list_reply, reply_line}
use Rattle.control_loop.specs.Standing.{Agrees, Asks, Owes, Stands, with_lists}
use Rattle.control_loop.proofs.Answering.{agrees_with, attends, said, stands_as}

-- nothing is answered where no line is whole, no connection is open, or a reply is left
serves_none : (read : Reads) (config : Config) (seen : List Entry) (d : ControlServer) → is_to_answer d.talk ≡ false → serves read config seen d ≡ d
serves_none read config seen d quiet = by (is_out d.talk) (is_some d.talk.peer) (line_end d.talk.kept) quiet
  where
    by : (out open_yet : Bool) (end : Option ℕ) → (out && open_yet && is_some end) ≡ false
        → cond (out && open_yet) (answers_line read config seen (option_map (line_and_rest d.talk.kept) end) d) d ≡ d
    by true true None quiet = refl
    by true true (Some n) quiet = cc
    by true false end quiet = refl
    by false open_yet end quiet = refl

serves_line : (read : Reads) (config : Config) (seen : List Entry) (d : ControlServer) (split : List ℕ × List ℕ) → is_out d.talk ≡ true → is_some d.talk.peer ≡ true → first_line d.talk.kept ≡ Some split
    → serves read config seen d ≡ answers config seen (read split.0) (with_talk (after_line d.talk) d)
serves_line read config seen d split out open_yet whole =
    ap (λ b. cond (b && is_some d.talk.peer) (answers_line read config seen (first_line d.talk.kept) d) d) out
    ∙ ap (λ b. cond b (answers_line read config seen (first_line d.talk.kept) d) d) open_yet ∙ ap (λ o. answers_line read config seen o d) whole

module _ {talk : Talk} {slirp : SlirpState} {link : LinkState} (read : Reads) (config : Config) (count : ℕ) (past : List Entry) where
  pub none_asked : is_to_answer talk ≡ false → Owes talk slirp link read config count past → Stands [] talk slirp link read config count past
  none_asked quiet owes =
      stands_as read config count past owes.before owes.control owes.reported
      (owes.is ∙ serves_none read (with_changes config owes.before) (without_control past) owes.before
      (ap is_to_answer owes.agrees.talk ∙ quiet)) owes.agrees

  pub asked : (guest : ℕ) (split : List ℕ × List ℕ) (command : Command) → guest ≡ config.dhcp_start → IsReading config read → is_out talk ≡ true → is_some talk.peer ≡ true
      → first_line talk.kept ≡ Some split → Means guest split.0 command → Owes talk slirp link read config count past → Asks command (after_line talk) slirp link read config count past
  asked guest split command leased reading out open_yet whole means owes =
      let d = owes.before in
      let talks = owes.agrees.talk in
      record {
        control = owes.control;
        reported = owes.reported;
        before = with_talk (after_line d.talk) d;
        is = owes.is
            ∙ serves_line read (with_changes config d) (without_control past) d split (ap is_out talks ∙ out) (ap (λ (t : Talk). is_some t.peer) talks ∙ open_yet)
            (ap (λ (t : Talk). first_line t.kept) talks ∙ whole)
            ∙ ap (λ k. answers (with_changes config d) (without_control past) k (with_talk (after_line d.talk) d))
            (one_command config.dhcp_start split.0 (read split.0) command (reading split.0) (subst (λ n. Means n split.0 command) leased means));
        agrees = subst (λ t. Agrees config (with_talk (after_line d.talk) d) count (after_line t) slirp link (without_control past)) talks
            (agrees_with config count talk slirp link (without_control past) d (after_line d.talk) owes.agrees);
      }

  -- the two that call nothing
  pub what_said : Asks What talk slirp link read config count past → (text : List ℕ) → text ≡ reply_line (codes "what") → Stands [] (with_left text talk) slirp link read config count past
  what_said asks text is = said read config count past asks.before text asks.control asks.reported (asks.is ∙ ap (λ t. says t asks.before) (sym is)) asks.agrees

  pub list_said : config ≡ as_given config → (text : Talk)
      → ((settings : Config) (past : List Entry) → AttendsNow settings (after count) false slirp link past → text ≡ with_left (list_reply slirp.forwards (flows_in_use (book settings past).flows)) talk)
      → Asks Lists talk slirp link read config count past → Stands [] text slirp link read config count past
  list_said given text listed asks =
      let d = asks.before in
      let settings = with_lists config d.added d.removed in
      let reply = list_reply slirp.forwards (flows_in_use (book settings (without_control past)).flows) in
      subst (λ t. Stands [] t slirp link read config count past)
      (sym (listed settings (without_control past) (attends read config count past d given asks.control asks.reported asks.agrees)))
      (said read config count past d reply asks.control asks.reported
      (asks.is ∙ ap (λ l. says (list_reply l (flows_in_use (book settings (without_control past)).flows)) d) asks.agrees.forwards) asks.agrees)
