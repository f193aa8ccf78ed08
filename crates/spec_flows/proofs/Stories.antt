-- What becomes of a flow by one event.
use Rattle.std.proofs.Common.{◌≡◌, ℕ, ◌≤◌, Bool, true, false, List, [], ◌∷◌, Option, Some, None, MatchBool, MatchOption, if◌then◌else◌, refl, sym, subst, arith}
use Rattle.spec_flow.specs.Event.{Segment, Event, Departs, At, Story, IsStory, Opens, is_failure, newest_moment}
use Rattle.spec_flow.specs.Close.{host_failed}
use Rattle.spec_flow.specs.Dutiful.{Must, MustClose, MustHappen}
use Rattle.spec_flow.specs.Lawful.{Act, AskConnected, Write, EndHost, Read, Send, May, MayHappen, act_of}
use Rattle.spec_flow.specs.Settings.{Settings}
use Rattle.world_face.specs.declared.Io.{Io}
use Rattle.world_face.specs.declared.Io.TheVariants.{Done, End, NotYet, Failed}
use Rattle.world_face.specs.declared.Made.{Made}
use Rattle.world_face.specs.declared.Made.TheVariants.{Done as MadeDone, Failed as MadeFailed}
use Rattle.world_face.specs.declared.Joined.{Joined}
use Rattle.world_face.specs.declared.Joined.TheVariants.{Yes, NotYet as NotYetJoined, Failed as JoinFailed}
use Rattle.spec_flows.specs.Doings.{joined, read_by, written_by, ended_by}
use Rattle.spec_flows.specs.Flows.{Flow, is_strange, sends, with_event}
use Rattle.spec_flows.specs.Said.{Kept}

longer : (past : Story) (m : ℕ) (e : Event) → (Opens e → ⊥) → newest_moment past ≤ m → IsStory past → IsStory (At m e ∷ past)
longer [] m e other later story = absurd story
longer (b ∷ past) m e other later story = (other, later, story)

-- ---- the events of calls

-- what was done may happen where the act may be done, and must where the act must
pub may_happen : (s : Settings) (past : Story) (m : ℕ) (e : Event) (act : Act) → act_of e ≡ Some act → May s past m act → MayHappen s past (At m e)
may_happen s past m e act is may = subst (λ (o : Option Act). MatchOption o (host_failed past ≡ false) (λ a. May s past m a)) (sym is) may

pub must_happen : (s : Settings) (past : Story) (m : ℕ) (e : Event) (act : Act) → act_of e ≡ Some act → Must s past m act → MustHappen s past (At m e)
must_happen s past m e act is must = subst (λ (o : Option Act). MatchOption o (MustClose past → ⊥) (λ a. Must s past m a)) (sym is) must

pub joined_act : (answer : Joined) → act_of (joined answer) ≡ Some AskConnected
joined_act Yes = refl
joined_act NotYetJoined = refl
joined_act JoinFailed = refl

pub joined_opens : (answer : Joined) → Opens (joined answer) → ⊥
joined_opens Yes opens = opens
joined_opens NotYetJoined opens = opens
joined_opens JoinFailed opens = opens

pub read_act : (answer : Io) (octets : List ℕ) → act_of (read_by answer octets) ≡ Some Read
read_act (Done n) octets = refl
read_act End octets = refl
read_act NotYet octets = refl
read_act Failed octets = refl

pub read_opens : (answer : Io) (octets : List ℕ) → Opens (read_by answer octets) → ⊥
read_opens (Done n) octets opens = opens
read_opens End octets opens = opens
read_opens NotYet octets opens = opens
read_opens Failed octets opens = opens

pub write_act : (answer : Io) (octets : List ℕ) → act_of (written_by answer octets) ≡ Some (Write octets)
write_act (Done n) octets = refl
write_act End octets = refl
write_act NotYet octets = refl
write_act Failed octets = refl

pub write_opens : (answer : Io) (octets : List ℕ) → Opens (written_by answer octets) → ⊥
write_opens (Done n) octets opens = opens
write_opens End octets opens = opens
write_opens NotYet octets opens = opens
write_opens Failed octets opens = opens

pub end_act : (answer : Made) → act_of (ended_by answer) ≡ Some EndHost
end_act MadeDone = refl
end_act MadeFailed = refl

pub end_opens : (answer : Made) → Opens (ended_by answer) → ⊥
end_opens MadeDone opens = opens
end_opens MadeFailed opens = opens

-- ---- one flow

module _ (s : Settings) (now : ℕ) where
  -- nothing happened to it, where no socket was to be closed, or another one
  pub stays : (later : ℕ) (doomed doomed_new : Option ℕ) (f : Flow) → now ≤ later → (doomed ≡ Some f.number → ⊥) → Kept s now doomed f → Kept s later doomed_new f
  stays later doomed doomed_new f follows other kept = record {
    story = kept.story;
    moment = omega (arith, follows, kept.moment);
    lawful = kept.lawful;
    dutiful = kept.dutiful;
    failed = λ failed. absurd (other (kept.failed failed));
  }

  -- an event that may happen, and is as it must be where it was done
  pub happened : (doomed doomed_new : Option ℕ) (e : Event) (f : Flow) → (Opens e → ⊥) → MayHappen s f.story (At now e) → MustHappen s f.story (At now e) →
      (is_failure e ≡ true → doomed_new ≡ Some f.number)
      → Kept s now doomed f → Kept s now doomed_new (with_event now e f)
  happened doomed doomed_new e f other may must dooms kept = record {
    story = longer f.story now e other kept.moment kept.story;
    moment = omega arith;
    lawful = (may, kept.lawful);
    dutiful = (must, kept.dutiful);
    failed = dooms;
  }

  not_true : (b : Bool) → (b ≡ true → ⊥) → b ≡ false
  not_true true not = absurd (not refl)
  not_true false not = refl

  -- it hadn't failed
  pub well : (doomed : Option ℕ) (f : Flow) → (doomed ≡ Some f.number → ⊥) → Kept s now doomed f → host_failed f.story ≡ false
  well doomed f other kept = not_true (host_failed f.story) (λ failed. other (kept.failed failed))

  pub sent : (doomed : Option ℕ) (segment : Segment) (f : Flow) → (doomed ≡ Some f.number → ⊥) → MatchBool (is_strange segment f) (Unit {0}) (May s f.story now (Send segment))
      → MatchBool (is_strange segment f) (Unit {0}) (Must s f.story now (Send segment)) → Kept s now doomed f → Kept s now None (sends now segment f)
  sent doomed segment f other may must kept = by_test (is_strange segment f) may must
    where
      none_fails : false ≡ true → None ≡ Some f.number
      none_fails is = cc

      by_test : (b : Bool) → MatchBool b (Unit {0}) (May s f.story now (Send segment)) → MatchBool b (Unit {0}) (Must s f.story now (Send segment))
          → Kept s now None (if b then f else with_event now (Departs segment) f)
      by_test true may must = stays now doomed None f (omega arith) other kept
      by_test false may must = happened doomed None (Departs segment) f (λ opens. opens) may must none_fails kept
