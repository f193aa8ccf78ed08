use Rattle.std.proofs.Common.{◌≡◌, ◌⊎◌, inl, inr, ℕ, IsTrue, refl, sym, subst, true, false, ◌∙◌}
use Rattle.slirp_settings.specs.Settings.{settings}
use Rattle.replay.specs.Rows.{TakesTooMuch}
use Rattle.replay.specs.Unread.{IsFirstUnread}
use Rattle.app_edges.specs.Fetching.{is_read}
use Rattle.app_edges.specs.declared.outcome.Outcome.{Outcome}
use Rattle.app_edges.specs.declared.outcome.Outcome.TheVariants.{ScheduleLine, NoMemory}
use Rattle.world_face.proofs.Telling.{makes_as}
use Rattle.slirp_app.specs.Causes.{Came}
use Rattle.app_edges.specs.Statuses.{code_of}
use Rattle.slirp_app.proofs.replaying.replay_file.Goals as goal

not_memory : (outcome : Outcome) (line : ℕ) → IsTrue (is_read (code_of outcome)) → (outcome ≡ ScheduleLine line) ⊎ (outcome ≡ NoMemory) → outcome ≡ ScheduleLine line
not_memory outcome line read (inl is) = is
not_memory outcome line read (inr is) = cc

pub returns-in-Ok-clause-calls : goal.returns-in-Ok-clause-calls
returns-in-Ok-clause-calls g c =
    makes_as _ _ _ _ c.in-Ok.ensures.makes (λ made read. (
      read.0,
      record {
        unreadable = ((λ is. absurd (c.replay.ensures.read.2 is)), λ is. let not_it = sym is ∙ read.1.2 in absurd cc);
        large = λ is. (read.1.1, subst TakesTooMuch read.1.0 (c.replay.ensures.large is));
        whole = λ is. read.1.1;
        first = λ line is. subst (λ l. IsFirstUnread l line) read.1.0 (c.replay.ensures.first line is);
        misencoded = λ is line unread. not_memory c.replay.result line is (c.replay.ensures.misencoded line (subst (λ l. IsFirstUnread l line) (sym read.1.0) unread));
        came = λ is. subst (λ l. Came (settings c.args.config.now) c.replay.result l (g.K.Sink.holds c.args.out.now) (g.K.Sink.holds c.replay.new.out)) read.1.0 c.replay.ensures.came;
      },
    ))

pub returns-in-Err-Unreadable-clause-calls : goal.returns-in-Err-Unreadable-clause-calls
returns-in-Err-Unreadable-clause-calls g c = makes_as _ _ _ _ c.in-Err-Unreadable.ensures.makes
    (λ made read. (
      read.0,
      record {
        unreadable = ((λ is. read.2.0 c.in-Err-Unreadable.field-0-is), λ is. refl);
        large = λ is. cc;
        whole = λ is. cc;
        came = λ is. cc;
        first = λ line is. cc;
        misencoded = λ is. cc;
      },
    ))

pub returns-in-Err-NoMemory-clause-calls : goal.returns-in-Err-NoMemory-clause-calls
returns-in-Err-NoMemory-clause-calls g c = makes_as _ _ _ _ c.in-Err-NoMemory.ensures.makes
    (λ made read. (
      read.0,
      record {
        unreadable = ((λ is. cc), λ is. let not_it = sym c.in-Err-NoMemory.field-0-is ∙ read.2.1 is in absurd cc);
        large = λ is. cc;
        whole = λ is. cc;
        came = λ is. cc;
        first = λ line is. cc;
        misencoded = λ is. cc;
      },
    ))
