-- What was done was lawful, and as it must be, event by event.
use Rattle.std.proofs.Common.{◌≡◌, ℕ, ◌≤◌, [], ◌∷◌, false, Option, None, Some, MatchOption, arith, subst, sym, ◌∙◌}
use Rattle.spec_flow.specs.Settings.{Settings}
use Rattle.spec_flow.specs.Event.{Event, At, IsStory, Opens, Story, newest_moment}
use Rattle.spec_flow.specs.Flow.{is_closed}
use Rattle.spec_flow.specs.Close.{host_failed, newest_rst}
use Rattle.spec_flow.specs.Lawful.{Act, May, MayHappen, act_of}
use Rattle.spec_flow.specs.Dutiful.{Must, MustClose, MustHappen}
use Rattle.sim_connection.specs.Holding.{Goes}

-- a story goes on
pub longer : (past : Story) (m : ℕ) (e : Event) → (Opens e → ⊥) → newest_moment past ≤ m → IsStory past → IsStory (At m e ∷ past)
longer [] m e opens_none low is = absurd is
longer (b ∷ past) m e opens_none low is = (opens_none, low, is)

-- where the newest event isn't a reset of the guest, none asks for a close
pub nothing_to_close : (past : Story) → newest_rst past ≡ None → MustClose past → ⊥
nothing_to_close past none must = let is = sym must.1 ∙ none in absurd cc

acted : (s : Settings) (past : Story) (m : ℕ) (e : Event) (act : Act) → act_of e ≡ Some act → May s past m act → MayHappen s past (At m e)
acted s past m e act is may = subst (λ (o : Option Act). MatchOption o (host_failed past ≡ false) (λ a. May s past m a)) (sym is) may

did : (s : Settings) (past : Story) (m : ℕ) (e : Event) (act : Act) → act_of e ≡ Some act → Must s past m act → MustHappen s past (At m e)
did s past m e act is must = subst (λ (o : Option Act). MatchOption o (MustClose past → ⊥) (λ a. Must s past m a)) (sym is) must

came : (s : Settings) (past : Story) (m : ℕ) (e : Event) → act_of e ≡ None → host_failed past ≡ false → MayHappen s past (At m e)
came s past m e is well = subst (λ (o : Option Act). MatchOption o (host_failed past ≡ false) (λ a. May s past m a)) (sym is) well

stood : (s : Settings) (past : Story) (m : ℕ) (e : Event) → act_of e ≡ None → (MustClose past → ⊥) → MustHappen s past (At m e)
stood s past m e is free = subst (λ (o : Option Act). MatchOption o (MustClose past → ⊥) (λ a. Must s past m a)) (sym is) free

-- something was done, which was allowed
pub does : (s : Settings) (past : Story) (now m : ℕ) (e : Event) (act : Act) → Goes s past now → now ≤ m → (Opens e → ⊥) → act_of e ≡ Some act → May s past m act → Must s past m act
    → is_closed (At m e ∷ past) ≡ false → host_failed (At m e ∷ past) ≡ false → newest_rst (At m e ∷ past) ≡ None → Goes s (At m e ∷ past) m
does s past now m e act g on opens_none is may must open_yet well none = record {
  story = longer past m e opens_none (omega (arith, g.moment, on)) g.story;
  moment = omega arith;
  lawful = (acted s past m e act is may, g.lawful);
  dutiful = (did s past m e act is must, g.dutiful);
  open_yet = open_yet;
  well = well;
  free = nothing_to_close (At m e ∷ past) none;
}

-- something came, after which nothing asks for a close
pub comes : (s : Settings) (past : Story) (now m : ℕ) (e : Event) → Goes s past now → now ≤ m → (Opens e → ⊥) → act_of e ≡ None
    → is_closed (At m e ∷ past) ≡ false → host_failed (At m e ∷ past) ≡ false → (MustClose (At m e ∷ past) → ⊥) → Goes s (At m e ∷ past) m
comes s past now m e g on opens_none is open_yet well free = record {
  story = longer past m e opens_none (omega (arith, g.moment, on)) g.story;
  moment = omega arith;
  lawful = (came s past m e is g.well, g.lawful);
  dutiful = (stood s past m e is g.free, g.dutiful);
  open_yet = open_yet;
  well = well;
  free = free;
}

-- time passes
pub later : (s : Settings) (past : Story) (now m : ℕ) → now ≤ m → Goes s past now → Goes s past m
later s past now m on g = record {
  story = g.story;
  moment = omega (arith, g.moment, on);
  lawful = g.lawful;
  dutiful = g.dutiful;
  open_yet = g.open_yet;
  well = g.well;
  free = g.free;
}
