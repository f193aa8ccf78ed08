-- Of the flows that may give way the one whose last sign of life is the earliest.
use Rattle.std.proofs.Common.{◌≡◌, ℕ, zero, suc, ◌≤◌, ◌==◌, ◌&&◌, ◌||◌, not, nat_lt, Bool, true, false, List, [], ◌∷◌, Contains, Option, Some, None, option_map, if◌then◌else◌, refl, sym, ◌∙◌, subst, arith}
use Rattle.std.proofs.lemmas.Bool.Decides.{nat_tests}
use Rattle.std.proofs.lemmas.List.Elements.{Contains-append_right}
use Rattle.std.specs.List.{list_any}
use Rattle.slirp_settings.specs.Addresses.{Config}
use Rattle.spec_flow.specs.Close.{last_at, may_give_way, owes_reset}
use Rattle.spec_flows.specs.Flows.{Book, Flow}
use Rattle.spec_flows.specs.SegmentVerdicts.{SegmentVerdict, OfFlow, Dropped, AsksFor, NeedsRoom, GetsReset, giving_way, goes_before, segment_verdict, needs_room, quietest, the_earlier}
use Rattle.spec_flows.specs.Said.{IsQuietest}
use Rattle.spec_flows.specs.Segments.{OnTuple}

-- what a list says of one flow more
abbrev Answers : ℕ → List Flow → Option Flow → Type 0
Answers now flows None = (g : Flow) → Contains flows g → may_give_way now g.story ≡ true → ⊥
Answers now flows (Some f) = IsQuietest now flows f

not_earlier : (f g : Flow) → goes_before f g ≡ false → last_at g.story ≤ last_at f.story
not_earlier f g is = by (nat_lt (last_at f.story) (last_at g.story)) refl is
  where
    by : (b : Bool) → nat_lt (last_at f.story) (last_at g.story) ≡ b → (b || ((last_at f.story == last_at g.story) && nat_lt f.number g.number)) ≡ false → last_at g.story ≤ last_at f.story
    by true less is = cc
    by false less is = grind (arith, nat_tests, less)

earlier : (f g : Flow) → goes_before f g ≡ true → last_at f.story ≤ last_at g.story
earlier f g is = by (nat_lt (last_at f.story) (last_at g.story)) refl (last_at f.story == last_at g.story) refl is
  where
    by : (b : Bool) → nat_lt (last_at f.story) (last_at g.story) ≡ b → (t : Bool) → (last_at f.story == last_at g.story) ≡ t → (b || (t && nat_lt f.number g.number)) ≡ true
        → last_at f.story ≤ last_at g.story
    by true less t same is = grind (arith, nat_tests, less)
    by false less true same is = grind (arith, nat_tests, same)
    by false less false same is = cc

-- the first of a list, or one behind it
each_of : (P : Flow → Type 0) (f : Flow) (flows : List Flow) (g : Flow) → Contains (f ∷ flows) g → P f → (Contains flows g → P g) → P g
each_of P f flows g (zero, less, at) here there = subst P at here
each_of P f flows g (suc k, less, at) here there = there (k, omega (arith, less), at)

pub answers : (now : ℕ) (flows : List Flow) → Answers now flows (quietest now flows)
answers now [] = λ g (k, less, at) may. omega (arith, less)
answers now (f ∷ flows) = by (may_give_way now f.story) refl (quietest now flows) (answers now flows)
  where
    one : (o : Option Flow) → may_give_way now f.story ≡ true → Answers now flows o → IsQuietest now (f ∷ flows) (the_earlier f o)
    one None may none = record {
      one = (0, omega arith, refl);
      may = may;
      least = λ g among g_may. each_of (λ h. may_give_way now h.story ≡ true → last_at f.story ≤ last_at h.story) f flows g among (λ is. omega arith) (λ there is. absurd (none g there is)) g_may;
    }
    one (Some r) may is = first (goes_before f r) refl
      where
        first : (b : Bool) → goes_before f r ≡ b → IsQuietest now (f ∷ flows) (if b then f else r)
        first true before = record {
          one = (0, omega arith, refl);
          may = may;
          least = λ g among g_may. each_of (λ h. may_give_way now h.story ≡ true → last_at f.story ≤ last_at h.story) f flows g among (λ same. omega arith)
              (λ there may_it. let low = earlier f r before in let high = is.least g there may_it in omega (arith, low, high)) g_may;
        }
        first false behind = record {
          one = Contains-append_right (f ∷ []) flows r is.one;
          may = is.may;
          least = λ g among g_may. each_of (λ h. may_give_way now h.story ≡ true → last_at r.story ≤ last_at h.story) f flows g among (λ same. not_earlier f r behind)
              (λ there may_it. is.least g there may_it) g_may;
        }

    by : (b : Bool) → may_give_way now f.story ≡ b → (o : Option Flow) → Answers now flows o → Answers now (f ∷ flows) (if b then Some (the_earlier f o) else o)
    by true may o is = one o may is
    by false may None none = λ g among g_may. each_of (λ h. may_give_way now h.story ≡ true → ⊥) f flows g among (λ is. cc (sym may ∙ is)) (λ there is. none g there is) g_may
    by false may (Some r) is = record {
      one = Contains-append_right (f ∷ []) flows r is.one;
      may = is.may;
      least = λ g among g_may. each_of (λ h. may_give_way now h.story ≡ true → last_at r.story ≤ last_at h.story) f flows g among (λ same. cc (sym may ∙ same))
          (λ there may_it. is.least g there may_it) g_may;
    }

-- ---- to a SYN that finds no room

gives_of : (config : Config) (now number : ℕ) (on : OnTuple) (b : Book) (l : SegmentVerdict) (owed : Bool) (o : Option Flow) → segment_verdict config b on ≡ l
    → (if needs_room l && not owed then option_map (λ (f : Flow). f.number) o else None) ≡ Some number → (segment_verdict config b on ≡ NeedsRoom) × (f : Flow) × (o ≡ Some f) × (f.number ≡ number)
gives_of config now number on b OfFlow owed o is gives = cc
gives_of config now number on b Dropped owed o is gives = cc
gives_of config now number on b (AsksFor to) owed o is gives = cc
gives_of config now number on b GetsReset owed o is gives = cc
gives_of config now number on b NeedsRoom true o is gives = cc
gives_of config now number on b NeedsRoom false None is gives = cc
gives_of config now number on b NeedsRoom false (Some f) is gives = (is, f, refl, the_same gives)
  where
    the_same : Some f.number ≡ Some number → f.number ≡ number
    the_same same_one = cc

gives : (config : Config) (now number : ℕ) (on : OnTuple) (b : Book) → giving_way config now on b ≡ Some number
    → (segment_verdict config b on ≡ NeedsRoom) × (f : Flow) × (quietest now b.flows ≡ Some f) × (f.number ≡ number)
gives config now number on b is = gives_of config now number on b (segment_verdict config b on) (list_any (λ f. owes_reset f.story) b.flows) (quietest now b.flows) refl is

pub to_a_syn : (config : Config) (now number : ℕ) (on : OnTuple) (b : Book) → giving_way config now on b ≡ Some number → segment_verdict config b on ≡ NeedsRoom
to_a_syn config now number on b is = (gives config now number on b is).0

pub quietest_gives : (config : Config) (now number : ℕ) (on : OnTuple) (b : Book) → giving_way config now on b ≡ Some number → (f : Flow) × (f.number ≡ number) × IsQuietest now b.flows f
quietest_gives config now number on b is =
    let all = gives config now number on b is in
    (all.1, all.3, subst (Answers now b.flows) all.2 (answers now b.flows))
