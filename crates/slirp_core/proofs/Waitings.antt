-- Which fragments wait, as time goes on and as frames come.
use Rattle.std.proofs.Common.{◌≡◌, ℕ, ◌≤◌, cond, Bool, true, false, List, [], ◌∷◌, Option, None, Some, option_map, refl, sym, ◌∙◌, ap, subst, arith}
use Rattle.std.proofs.lemmas.Bool.Decides.{nat_tests}
use Rattle.world_face.specs.Journal.{Entry, Now}
use Rattle.world_face.specs.Frames.{arrives}
use Rattle.slirp_settings.specs.Addresses.{Config}
use Rattle.ipv4_head.specs.Sets.{Carrying, Key, Part, PartSet, changed_by, is_young, left_by, outcome_among, parts_for, young}
use Rattle.ipv4_head.proofs.Members.{of_young}
use Rattle.ipv4_reasm.specs.Areas.{Gathered, StandFor}
use Rattle.spec_trace.specs.Fragments.{Fragment, fragment_in, sets, waiting, with_fragment, with_frame}
use Rattle.spec_trace.specs.Happenings.{happens}
use Rattle.spec_trace.specs.Moments.{moment}
use Rattle.slirp_core.specs.Fragments.{IsHeld}
use Rattle.slirp_core.specs.State.{SlirpState}
use Rattle.slirp_core.specs.Waiting.{OfFragments}

-- the clock doesn't go back
later : (e : Entry) (past : List Entry) → moment past ≤ moment (e ∷ past)
later (Now told) past = omega arith
later _ past = omega arith

-- those that are young at a later moment were young before
young_if : (one other : ℕ) (s : PartSet) (b : Bool) → one ≤ other → is_young one s ≡ b → (sets : List PartSet) → young other (cond b (s ∷ sets) sets) ≡ cond (is_young other s)
    (s ∷ young other sets) (young other sets)
young_if one other s true goes is sets = refl
young_if one other s false goes is sets =
    let old : is_young other s ≡ false = grind (arith, nat_tests, is, goes) in
    sym (ap (λ (b : Bool). cond b (s ∷ young other sets) (young other sets)) old)

pub young_again : (one other : ℕ) (sets : List PartSet) → one ≤ other → young other (young one sets) ≡ young other sets
young_again one other [] goes = refl
young_again one other (s ∷ sets) goes =
    young_if one other s (is_young one s) goes refl (young one sets)
    ∙ ap (λ (l : List PartSet). cond (is_young other s) (s ∷ l) l) (young_again one other sets goes)

same_young : (one other : ℕ) (a b : List PartSet) → one ≤ other → young one a ≡ young one b → young other a ≡ young other b
same_young one other a b goes is = sym (young_again one other a goes) ∙ ap (young other) is ∙ young_again one other b goes

-- a fragment sees the young ones alone
abbrev left_from : ℕ → Key → Part → List PartSet → List PartSet
left_from now key p waiting = left_by (outcome_among p (parts_for key waiting)) key (changed_by (outcome_among p (parts_for key waiting)) now key p waiting)

same_with : (now : ℕ) (o : Option Fragment) (a b : List PartSet) → young now a ≡ young now b → young now (with_fragment now o a) ≡ young now (with_fragment now o b)
same_with now None a b is = is
same_with now (Some f) a b is = ap (λ (waiting : List PartSet). young now (left_from now f.key f.part waiting)) is

-- at the beginning nothing waits
pub fragments_begin : (config : Config) (slirp : SlirpState) (told : Entry) → arrives told [] ≡ None → slirp.fragments ≡ [] → OfFragments config slirp (told ∷ [])
fragments_begin config slirp told nothing none = record {
  held = [];
  is_held = subst (λ (areas : List Gathered). IsHeld areas []) (sym none) (record { stand = tt; carry = tt });
  wait = sym (ap (λ o. young (moment (told ∷ [])) (with_frame config 0 o [])) nothing);
}

-- no frame came
no_frame : {A B : Type 0} (f : A → B) (o : Option A) → option_map f o ≡ None → o ≡ None
no_frame f None is = refl
no_frame f (Some a) is = cc

pub none_arrived : (config : Config) (past : List Entry) (e : Entry) → (happens config past e).came ≡ None → arrives e past ≡ None
none_arrived config past e is = no_frame _ (arrives e past) is

-- an entry by which no frame came
pub fragments_stay : (config : Config) (slirp new : SlirpState) (e : Entry) (past : List Entry) → arrives e past ≡ None → new.fragments ≡ slirp.fragments →
    OfFragments config slirp past → OfFragments config new (e ∷ past)
fragments_stay config slirp new e past nothing same is = record {
  held = is.held;
  is_held = subst (λ (areas : List Gathered). IsHeld areas is.held) (sym same) is.is_held;
  wait = same_young (moment past) (moment (e ∷ past)) is.held (sets config past) (later e past) is.wait
      ∙ sym (ap (λ o. young (moment (e ∷ past)) (with_frame config (moment past) o (sets config past))) nothing);
}

-- one by which a frame came
pub fragments_take : (config : Config) (slirp new : SlirpState) (e : Entry) (past : List Entry) (frame : List ℕ) → arrives e past ≡ Some frame → moment (e ∷ past) ≡ moment past →
    slirp.moment ≡ moment past → (is : OfFragments config slirp past)
    → IsHeld new.fragments (with_fragment slirp.moment (fragment_in config frame) is.held) → OfFragments config new (e ∷ past)
fragments_take config slirp new e past frame came at now is held = record {
  held = with_fragment (moment past) (fragment_in config frame) is.held;
  is_held = subst (λ (n : ℕ). IsHeld new.fragments (with_fragment n (fragment_in config frame) is.held)) now held;
  wait =
      ap (λ n. young n (with_fragment (moment past) (fragment_in config frame) is.held)) at
      ∙ same_with (moment past) (fragment_in config frame) is.held (sets config past) is.wait
      ∙ sym (ap (λ n. young n (with_fragment (moment past) (fragment_in config frame) (sets config past))) at)
      ∙ sym (ap (λ o. young (moment (e ∷ past)) (with_frame config (moment past) o (sets config past))) came);
}

-- old ones are dropped
pub fragments_dropped : (config : Config) (slirp new : SlirpState) (past : List Entry) → slirp.moment ≡ moment past → (is : OfFragments config slirp past) → IsHeld new.fragments
    (young slirp.moment is.held) → OfFragments config new past
fragments_dropped config slirp new past now is held = record {
  held = young (moment past) is.held;
  is_held = subst (λ (n : ℕ). IsHeld new.fragments (young n is.held)) now held;
  wait = young_again (moment past) (moment past) is.held (omega arith) ∙ is.wait;
}

-- what drops areas drops sets
pub drops_old : (now : ℕ) (areas new : List Gathered) (slirp : SlirpState) → now ≡ slirp.moment → areas ≡ slirp.fragments →
    ((held : List PartSet) → StandFor areas held → StandFor new (young now held))
    → (held : List PartSet) → IsHeld slirp.fragments held → IsHeld new (young slirp.moment held)
drops_old now areas new slirp at same drops held is = record {
  stand = subst (λ (n : ℕ). StandFor new (young n held)) at (drops held (subst (λ (l : List Gathered). StandFor l held) (sym same) is.stand));
  carry = of_young Carrying slirp.moment held is.carry;
}
