-- An address that was leased stays its client's for a day, unless that gives it up.
use Rattle.std.proofs.Common.{◌≡◌, ◌≢◌, ◌⊎◌, inl, inr, ℕ, zero, suc, ◌+◌, ◌<◌, ◌≤◌, nat_lt, Bool, true, false, if◌then◌else◌, List, [], ◌∷◌, ◌++◌}
use Rattle.std.proofs.Common.{length, map, set, Option, Some, None, refl, sym, ap, ◌∙◌, subst, arith, get_or-set_same, get_or-set_other}
use Rattle.std.specs.Prelude.{MatchOption, position}
use Rattle.std.specs.Option.{option_or, option_and_then}
use Rattle.std.proofs.lemmas.Bool.{false≢true, cases_eq}
use Rattle.std.proofs.lemmas.Bool.Decides.{nat_tests}
use Rattle.std.proofs.lemmas.List.{length-map}
use Rattle.std.proofs.lemmas.List.Quantifiers.{position-Some}
use Rattle.net_octets.specs.declared.Mac.{Mac}
use Rattle.slirp_settings.specs.Addresses.{Config}
use Rattle.rules_dhcp.specs.declared.Lease.{Lease}
use Rattle.rules_dhcp.specs.declared.Lease.TheVariants.{Free, Reserved, Bound, Declined}
use Rattle.rules_dhcp.specs.declared.Message.{Message}
use Rattle.rules_dhcp.specs.declared.Answer.{Answer}
use Rattle.rules_dhcp.specs.declared.Answer.TheVariants.{Silence, Offers, Lends, Informs, Refuses}
use Rattle.rules_dhcp.specs.declared.Outcome.{Outcome}
use Rattle.rules_dhcp.specs.Leases.{same_mac, at_moment, is_free, is_of, lease_at, place_of, free_asked, offered, reserved, freed, not_reserved, can_have, lend}
use Rattle.rules_dhcp.specs.Leases.{lease_time, declined_time}
use Rattle.rules_dhcp.specs.Serving.{discover, request, decline, release, leaves, asked_place, offers, is_for_another, wanted, lends, requested, given_up, outcome_of, served}
use Rattle.rules_dhcp.specs.Messages.{read_message}
use Rattle.rules_dhcp.specs.History.{Received, Says, leases_over, entry_over, answer_over, IsForUs, IsAt, IsOpen, IsTaken}
use Rattle.rules_dhcp.specs.History.{HasReason, IsInDay, GivesUp, KeepsIt, IsLeased, IsLeasedTo, Gives}
use Rattle.rules_dhcp.proofs.Owning.{same_is, lease_at-map, none_found}
use Rattle.rules_dhcp.proofs.Holding.{same_of, place_is, inside_some, asked_is, either_if, by_kind, one_at_moment, long_at_moment, answer_is, of_request, of_discover, lends_if}
use Rattle.rules_dhcp.proofs.Holding.{has_reason, refused_taken}

-- at this place an address is leased to the hardware address, for a day from a moment on at least
pub record Holds (mac : Mac) (place from : ℕ) (leases : List Lease) : Type 0 where
  pub until : ℕ
  pub entry : lease_at leases place ≡ Bound mac until
  pub long : from + lease_time ≤ until

-- what changes another entry leaves it, and so does what writes the same again
set_keeps : (leases : List Lease) (k i : ℕ) (y : Lease) → (k ≡ i → y ≡ lease_at leases i) → lease_at (set leases k y) i ≡ lease_at leases i
set_keeps leases k i y same = by (cases_eq k i)
  where
    again : (leases : List Lease) (i : ℕ) → lease_at (set leases i (lease_at leases i)) i ≡ lease_at leases i
    again [] i = refl
    again (x ∷ xs) zero = refl
    again (x ∷ xs) (suc i) = again xs i

    by : (k ≡ i) ⊎ (k ≡ i → ⊥) → lease_at (set leases k y) i ≡ lease_at leases i
    by (inl is) = ap (λ n. lease_at (set leases n y) i) is ∙ ap (λ z. lease_at (set leases i z) i) (same is) ∙ again leases i
    by (inr not) = get_or-set_other leases k i y Free (λ is. not (sym is))

keeps_entry : (mac : Mac) (place from : ℕ) (leases after : List Lease) → Holds mac place from leases → lease_at after place ≡ lease_at leases place → Holds mac place from after
keeps_entry mac place from leases after holds same = record { until = holds.until; entry = same ∙ holds.entry; long = holds.long }

-- a moment within the day leaves it
after_moment : (mac : Mac) (place from now : ℕ) (leases : List Lease) → now < from + lease_time → Holds mac place from leases → Holds mac place from (map (at_moment now) leases)
after_moment mac place from now leases before holds = record {
  until = holds.until;
  entry = lease_at-map (at_moment now) leases place refl ∙ ap (at_moment now) holds.entry
      ∙ ap (λ (b : Bool). if b then Bound mac holds.until else Free) (less now from holds.until before holds.long);
  long = holds.long;
}
  where
    less : (now from until : ℕ) → now < from + 86400000 → from + 86400000 ≤ until → nat_lt now until ≡ true
    less now from until before long = grind (arith, nat_tests)

module _ (config : Config) (mac : Mac) (place from now : ℕ) (m : Message) (leases : List Lease) where
  -- by this answer, or by its kind, a message gives an address up
  abbrev GivesBy : Answer → Type 0
  GivesBy answer =
      ((m.kind ≡ release) × IsAt config m.client.0 place)
      ⊎ (((m.kind ≡ decline) × MatchOption m.asked ⊥ (λ a. IsAt config a.0 place))
      ⊎ ((other : ℕ) × (answer ≡ Lends other) × (other ≢ place)))

  abbrev Lasts : Outcome → Type 0
  Lasts o = (m.mac ≡ mac → GivesBy o.answer → ⊥) → Holds mac place from o.leases

  lasts_offers : Holds mac place from leases → (o : Option ℕ) → Lasts (offers now m.mac leases o)
  lasts_offers holds None = λ kept. holds
  lasts_offers holds (Some k) = λ kept. keeps_entry mac place from leases _ holds
      (set_keeps leases k place (reserved now m.mac (lease_at leases k)) (λ is.
      ap (λ n. reserved now m.mac (lease_at leases n)) is ∙ ap (reserved now m.mac) holds.entry ∙ sym holds.entry))

  -- the client is leased it again, or another is leased another
  lasts_lend : Holds mac place from leases → from ≤ now → place < length leases → (k : ℕ) → can_have m.mac (lease_at leases k) ≡ true → Lasts (leaves (lend now m.mac k leases) (Lends k))
  lasts_lend holds since within k can kept = by (same_mac mac m.mac) refl (cases_eq k place)
    where
      more : (from now : ℕ) → from ≤ now → from + 86400000 ≤ now + 86400000
      more from now since = omega (arith, since)

      again : m.mac ≡ mac → k ≡ place → Holds mac place from (set (map (freed m.mac) leases) k (Bound m.mac (now + lease_time)))
      again own is = record {
        until = now + lease_time;
        entry = ap (λ n. lease_at (set (map (freed m.mac) leases) n (Bound m.mac (now + lease_time))) place) is
            ∙ get_or-set_same (map (freed m.mac) leases) place (Bound m.mac (now + lease_time)) Free (subst (λ n. place < n) (sym (length-map leases (freed m.mac))) within)
            ∙ ap (λ n. Bound n (now + lease_time)) own;
        long = more from now since;
      }

      of_it : k ≡ place → same_mac mac m.mac ≡ true
      of_it is = sym (ap (λ n. can_have m.mac (lease_at leases n)) is ∙ ap (can_have m.mac) holds.entry) ∙ can

      by : (b : Bool) → same_mac mac m.mac ≡ b → (k ≡ place) ⊎ (k ≡ place → ⊥) → Holds mac place from (set (map (freed m.mac) leases) k (Bound m.mac (now + lease_time)))
      by true own (inl is) = again (sym (same_is mac m.mac own)) is
      by true own (inr not) = absurd (kept (sym (same_is mac m.mac own)) (inr (inr (k, refl, not))))
      by false other (inl is) = absurd (false≢true (sym other ∙ of_it is))
      by false other (inr not) = keeps_entry mac place from leases _ holds
          (get_or-set_other (map (freed m.mac) leases) k place (Bound m.mac (now + lease_time)) Free (λ is. not (sym is))
          ∙ lease_at-map (freed m.mac) leases place refl
          ∙ ap (freed m.mac) holds.entry
          ∙ ap (λ (b : Bool). if b then Free else Bound mac holds.until) other
          ∙ sym holds.entry)

  lasts_lends : Holds mac place from leases → from ≤ now → place < length leases → (o : Option ℕ) → Lasts (lends now m.mac leases o)
  lasts_lends holds since within None = λ kept. holds
  lasts_lends holds since within (Some k) =
      either_if Lasts (can_have m.mac (lease_at leases k)) _ _ (lasts_lend holds since within k) (λ cannot kept. holds)

  lasts_requested : Holds mac place from leases → from ≤ now → place < length leases → Lasts (requested config now m leases)
  lasts_requested holds since within =
      either_if Lasts (is_for_another config m) _ _
      (λ another kept. keeps_entry mac place from leases _ holds (lease_at-map (not_reserved m.mac) leases place refl ∙ ap (not_reserved m.mac) holds.entry ∙ sym holds.entry))
      (λ ours. lasts_lends holds since within (place_of config (wanted m)))

  -- what is replaced is another's, or given up
  lasts_given_up : Holds mac place from leases → (lease : Lease) (o : Option ℕ) → (o ≡ Some place → GivesBy Silence) → Lasts (given_up m.mac lease leases o)
  lasts_given_up holds lease None gives = λ kept. holds
  lasts_given_up holds lease (Some k) gives = λ kept. by kept (is_of m.mac (lease_at leases k)) refl
    where
      by : (m.mac ≡ mac → GivesBy Silence → ⊥) → (b : Bool) → is_of m.mac (lease_at leases k) ≡ b → Holds mac place from (if b then set leases k lease else leases)
      by kept false other = holds
      by kept true own = keeps_entry mac place from leases _ holds (set_keeps leases k place lease (λ is.
          absurd (kept
          (sym (same_is mac m.mac (sym (ap (λ n. is_of m.mac (lease_at leases n)) is ∙ ap (is_of m.mac) holds.entry) ∙ own)))
          (gives (ap (λ n. let o : Option ℕ = Some n in o) is)))))

  lasts_outcome : Holds mac place from leases → from ≤ now → place < length leases → Lasts (outcome_of config now m leases)
  lasts_outcome holds since within =
      by_kind Lasts config now m leases
      (λ kind. lasts_offers holds (offered m.mac (asked_place config m) leases))
      (λ kind. lasts_requested holds since within)
      (λ kind. lasts_given_up holds (Declined (now + declined_time)) (asked_place config m) (λ is. inr (inl (kind, asked_is config m place is))))
      (λ kind. lasts_given_up holds Free (place_of config m.client.0) (λ is. inl (kind, place_is config m.client.0 place is)))
      (λ kind kept. holds) (λ kept. holds)

  -- what is leased is the client's from then on
  abbrev Begins : Outcome → Type 0
  Begins o = o.answer ≡ Lends place → Holds m.mac place now o.leases

  begins_lends : place < length leases → (o : Option ℕ) → Begins (lends now m.mac leases o)
  begins_lends within None = λ is. absurd (never is)
    where
      never : ◌≡◌ {A = Answer} Refuses (Lends place) → ⊥
      never is = cc
  begins_lends within (Some k) =
      either_if Begins (can_have m.mac (lease_at leases k)) _ _
      (λ can is. record {
        until = now + lease_time;
        entry = ap (λ n. lease_at (set (map (freed m.mac) leases) n (Bound m.mac (now + lease_time))) place) (same k place is)
            ∙ get_or-set_same (map (freed m.mac) leases) place (Bound m.mac (now + lease_time)) Free (subst (λ n. place < n) (sym (length-map leases (freed m.mac))) within);
        long = enough (now + lease_time);
      })
      (λ cannot is. absurd (never is))
    where
      never : ◌≡◌ {A = Answer} Refuses (Lends place) → ⊥
      never is = cc

      same : (k place : ℕ) → ◌≡◌ {A = Answer} (Lends k) (Lends place) → k ≡ place
      same k place is = cc

      enough : (n : ℕ) → n ≤ n
      enough n = omega arith

-- what is given is leased, after a REQUEST for this server alone
begins : (config : Config) (before : List Received) (r : Received) (m : Message) (place : ℕ) → Says r m → answer_over config before r ≡ Lends place →
    (place < 16) × Holds m.mac place r.at (leases_over config (r ∷ before))
begins config before r m place says leased =
    let leases = map (at_moment r.at) (leases_over config before) in
    let reason = subst (HasReason config before r.at m) leased (has_reason config before r m says) in
    let outcome = of_request config r.at m leases reason.kind reason.for_us (Some place) (inside_some config (wanted m) place reason.wants) in
    let within : place < length leases = subst (λ n. place < n) (sym (long_at_moment config before r.at)) reason.wants.among in
    let answer : (lends r.at m.mac leases (Some place)).answer ≡ Lends place = sym (answer_is config before r m says ∙ ap (λ (o : Outcome). o.answer) outcome) ∙ leased in (
      reason.wants.among,
      subst (Holds m.mac place r.at) (sym (ap (λ o. (served config r.at (leases_over config before) o).leases) says ∙ ap (λ (o : Outcome). o.leases) outcome))
          (begins_lends config m.mac place r.at r.at m leases within (Some place) answer),
    )

lasts : (config : Config) (mac : Mac) (place from : ℕ) (before later : List Received) → place < 16 → Holds mac place from (leases_over config before) →
    KeepsIt config mac place from later before → Holds mac place from (leases_over config (later ++ before))
lasts config mac place from before [] few holds kept = holds
lasts config mac place from before (x ∷ later) few holds kept =
    by (read_message x.octets) refl (lasts config mac place from before later few holds kept.0) kept.1 kept.2
  where
    by : (o : Option Message) → read_message x.octets ≡ o → Holds mac place from (leases_over config (later ++ before)) → IsInDay from x.at →
        ((m : Message) → Says x m → m.mac ≡ mac → GivesUp config (later ++ before) x m place → ⊥) → Holds mac place from (leases_over config (x ∷ later ++ before))
    by None says was day keeps = subst (λ o. Holds mac place from (served config x.at (leases_over config (later ++ before)) o).leases) (sym says) was
    by (Some m) says was day keeps =
        let leases = map (at_moment x.at) (leases_over config (later ++ before)) in
        subst (λ o. Holds mac place from (served config x.at (leases_over config (later ++ before)) o).leases) (sym says)
        (lasts_outcome config mac place from x.at m leases (after_moment mac place from x.at (leases_over config (later ++ before)) day.before was) day.since
        (subst (λ n. place < n) (sym (long_at_moment config (later ++ before) x.at)) few)
        (λ own gives. keeps m says own (subst (GivesBy config mac place from x.at m leases) (sym (answer_is config (later ++ before) x m says)) gives)))

-- ---- what it is told and asked within the day

module _ (config : Config) (before later : List Received) (r : Received) (m : Message) (place : ℕ) (leased : IsLeased config before r later m place) where
  few : place < 16
  few = (begins config before r m place leased.says leased.leased).0

  held : (at : ℕ) → IsInDay r.at at → Holds m.mac place r.at (map (at_moment at) (leases_over config (later ++ (r ∷ before))))
  held at day =
      after_moment m.mac place r.at at (leases_over config (later ++ (r ∷ before))) day.before
      (lasts config m.mac place r.at (r ∷ before) later few (begins config before r m place leased.says leased.leased).1 leased.kept)

  pub stays : (at : ℕ) → IsInDay r.at at → IsLeasedTo m.mac (entry_over config (later ++ (r ∷ before)) at place)
  stays at day = subst (IsLeasedTo m.mac) (sym (held at day).entry) refl

  open_place : (at : ℕ) (n : Message) (answer : Answer) → HasReason config (later ++ (r ∷ before)) at n answer → Gives place answer →
      IsOpen n.mac (entry_over config (later ++ (r ∷ before)) at place)
  open_place at n Silence reason gives = absurd gives
  open_place at n (Offers given) reason gives = subst (λ p. IsOpen n.mac (entry_over config (later ++ (r ∷ before)) at p)) gives reason.open_to
  open_place at n (Lends given) reason gives = subst (λ p. IsOpen n.mac (entry_over config (later ++ (r ∷ before)) at p)) gives reason.open_to
  open_place at n Informs reason gives = absurd gives
  open_place at n Refuses reason gives = absurd gives

  pub nobody_else : (x : Received) (n : Message) → IsInDay r.at x.at → Says x n → Gives place (answer_over config (later ++ (r ∷ before)) x) → n.mac ≡ m.mac
  nobody_else x n day says gives =
      sym (subst (IsOpen n.mac) (held x.at day).entry
      (open_place x.at n (answer_over config (later ++ (r ∷ before)) x) (has_reason config (later ++ (r ∷ before)) x n says) gives))

  pub refused : (x : Received) (n : Message) → IsInDay r.at x.at → Says x n → n.mac ≢ m.mac → n.kind ≡ request → IsForUs config n → IsAt config (wanted n) place →
      answer_over config (later ++ (r ∷ before)) x ≡ Refuses
  refused x n day says other kind ours wants =
      refused_taken config (later ++ (r ∷ before)) x n place says kind ours wants (subst (IsTaken n.mac) (sym (held x.at day).entry) (λ is. other (sym is)))

  -- the entry is the client's own
  its_own : (at : ℕ) (n : Message) → IsInDay r.at at → n.mac ≡ m.mac → is_of n.mac (entry_over config (later ++ (r ∷ before)) at place) ≡ true
  its_own at n day own = ap (is_of n.mac) (held at day).entry ∙ same_of m.mac n.mac (sym own)

  can_again : (mac : Mac) (lease : Lease) → is_of mac lease ≡ true → can_have mac lease ≡ true
  can_again mac Free is = refl
  can_again mac (Reserved owner until) is = is
  can_again mac (Bound owner until) is = is
  can_again mac (Declined until) is = is

  pub leased_again : (x : Received) (n : Message) → IsInDay r.at x.at → Says x n → n.mac ≡ m.mac → n.kind ≡ request → IsForUs config n → IsAt config (wanted n) place →
      answer_over config (later ++ (r ∷ before)) x ≡ Lends place
  leased_again x n day says own kind ours wants =
      let leases = map (at_moment x.at) (leases_over config (later ++ (r ∷ before))) in
      answer_is config (later ++ (r ∷ before)) x n says
      ∙ ap (λ (o : Outcome). o.answer) (of_request config x.at n leases kind ours (Some place) (inside_some config (wanted n) place wants))
      ∙ lends_if (can_have n.mac (lease_at leases place)) leases (lend x.at n.mac place leases) place
      (can_again n.mac (lease_at leases place) (its_own x.at n day own))

  found : (at : ℕ) (n : Message) → IsInDay r.at at → n.mac ≡ m.mac → position (is_of n.mac) (map (at_moment at) (leases_over config (later ++ (r ∷ before)))) ≡ Some place
  found at n day own = by (position (is_of n.mac) (map (at_moment at) (leases_over config (later ++ (r ∷ before))))) refl
    where
      by : (o : Option ℕ) → position (is_of n.mac) (map (at_moment at) (leases_over config (later ++ (r ∷ before)))) ≡ o →
          position (is_of n.mac) (map (at_moment at) (leases_over config (later ++ (r ∷ before)))) ≡ Some place
      by None none = absurd (none_found n.mac (map (at_moment at) (leases_over config (later ++ (r ∷ before)))) none place (its_own at n day own))
      by (Some p) is = is ∙ ap (λ k. let o : Option ℕ = Some k in o) (one_at_moment config (later ++ (r ∷ before)) at n.mac p place
          (position-Some (is_of n.mac) (map (at_moment at) (leases_over config (later ++ (r ∷ before)))) p Free is).1 (its_own at n day own))

  pub offered_again : (x : Received) (n : Message) → IsInDay r.at x.at → Says x n → n.mac ≡ m.mac → n.kind ≡ discover → answer_over config (later ++ (r ∷ before)) x ≡ Offers place
  offered_again x n day says own kind =
      let leases = map (at_moment x.at) (leases_over config (later ++ (r ∷ before))) in
      answer_is config (later ++ (r ∷ before)) x n says
      ∙ ap (λ (o : Outcome). o.answer) (of_discover config x.at n leases kind)
      ∙ ap (λ o. (offers x.at n.mac leases (option_or o (option_or (option_and_then (free_asked leases) (asked_place config n)) (position is_free leases)))).answer)
      (found x.at n day own)
