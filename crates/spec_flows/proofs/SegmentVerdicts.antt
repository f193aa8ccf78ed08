-- What becomes of a guest's SYN.
use Rattle.std.proofs.Common.{◌≡◌, ℕ, ◌≤◌, ◌⊎◌, ◌&&◌, ◌||◌, inl, inr, subst, not, nat_lt, nat_eq, Bool, true, false, Option, Some, None, if◌then◌else◌, refl, sym, ◌∙◌, arith}
use Rattle.std.proofs.lemmas.Bool.Decides.{nat_tests}
use Rattle.slirp_settings.specs.Addresses.{Config}
use Rattle.host_policy.specs.Targets.{target}
use Rattle.slirp_settings.specs.declared.Proto.TheVariants.{Tcp as OverTcp}
use Rattle.host_policy.specs.declared.Verdict.{Verdict}
use Rattle.host_policy.specs.declared.Verdict.TheVariants.{Go, Denied}
use Rattle.spec_flow.specs.Event.{Segment}
use Rattle.spec_flow.specs.Flow.{host, is_closed, next_number, our_number, syn_is_out}
use Rattle.spec_flow.specs.Host.{answered}
use Rattle.spec_flows.specs.Flows.{Flow, Book, owner, is_used, used, has_time_wait}
use Rattle.spec_flows.specs.SegmentVerdicts.{SegmentVerdict, OfFlow, Dropped, NeedsRoom, GetsReset, is_mistaken, is_opening, is_reset, is_reset_by, is_to_many, segment_verdict, verdict_by_policy}
use Rattle.spec_flows.specs.Said.{IsDenied, IsIgnored, IsNobodys}
use Rattle.spec_flows.specs.Segments.{OnTuple}

both : (a c : Bool) → (a || c) ≡ false → (a ≡ false) × (c ≡ false)
both true c is = cc
both false c is = (refl, is)

-- a SYN without ACK acknowledges nothing
and_false : (a b : Bool) → b ≡ false → (a && b) ≡ false
and_false true b is = is
and_false false b is = refl

no_ack : (syn ack rst fin : Bool) → (syn && not ack && not rst && not fin) ≡ true → (ack ≡ false) × (rst ≡ false)
no_ack true false false fin is = (refl, refl)
no_ack true false true fin is = cc
no_ack true true rst fin is = cc
no_ack false ack rst fin is = cc

not_mistaken : (seg : Segment) (o : Option Flow) → seg.ack ≡ false → is_mistaken seg o ≡ false
not_mistaken seg None is = refl
not_mistaken seg (Some f) is = by_ack (not (is_closed f.story) && syn_is_out f.story && not (answered (host f.story))) seg.ack is
  where
    by_ack : (a b : Bool) → b ≡ false → (a && b && not seg.rst && not (nat_eq seg.acknowledgement (next_number (our_number f.story)))) ≡ false
    by_ack true true is = cc
    by_ack true false is = refl
    by_ack false b is = refl

module _ (config : Config) (b : Book) (on : OnTuple) (opening : is_opening on.segment ≡ true) where
  rst_is : on.segment.rst ≡ false
  rst_is = (no_ack on.segment.syn on.segment.ack on.segment.rst on.segment.fin opening).1

  -- what the lot is, by the three tests
  verdict_is : (owned many : Bool) → (is_used on.tuple b.flows || has_time_wait on.tuple b) ≡ owned → is_to_many config on.tuple.other ≡ many
      → segment_verdict config b on ≡ (if owned then OfFlow else (if many then Dropped else verdict_by_policy (target config OverTcp on.tuple.other) (nat_lt (used b.flows) config.flows)))
  verdict_is owned many is_owned is_many =
      (λ i. if is_owned i then OfFlow else (if (rst_is i) || (is_many i) then Dropped else (if opening i then verdict_by_policy (target config OverTcp on.tuple.other)
      (nat_lt (used b.flows) config.flows) else GetsReset)))

  nobodys : (is_used on.tuple b.flows || has_time_wait on.tuple b) ≡ false → IsNobodys b on
  nobodys is = let parts = both (is_used on.tuple b.flows) (has_time_wait on.tuple b) is in record { free = parts.0; awake = parts.1 }

  false_true : false ≡ true → ⊥
  false_true is = cc

  pub is_denied : is_reset config b on ≡ true → IsDenied config b on
  is_denied is = by_tests (is_used on.tuple b.flows || has_time_wait on.tuple b) (is_to_many config on.tuple.other) refl refl
    where
      mistaken : is_mistaken on.segment (owner on.tuple b.flows) ≡ false
      mistaken = not_mistaken on.segment (owner on.tuple b.flows) (no_ack on.segment.syn on.segment.ack on.segment.rst on.segment.fin opening).0

      reset_by : (l : SegmentVerdict) → segment_verdict config b on ≡ l → is_reset_by l false ≡ true
      reset_by l same = sym (λ i. is_reset_by (same i) (mistaken i)) ∙ is

      by_verdict : (v : Verdict) (room : Bool) → target config OverTcp on.tuple.other ≡ v → is_reset_by (verdict_by_policy v room) false ≡ true
          → (is_used on.tuple b.flows || has_time_wait on.tuple b) ≡ false → is_to_many config on.tuple.other ≡ false → IsDenied config b on
      by_verdict (Go to) true at reset none one = absurd (false_true reset)
      by_verdict (Go to) false at reset none one = absurd (false_true reset)
      by_verdict (Denied rule) room at reset none one = record { nobodys = nobodys none; one_host = one; rule = rule; denied = at }

      by_tests : (owned many : Bool) → (is_used on.tuple b.flows || has_time_wait on.tuple b) ≡ owned → is_to_many config on.tuple.other ≡ many → IsDenied config b on
      by_tests true many is_owned is_many = absurd (false_true (reset_by OfFlow (verdict_is true many is_owned is_many)))
      by_tests false true is_owned is_many = absurd (false_true (reset_by Dropped (verdict_is false true is_owned is_many)))
      by_tests false false is_owned is_many =
          by_verdict (target config OverTcp on.tuple.other) (nat_lt (used b.flows) config.flows) refl
          (reset_by (verdict_by_policy (target config OverTcp on.tuple.other) (nat_lt (used b.flows) config.flows)) (verdict_is false false is_owned is_many)) is_owned is_many

  of_flow_dropped : OfFlow ≡ Dropped → ⊥
  of_flow_dropped is = cc

  of_flow_needs : OfFlow ≡ NeedsRoom → ⊥
  of_flow_needs is = cc

  of_flow_not : (OfFlow ≡ Dropped) ⊎ (OfFlow ≡ NeedsRoom) → ⊥
  of_flow_not (inl is) = of_flow_dropped is
  of_flow_not (inr is) = of_flow_needs is

  pub is_ignored : (segment_verdict config b on ≡ Dropped) ⊎ (segment_verdict config b on ≡ NeedsRoom) → IsIgnored config b on
  is_ignored is = by_tests (is_used on.tuple b.flows || has_time_wait on.tuple b) (is_to_many config on.tuple.other) refl refl
    where
      as_verdict : (l : SegmentVerdict) → segment_verdict config b on ≡ l → (l ≡ Dropped) ⊎ (l ≡ NeedsRoom)
      as_verdict l same = subst (λ (x : SegmentVerdict). (x ≡ Dropped) ⊎ (x ≡ NeedsRoom)) same is

      at_most : (n m : ℕ) → nat_lt n m ≡ false → m ≤ n
      at_most n m is = grind (arith, nat_tests, is)

      by_verdict : (v : Verdict) (room : Bool) → nat_lt (used b.flows) config.flows ≡ room → (verdict_by_policy v room ≡ Dropped) ⊎ (verdict_by_policy v room ≡ NeedsRoom) → config.flows ≤ used b.flows
      by_verdict (Go to) true has (inl dropped) = absurd cc
      by_verdict (Go to) true has (inr needs) = absurd cc
      by_verdict (Go to) false has which = at_most (used b.flows) config.flows has
      by_verdict (Denied rule) room has (inl dropped) = absurd cc
      by_verdict (Denied rule) room has (inr needs) = absurd cc

      by_tests : (owned many : Bool) → (is_used on.tuple b.flows || has_time_wait on.tuple b) ≡ owned → is_to_many config on.tuple.other ≡ many → IsIgnored config b on
      by_tests true many is_owned is_many = absurd (of_flow_not (as_verdict OfFlow (verdict_is true many is_owned is_many)))
      by_tests false true is_owned is_many = record { nobodys = nobodys is_owned; why = inl is_many }
      by_tests false false is_owned is_many = record {
        nobodys = nobodys is_owned;
        why = inr (by_verdict (target config OverTcp on.tuple.other) (nat_lt (used b.flows) config.flows) refl
            (as_verdict (verdict_by_policy (target config OverTcp on.tuple.other) (nat_lt (used b.flows) config.flows)) (verdict_is false false is_owned is_many)));
      }
