-- The numbers of flows, of associations and of questions stay under that of the next socket.
use Rattle.std.proofs.Common.{◌≡◌, ℕ, zero, suc, ◌<◌, ◌≤◌, ◌+◌, ◌⊎◌, All, List, [], ◌∷◌, length, replicate, slice_get, Option, Some, None, inl, inr, ◌∙◌, ap, arith}
use Rattle.std.proofs.lemmas.List.{length-replicate}
use Rattle.std.proofs.lemmas.List.Elements.{All-cons, All-head, All-nil, All-tail}
use Rattle.dns_relay.specs.Asking.{bind_for}
use Rattle.rules_dns.specs.Questions.{numbers}
use Rattle.dns_relay.specs.State.{RelayState}
use Rattle.slirp_settings.specs.Addresses.{Config}
use Rattle.flow_splice.specs.Splice.{Splice}
use Rattle.sim_flows.specs.Core.{number_of}
use Rattle.tcp_flows.specs.Kept.{Kept}
use Rattle.tcp_flows.specs.Reading.{Stays}
use Rattle.slirp_core.specs.Numbers.{AreDrawn, flows_for}
use Rattle.slirp_core.specs.Services.{AreAsked}

-- after a call that opens none
pub drawn_stay : (next : ℕ) (old new : Kept) → Stays old new → AreDrawn next old → AreDrawn next new
drawn_stay next old new stays drawn = record {
  below = λ k p at. let was = stays.numbers k p at in let less = drawn.below k was.0 was.1 in let same = was.2 in omega (arith, less, same);
  opened = let same = stays.opened in let few = drawn.opened in omega (arith, same, few);
  few = let same = stays.slots in let few = drawn.few in omega (arith, same, few);
}

-- where more numbers were drawn
pub drawn_up : (next later : ℕ) (kept : Kept) → next ≤ later → AreDrawn next kept → AreDrawn later kept
drawn_up next later kept up drawn = record {
  below = λ k p at. let less = drawn.below k p at in omega (arith, less, up);
  opened = let few = drawn.opened in omega (arith, few, up);
  few = drawn.few;
}

-- after a flow began with the next number
pub drawn_begun : (next : ℕ) (old new : Kept) → length new.flows.slots ≡ length old.flows.slots → new.flows.opened ≡ old.flows.opened + 1
    → ((k : ℕ) (p : Splice) → slice_get new.flows.slots k ≡ Some (Some p) → (number_of p ≡ next) ⊎ ((q : Splice) × (slice_get old.flows.slots k ≡ Some (Some q)) ×
    (number_of p ≡ number_of q))) → AreDrawn next old → AreDrawn (next + 1) new
drawn_begun next old new slots opened numbers drawn = record {
  below = λ k p at. by k p (numbers k p at);
  opened = let few = drawn.opened in omega (arith, opened, few);
  few = let few = drawn.few in omega (arith, slots, few);
}
  where
    by : (k : ℕ) (p : Splice) → (number_of p ≡ next) ⊎ ((q : Splice) × (slice_get old.flows.slots k ≡ Some (Some q)) × (number_of p ≡ number_of q)) → number_of p < next + 1
    by k p (inl is) = omega (arith, is)
    by k p (inr (q, at, is)) = let less = drawn.below k q at in omega (arith, is, less)

none_there : (n k : ℕ) (p : Splice) → slice_get (replicate n None) k ≡ Some (Some p) → ⊥
none_there zero k p is = cc
none_there (suc n) zero p is = cc
none_there (suc n) (suc k) p is = none_there n k p is

-- before the first
pub drawn_none : (config : Config) → config.flows ≤ 4096 → AreDrawn 0 (flows_for config)
drawn_none config few = record {
  below = λ k p at. absurd (none_there config.flows k p at);
  opened = omega arith;
  few = let size : length (replicate {A = Option Splice} config.flows None) ≡ config.flows = length-replicate config.flows None in omega (arith, size, few);
}

-- the numbers of associations and of questions
pub below_up : (next later : ℕ) (ns : List ℕ) → next ≤ later → All (λ n. n < next) ns → All (λ n. n < later) ns
below_up next later [] up below = All-nil (λ (n : ℕ). n < later)
below_up next later (x ∷ ns) up below =
    let here = All-head (λ (n : ℕ). n < next) x ns below in
    All-cons (λ (n : ℕ). n < later) x ns (omega (arith, here, up)) (below_up next later ns up (All-tail (λ (n : ℕ). n < next) x ns below))

pub asked_up : (next later : ℕ) (config : Config) (relay : RelayState) → next ≤ later → AreAsked next config relay → AreAsked later config relay
asked_up next later config relay up asked = record { below = below_up next later (numbers relay.list) up asked.below; is = asked.is }

-- where another list of questions takes the place of one
pub asked_on : (next : ℕ) (config : Config) (old new : RelayState) → new ≡ record old { list = new.list } → All (λ n. n < next) (numbers new.list)
    → old ≡ record { bind = bind_for config; resolver = config.resolver; name_server = config.vnameserver; list = old.list } → AreAsked next config new
asked_on next config old new rest below is = record { below = below; is = rest ∙ ap (λ (r : RelayState). record r { list = new.list }) is }
