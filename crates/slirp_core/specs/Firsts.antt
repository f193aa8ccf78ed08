-- Which open socket has the least number, but for those of forwards; and how many are open.
use Rattle.std.specs.Prelude.{◌≡◌, ℕ, ◌+◌, ◌≤◌, true, List, [], length, Option, Some, None}
use Rattle.flow_splice.specs.Splice.{Splice}
use Rattle.spec_trace.specs.Sockets.{is_among}
use Rattle.sim_flows.specs.Core.{number_of}
use Rattle.tcp_flows.specs.Reading.{IsFirst, IsOpenAt, NoneIsAbove}
use Rattle.rules_udp.specs.Associations.{IsLeast, numbers}
use Rattle.rules_udp.specs.declared.Association.{Association}
use Rattle.rules_dns.specs.Questions.{numbers as question_numbers}
use Rattle.dns_relay.specs.Relaying.{IsLeast as IsLeastAsked}
use Rattle.rules_dns.specs.declared.Question.{Question}
use Rattle.slirp_core.specs.Numbers.{open_flows}
use Rattle.slirp_core.specs.State.{SlirpState}

-- the least of these numbers
abbrev pub IsLeastOf : ℕ → List ℕ → Type 0
IsLeastOf n ns = (is_among n ns ≡ true) × ((m : ℕ) → is_among m ns ≡ true → n ≤ m)

-- that of a flow; or of these, which carry datagrams
abbrev pub IsFlowFirst : List ℕ → List (Option Splice) → Type 0
IsFlowFirst carriers parts = (n : ℕ) × IsFirst n parts × ((m : ℕ) → is_among m carriers ≡ true → n ≤ m)

-- the least open socket is one of these, and no flow's
pub record NoFlowFirst (carriers : List ℕ) (parts : List (Option Splice)) : Type 0 where
  pub below : (n : ℕ) → IsLeastOf n carriers → (k : ℕ) (p : Splice) → IsOpenAt parts k p → n ≤ number_of p
  pub none : carriers ≡ [] → NoneIsAbove None parts

-- of these, that of a question; or of an association
abbrev pub IsQuestionFirst : List Association → List Question → Type 0
IsQuestionFirst list asked = (n : ℕ) × IsLeastAsked (λ q. true) asked (Some n) × ((m : ℕ) → is_among m (numbers list) ≡ true → n ≤ m)

-- the least socket that carries datagrams is an association's, and no question's
pub record NoQuestionFirst (list : List Association) (asked : List Question) : Type 0 where
  pub below : (n : ℕ) → IsLeast (λ a. true) list (Some n) → (m : ℕ) → is_among m (question_numbers asked) ≡ true → n ≤ m
  pub none : list ≡ [] → asked ≡ []

-- so many sockets of associations, of questions and of flows are open, and with those of forwards
abbrev pub others_open : SlirpState → ℕ
others_open slirp = length slirp.associations + length slirp.questions + open_flows slirp.flows.flows.slots

abbrev pub open_count : SlirpState → ℕ
open_count slirp = length slirp.forwards + others_open slirp
