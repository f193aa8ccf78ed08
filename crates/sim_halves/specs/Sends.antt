-- What a flow keeps of the host's stream, against its story.
use Rattle.std.specs.Prelude.{◌≡◌, ℕ, List, length, drop, min, Bool}
use Rattle.spec_flow.specs.Host.{Down, our_first, got, got_end, sent, acked}

-- the number of our SYN, how many octets were let go, those that are held after them, whether the host ended, how far was sent and acknowledged
pub record Outward : Type 0 where
  pub first : ℕ
  pub before : ℕ
  pub held : List ℕ
  pub ended : Bool
  pub sent : ℕ
  pub acked : ℕ

-- the sending half's buffer and counts, against the host's stream
pub record Keeps (o : Outward) (past : List Down) : Type 0 where
  pub first : o.first ≡ our_first past
  pub before : o.before ≡ min (acked past) (length (got past))
  pub held : o.held ≡ drop o.before (got past)
  pub ended : o.ended ≡ got_end past
  pub sent : o.sent ≡ sent past
  pub acked : o.acked ≡ acked past
