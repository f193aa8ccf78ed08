-- What holds of a flow whenever the program may wait, unless the link is blocked.
use Rattle.std.specs.Prelude.{ℕ, Bool}
use Rattle.spec_flow.specs.Settings.{Settings}
use Rattle.spec_flow.specs.Event.{Story}
use Rattle.spec_flow.specs.Dutiful.{AreAhead, HasAcknowledged, HasSent, ToldRoom, resend_deadline}

-- All that can go out is out, what came is acknowledged, and the room is told; and if the flow is in time, what is under way goes again within a minute.
-- Together they are `IsSettled`. (known: the guest's hardware address is; is in TIME-WAIT: the flow is in TIME-WAIT)
pub record IsSettledIf (in_time : Type 0) (s : Settings) (past : Story) (known time_waits : Bool) (now : ℕ) : Type 0 where
  pub sends : HasSent s past known
  pub acknowledges : HasAcknowledged s past time_waits
  pub window : ToldRoom s past
  pub resends : in_time → AreAhead now (resend_deadline past)
