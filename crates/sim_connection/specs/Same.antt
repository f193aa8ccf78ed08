-- What of a story stays the same by an event.
use Rattle.std.specs.Prelude.{◌≡◌}
use Rattle.spec_flow.specs.Settings.{Settings}
use Rattle.spec_flow.specs.Event.{Story}
use Rattle.spec_flow.specs.Flow.{guest, has_connected, host, is_accepted, is_connecting, our_number, syn_is_out, their_syn}
use Rattle.spec_flow.specs.Windows.{right_edge, window}
use Rattle.spec_flow.specs.Close.{fin_is_out, host_was_ended}
use Rattle.spec_flow.specs.Lawful.{is_prompted}
use Rattle.spec_flow.specs.Dutiful.{fin_is_answered}

-- the beginning
pub record SameStart (past next : Story) : Type 0 where
  pub ours : our_number next ≡ our_number past
  pub connecting : is_connecting next ≡ is_connecting past
  pub out : syn_is_out next ≡ syn_is_out past
  pub accepted : is_accepted next ≡ is_accepted past
  pub theirs : their_syn next ≡ their_syn past
  pub unasked : has_connected next ≡ has_connected past

-- the guest's stream
pub record SameGuest (s : Settings) (past next : Story) : Type 0 where
  pub guest : guest next ≡ guest past
  pub ended : host_was_ended next ≡ host_was_ended past
  pub edge : right_edge s next ≡ right_edge s past
  pub prompted : is_prompted next ≡ is_prompted past
  pub answered : fin_is_answered next ≡ fin_is_answered past

-- the host's stream
pub record SameHost (s : Settings) (past next : Story) : Type 0 where
  pub host : host next ≡ host past
  pub window : window s next ≡ window s past
  pub fin_out : fin_is_out next ≡ fin_is_out past
