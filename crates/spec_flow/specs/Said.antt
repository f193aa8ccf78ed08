-- Words in which laws of a flow are said, on its story alone.
use Rattle.std.specs.Prelude.{◌≡◌, ℕ, ◌+◌, ◌^◌, ◌%◌, [], ◌∷◌, Bool, false, not, ◌&&◌, ◌||◌, Some, is_some, slice_get, ◌⊎◌}
use Rattle.spec_flow.specs.Event.{Arrives, Departs, Closes, At, Story}
use Rattle.spec_flow.specs.Close.{gives_up, must_part, waits_too_long}

-- a segment came from the guest with the octet x at this number
abbrev pub CameAt : Story → ℕ → ℕ → Type 0
CameAt [] number x = ⊥
CameAt (At m (Arrives seg) ∷ past) number x = ((j : ℕ) × (slice_get seg.octets j ≡ Some x) × ((seg.number + j) % 2 ^ 32 ≡ number)) ⊎ CameAt past number x
CameAt (_ ∷ past) number x = CameAt past number x

-- a segment went out that is no reset
abbrev pub something_is_out : Story → Bool
something_is_out [] = false
something_is_out (At m (Departs seg) ∷ past) = not seg.rst || something_is_out past
something_is_out (_ ∷ past) = something_is_out past

-- a reset of the flow went out
abbrev pub reset_is_out : Story → Bool
reset_is_out [] = false
reset_is_out (At m (Departs seg) ∷ past) = seg.rst || reset_is_out past
reset_is_out (_ ∷ past) = reset_is_out past

-- a SYN of ours with the window scale went out
abbrev pub we_scale : Story → Bool
we_scale [] = false
we_scale (At m (Departs seg) ∷ past) = (seg.syn && not seg.rst && is_some seg.scale) || we_scale past
we_scale (_ ∷ past) = we_scale past

-- a call on the host's socket failed, it gave way, the guest answered nothing for 243,000 ms, or the host or the guest was waited for too long
abbrev pub has_failed : ℕ → Story → Bool
has_failed now past = must_part now past || (gives_up now past || waits_too_long now past)

-- the flow was closed where it had failed
abbrev pub closed_as_failed : Story → Bool
closed_as_failed [] = false
closed_as_failed (At m (Closes directly ended known) ∷ past) = has_failed m past || closed_as_failed past
closed_as_failed (_ ∷ past) = closed_as_failed past
