-- What opens a flow, what closes it, and what is sent afterwards.
use Rattle.std.proofs.Common.{refl, ◌≡◌, [], ◌∷◌, Bool, true, false, not, ◌&&◌, ◌||◌, IsTrue, inl, inr}
use Rattle.spec_flow.specs.Settings.{Settings}
use Rattle.spec_flow.specs.Event.{Accepts, Departs, Connected, Closes, At, Story}
use Rattle.spec_flow.specs.Flow.{is_accepted, is_closed, has_connected, syn_is_out}
use Rattle.spec_flow.specs.Close.{is_done, follows_reset, gives_up, must_part, waits_too_long, owes_reset, is_owed_reset}
use Rattle.spec_flow.specs.Lawful.{IsLawful}
use Rattle.spec_flow.specs.Said.{something_is_out, reset_is_out, has_failed, closed_as_failed}
use Rattle.spec_flow.proofs.Computing.{both, either}

-- ---- nothing goes out before the host connected, nor before our SYN

or_true : (b : Bool) → IsTrue (b || true)
or_true true = refl
or_true false = refl

goes_first : {C : Type 0} (r o : Bool) → (IsTrue (not r) → C) → (IsTrue o → C) → IsTrue (not r || o) → C
goes_first true o f g is = g is
goes_first false o f g is = f refl

-- Where anything but a reset went out, the host had connected before, or a peer's connection had been accepted.
pub opens_after_host : (s : Settings) (story : Story) → IsLawful s story → IsTrue (something_is_out story) → IsTrue (has_connected story || is_accepted story)
opens_after_host s [] l is = absurd cc
opens_after_host s (At m (Departs seg) ∷ past) l is = goes_first seg.rst (something_is_out past) l.0.opens_after_host (opens_after_host s past l.1) is
opens_after_host s (At m Connected ∷ past) l is = refl
opens_after_host s (At m (Accepts ours) ∷ past) l is = or_true (has_connected past)
opens_after_host s (At m _ ∷ past) l is = opens_after_host s past l.1 is

syn_first : (syn rst out : Bool) → (IsTrue (not rst && not out) → syn ≡ true) → IsTrue (not rst) → IsTrue ((syn && not rst) || out)
syn_first syn true out first is = absurd cc
syn_first syn false true first is = or_true (syn && true)
syn_first syn false false first is = let it = first refl in rw it refl

or_right : (a b : Bool) → IsTrue b → IsTrue (a || b)
or_right true b y = refl
or_right false b y = y

-- And our SYN did, first of all.
pub opens_with_syn : (s : Settings) (story : Story) → IsLawful s story → IsTrue (something_is_out story) → IsTrue (syn_is_out story)
opens_with_syn s [] l is = absurd cc
opens_with_syn s (At m (Departs seg) ∷ past) l is =
    goes_first seg.rst (something_is_out past) (syn_first seg.syn seg.rst (syn_is_out past) l.0.opens_with_syn.0)
    (λ before. or_right (seg.syn && not seg.rst) (syn_is_out past) (opens_with_syn s past l.1 before)) is
opens_with_syn s (At m _ ∷ past) l is = opens_with_syn s past l.1 is

-- ---- a reset goes out once, of a flow that failed

fails_by : (d f h e g c a : Bool) → IsTrue (not d && not f && (h || (not e && (g || c))) && a) → IsTrue (h || (g || c))
fails_by true f h e g c a is = absurd cc
fails_by false true h e g c a is = absurd cc
fails_by false false true e g c a is = refl
fails_by false false false true g c a is = absurd cc
fails_by false false false false true c a is = refl
fails_by false false false false false true a is = refl
fails_by false false false false false false a is = absurd cc

owes_failed : (story : Story) → IsTrue (owes_reset story) → IsTrue (closed_as_failed story)
owes_failed [] is = absurd cc
owes_failed (At m (Closes directly ended known) ∷ past) is =
    or_left (has_failed m past) (closed_as_failed past)
    (fails_by (is_done past) (follows_reset directly past) (must_part m past) ended (gives_up m past) (waits_too_long m past) (not (is_accepted past && not (syn_is_out past))) is)
  where
    or_left : (a b : Bool) → IsTrue a → IsTrue (a || b)
    or_left true b x = refl
    or_left false b x = absurd cc
owes_failed (At m (Departs seg) ∷ past) is = owes_failed past (both (owes_reset past) (not (is_owed_reset past seg)) is).0
owes_failed (At m _ ∷ past) is = owes_failed past is

-- Where a reset of the flow went out, the flow had been closed because a call on the host's socket failed, the host didn't connect in time, or the
-- guest answered nothing.
pub resets_as_failed : (s : Settings) (story : Story) → IsLawful s story → IsTrue (reset_is_out story) → IsTrue (closed_as_failed story)
resets_as_failed s [] l is = absurd cc
resets_as_failed s (At m (Departs seg) ∷ past) l is =
    elim (either seg.rst (reset_is_out past) is) [
      | inl now ↦ owes_failed past (both (owes_reset past) _ (l.0.resets_where_owed now)).0
      | inr before ↦ resets_as_failed s past l.1 before
    ]
resets_as_failed s (At m (Closes directly ended known) ∷ past) l is = or_right (has_failed m past) (closed_as_failed past) (resets_as_failed s past l.1 is)
resets_as_failed s (At m _ ∷ past) l is = resets_as_failed s past l.1 is

owes_closed : (story : Story) → IsTrue (owes_reset story) → is_closed story ≡ true
owes_closed [] is = absurd cc
owes_closed (At m (Closes directly ended known) ∷ past) is = refl
owes_closed (At m (Departs seg) ∷ past) is = owes_closed past (both (owes_reset past) (not (is_owed_reset past seg)) is).0
owes_closed (At m _ ∷ past) is = owes_closed past is

reset_closed : (s : Settings) (story : Story) → IsLawful s story → IsTrue (reset_is_out story) → is_closed story ≡ true
reset_closed s [] l is = absurd cc
reset_closed s (At m (Departs seg) ∷ past) l is =
    elim (either seg.rst (reset_is_out past) is) [
      | inl now ↦ owes_closed past (both (owes_reset past) _ (l.0.resets_where_owed now)).0
      | inr before ↦ reset_closed s past l.1 before
    ]
reset_closed s (At m (Closes directly ended known) ∷ past) l is = refl
reset_closed s (At m _ ∷ past) l is = reset_closed s past l.1 is

and_not : (a b : Bool) → IsTrue b → (a && not b) ≡ false
and_not true true is = refl
and_not true false is = absurd cc
and_not false b is = refl

and_false : (a b : Bool) → a ≡ false → (a && b) ≡ false
and_false a b is = rw is refl

-- And no second one is owed.
pub resets_once : (s : Settings) (story : Story) → IsLawful s story → IsTrue (reset_is_out story) → owes_reset story ≡ false
resets_once s [] l is = absurd cc
resets_once s (At m (Departs seg) ∷ past) l is =
    elim (either seg.rst (reset_is_out past) is) [
      | inl now ↦ and_not (owes_reset past) (is_owed_reset past seg) (both (owes_reset past) (is_owed_reset past seg) (l.0.resets_where_owed now)).1
      | inr before ↦ and_false (owes_reset past) (not (is_owed_reset past seg)) (resets_once s past l.1 before)
    ]
resets_once s (At m (Closes directly ended known) ∷ past) l is =
    let closed = reset_closed s past l.1 is in
    let open_yet : is_closed past ≡ false = l.0.calls_open_socket in
    absurd cc
resets_once s (At m _ ∷ past) l is = resets_once s past l.1 is
