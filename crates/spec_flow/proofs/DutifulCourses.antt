-- What was done in the courses was done as it must be: each tells its room, offers what was acknowledged, and is closed after a reset.
use Rattle.std.proofs.Common.{refl, ◌≡◌, ◌∷◌, inl, false, IsTrue}
use Rattle.spec_flow.specs.Event.{Arrives, At}
use Rattle.spec_flow.specs.Lawful.{Read}
use Rattle.spec_flow.specs.Dutiful.{Must}
use Rattle.spec_flow.specs.CheckDuty.{is_dutiful, must_close}
use Rattle.spec_flow.proofs.Refuting.{never}
use Rattle.spec_flow.proofs.Conformance.{conforming}
use Rattle.spec_flow.specs.Flow.{guest}
use Rattle.spec_flow.proofs.Ends.{ends_has}
use Rattle.spec_flow.proofs.Courses.{usual, refused, established, short_writes, wrapped, repeated, ended_held, windowed, given_up, resets, reset}
use Rattle.spec_flow.proofs.Closings.{accepted_open, both_open, turned_away, guest_ended, fin_again}
use Rattle.spec_flow.proofs.Failures.{read_failed, reset_while_late, unheard, reset_passed, reset_after_octets}
use Rattle.spec_flow.proofs.Corners.{crossing, probe, tend_fails, unsent}

of_given_up : IsTrue (is_dutiful usual given_up)
of_given_up = refl

of_refused : IsTrue (is_dutiful usual refused)
of_refused = refl

of_short_writes : IsTrue (is_dutiful usual short_writes)
of_short_writes = refl

of_wrapped : IsTrue (is_dutiful usual wrapped)
of_wrapped = refl

of_repeated : IsTrue (is_dutiful usual repeated)
of_repeated = refl

of_ended_held : IsTrue (is_dutiful usual ended_held)
of_ended_held = refl

of_windowed : IsTrue (is_dutiful usual windowed)
of_windowed = refl

of_resets : IsTrue (is_dutiful usual resets)
of_resets = refl

of_accepted : IsTrue (is_dutiful usual accepted_open)
of_accepted = refl

of_both : IsTrue (is_dutiful usual both_open)
of_both = refl

of_turned_away : IsTrue (is_dutiful usual turned_away)
of_turned_away = refl

of_guest_ended : IsTrue (is_dutiful usual guest_ended)
of_guest_ended = refl

of_fin_again : IsTrue (is_dutiful usual fin_again)
of_fin_again = refl

of_read_failed : IsTrue (is_dutiful usual read_failed)
of_read_failed = refl

of_reset_while_late : IsTrue (is_dutiful usual reset_while_late)
of_reset_while_late = refl

of_unheard : IsTrue (is_dutiful usual unheard)
of_unheard = refl

of_reset_passed : IsTrue (is_dutiful usual reset_passed)
of_reset_passed = refl

of_reset_after_octets : IsTrue (is_dutiful usual reset_after_octets)
of_reset_after_octets = refl

of_crossing : IsTrue (is_dutiful usual crossing)
of_crossing = refl

of_probe : IsTrue (is_dutiful usual probe)
of_probe = refl

of_tend_fails : IsTrue (is_dutiful usual tend_fails)
of_tend_fails = refl

of_unsent : IsTrue (is_dutiful usual unsent)
of_unsent = refl

-- ---- a reset at the next number

-- nothing but the close may come after it
goes_on_after_reset : Must usual (At 1700 (Arrives (reset 1001)) ∷ established) 1700 Read → ⊥
goes_on_after_reset m =
    m.closes_after_reset (reset 1001, refl, refl, conforming (guest established) refl, refl, refl, inl (refl, λ end. never (ends_has (guest established) 0 end)))

-- one elsewhere closes nothing
elsewhere : must_close (At 1700 (Arrives (reset 1005)) ∷ established) ≡ false
elsewhere = refl
