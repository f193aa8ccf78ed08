-- What a wrong program would do next with the host's stream, or with the flow, and the sentence that refutes it.
use Rattle.std.proofs.Common.{refl, ◌≡◌, ℕ, ◌+◌, ◌<◌, ◌≤◌, [], ◌∷◌, Some, slice_get, inl, inr, arith, subst, true, false, not, pos, nat_lt, Bool, IsTrue, length, ◌&&◌, ◌||◌}
use Rattle.std.proofs.lemmas.Bool.Decides.{nat_tests}
use Rattle.std.proofs.lemmas.Int.{ints}
use Rattle.spec_flow.specs.Settings.{Settings}
use Rattle.spec_flow.specs.Event.{Departs, Reads, ReadsEnd, At, Story}
use Rattle.spec_flow.specs.Host.{acked, got, got_end}
use Rattle.spec_flow.specs.Close.{may_give_way}
use Rattle.spec_flow.specs.Flow.{host, has_connected, is_accepted, is_closed}
use Rattle.spec_flow.specs.Lawful.{May, Read, Send, Close}
use Rattle.spec_flow.specs.Dutiful.{IsSettled, wakes, resend_deadline, waits_to_read}
use Rattle.spec_flow.specs.Check.{may}
use Rattle.spec_flow.proofs.Refuting.{never, never_false, apart, pos_same, some_same}
use Rattle.spec_flow.proofs.Courses.{usual, octets, data_segment, fin_segment, syn_ack, reset_ack, asked, opened, nine, established}

-- ---- the host hasn't connected

accepts_before_host_connected : May usual asked 1200 (Send (syn_ack 250000 1001 65535)) → ⊥
accepts_before_host_connected m = never (m.opens_after_host refl)

-- ---- thirty octets and the end were read; ten went out

abbrev pub ten_sent : Story
ten_sent =
    At 1700 (Departs (data_segment 250001 1001 65535 (octets 0 10)))
    ∷ At 1700 ReadsEnd
    ∷ At 1700 (Reads (octets 0 30))
    ∷ established

sends_fin_with_octets_unsent : May usual ten_sent 1700 (Send (fin_segment 250011 1001 65535 [])) → ⊥
sends_fin_with_octets_unsent m = apart 10 30 refl (pos_same 10 30 (m.sends_end_after_all refl).1)

reads_after_the_end : May usual ten_sent 1700 Read → ⊥
reads_after_the_end m = never_false m.reads_to_the_end

-- the link took nothing of the second piece, and the third goes out
counts_unsent_as_sent : May usual ten_sent 1700 (Send (data_segment 250021 1001 65535 (octets 20 10))) → ⊥
counts_unsent_as_sent m =
    let p = m.sends_what_the_host_sent in
    let same : pos 20 ≡ pos p.0 = p.1 in
    let low : p.0 ≤ 10 = p.2 in
    absurd (omega (arith, ints, same))

-- octets that were read go out with others in their place
sends_other_octets : May usual ten_sent 1700 (Send (data_segment 250011 1001 65535 (octets 20 10))) → ⊥
sends_other_octets m =
    let p = m.sends_what_the_host_sent in
    let same : pos 10 ≡ pos p.0 = p.1 in
    let is : p.0 ≡ 10 = omega (arith, ints, same) in
    let here : Some 10 ≡ Some 20 = subst (λ (k : ℕ). slice_get (octets 0 30) (k + 0) ≡ Some 20) is (p.3 0 20 refl) in
    apart 10 20 refl (some_same 10 20 here)

-- the second piece is what may go out
sends_the_next : may usual ten_sent 1700 (Send (data_segment 250011 1001 65535 (octets 10 20))) ≡ true
sends_the_next = refl

-- ---- our SYN-ACK went out once, and wasn't acknowledged

resets_at_first_expiry : (directly known : Bool) (now : ℕ) → may_give_way now opened ≡ false → May usual opened now (Close directly false known) → ⊥
resets_at_first_expiry true known now heard m = elim m.closes_with_cause [
  | inl own ↦ elim own [ inl one ↦ never one | inr rest ↦ elim rest [ inl two ↦ never two | inr three ↦ three.1 ] ]
  | inr way ↦ never (subst IsTrue heard way)
]
resets_at_first_expiry false known now heard m = elim m.closes_with_cause [
  | inl own ↦ elim own [ inl one ↦ never one | inr rest ↦ elim rest [ inl two ↦ never two | inr three ↦ never three.0 ] ]
  | inr way ↦ never (subst IsTrue heard way)
]

-- nor does a reset go out of a flow that isn't closed
resets_an_open_flow : May usual opened 2500 (Send (reset_ack 250001 1001)) → ⊥
resets_an_open_flow m = never (m.resets_where_owed refl)

-- nor a moment before the last wait is over
resets_a_moment_early : May usual nine 244499 (Close false false true) → ⊥
resets_a_moment_early m = elim m.closes_with_cause [
  | inl own ↦ elim own [ inl one ↦ never one | inr rest ↦ elim rest [ inl two ↦ never two | inr three ↦ never three.0 ] ]
  | inr way ↦ never way
]

resets_in_time : may usual nine 244500 (Close false false true) ≡ true
resets_in_time = refl

-- it never goes again: the program may not wait once a minute has passed
never_resends : (known time_waits : Bool) (now : ℕ) → 61500 ≤ now → IsSettled usual opened known time_waits now → ⊥
never_resends known time_waits now passed has = late has.resends.0
  where
    late : now < 61500 → ⊥
    late is = absurd (omega (arith, is, passed))

must_resend : resend_deadline opened ≡ 61500 ∷ []
must_resend = refl

-- and a wait may end for it a second after it went out
may_wake : wakes opened ≡ 2500 ∷ []
may_wake = refl

-- it goes out again at once, though nothing came
repeats_at_once : May usual opened 1600 (Send (syn_ack 250000 1001 65535)) → ⊥
repeats_at_once m = never m.sends_again_with_reason

-- ---- what was read and isn't acknowledged fills the ring: nothing is waited for

no_room : (n m : ℕ) → m ≤ n → nat_lt n m ≡ false
no_room n m full = grind (arith, nat_tests)

pub waits_for_no_more : (s : Settings) (past : Story) → acked (host past) + s.ring ≤ length (got (host past)) → waits_to_read s past ≡ false
waits_for_no_more s past full =
    last (has_connected past || is_accepted past) (not (is_closed past)) (not (got_end (host past))) (nat_lt (length (got (host past))) (acked (host past) + s.ring))
    (no_room (length (got (host past))) (acked (host past) + s.ring) full)
  where
    last : (a b c d : Bool) → d ≡ false → (a && b && c && d) ≡ false
    last true true true d is = is
    last true true false d is = refl
    last true false c d is = refl
    last false b c d is = refl
