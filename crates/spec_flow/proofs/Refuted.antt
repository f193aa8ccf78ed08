-- A lawful story of a conforming guest passes the test; so what fails it is refuted.
use Rattle.std.proofs.Common.{refl, ◌≡◌, ℕ, ◌^◌, List, [], ◌∷◌, length, Option, None, Some, Bool, true, false, ◌&&◌, IsTrue, MatchOption, nat_le, nat_lt}
use Rattle.spec_flow.specs.Settings.{Settings}
use Rattle.spec_flow.specs.Event.{At, Story}
use Rattle.spec_flow.specs.Guest.{Up, Known, Came, Acked, Wrote, Ended, Conforming}
use Rattle.spec_flow.specs.Flow.{guest, push, up_of}
use Rattle.spec_flow.specs.Close.{host_failed}
use Rattle.spec_flow.specs.Lawful.{Act, act_of, May, IsLawful}
use Rattle.spec_flow.specs.Computed.{is_conforming, are_sized}
use Rattle.spec_flow.specs.Check.{may, may_happen, is_lawful}
use Rattle.spec_flow.proofs.Computing.{both}
use Rattle.spec_flow.proofs.Conformance.{conforming}
use Rattle.spec_flow.proofs.GuestLaws.{conforming_before}
use Rattle.spec_flow.proofs.Holding.{and_true, not_true}
use Rattle.spec_flow.proofs.Exact.{may_holds}

-- ---- a story

sized_push : (o : Option Up) (past : List Up) → IsTrue (are_sized (push o past)) → IsTrue (are_sized past)
sized_push None past sized = sized
sized_push (Some (Came n xs fin heeded)) past sized = (both (nat_lt n (2 ^ 32) && nat_le (length xs) (2 ^ 32)) (are_sized past) sized).1
sized_push (Some (Known f)) past sized = sized
sized_push (Some (Acked n)) past sized = sized
sized_push (Some (Wrote xs n)) past sized = sized
sized_push (Some Ended) past sized = sized

happens_holds : (s : Settings) (past : Story) (now : ℕ) (o : Option Act) → Conforming (guest past) → IsTrue (are_sized (guest past))
    → MatchOption o (host_failed past ≡ false) (λ act. May s past now act) → IsTrue (may_happen s past now o)
happens_holds s past now None conforming sized is = not_true (host_failed past) is
happens_holds s past now (Some act) conforming sized is = may_holds s past now act conforming sized is

-- A lawful story of a conforming guest passes the test.
pub lawful_holds : (s : Settings) (story : Story) → Conforming (guest story) → IsTrue (are_sized (guest story)) → IsLawful s story → IsTrue (is_lawful s story)
lawful_holds s [] conforming sized l = refl
lawful_holds s (At m e ∷ past) conforming sized l =
    let was = conforming_before (At m e) past conforming in
    let small = sized_push (up_of past e) (guest past) sized in
    and_true (may_happen s past m (act_of e)) (is_lawful s past) (happens_holds s past m (act_of e) was small l.0) (lawful_holds s past was small l.1)

-- ---- so what fails it is refuted

not_both : (b : Bool) → b ≡ true → b ≡ false → ⊥
not_both true x y = absurd cc
not_both false x y = absurd cc

pub refutes : (s : Settings) (past : Story) (now : ℕ) (act : Act) → IsTrue (is_conforming (guest past)) → IsTrue (are_sized (guest past)) → may s past now act ≡ false → May s past now act → ⊥
refutes s past now act fair sized fails m = not_both (may s past now act) (may_holds s past now act (conforming (guest past) fair) sized m) fails

pub refutes_story : (s : Settings) (story : Story) → IsTrue (is_conforming (guest story)) → IsTrue (are_sized (guest story)) → is_lawful s story ≡ false → IsLawful s story → ⊥
refutes_story s story fair sized fails l = not_both (is_lawful s story) (lawful_holds s story (conforming (guest story) fair) sized l) fails
