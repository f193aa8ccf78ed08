-- The frames of a datagram that is cut as it goes.
use Rattle.std.proofs.Common.{◌≡◌, ℕ, zero, suc, ◌+◌, ◌-◌, ◌<◌, ◌==◌, Bool, false, List, [], ◌∷◌, ◌++◌, map, drop, take, if◌then◌else◌, ◌∙◌, ap, arith}
use Rattle.std.proofs.lemmas.Bool.Decides.{nat_tests}
use Rattle.ipv4_head.specs.Cuts.{cut_at, cuts_from}
use Rattle.ipv4_head.specs.Sets.{Part}
use Rattle.spec_run.specs.Answers.{part_frame, uncut}
use Rattle.owed_frames.specs.Outgoing.{frames_in, frames_left}
use Rattle.owed_frames.specs.declared.cutting.Plan.{Plan}

-- a frame that has octets is there
framed : (size : ℕ) (octets : List ℕ) → 0 < size → frames_in size octets ≡ drop 4 (take size octets) ∷ []
framed size octets some =
    let not_none : (size == 0) ≡ false = grind (arith, nat_tests) in
    ap (λ (b : Bool). if b then [] else drop 4 (take size octets) ∷ []) not_none

-- the part that is next, and those behind it
next_of : (mtu : ℕ) (whole : Part) (as_frame : Part → List ℕ) (next left : ℕ) → 0 < left
    → as_frame (cut_at mtu whole next) ∷ map as_frame (cuts_from mtu whole (next + 1) (left - 1)) ≡ map as_frame (cuts_from mtu whole next left)
next_of mtu whole as_frame next zero some = absurd (omega (arith, some))
next_of mtu whole as_frame next (suc left) some =
    let place : next + 1 ≡ suc next = omega arith in
    let count : suc left - 1 ≡ left = omega arith in
    ap (λ n. as_frame (cut_at mtu whole next) ∷ map as_frame (cuts_from mtu whole n (suc left - 1))) place
    ∙ ap (λ n. as_frame (cut_at mtu whole next) ∷ map as_frame (cuts_from mtu whole (suc next) n)) count

pub next_frame : (plan : Plan) (octets frame : List ℕ) (size : ℕ) → 0 < plan.left → 0 < size
    → drop 4 (take size frame) ≡ part_frame plan.course.to_mac.0 plan.course.from_mac.0 plan.course.ident plan.proto plan.course.from.0 plan.course.to.0
    (cut_at plan.course.mtu (uncut (take plan.size octets)) plan.next)
    → frames_in size frame ++ frames_left (record plan { next = plan.next + 1; left = plan.left - 1 }) octets ≡ frames_left plan octets
next_frame plan octets frame size left some is =
    let as_frame : Part → List ℕ = part_frame plan.course.to_mac.0 plan.course.from_mac.0 plan.course.ident plan.proto plan.course.from.0 plan.course.to.0 in
    let behind : List (List ℕ) = frames_left (record plan { next = plan.next + 1; left = plan.left - 1 }) octets in
    ap (λ (l : List (List ℕ)). l ++ behind) (framed size frame some)
    ∙ ap (λ (f : List ℕ). f ∷ behind) is
    ∙ next_of plan.course.mtu (uncut (take plan.size octets)) as_frame plan.next plan.left left
