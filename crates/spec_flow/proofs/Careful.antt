-- Courses with congestion.
use Rattle.std.proofs.Common.{refl, ◌≡◌, ◌≤◌, [], ◌∷◌, None, Some, true, false, IsTrue, arith}
use Rattle.spec_flow.specs.Settings.{Settings}
use Rattle.spec_flow.specs.Event.{Connects, Arrives, Departs, Connected, Reads, At, Story}
use Rattle.spec_flow.specs.Windows.{edge, mss}
use Rattle.spec_flow.specs.Dutiful.{HasSent}
use Rattle.spec_flow.specs.Check.{is_lawful}
use Rattle.spec_flow.specs.CheckDuty.{is_settled}
use Rattle.spec_flow.proofs.Courses.{usual, octets, data_segment, syn, syn_ack}

-- ---- congestion: at least one segment past what was acknowledged has to go out

abbrev pub careful : Settings
careful = record { ring = 65535; mru = 1500; mtu = 1500; scales = true; congestion = true }

abbrev pub careful_read : Story
careful_read =
    At 1600 (Reads (octets 0 4000))
    ∷ At 1600 (Arrives (data_segment 1001 250001 65535 []))
    ∷ At 1500 (Departs (syn_ack 250000 1001 65535))
    ∷ At 1500 Connected ∷ At 1000 (Connects 250000 (syn 1000 65535)) ∷ []

careful_mss : mss careful careful_read ≡ 1460
careful_mss = refl

careful_edge : edge careful careful_read ≡ 1460
careful_edge = refl

-- without it all has to go out that the guest takes
usual_edge : edge usual careful_read ≡ 65535
usual_edge = refl

abbrev pub careful_sent : Story
careful_sent =
    At 1700 (Departs (data_segment 251461 1001 65535 (octets 1460 1460)))
    ∷ At 1700 (Arrives (data_segment 1001 251461 65535 []))
    ∷ At 1600 (Departs (data_segment 250001 1001 65535 (octets 0 1460)))
    ∷ careful_read

careful_lawful : IsTrue (is_lawful careful careful_sent)
careful_lawful = refl

careful_sent_edge : edge careful careful_sent ≡ 2920
careful_sent_edge = refl

careful_settled : IsTrue (is_settled careful careful_sent true false 1700)
careful_settled = refl

-- a guest that names no MSS, or less than 64, and a smaller way out
no_mss : mss careful (At 1000 (Connects 250000 (record {
  number = 1000;
  acknowledgement = 0;
  ack = false;
  syn = true;
  rst = false;
  fin = false;
  window = 9;
  mss = None;
  scale = None;
  octets = [];
})) ∷ []) ≡ 536
no_mss = refl

small_mss : mss careful (At 1000 (Connects 250000 (record {
  number = 1000;
  acknowledgement = 0;
  ack = false;
  syn = true;
  rst = false;
  fin = false;
  window = 9;
  mss = Some 10;
  scale = None;
  octets = [];
})) ∷ []) ≡ 64
small_mss = refl

small_way : mss (record { ring = 65535; mru = 1500; mtu = 576; scales = true; congestion = true }) careful_read ≡ 536
small_way = refl

-- the second segment doesn't go out
doesn't_go_on : HasSent careful (At 1700 (Arrives (data_segment 1001 251461 65535 [])) ∷ At 1600 (Departs (data_segment 250001 1001 65535 (octets 0 1460))) ∷ careful_read) true → ⊥
doesn't_go_on has = absurd (omega (arith, few))
  where
    few : 2920 ≤ 1460
    few = has.octets refl
