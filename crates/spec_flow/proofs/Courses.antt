-- Courses of one flow from beginning to end, each lawful by the test.
use Rattle.std.proofs.Common.{refl, ◌≡◌, ℕ, zero, suc, ◌+◌, ◌-◌, List, [], ◌∷◌, true, false, IsTrue, Option, None, Some}
use Rattle.spec_flow.specs.Settings.{Settings}
use Rattle.spec_flow.specs.Event.{Segment, Connects, Arrives, Departs, Connected, ConnectsYet, ConnectFails, Writes, Reads, ReadsEnd, EndsHost, Closes, Beat, At, Story}
use Rattle.spec_flow.specs.Guest.{written, ackd}
use Rattle.spec_flow.specs.Host.{sent, answered}
use Rattle.spec_flow.specs.Flow.{guest, host}
use Rattle.spec_flow.specs.Windows.{edge}
use Rattle.spec_flow.specs.Close.{owes_reset, is_in_use}
use Rattle.spec_flow.specs.Check.{is_lawful}

-- ---- segments

-- the octets i, i + 1 .. of a stream in which octet i is i
abbrev pub octets : ℕ → ℕ → List ℕ
octets i zero = []
octets i (suc n) = i ∷ octets (suc i) n

-- octets, an acknowledgement and a window
abbrev pub data_segment : ℕ → ℕ → ℕ → List ℕ → Segment
data_segment n a w xs = record { number = n; acknowledgement = a; ack = true; syn = false; rst = false; fin = false; window = w; mss = None; scale = None; octets = xs }

abbrev pub fin_segment : ℕ → ℕ → ℕ → List ℕ → Segment
fin_segment n a w xs = record { number = n; acknowledgement = a; ack = true; syn = false; rst = false; fin = true; window = w; mss = None; scale = None; octets = xs }

-- a SYN with the MSS 1,460, and a window scale or none
abbrev pub syn_with : Option ℕ → ℕ → ℕ → Segment
syn_with k n w = record { number = n; acknowledgement = 0; ack = false; syn = true; rst = false; fin = false; window = w; mss = Some 1460; scale = k; octets = [] }

abbrev pub syn_ack_with : Option ℕ → ℕ → ℕ → ℕ → Segment
syn_ack_with k n a w = record { number = n; acknowledgement = a; ack = true; syn = true; rst = false; fin = false; window = w; mss = Some 1460; scale = k; octets = [] }

-- the guest's SYN, which has no window scale, and our answer
abbrev pub syn : ℕ → ℕ → Segment
syn = syn_with None

abbrev pub syn_ack : ℕ → ℕ → ℕ → Segment
syn_ack = syn_ack_with None

-- a SYN of ours
abbrev pub our_syn : ℕ → Segment
our_syn n = syn_with (Some 0) n 65535

-- a reset that a flow owes
abbrev pub reset_ack : ℕ → ℕ → Segment
reset_ack n a = record { number = n; acknowledgement = a; ack = true; syn = false; rst = true; fin = false; window = 0; mss = None; scale = None; octets = [] }

abbrev pub reset : ℕ → Segment
reset n = record { number = n; acknowledgement = 0; ack = false; syn = false; rst = true; fin = false; window = 0; mss = None; scale = None; octets = [] }

-- the settings where nothing is set
abbrev pub usual : Settings
usual = record { ring = 65535; mru = 1500; mtu = 1500; scales = true; congestion = false }

-- ---- the guest's SYN has number 1000, ours is 250,000; the host connects at the second question

abbrev pub asked : Story
asked = At 1200 ConnectsYet ∷ At 1000 (Connects 250000 (syn 1000 65535)) ∷ []

abbrev pub opened : Story
opened = At 1500 (Departs (syn_ack 250000 1001 65535)) ∷ At 1500 Connected ∷ asked

opened_lawful : IsTrue (is_lawful usual opened)
opened_lawful = refl

-- the host fails to connect: closed, and a reset with number 0 that acknowledges the SYN
abbrev pub refused : Story
refused = At 1500 (Departs (reset_ack 0 1001)) ∷ At 1500 (Closes false false true) ∷ At 1500 ConnectFails ∷ asked

refused_lawful : IsTrue (is_lawful usual refused)
refused_lawful = refl

-- the guest acknowledges our SYN
abbrev pub established : Story
established = At 1600 (Arrives (data_segment 1001 250001 1000 [])) ∷ opened

is_answered : answered (host established) ≡ true
is_answered = refl

the_edge : edge usual established ≡ 1000
the_edge = refl

-- ---- one segment of ten octets; the host takes three, none, seven
abbrev pub short_writes : Story
short_writes =
    At 1700 (Writes (octets 3 7) 7)
    ∷ At 1700 (Writes (octets 3 7) 0)
    ∷ At 1700 (Writes (octets 0 10) 3)
    ∷ At 1700 (Departs (data_segment 250001 1011 65525 []))
    ∷ At 1700 (Arrives (data_segment 1001 250001 1000 (octets 0 10)))
    ∷ established

short_writes_lawful : IsTrue (is_lawful usual short_writes)
short_writes_lawful = refl

short_writes_written : written (guest short_writes) ≡ octets 0 10
short_writes_written = refl

-- ---- numbers wrap: the guest's SYN has number 0xFFFFFFFB
abbrev pub wrapped : Story
wrapped =
    At 1700 (Writes (octets 0 12) 12)
    ∷ At 1700 (Departs (data_segment 250001 8 65523 []))
    ∷ At 1700 (Arrives (data_segment 0xFFFFFFFC 250001 1000 (octets 0 12)))
    ∷ At 1600 (Arrives (data_segment 0xFFFFFFFC 250001 1000 []))
    ∷ At 1500 (Departs (syn_ack 250000 0xFFFFFFFC 65535)) ∷ At 1500 Connected
    ∷ At 1000 (Connects 250000 (syn 0xFFFFFFFB 65535)) ∷ []

wrapped_lawful : IsTrue (is_lawful usual wrapped)
wrapped_lawful = refl

wrapped_ackd : ackd (guest wrapped) ≡ 12
wrapped_ackd = refl

-- ---- the same octets three times, then some of them with more, then a keep-alive
abbrev pub ack_of : ℕ → Segment
ack_of a = data_segment 250001 a (65535 + 1001 - a) []

abbrev pub repeated : Story
repeated =
    At 1700 (Writes (octets 0 14) 14)
    ∷ At 1700 (Departs (ack_of 1015)) ∷ At 1700 (Arrives (data_segment 1014 250001 1000 []))
    ∷ At 1700 (Departs (ack_of 1015)) ∷ At 1700 (Arrives (data_segment 1007 250001 1000 (octets 6 8)))
    ∷ At 1700 (Departs (ack_of 1011)) ∷ At 1700 (Arrives (data_segment 1001 250001 1000 (octets 0 10)))
    ∷ At 1700 (Departs (ack_of 1011)) ∷ At 1700 (Arrives (data_segment 1001 250001 1000 (octets 0 10)))
    ∷ At 1700 (Departs (ack_of 1011)) ∷ At 1700 (Arrives (data_segment 1001 250001 1000 (octets 0 10)))
    ∷ established

repeated_lawful : IsTrue (is_lawful usual repeated)
repeated_lawful = refl

-- ---- the guest ends with octets held: the host is told after the last
abbrev pub ended_held : Story
ended_held =
    At 1900 EndsHost
    ∷ At 1900 (Writes (octets 6 4) 4)
    ∷ At 1800 (Writes (octets 0 10) 6)
    ∷ At 1700 (Departs (data_segment 250001 1012 65525 []))
    ∷ At 1700 (Arrives (fin_segment 1001 250001 1000 (octets 0 10)))
    ∷ established

ended_held_lawful : IsTrue (is_lawful usual ended_held)
ended_held_lawful = refl

-- ---- the guest's window is 10; thirty octets are read, then the end
abbrev pub windowed : Story
windowed =
    At 2000 (Departs (fin_segment 250031 1001 65535 []))
    ∷ At 2000 (Arrives (data_segment 1001 250031 10 []))
    ∷ At 1900 (Departs (data_segment 250021 1001 65535 (octets 20 10)))
    ∷ At 1900 (Arrives (data_segment 1001 250021 10 []))
    ∷ At 1800 (Departs (data_segment 250011 1001 65535 (octets 10 10)))
    ∷ At 1800 (Arrives (data_segment 1001 250011 10 []))
    ∷ At 1700 (Departs (data_segment 250001 1001 65535 (octets 0 10)))
    ∷ At 1700 ReadsEnd
    ∷ At 1700 (Reads (octets 0 30))
    ∷ At 1600 (Arrives (data_segment 1001 250001 10 []))
    ∷ opened

windowed_lawful : IsTrue (is_lawful usual windowed)
windowed_lawful = refl

windowed_sent : sent (host windowed) ≡ 31
windowed_sent = refl

-- ---- no acknowledgement comes: nine SYN-ACKs, then the close and a reset
abbrev pub again : ℕ → Beat
again m = At m (Departs (syn_ack 250000 1001 65535))

abbrev pub nine : Story
nine =
    again 184500 ∷ again 124500 ∷ again 64500 ∷ again 32500 ∷ again 16500 ∷ again 8500 ∷ again 4500 ∷ again 2500 ∷ opened

abbrev pub given_up : Story
given_up = At 244500 (Departs (reset_ack 250001 1001)) ∷ At 244500 (Closes false false true) ∷ nine

given_up_lawful : IsTrue (is_lawful usual given_up)
given_up_lawful = refl

given_up_owes : owes_reset (At 244500 (Closes false false true) ∷ nine) ≡ true
given_up_owes = refl

given_up_free : is_in_use given_up ≡ false
given_up_free = refl

-- ---- a reset within the window is answered, one at the next number closes the flow
abbrev pub resets : Story
resets =
    At 1800 (Closes true false true)
    ∷ At 1800 (Arrives (reset 1001))
    ∷ At 1700 (Departs (data_segment 250001 1001 65535 []))
    ∷ At 1700 (Arrives (reset 1005))
    ∷ established

resets_lawful : IsTrue (is_lawful usual resets)
resets_lawful = refl

resets_free : is_in_use resets ≡ false
resets_free = refl
