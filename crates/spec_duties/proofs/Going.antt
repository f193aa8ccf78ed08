-- What a trace goes on to be by calls that don't wait, and by a wait.
use Rattle.std.proofs.Common.{◌≡◌, ℕ, ◌≤◌, Bool, true, false, List, [], ◌∷◌, ◌++◌, refl, sym, ◌∙◌, arith}
use Rattle.world_face.specs.Journal.{Entry, Call, call_of, Follows, Now, Wait, LinkOpen, LinkRead, LinkWrite, Connect, Connected, Listen, Accept, TcpRead, TcpWrite, TcpEnd, Close, UdpOpen}
use Rattle.world_face.specs.Journal.{UdpSend, UdpRecv, FileLen, FileRead}
use Rattle.world_face.specs.Tells.{Telling, Brings}
use Rattle.slirp_settings.specs.Addresses.{Config}
use Rattle.spec_trace.specs.Moments.{waits, waits_after}
use Rattle.spec_flow.proofs.Refuting.{never_false}
use Rattle.spec_duties.specs.Duties.{Dutiful, Must}

-- ---- two laws of one trace

-- a run keeps two laws where each of its calls keeps both
pub keeps_both : (One Other : List Entry → Call → Type 0) (past : List Entry) → Follows One past → Follows Other past → Follows (λ before call. One before call × Other before call) past
keeps_both One Other [] one other = tt
keeps_both One Other (e ∷ past) one other = ((one.0, other.0), keeps_both One Other past one.1 other.1)

-- ---- waits

waits_rise : (e : Entry) (n : ℕ) → n ≤ waits_after e n
waits_rise (Wait wants timeout answer ready) n = omega arith
waits_rise _ n = omega arith

pub rise : (made past : List Entry) → waits past ≤ waits (made ++ past)
rise [] past = omega arith
rise (e ∷ made) past = let one = rise made past in let step = waits_rise e (waits (made ++ past)) in omega (arith, one, step)

-- where the count stays, each of them is calm wait
pub stays_below : (e : Entry) (made past : List Entry) → waits (e ∷ made ++ past) ≡ waits past → waits (made ++ past) ≡ waits past
stays_below e made past same = let one = rise made past in let step = waits_rise e (waits (made ++ past)) in omega (arith, one, step, same)

abbrev pub is_wait : Entry → Bool
is_wait (Wait wants timeout answer ready) = true
is_wait _ = false

no_wait : (e : Entry) (n : ℕ) → waits_after e n ≡ n → is_wait e ≡ false
no_wait (Wait wants timeout answer ready) n same = absurd (omega (arith, same))
no_wait (Now told) n same = refl
no_wait (LinkOpen at answer) n same = refl
no_wait (LinkRead asked answer octets) n same = refl
no_wait (LinkWrite octets answer) n same = refl
no_wait (Connect socket to answer) n same = refl
no_wait (Connected socket answer) n same = refl
no_wait (Listen socket at answer) n same = refl
no_wait (Accept listener socket answer) n same = refl
no_wait (TcpRead socket asked answer octets) n same = refl
no_wait (TcpWrite socket octets answer) n same = refl
no_wait (TcpEnd socket answer) n same = refl
no_wait (Close socket) n same = refl
no_wait (UdpOpen socket at answer) n same = refl
no_wait (UdpSend socket to octets answer) n same = refl
no_wait (UdpRecv socket asked answer octets) n same = refl
no_wait (FileLen name answer) n same = refl
no_wait (FileRead name place asked answer octets) n same = refl

pub none_waits : (e : Entry) (made past : List Entry) → waits (e ∷ made ++ past) ≡ waits past → is_wait e ≡ false
none_waits e made past same = no_wait e (waits (made ++ past)) (same ∙ sym (stays_below e made past same))

no_duty : (config : Config) (past : List Entry) (e : Entry) → is_wait e ≡ false → Must config past (call_of e)
no_duty config past (Wait wants timeout answer ready) is = never_false is
no_duty config past (Now told) is = tt
no_duty config past (LinkOpen at answer) is = tt
no_duty config past (LinkRead asked answer octets) is = tt
no_duty config past (LinkWrite octets answer) is = tt
no_duty config past (Connect socket to answer) is = tt
no_duty config past (Connected socket answer) is = tt
no_duty config past (Listen socket at answer) is = tt
no_duty config past (Accept listener socket answer) is = tt
no_duty config past (TcpRead socket asked answer octets) is = tt
no_duty config past (TcpWrite socket octets answer) is = tt
no_duty config past (TcpEnd socket answer) is = tt
no_duty config past (Close socket) is = tt
no_duty config past (UdpOpen socket at answer) is = tt
no_duty config past (UdpSend socket to octets answer) is = tt
no_duty config past (UdpRecv socket asked answer octets) is = tt
no_duty config past (FileLen name answer) is = tt
no_duty config past (FileRead name place asked answer octets) is = tt

-- calls that don't wait leave a law kept that asks something of waits alone
module _ (Law : List Entry → Call → Type 0) (free : (past : List Entry) (e : Entry) → is_wait e ≡ false → Law past (call_of e)) where
  law_goes_on : (made past : List Entry) → waits (made ++ past) ≡ waits past → Follows Law past → Follows Law (made ++ past)
  law_goes_on [] past same kept = kept
  law_goes_on (e ∷ made) past same kept = (free (made ++ past) e (none_waits e made past same), law_goes_on made past (stays_below e made past same) kept)

pub goes_on : (config : Config) (made past : List Entry) → waits (made ++ past) ≡ waits past → Dutiful config past → Dutiful config (made ++ past)
goes_on config = law_goes_on (Must config) (no_duty config)

-- so whatever brings one thing from another, as often as the run waited before, brings the duties too
pub brings_on : (config : Config) (old new : Telling) (Before After : List Entry → Type 0) → ((past made : List Entry) → Before past → After (made ++ past) → waits (made ++ past) ≡ waits past)
    → Brings old new Before After → Brings old new (λ past. Before past × Dutiful config past) (λ past. After past × Dutiful config past)
brings_on config old new Before After same b = record {
  made = b.made;
  same = b.same;
  allowed = b.allowed;
  told = b.told;
  counted = b.counted;
  brings = λ past before. let after = b.brings past before.0 in (after, goes_on config b.made past (same past b.made before.0 after) before.1);
}
