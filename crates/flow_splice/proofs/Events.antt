-- Entries as events, one after another.
use Rattle.std.proofs.Common.{refl, ◌≡◌, ℕ, ◌+◌, List, [], ◌∷◌, ◌++◌, Bool, Option, true, false, nat_lt, if◌then◌else◌, append_assoc, arith, ap, subst, sym, ◌∙◌, inl, inr}
use Rattle.net_octets.specs.declared.Mac.{Mac}
use Rattle.world_face.specs.Journal.{Entry, LinkWrite, Connected, TcpRead, TcpWrite, TcpEnd, Close, count_of}
use Rattle.world_face.specs.declared.Io.{Io}
use Rattle.spec_flow.specs.Settings.{Settings}
use Rattle.spec_flow.specs.Event.{Segment, Event, Departs, AsksAddress, At, Story}
use Rattle.spec_flow.specs.Dutiful.{read_size}
use Rattle.spec_flow.specs.Lawful.{HasOwnCause}
use Rattle.flow_splice.specs.Entries.{Adds, AreEvents, OffersRequest, OffersSegment, datagrams, ident_after, went}
use Rattle.flow_splice.specs.Follows.{Follows}
use Rattle.flow_splice.specs.Serves.{GoesOn, GoesOnYet, TicksOn}
use Rattle.flow_splice.specs.Splice.{Face, Splice}
use Rattle.flow_splice.proofs.Opened.{follows_later}

-- no entry
pub goes_none : (f : Splice) (directly : Bool) (now : ℕ) → GoesOn f f directly now []
goes_none f directly now s past before ident ended known on h = record { beats = []; are = refl; follows = follows_later s f past before now on h }

pub goes_nowhere : (old new : Splice) (directly : Bool) (now : ℕ) (made : List Entry) → made ≡ [] → new ≡ old → GoesOn old new directly now made
goes_nowhere old new directly now made none same =
    subst (λ (es : List Entry). GoesOn old new directly now es) (sym none) (subst (λ (f : Splice). GoesOn old f directly now []) (sym same) (goes_none old directly now))

-- ---- some entries and then some more

datagrams_both : (later first : Story) → datagrams (later ++ first) ≡ datagrams later + datagrams first
datagrams_both [] first = omega arith
datagrams_both (At m (Departs seg) ∷ later) first = let more = datagrams_both later first in omega (arith, more)
datagrams_both (At m _ ∷ later) first = datagrams_both later first

pub ident_both : (ident : ℕ) (later first : Story) → ident_after (ident_after ident first) later ≡ ident_after ident (later ++ first)
ident_both ident later first = let more = datagrams_both later first in omega (arith, more)

went_both : (answer : Io) (now : ℕ) (e : Event) (later first : Story) → went answer now e later ++ first ≡ went answer now e (later ++ first)
went_both answer now e later first = by (nat_lt 0 (count_of answer))
  where
    by : (b : Bool) → (if b then At now e ∷ later else later) ++ first ≡ (if b then At now e ∷ (later ++ first) else later ++ first)
    by true = refl
    by false = refl

module _ (s : Settings) (face : Face) (mac : Option Mac) (directly ended known : Bool) (ident now : ℕ) (past first : Story) where
  offer_after : (octets : List ℕ) (seg : Segment) (rest : Story) → OffersSegment s face mac (ident_after (ident_after ident first) rest) now (rest ++ (first ++ past)) octets seg
      → OffersSegment s face mac (ident_after ident (rest ++ first)) now ((rest ++ first) ++ past) octets seg
  offer_after octets seg rest o =
      subst (λ (q : Story). OffersSegment s face mac (ident_after ident (rest ++ first)) now q octets seg) (sym (append_assoc rest first past))
      (subst (λ (n : ℕ). OffersSegment s face mac n now (rest ++ (first ++ past)) octets seg) (ident_both ident rest first) o)

  request_after : (octets : List ℕ) (rest : Story) → OffersRequest face mac (rest ++ (first ++ past)) octets → OffersRequest face mac ((rest ++ first) ++ past) octets
  request_after octets rest o = subst (λ (q : Story). OffersRequest face mac q octets) (sym (append_assoc rest first past)) o

  adds_after : (e : Entry) (rest beats : Story) → Adds s face mac directly ended known (ident_after ident first) now (first ++ past) e rest beats
      → Adds s face mac directly ended known ident now past e (rest ++ first) (beats ++ first)
  adds_after (LinkWrite octets answer) rest beats (inl a) = inl (a.0, offer_after octets a.0 rest a.1, ap (λ (bs : Story). bs ++ first) a.2 ∙ went_both answer now (Departs a.0) rest first)
  adds_after (LinkWrite octets answer) rest beats (inr a) = inr (request_after octets rest a.0, ap (λ (bs : Story). bs ++ first) a.1 ∙ went_both answer now AsksAddress rest first)
  adds_after (Connected socket answer) rest beats a = (a.0, ap (λ (bs : Story). bs ++ first) a.1)
  adds_after (TcpRead socket asked answer octets) rest beats a = (a.0, a.1 ∙ ap (λ (q : Story). read_size s q) (sym (append_assoc rest first past)), ap (λ (bs : Story). bs ++ first) a.2)
  adds_after (TcpWrite socket octets answer) rest beats a = (a.0, ap (λ (bs : Story). bs ++ first) a.1)
  adds_after (TcpEnd socket answer) rest beats a = (a.0, ap (λ (bs : Story). bs ++ first) a.1)
  adds_after (Close socket) rest beats a = (a.0, ap (λ (bs : Story). bs ++ first) a.1, subst (λ (q : Story). HasOwnCause directly false known now q) (sym (append_assoc rest first past)) a.2)
  adds_after _ rest beats a = absurd a

  pub events_then : (before made : List Entry) (beats : Story) → AreEvents s face mac directly ended known ident now past before first
      → AreEvents s face mac directly ended known (ident_after ident first) now (first ++ past) made beats → AreEvents s face mac directly ended known ident now past (made ++ before) (beats ++ first)
  events_then before [] beats are more = subst (λ (bs : Story). AreEvents s face mac directly ended known ident now past before (bs ++ first)) (sym more) are
  events_then before (e ∷ made) beats are more = (more.0 ++ first, events_then before made more.0 are more.1, adds_after e more.0 beats more.2)

-- the calls of a flow go on from one another
pub goes_then : (old mid new : Splice) (directly : Bool) (now : ℕ) (before made : List Entry) → new.face ≡ mid.face → new.mac ≡ mid.mac
    → GoesOn old mid directly now before → GoesOn mid new directly now made → GoesOn old new directly now (made ++ before)
goes_then old mid new directly now before made same_face same_mac first second s past at ident ended known on h =
    let a = first s past at ident ended known on h in
    let b = second s (a.beats ++ past) now (ident_after ident a.beats) ended known (omega arith) a.follows in
    record {
      beats = b.beats ++ a.beats;
      are = events_then s new.face new.mac directly ended known ident now past a.beats before made b.beats
          (subst (λ (face : Face). AreEvents s face new.mac directly ended known ident now past before a.beats) (sym same_face)
          (subst (λ (mac : Option Mac). AreEvents s mid.face mac directly ended known ident now past before a.beats) (sym same_mac) a.are))
          b.are;
      follows = subst (λ (q : Story). Follows s new q now) (sym (append_assoc b.beats a.beats past)) b.follows;
    }

-- what goes on whatever is known goes on
pub ticks_as : (old new : Splice) (now : ℕ) (made : List Entry) → GoesOnYet old new now made → TicksOn old new now made
ticks_as old new now made goes s past before ident directly known on unknown h = goes s past before ident directly known on h

pub none_yet : (f : Splice) (now : ℕ) → GoesOnYet f f now []
none_yet f now s past before ident directly known on h = goes_none f directly now s past before ident false known on h
