-- Two calls, calls after one, and a call among others.
use Rattle.std.proofs.Common.{refl, ◌≡◌, List, [], ◌∷◌, ◌++◌, Bool, true, false, ◌||◌, subst, sym}
use Rattle.world_face.specs.Journal.{Allowed, Close, Connected, Entry, TcpEnd, TcpRead, TcpWrite}
use Rattle.world_face.specs.Tells.{Answers, Makes, Telling}
use Rattle.world_face.proofs.Telling.{makes_next, makes_one, makes_then}
use Rattle.sim_connection.specs.Holding.{is_at_connecting}
use Rattle.flow_splice.specs.Hosts.{ReadsOn, ServesReport, is_for_reading, is_for_writing, reads_or_shuts, serves_write, some_is}
use Rattle.flow_splice.specs.Splice.{Splice}
use Rattle.flow_splice.specs.Wants.{reads, writes}

-- what a report for writing asks for is a call for writing
pub for_writing : (connects : Bool) (e : Entry) → serves_write connects e ≡ true → is_for_writing e ≡ true
for_writing true (Connected socket answer) is = refl
for_writing false (TcpWrite socket octets answer) is = refl
for_writing false (TcpEnd socket answer) is = refl
for_writing true _ is = absurd cc
for_writing false _ is = absurd cc

pub some_for : (a b : Entry → Bool) → ((e : Entry) → a e ≡ true → b e ≡ true) → (made : List Entry) → some_is a made ≡ true → some_is b made ≡ true
some_for a b then [] is = absurd cc
some_for a b then (e ∷ made) is = by (a e) refl is (some_for a b then made)
  where
    or_behind : (t : Bool) → some_is b made ≡ true → (t || some_is b made) ≡ true
    or_behind true is = refl
    or_behind false is = is

    by : (t : Bool) → a e ≡ t → (t || some_is a made) ≡ true → (some_is a made ≡ true → some_is b made ≡ true) → (b e || some_is b made) ≡ true
    by true here is more = rw (then e here) refl
    by false none is more = or_behind (b e) (more is)

pub two_calls : (a b c : Telling) (first second : Entry) (Q : List Entry → Type 0) → Answers a b first → Answers b c second → (Allowed first → Allowed second → Q (second ∷ first ∷ [])) → Makes a c Q
two_calls a b c first second Q one two here =
    makes_next a b c second (λ made. (made ≡ first ∷ []) × Allowed first) Q (makes_one a b first (λ made. (made ≡ first ∷ []) × Allowed first) one (λ allowed. (refl, allowed))) two
    (λ made is allowed. subst (λ (es : List Entry). Q (second ∷ es)) (sym is.0) (here is.1 allowed))

pub calls_after : (a b c : Telling) (first : Entry) (P Q : List Entry → Type 0) → Answers a b first → Makes b c P → ((made : List Entry) → P made → Q (made ++ (first ∷ []))) → Makes a c Q
calls_after a b c first P Q one more here =
    makes_then a b c (λ made. made ≡ first ∷ []) P Q (makes_one a b first (λ made. made ≡ first ∷ []) one (λ allowed. refl)) more
    (λ some made is holds. subst (λ (es : List Entry). Q (made ++ es)) (sym is) (here made holds))

pub or_first : (a b : Bool) → a ≡ true → (a || b) ≡ true
or_first true b so = refl
or_first false b so = absurd cc

pub or_last : (a b : Bool) → b ≡ true → (a || b) ≡ true
or_last true b so = refl
or_last false b so = so

-- a call of a kind is one of those that were made, whatever is made later
pub still_is : (is : Entry → Bool) (second first : List Entry) → some_is is first ≡ true → some_is is (second ++ first) ≡ true
still_is is [] first so = so
still_is is (e ∷ second) first so = or_last (is e) (some_is is (second ++ first)) (still_is is second first so)

-- or whatever was made before
pub is_already : (is : Entry → Bool) (second first : List Entry) → some_is is second ≡ true → some_is is (second ++ first) ≡ true
is_already is [] first so = absurd cc
is_already is (e ∷ second) first so = by (is e) (λ later. is_already is second first later) so
  where
    by : (b : Bool) → (some_is is second ≡ true → some_is is (second ++ first) ≡ true) → (b || some_is is second) ≡ true → (b || some_is is (second ++ first)) ≡ true
    by true behind so = refl
    by false behind so = behind so

-- the same beside something else
pub or_already : (b : Bool) (is : Entry → Bool) (second first : List Entry) → (b || some_is is second) ≡ true → (b || some_is is (second ++ first)) ≡ true
or_already true is second first so = refl
or_already false is second first so = is_already is second first so

-- a read is a read or a close
pub reads_at_least : (made : List Entry) → some_is is_for_reading made ≡ true → some_is reads_or_shuts made ≡ true
reads_at_least [] so = so
reads_at_least (TcpRead socket asked answer octets ∷ made) so = refl
reads_at_least (Close socket ∷ made) so = refl
reads_at_least (e ∷ made) so = or_last (reads_or_shuts e) (some_is reads_or_shuts made) (reads_at_least made so)

-- nothing was called, and nothing has changed
pub reads_on_yet : (f : Splice) → ReadsOn f f []
reads_on_yet f reading = or_first (reads f) false reading

-- where reading goes on after the writing it is done, and where it doesn't a socket was closed
reads_behind : (goes_on : Bool) (second first : List Entry) → (goes_on || some_is reads_or_shuts first) ≡ true → (goes_on ≡ true → some_is is_for_reading second ≡ true)
    → some_is reads_or_shuts (second ++ first) ≡ true
reads_behind true second first so later = is_already reads_or_shuts second first (reads_at_least second (later refl))
reads_behind false second first so later = still_is reads_or_shuts second first so

-- the calls for writing, and then those for reading
pub serves_both : (read write : Bool) (old mid : Splice) (first second : List Entry) →
    (write ≡ true → writes old ≡ true → some_is (serves_write (is_at_connecting old.conn.stage)) first ≡ true) → ReadsOn old mid first
    → (read ≡ true → reads mid ≡ true → some_is is_for_reading second ≡ true) → ServesReport read write old (second ++ first)
serves_both read write old mid first second written on later = record {
  writing = λ is waits. still_is (serves_write (is_at_connecting old.conn.stage)) second first (written is waits);
  reading = λ is waits. reads_behind (reads mid) second first (on waits) (later is);
}
