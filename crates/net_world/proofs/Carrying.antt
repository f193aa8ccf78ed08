-- What the calls of a trace carry to a connection, and from it.
use Rattle.std.proofs.Common.{◌≡◌, ℕ, List, [], ◌∷◌, ◌++◌, Option, None, Some, refl, ap, sym, subst}
use Rattle.std.proofs.lemmas.List.{append-nil}
use Rattle.std.specs.Io.KnownBytes.{Appends, Consumes}
use Rattle.world_face.specs.Journal.{Entry}
use Rattle.host_io.specs.Carrying.{Carrying}
use Rattle.net_world.specs.Recording.{written_to, written_to_by, read_from, read_from_by, AllCarry}
use Rattle.guest_link.proofs.Joining.{appends_both, consumes_both}

appends_none : (a : Option (List ℕ)) → Appends a a []
appends_none None = tt
appends_none (Some xs) = sym (append-nil xs)

consumes_none : (a : Option (List ℕ)) → Consumes a a []
consumes_none None = tt
consumes_none (Some xs) = refl

all_went : (connection : ℕ) (entries : List Entry) (first last : Carrying) → AllCarry connection first entries last → Appends first.taken last.taken (written_to connection entries)
all_went connection [] first last same = rw same (appends_none first.taken)
all_went connection (entry ∷ entries) first last (next, carries, rest) =
    appends_both first.taken next.taken last.taken (written_to_by connection entry) (written_to connection entries) carries.went (all_went connection entries next last rest)

all_came : (connection : ℕ) (entries : List Entry) (first last : Carrying) → AllCarry connection first entries last → Consumes first.left last.left (read_from connection entries)
all_came connection [] first last same = rw same (consumes_none first.left)
all_came connection (entry ∷ entries) first last (next, carries, rest) =
    consumes_both first.left next.left last.left (read_from_by connection entry) (read_from connection entries) carries.came (all_came connection entries next last rest)

appended : (last : Option (List ℕ)) (put : List ℕ) → Appends (Some []) last put → last ≡ Some put
appended None put went = elim went [ ]
appended (Some got) put went = ap (λ (l : List ℕ). Some l) went

consumed : (gives read : List ℕ) (last : Option (List ℕ)) → Consumes (Some gives) last read → (rest : List ℕ) × (last ≡ Some rest) × (read ++ rest ≡ gives)
consumed gives read None came = elim came [ ]
consumed gives read (Some rest) came = (rest, refl, sym came)

pub connection_took : (connection : ℕ) (entries : List Entry) (first last : Carrying) → first.taken ≡ Some [] → AllCarry connection first entries last
    → last.taken ≡ Some (written_to connection entries)
connection_took connection entries first last none all =
    appended last.taken (written_to connection entries)
    (subst (λ (t : Option (List ℕ)). Appends t last.taken (written_to connection entries)) none (all_went connection entries first last all))

pub connection_gave : (connection : ℕ) (entries : List Entry) (first last : Carrying) (gives : List ℕ) → first.left ≡ Some gives → AllCarry connection first entries last
    → (rest : List ℕ) × (last.left ≡ Some rest) × (read_from connection entries ++ rest ≡ gives)
connection_gave connection entries first last gives some all =
    consumed gives (read_from connection entries) last.left
    (subst (λ (t : Option (List ℕ)). Consumes t last.left (read_from connection entries)) some (all_came connection entries first last all))
