-- What the control learns of its item, by what the last wait of a stretch reported.
use Rattle.std.proofs.Common.{◌≡◌, ℕ, ◌&&◌, ◌||◌, Bool, true, false, cond, List, [], ◌∷◌, Some, None, refl, sym, ◌∙◌, ap, eq-eqb}
use Rattle.std.proofs.lemmas.Bool.{true≢false}
use Rattle.std.specs.List.{cons_option}
use Rattle.poll_list.specs.Listing.{reads, same_who, writes}
use Rattle.poll_list.specs.declared.Want.{Want}
use Rattle.poll_list.specs.declared.Who.{Who}
use Rattle.poll_list.specs.declared.Who.TheVariants.{Listener, Tcp}
use Rattle.rules_control.specs.Apart.{reported_of}
use Rattle.rules_control.specs.Reports.{is_connection, is_listener, tells_lines, tells_peer, tells_room}

-- a part, where there is one
abbrev part_if : Bool → Who → (read write : Bool) → List Want
part_if b who read write = cons_option (cond b (Some (record { of = who; read = read; write = write })) None) []

is_it : (who : Who) (socket : ℕ) → who ≡ Tcp socket → is_connection who ≡ same_who (Tcp socket) who
is_it who socket is = ap is_connection is ∙ sym (ap (same_who (Tcp socket)) is ∙ eq-eqb socket socket refl)

is_that : (who : Who) (socket : ℕ) → who ≡ Listener socket → is_listener who ≡ same_who (Listener socket) who
is_that who socket is = ap is_listener is ∙ sym (ap (same_who (Listener socket)) is ∙ eq-eqb socket socket refl)

lines_in : (b : Bool) (who : Who) (read write : Bool) (socket : ℕ) → who ≡ Tcp socket → tells_lines (part_if b who read write) ≡ reads (Tcp socket) (part_if b who read write)
lines_in true who read write socket is = ap (λ x. (x && read) || false) (is_it who socket is)
lines_in false who read write socket is = refl

room_in : (b : Bool) (who : Who) (read write : Bool) (socket : ℕ) → who ≡ Tcp socket → tells_room (part_if b who read write) ≡ writes (Tcp socket) (part_if b who read write)
room_in true who read write socket is = ap (λ x. (x && write) || false) (is_it who socket is)
room_in false who read write socket is = refl

peer_in : (b : Bool) (who : Who) (read write : Bool) (socket : ℕ) → who ≡ Listener socket → tells_peer (part_if b who read write) ≡ reads (Listener socket) (part_if b who read write)
peer_in true who read write socket is = ap (λ x. (x && read) || false) (is_that who socket is)
peer_in false who read write socket is = refl

-- octets came on the connection; it takes octets; a peer waits for the listener
pub lines_came : (item : Want) (ready : List Want) (socket : ℕ) → item.of ≡ Tcp socket
    → tells_lines (reported_of (item ∷ []) ready) ≡ reads (Tcp socket) (reported_of (item ∷ []) ready)
lines_came item ready socket is =
    let read = item.read && reads item.of ready in
    let write = item.write && writes item.of ready in
    lines_in (read || write) item.of read write socket is

pub has_room : (item : Want) (ready : List Want) (socket : ℕ) → item.of ≡ Tcp socket
    → tells_room (reported_of (item ∷ []) ready) ≡ writes (Tcp socket) (reported_of (item ∷ []) ready)
has_room item ready socket is =
    let read = item.read && reads item.of ready in
    let write = item.write && writes item.of ready in
    room_in (read || write) item.of read write socket is

pub peer_waits : (item : Want) (ready : List Want) (socket : ℕ) → item.of ≡ Listener socket
    → tells_peer (reported_of (item ∷ []) ready) ≡ reads (Listener socket) (reported_of (item ∷ []) ready)
peer_waits item ready socket is =
    let read = item.read && reads item.of ready in
    let write = item.write && writes item.of ready in
    peer_in (read || write) item.of read write socket is

-- where neither is told of a connection, nor that of a listener that is waited for for reading alone, nothing was reported
no_part_of_connection : (who : Who) (read write : Bool) (socket : ℕ) → who ≡ Tcp socket → tells_lines (part_if (read || write) who read write) ≡ false
    → tells_room (part_if (read || write) who read write) ≡ false → part_if (read || write) who read write ≡ []
no_part_of_connection who true write socket is lines room = absurd (true≢false (sym (ap (λ x. (is_connection x && true) || false) is) ∙ lines))
no_part_of_connection who false true socket is lines room = absurd (true≢false (sym (ap (λ x. (is_connection x && true) || false) is) ∙ room))
no_part_of_connection who false false socket is lines room = refl

no_part_of_listener : (who : Who) (read write : Bool) (socket : ℕ) → who ≡ Listener socket → write ≡ false → tells_peer (part_if (read || write) who read write) ≡ false
    → part_if (read || write) who read write ≡ []
no_part_of_listener who true write socket is alone peer = absurd (true≢false (sym (ap (λ x. (is_listener x && true) || false) is) ∙ peer))
no_part_of_listener who false true socket is alone peer = absurd (true≢false alone)
no_part_of_listener who false false socket is alone peer = refl

pub none_of_connection : (item : Want) (ready : List Want) (socket : ℕ) → item.of ≡ Tcp socket → tells_lines (reported_of (item ∷ []) ready) ≡ false
    → tells_room (reported_of (item ∷ []) ready) ≡ false → reported_of (item ∷ []) ready ≡ []
none_of_connection item ready socket is lines room = no_part_of_connection item.of (item.read && reads item.of ready) (item.write && writes item.of ready) socket is lines room

pub none_of_listener : (item : Want) (ready : List Want) (socket : ℕ) → item.of ≡ Listener socket → item.write ≡ false → tells_peer (reported_of (item ∷ []) ready) ≡ false
    → reported_of (item ∷ []) ready ≡ []
none_of_listener item ready socket is alone peer =
    no_part_of_listener item.of (item.read && reads item.of ready) (item.write && writes item.of ready) socket is (ap (λ b. b && writes item.of ready) alone) peer
