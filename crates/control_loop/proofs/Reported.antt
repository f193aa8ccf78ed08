-- What was reported of the control's item: in the direction in which it was waited for, or nothing.
use Rattle.std.proofs.Common.{◌≡◌, ℕ, ◌==◌, ◌&&◌, ◌||◌, not, Bool, true, false, cond, List, [], ◌∷◌, None, Some, refl, sym, ◌∙◌, ap, subst, arith}
use Rattle.std.proofs.lemmas.Bool.Decides.{nat_tests}
use Rattle.std.specs.List.{cons_option}
use Rattle.poll_list.specs.Listing.{reads, writes}
use Rattle.poll_list.specs.Picks.{as_list}
use Rattle.poll_list.specs.declared.Want.{Want}
use Rattle.poll_list.specs.declared.Who.TheVariants.{Listener, Tcp}
use Rattle.rules_control.specs.Apart.{reported_of}
use Rattle.rules_control.specs.Talk.{Talk, is_out, listener, listener_want, want_by, want_of}
use Rattle.rules_control.specs.Reports.{tells_lines, tells_peer, tells_room}
use Rattle.spec_control.specs.Laws.{without_read, without_write}

equal : (n : ℕ) → (n == n) ≡ true
equal n = grind (arith, nat_tests)

-- ---- a connection

-- its part, where it was waited for to be read, or to be written, and this was ready
abbrev part_of : ℕ → (out read write : Bool) → List Want
part_of socket out read write =
    cons_option (cond ((out && read) || (not out && write)) (Some (record { of = Tcp socket; read = out && read; write = not out && write })) None) []

lines_by : (socket : ℕ) (out read write : Bool) → tells_lines (part_of socket out read write) ≡ true
    → (out ≡ true) × (reads (Tcp socket) (part_of socket out read write) ≡ true) × (without_read (Tcp socket) (part_of socket out read write) ≡ [])
lines_by socket true true write is = (
  refl,
  ap (λ b. (b && true) || false) (equal socket),
  ap (λ b. cond ((b && true) || false) [] (record { of = Tcp socket; read = true; write = false } ∷ [])) (equal socket),
)
lines_by socket true false write is = cc
lines_by socket false read true is = cc
lines_by socket false read false is = cc

room_by : (socket : ℕ) (out read write : Bool) → tells_room (part_of socket out read write) ≡ true
    → (out ≡ false) × (writes (Tcp socket) (part_of socket out read write) ≡ true) × (without_write (Tcp socket) (part_of socket out read write) ≡ [])
room_by socket false read true is = (
  refl,
  ap (λ b. (b && true) || false) (equal socket),
  ap (λ b. cond ((b && true) || false) [] (record { of = Tcp socket; read = false; write = true } ∷ [])) (equal socket),
)
room_by socket false read false is = cc
room_by socket true true write is = cc
room_by socket true false write is = cc

none_by : (socket : ℕ) (out read write : Bool) → tells_lines (part_of socket out read write) ≡ false → tells_room (part_of socket out read write) ≡ false → part_of socket out read write ≡ []
none_by socket true true write lines room = cc
none_by socket true false write lines room = refl
none_by socket false read true lines room = cc
none_by socket false read false lines room = refl

module _ (talk : Talk) (socket : ℕ) (open_yet : talk.peer ≡ Some socket) (ready items : List Want) (is : items ≡ reported_of (as_list (want_of talk)) ready) where
  so : items ≡ part_of socket (is_out talk) (reads (Tcp socket) ready) (writes (Tcp socket) ready)
  so = is ∙ ap (λ o. reported_of (as_list (want_by o talk)) ready) open_yet

  pub lines_reported : tells_lines items ≡ true → (is_out talk ≡ true) × (reads (Tcp socket) items ≡ true) × (without_read (Tcp socket) items ≡ [])
  lines_reported lines =
      subst (λ l. (is_out talk ≡ true) × (reads (Tcp socket) l ≡ true) × (without_read (Tcp socket) l ≡ [])) (sym so)
      (lines_by socket (is_out talk) (reads (Tcp socket) ready) (writes (Tcp socket) ready) (ap tells_lines (sym so) ∙ lines))

  pub room_reported : tells_room items ≡ true → (is_out talk ≡ false) × (writes (Tcp socket) items ≡ true) × (without_write (Tcp socket) items ≡ [])
  room_reported room =
      subst (λ l. (is_out talk ≡ false) × (writes (Tcp socket) l ≡ true) × (without_write (Tcp socket) l ≡ [])) (sym so)
      (room_by socket (is_out talk) (reads (Tcp socket) ready) (writes (Tcp socket) ready) (ap tells_room (sym so) ∙ room))

  pub none_reported : tells_lines items ≡ false → tells_room items ≡ false → items ≡ []
  none_reported lines room =
      so ∙ none_by socket (is_out talk) (reads (Tcp socket) ready) (writes (Tcp socket) ready) (ap tells_lines (sym so) ∙ lines) (ap tells_room (sym so) ∙ room)

-- ---- the listener

abbrev part_for : (read write : Bool) → List Want
part_for read write = cons_option (cond ((true && read) || (false && write)) (Some (record { of = Listener listener; read = true && read; write = false && write })) None) []

peer_by : (read write : Bool) → tells_peer (part_for read write) ≡ true → (reads (Listener listener) (part_for read write) ≡ true) × (without_read (Listener listener) (part_for read write) ≡ [])
peer_by true write is = (refl, refl)
peer_by false write is = cc

no_peer_by : (read write : Bool) → tells_peer (part_for read write) ≡ false → part_for read write ≡ []
no_peer_by true write is = cc
no_peer_by false write is = refl

module _ (talk : Talk) (alone : talk.peer ≡ None) (listens : talk.listening ≡ true) (ready items : List Want) (is : items ≡ reported_of (as_list (want_of talk)) ready) where
  for_it : items ≡ part_for (reads (Listener listener) ready) (writes (Listener listener) ready)
  for_it = is ∙ ap (λ o. reported_of (as_list (want_by o talk)) ready) alone ∙ ap (λ b. reported_of (as_list (listener_want b)) ready) listens

  pub peer_reported : tells_peer items ≡ true → (reads (Listener listener) items ≡ true) × (without_read (Listener listener) items ≡ [])
  peer_reported peer =
      subst (λ l. (reads (Listener listener) l ≡ true) × (without_read (Listener listener) l ≡ [])) (sym for_it)
      (peer_by (reads (Listener listener) ready) (writes (Listener listener) ready) (ap tells_peer (sym for_it) ∙ peer))

  pub no_peer_reported : tells_peer items ≡ false → items ≡ []
  no_peer_reported peer = for_it ∙ no_peer_by (reads (Listener listener) ready) (writes (Listener listener) ready) (ap tells_peer (sym for_it) ∙ peer)
