-- What is wanted of one kind is wanted of all.
use Rattle.std.proofs.Common.{◌≡◌, ℕ, ◌&&◌, ◌||◌, Bool, true, false, cond, List, [], ◌∷◌, refl, ◌∙◌, ap}
use Rattle.std.specs.List.{filter}
use Rattle.poll_list.specs.Listing.{reads, same_who, writes}
use Rattle.poll_list.specs.declared.Want.{Want}
use Rattle.poll_list.specs.declared.Who.{Who}
use Rattle.poll_list.specs.declared.Who.TheVariants.{Link, Listener, Tcp, Udp}
use Rattle.slirp_core.specs.Kinds.{is_of_datagrams, is_of_flow, is_of_link_or_listener, names_datagrams, names_flow, names_link_or_listener}

pub both : (a b : Bool) → (a && b) ≡ true → (a ≡ true) × (b ≡ true)
both true true is = (refl, refl)
both true false is = cc
both false b is = cc

step_read : (kept same read : Bool) (rest rest_kept : Bool) → (same ≡ true → kept ≡ true) → rest_kept ≡ rest → (cond kept ((same && read) || rest_kept) rest_kept) ≡ ((same && read) || rest)
step_read true same read rest rest_kept all is = ap (λ r. (same && read) || r) is
step_read false true read rest rest_kept all is = absurd (no (all refl))
  where
    no : false ≡ true → ⊥
    no is = cc
step_read false false read rest rest_kept all is = is

push : (b : Bool) (is : Who) (x : Want) (xs : List Want) → reads is (cond b (x ∷ xs) xs) ≡ cond b ((same_who is x.of && x.read) || reads is xs) (reads is xs)
push true is x xs = refl
push false is x xs = refl

push_write : (b : Bool) (is : Who) (x : Want) (xs : List Want) → writes is (cond b (x ∷ xs) xs) ≡ cond b ((same_who is x.of && x.write) || writes is xs) (writes is xs)
push_write true is x xs = refl
push_write false is x xs = refl

reads_kept : (is : Want → Bool) (who : Who) → ((w : Want) → same_who who w.of ≡ true → is w ≡ true) → (wants : List Want) → reads who (filter is wants) ≡ reads who wants
reads_kept is who all [] = refl
reads_kept is who all (x ∷ wants) = push (is x) who x (filter is wants) ∙ step_read (is x) (same_who who x.of) x.read (reads who wants) (reads who (filter is wants)) (all x)
    (reads_kept is who all wants)

writes_kept : (is : Want → Bool) (who : Who) → ((w : Want) → same_who who w.of ≡ true → is w ≡ true) → (wants : List Want) → writes who (filter is wants) ≡ writes who wants
writes_kept is who all [] = refl
writes_kept is who all (x ∷ wants) = push_write (is x) who x (filter is wants) ∙ step_read (is x) (same_who who x.of) x.write (writes who wants) (writes who (filter is wants))
    (all x) (writes_kept is who all wants)

listener_kind : (n : ℕ) (who : Who) → same_who (Listener n) who ≡ true → names_link_or_listener who ≡ true
listener_kind n Link is = cc
listener_kind n (Listener m) is = refl
listener_kind n (Udp m) is = cc
listener_kind n (Tcp m) is = cc

udp_kind : (n : ℕ) (who : Who) → same_who (Udp n) who ≡ true → names_datagrams who ≡ true
udp_kind n Link is = cc
udp_kind n (Listener m) is = cc
udp_kind n (Udp m) is = refl
udp_kind n (Tcp m) is = cc

tcp_kind : (n : ℕ) (who : Who) → same_who (Tcp n) who ≡ true → names_flow who ≡ true
tcp_kind n Link is = cc
tcp_kind n (Listener m) is = cc
tcp_kind n (Udp m) is = cc
tcp_kind n (Tcp m) is = refl

pub listeners_among : (n : ℕ) (wants : List Want) → reads (Listener n) (filter is_of_link_or_listener wants) ≡ reads (Listener n) wants
listeners_among n wants = reads_kept is_of_link_or_listener (Listener n) (λ w is. listener_kind n w.of is) wants

pub datagrams_among : (n : ℕ) (wants : List Want) → reads (Udp n) (filter is_of_datagrams wants) ≡ reads (Udp n) wants
datagrams_among n wants = reads_kept is_of_datagrams (Udp n) (λ w is. udp_kind n w.of is) wants

pub flows_among : (n : ℕ) (wants : List Want) → reads (Tcp n) (filter is_of_flow wants) ≡ reads (Tcp n) wants
flows_among n wants = reads_kept is_of_flow (Tcp n) (λ w is. tcp_kind n w.of is) wants

pub flows_written : (n : ℕ) (wants : List Want) → writes (Tcp n) (filter is_of_flow wants) ≡ writes (Tcp n) wants
flows_written n wants = writes_kept is_of_flow (Tcp n) (λ w is. tcp_kind n w.of is) wants
