-- Which calls are made, and in what order.
use Rattle.std.proofs.Common.{refl, ◌≡◌, ℕ, List, [], ◌∷◌, ◌++◌, Bool, true, false, ◌&&◌, ap, subst, sym, ◌∙◌, inl, inr, ◌⊎◌}
use Rattle.world_face.specs.Journal.{Close, Entry, LinkWrite, TcpEnd, TcpWrite}
use Rattle.world_face.specs.declared.Io.{Io}
use Rattle.world_face.specs.declared.Io.TheVariants.{Done, End, NotYet, Failed as IoFailed}
use Rattle.world_face.specs.declared.Made.{Made}
use Rattle.stream_netdev.specs.Offers.{offered}
use Rattle.stream_netdev.specs.declared.Offered.{Offered}
use Rattle.stream_netdev.specs.declared.Offered.TheVariants.{Failed}
use Rattle.tcp_connection.specs.declared.Owed.{Owed}
use Rattle.flow_splice.specs.Hosts.{Sees, is_for_writing, shuts}
use Rattle.flow_splice.specs.Sends.{Marks}
use Rattle.stream_netdev.specs.Offers.{pumped_of}
use Rattle.flow_splice.specs.Shapes.{IsHostWork, IsPumpWork, are_sending, ends, gives, is_at_most_a_close, is_ending, is_reading, is_sending, is_write, is_writing, wrote}
use Rattle.flow_splice.specs.Splice.{Splice}
use Rattle.stream_netdev.specs.declared.Pumped.{Pumped}
use Rattle.stream_netdev.specs.declared.Pumped.TheVariants.{Clear, Blocked as PumpBlocked, Failed as PumpFailed}
use Rattle.flow_splice.proofs.Calls.{or_first, or_last}
use Rattle.flow_splice.proofs.Marking.{marks_stay}

both : (p q : Bool) → (p && q) ≡ true → (p ≡ true) × (q ≡ true)
both true true is = (refl, refl)
both true false is = absurd cc
both false q is = absurd cc

and : (p q : Bool) → p ≡ true → q ≡ true → (p && q) ≡ true
and p q p_is q_is = rw (p_is, q_is) refl

-- ---- a change of the connection

pub sees_at_most : (b : Bool) (old new : Splice) (now : ℕ) (made : List Entry) → Sees b old new now made → is_at_most_a_close made ≡ true
sees_at_most true old new now made sees = ap is_at_most_a_close sees.0
sees_at_most false old new now made sees = ap is_at_most_a_close sees.0

-- ---- a report of the host

-- the end is told, and then the socket is closed or not
pub sees_ending : (b : Bool) (old new : Splice) (now : ℕ) (made : List Entry) (socket : ℕ) (answer : Made) → Sees b old new now made → is_ending (made ++ (TcpEnd socket answer ∷ [])) ≡ true
sees_ending true old new now made socket answer sees = ap (λ (es : List Entry). is_ending (es ++ (TcpEnd socket answer ∷ []))) sees.0
sees_ending false old new now made socket answer sees = ap (λ (es : List Entry). is_ending (es ++ (TcpEnd socket answer ∷ []))) sees.0

end_asks : (e : Entry) → ends e ≡ true → is_for_writing e ≡ true
end_asks (TcpEnd socket answer) is = refl
end_asks _ is = absurd cc

pub ending_writes : (made : List Entry) → is_ending made ≡ true → is_writing made ≡ true
ending_writes [] is = refl
ending_writes (a ∷ []) is = end_asks a is
ending_writes (b ∷ a ∷ []) is =
    let two = both (shuts b) (ends a) is in
    or_first (shuts b && is_for_writing a) (ends b && gives a) (and (shuts b) (is_for_writing a) two.0 (end_asks a two.1))
ending_writes (c ∷ b ∷ a ∷ more) is = absurd cc

-- octets are given before
pub gives_ending : (made : List Entry) (socket : ℕ) (octets : List ℕ) (answer : Io) → is_ending made ≡ true → is_writing (made ++ (TcpWrite socket octets answer ∷ [])) ≡ true
gives_ending [] socket octets answer is = refl
gives_ending (b ∷ []) socket octets answer is = or_last (shuts b && true) (ends b && true) (and (ends b) true is refl)
gives_ending (c ∷ b ∷ []) socket octets answer is = and (shuts c && ends b) true is refl
gives_ending (d ∷ c ∷ b ∷ more) socket octets answer is = absurd cc

-- what was reported isn't idle
pub unless_idle : (ready : Bool) (made : List Entry) → ready ≡ true → ready ≡ false → made ≡ []
unless_idle ready made is none = let not_it = sym is ∙ none in absurd cc

pub host_works : (read write : Bool) (writing reading : List Entry) → is_writing writing ≡ true → (write ≡ false → writing ≡ []) → is_reading reading ≡ true → (read ≡ false → reading ≡ [])
    → IsHostWork read write (reading ++ writing)
host_works read write writing reading writes unless_write reads unless_read =
    record { reading = reading; writing = writing; is = refl; writes = writes; reads = reads; unless_write = unless_write; unless_read = unless_read }

-- ---- a pump

write_sends : (e : Entry) → is_write e ≡ true → is_sending e ≡ true
write_sends (LinkWrite octets answer) is = is
write_sends _ is = absurd cc

-- something before a list that begins with a write
sending_before : (e : Entry) (first : List Entry) → is_write e ≡ true → are_sending first ≡ true → are_sending (e ∷ first) ≡ true
sending_before e [] write first_is = write
sending_before e (d ∷ first) write first_is = and (is_sending e) (are_sending (d ∷ first)) (write_sends e write) first_is

sending_both : (later first : List Entry) → are_sending later ≡ true → are_sending first ≡ true → are_sending (later ++ first) ≡ true
sending_both [] first later_is first_is = first_is
sending_both (e ∷ []) first later_is first_is = sending_before e first later_is first_is
sending_both (e ∷ d ∷ later) first later_is first_is =
    let two = both (is_sending e) (are_sending (d ∷ later)) later_is in
    and (is_sending e) (are_sending (d ∷ later ++ first)) two.0 (sending_both (d ∷ later) first two.1 first_is)

-- what came before didn't fail
pub works_then : (pumped : Pumped) (later first : List Entry) → are_sending first ≡ true → IsPumpWork pumped later → IsPumpWork pumped (later ++ first)
works_then Clear later first first_is works = sending_both later first works first_is
works_then PumpBlocked later first first_is works = sending_both later first works first_is
works_then PumpFailed later first first_is works = (works.0, works.1 ++ first, ap (λ (es : List Entry). es ++ first) works.2, sending_both works.1 first works.3 first_is)

-- what was made after an offer, and the offer
closes_send : (made : List Entry) (octets : List ℕ) (answer : Io) → wrote answer ≡ true → (made ≡ []) ⊎ ((n : ℕ) × (made ≡ Close n ∷ [])) → are_sending (made ++ (LinkWrite octets answer ∷ [])) ≡ true
closes_send made octets answer ok (inl is) = ap (λ (es : List Entry). are_sending (es ++ (LinkWrite octets answer ∷ []))) is ∙ ok
closes_send made octets answer ok (inr is) = ap (λ (es : List Entry). are_sending (es ++ (LinkWrite octets answer ∷ []))) is.1 ∙ ok

offer_works : (answer : Io) (blocked : Bool) (octets : List ℕ) (made : List Entry) → (made ≡ []) ⊎ ((n : ℕ) × (made ≡ Close n ∷ [])) → (offered answer ≡ Failed → made ≡ [])
    → IsPumpWork (pumped_of (offered answer) blocked) (made ++ (LinkWrite octets answer ∷ []))
offer_works (Done n) true octets made closes none = closes_send made octets (Done n) refl closes
offer_works (Done n) false octets made closes none = closes_send made octets (Done n) refl closes
offer_works End true octets made closes none = closes_send made octets End refl closes
offer_works End false octets made closes none = closes_send made octets End refl closes
offer_works NotYet true octets made closes none = closes_send made octets NotYet refl closes
offer_works NotYet false octets made closes none = closes_send made octets NotYet refl closes
offer_works IoFailed blocked octets made closes none = (octets, [], ap (λ (es : List Entry). es ++ (LinkWrite octets IoFailed ∷ [])) (none refl), refl)

pub request_works : (result : Offered) (answer : Io) (blocked : Bool) (octets : List ℕ) → result ≡ offered answer → IsPumpWork (pumped_of result blocked) (LinkWrite octets answer ∷ [])
request_works result answer blocked octets is =
    subst (λ (o : Offered). IsPumpWork (pumped_of o blocked) (LinkWrite octets answer ∷ [])) (sym is) (offer_works answer blocked octets [] (inl refl) (λ failed. refl))

pub marks_work : (result : Offered) (answer : Io) (blocked : Bool) (octets : List ℕ) (what : Owed) (f new : Splice) (now : ℕ) (made : List Entry) → result ≡ offered answer →
    Marks result what f new now made
    → IsPumpWork (pumped_of result blocked) (made ++ (LinkWrite octets answer ∷ []))
marks_work result answer blocked octets what f new now made is marks =
    let none : offered answer ≡ Failed → made ≡ [] = λ failed. (subst (λ (o : Offered). Marks o what f new now made) (is ∙ failed) marks).0 in
    subst (λ (o : Offered). IsPumpWork (pumped_of o blocked) (made ++ (LinkWrite octets answer ∷ []))) (sym is)
    (offer_works answer blocked octets made (marks_stay result what f new now made marks).closes none)
