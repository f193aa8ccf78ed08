-- A call of the link that failed was counted.
use Rattle.std.proofs.Common.{◌≡◌, ℕ, ◌<◌, List, [], ◌∷◌, true, refl, sym, ◌∙◌, ap, subst}
use Rattle.world_face.specs.Faults.{failures, link_failed, io_failed}
use Rattle.world_face.specs.Journal.{Entry, LinkRead, LinkWrite}
use Rattle.world_face.specs.Tells.{Telling, Makes, Rose}
use Rattle.world_face.specs.declared.Io.{Io}
use Rattle.world_face.specs.declared.Io.TheVariants.{Done, End, NotYet, Failed as IoFailed}
use Rattle.world_face.proofs.Counting.{link_rose, some_failed}
use Rattle.stream_netdev.specs.Keeps.{EndsBy, Writes}
use Rattle.stream_netdev.specs.Offers.{offered}
use Rattle.stream_netdev.specs.declared.Arrived.TheVariants.{Failed}
use Rattle.stream_netdev.specs.declared.Offered.{Offered}
use Rattle.stream_netdev.specs.declared.Offered.TheVariants.{Failed as OfferFailed}

some_read_failed : (made : List Entry) → EndsBy Failed made → 0 < failures link_failed made
some_read_failed [] ends = absurd ends
some_read_failed (LinkRead asked answer octets ∷ made) ends = some_failed link_failed (LinkRead asked answer octets) made (ap io_failed ends)
some_read_failed (_ ∷ made) ends = absurd ends

pub read_rose : (a b : Telling) (P : List Entry → Type 0) → Makes a b (λ made. EndsBy Failed made × P made) → Rose a.faults.link b.faults.link
read_rose a b P makes = link_rose a.faults b.faults makes.made makes.counted (some_read_failed makes.made makes.holds.0)

failed_of : (answer : Io) → OfferFailed ≡ offered answer → io_failed answer ≡ true
failed_of (Done n) is = cc
failed_of End is = cc
failed_of NotYet is = cc
failed_of IoFailed is = refl

some_write_failed : (octets : List ℕ) (made : List Entry) → Writes OfferFailed octets made → 0 < failures link_failed made
some_write_failed octets made (answer, is, was) = subst (λ m. 0 < failures link_failed m) (sym is) (some_failed link_failed (LinkWrite octets answer) [] (failed_of answer was))

pub write_rose : (a b : Telling) (result : Offered) (octets : List ℕ) (P : List Entry → Type 0) → Makes a b (λ made. Writes result octets made × P made) → result ≡ OfferFailed →
    Rose a.faults.link b.faults.link
write_rose a b result octets P makes is = link_rose a.faults b.faults makes.made makes.counted (some_write_failed octets makes.made (subst (λ r. Writes r octets makes.made) is makes.holds.0))
