-- Histories written out: the laws of them have their premise, and each part of it is wanted.
use Rattle.std.proofs.Common.{◌≡◌, inl, inr, ℕ, ◌+◌, ◌<◌, ◌≤◌, arith, false, List, [], ◌∷◌, ◌++◌, replicate, Option, Some, None, refl, sym, ap, ◌∙◌, subst}
use Rattle.std.proofs.lemmas.Bool.{false≢true, eq-eqb}
use Rattle.std.specs.Option.{option_map}
use Rattle.net_octets.specs.declared.Ip4.{Ip4}
use Rattle.slirp_settings.specs.Settings.{usual}
use Rattle.tlv_table.specs.Reading as Reading
use Rattle.rules_dhcp.specs.declared.Message.{Message}
use Rattle.rules_dhcp.specs.declared.Answer.{Answer}
use Rattle.rules_dhcp.specs.declared.Answer.TheVariants.{Silence, Offers, Lends, Informs, Refuses}
use Rattle.rules_dhcp.specs.Leases.{same_mac}
use Rattle.rules_dhcp.specs.History.{Received, Says, answer_over, Gives, GivesUp, IsInDay, IsLeased}
use Rattle.rules_dhcp.proofs.Holding.{same_of}
use Rattle.rules_dhcp.proofs.Lasting.{nobody_else}

abbrev zeros : ℕ → List ℕ
zeros count = replicate count 0

-- a message of the client with this last octet of its hardware address: its kind, its own address, and further options
abbrev body : (client kind : ℕ) (own options : List ℕ) → List ℕ
body client kind own options =
    (1 ∷ 1 ∷ 6 ∷ 0 ∷ []) ++ zeros 8 ++ own ++ zeros 12 ++ (82 ∷ 84 ∷ 0 ∷ 0 ∷ 0 ∷ client ∷ []) ++ zeros 202
    ++ (99 ∷ 130 ∷ 83 ∷ 99 ∷ 53 ∷ 1 ∷ kind ∷ []) ++ options ++ 255 ∷ []

abbrev at : ℕ → Ip4
at address = record { 0 = address }

abbrev message : (client kind own : ℕ) (asked server : Option ℕ) → Message
message client kind own asked server = record {
  ident = zeros 4;
  flags = zeros 2;
  client = record { 0 = own };
  mac = record { 0 = 82 ∷ 84 ∷ 0 ∷ 0 ∷ 0 ∷ client ∷ [] };
  kind = kind;
  asked = option_map at asked;
  server = option_map at server;
}

-- 10.0.2.15 and 10.0.2.200 as option 50, 10.0.2.2 and 10.0.2.9 as option 54
abbrev asks_15 : List ℕ
asks_15 = 50 ∷ 4 ∷ 10 ∷ 0 ∷ 2 ∷ 15 ∷ []

abbrev asks_200 : List ℕ
asks_200 = 50 ∷ 4 ∷ 10 ∷ 0 ∷ 2 ∷ 200 ∷ []

abbrev names_us : List ℕ
names_us = 54 ∷ 4 ∷ 10 ∷ 0 ∷ 2 ∷ 2 ∷ []

abbrev names_another : List ℕ
names_another = 54 ∷ 4 ∷ 10 ∷ 0 ∷ 2 ∷ 9 ∷ []

abbrev owns_15 : List ℕ
owns_15 = 10 ∷ 0 ∷ 2 ∷ 15 ∷ []

abbrev came : (at client kind : ℕ) (own options : List ℕ) → Received
came at client kind own options = record { at = at; octets = body client kind own options }

-- the first client asks and is leased 10.0.2.15
abbrev asks : List Received
asks = came 5 1 1 (zeros 4) [] ∷ []

abbrev takes : Received
takes = came 6 1 3 (zeros 4) (asks_15 ++ names_us)

offered : answer_over usual [] (came 5 1 1 (zeros 4) []) ≡ Offers 0
unfolding Reading.read_on
offered = refl

leased : answer_over usual asks takes ≡ Lends 0
unfolding Reading.read_on
leased = refl

-- a second one is offered another, is refused that one, and the first one binds it anew after half a day
abbrev second_asks : Received
second_asks = came 7 2 1 (zeros 4) asks_15

abbrev second_wants : Received
second_wants = came 8 2 3 (zeros 4) asks_15

abbrev renews : Received
renews = came 43200000 1 3 owns_15 []

abbrev later : List Received
later = renews ∷ second_wants ∷ second_asks ∷ []

another_offered : answer_over usual (takes ∷ asks) second_asks ≡ Offers 1
unfolding Reading.read_on
another_offered = refl

refused : answer_over usual (second_asks ∷ takes ∷ asks) second_wants ≡ Refuses
unfolding Reading.read_on
refused = refl

renewed : answer_over usual (second_wants ∷ second_asks ∷ takes ∷ asks) renews ≡ Lends 0
unfolding Reading.read_on
renewed = refl

-- the premise of the law holds of this history
abbrev of_first : Message
of_first = message 1 3 0 (Some 0x0a00020f) (Some 0x0a000202)

abbrev of_renewal : Message
of_renewal = message 1 3 0x0a00020f None None

abbrev of_asking : Message
of_asking = message 2 1 0 (Some 0x0a00020f) None

abbrev of_wanting : Message
of_wanting = message 2 3 0 (Some 0x0a00020f) None

first_says : Says takes of_first
unfolding Reading.read_on
first_says = refl

renewal_says : Says renews of_renewal
unfolding Reading.read_on
renewal_says = refl

asking_says : Says second_asks of_asking
unfolding Reading.read_on
asking_says = refl

wanting_says : Says second_wants of_wanting
unfolding Reading.read_on
wanting_says = refl

one_message : (r : Received) (m n : Message) → Says r m → Says r n → m ≡ n
one_message r m n says other = same m n (sym says ∙ other)
  where
    same : (m n : Message) → ◌≡◌ {A = Option Message} (Some m) (Some n) → m ≡ n
    same m n is = cc

-- the second one isn't the first
not_second : (r : Received) (n m : Message) → same_mac n.mac of_first.mac ≡ false → Says r n → Says r m → m.mac ≡ of_first.mac → ⊥
not_second r n m other says is own = false≢true (sym other ∙ same_of n.mac of_first.mac (ap (λ (m : Message). m.mac) (one_message r n m says is) ∙ own))

-- who binds anew gives nothing up
not_given : (m : Message) → Says renews m → GivesUp usual (second_wants ∷ second_asks ∷ takes ∷ asks) renews m 0 → ⊥
not_given m says gives = by gives
  where
    kind_is : m.kind ≡ 3
    kind_is = ap (λ (n : Message). n.kind) (one_message renews m of_renewal says renewal_says)

    place_is : (other : ℕ) → ◌≡◌ {A = Answer} (Lends other) (Lends 0) → other ≡ 0
    place_is other is = cc

    by : GivesUp usual (second_wants ∷ second_asks ∷ takes ∷ asks) renews m 0 → ⊥
    by (inl release) = false≢true (eq-eqb 3 7 (sym kind_is ∙ release.0))
    by (inr (inl decline)) = false≢true (eq-eqb 3 4 (sym kind_is ∙ decline.0))
    by (inr (inr another)) = another.2 (place_is another.0 (sym another.1 ∙ renewed))

in_day : (from at : ℕ) → from ≤ at → at < from + 86400000 → IsInDay from at
in_day from at since before = record { since = since; before = before }

is_leased : IsLeased usual asks takes later of_first 0
is_leased = record {
  says = first_says;
  leased = leased;
  kept = (
    (
      (
        tt,
        in_day 6 7 (omega arith) (omega arith),
        λ m says own. absurd (not_second second_asks of_asking m refl asking_says says own),
      ),
      in_day 6 8 (omega arith) (omega arith),
      λ m says own. absurd (not_second second_wants of_wanting m refl wanting_says says own),
    ),
    in_day 6 43200000 (omega arith) (omega arith),
    λ m says own. not_given m says,
  );
}

-- so an offer of that address to the second one, a moment before the day is over, is none that the law allows
abbrev at_last : Received
at_last = came 86400005 2 1 (zeros 4) asks_15

abbrev of_last : Message
of_last = message 2 1 0 (Some 0x0a00020f) None

last_says : Says at_last of_last
unfolding Reading.read_on
last_says = refl

not_offered : answer_over usual (later ++ (takes ∷ asks)) at_last ≡ Offers 0 → ⊥
not_offered is =
    false≢true (same_of of_last.mac of_first.mac
    (nobody_else usual asks later takes of_first 0 is_leased at_last of_last (in_day 6 86400005 (omega arith) (omega arith)) last_says
    (subst (Gives 0) (sym is) refl)))

-- Each part of the premise is wanted: where the first one gave the address up by RELEASE, and where the day is over, the second one is offered it.
abbrev lets_go : Received
lets_go = came 9 1 7 owns_15 []

given_up : answer_over usual (lets_go ∷ takes ∷ asks) (came 10 2 1 (zeros 4) asks_15) ≡ Offers 0
unfolding Reading.read_on
given_up = refl

still_leased : answer_over usual (takes ∷ asks) (came 86400005 2 1 (zeros 4) asks_15) ≡ Offers 1
unfolding Reading.read_on
still_leased = refl

over : answer_over usual (takes ∷ asks) (came 86400006 2 1 (zeros 4) asks_15) ≡ Offers 0
unfolding Reading.read_on
over = refl

-- declined, it is nobody's for an hour
declined : answer_over usual (came 9 1 4 (zeros 4) asks_15 ∷ takes ∷ asks) (came 10 1 3 (zeros 4) asks_15) ≡ Refuses
unfolding Reading.read_on
declined = refl

-- an address outside is refused, and one is refused by this server alone
outside : answer_over usual [] (came 5 1 3 (zeros 4) asks_200) ≡ Refuses
unfolding Reading.read_on
outside = refl

chose_another : answer_over usual [] (came 5 1 3 (zeros 4) (asks_200 ++ names_another)) ≡ Silence
unfolding Reading.read_on
chose_another = refl

informed : answer_over usual [] (came 5 1 8 owns_15 []) ≡ Informs
unfolding Reading.read_on
informed = refl
