-- The guest's hardware address: it is told, or asked for.
use Rattle.std.proofs.Common.{refl, ◌≡◌, ℕ, zero, suc, ◌+◌, ◌<◌, ◌≤◌, ◌^◌, ◌%◌, [], ◌∷◌, List, Bool, true, false, ◌&&◌, Option, None, Some, nat_lt, if◌then◌else◌}
use Rattle.std.proofs.Common.{arith, ap, subst, sym, ◌∙◌, inl, inr}
use Rattle.std.proofs.lemmas.Bool.Decides.{nat_tests}
use Rattle.net_octets.specs.declared.Mac.{Mac}
use Rattle.world_face.specs.Frames.{encoding}
use Rattle.world_face.specs.Journal.{Allowed, Entry, LinkWrite, count_of}
use Rattle.world_face.specs.declared.Io.{Io}
use Rattle.world_face.specs.declared.Io.TheVariants.{Done, End, NotYet, Failed as IoFailed}
use Rattle.stream_netdev.specs.Offers.{offered}
use Rattle.stream_netdev.specs.State.{LinkState}
use Rattle.stream_netdev.specs.declared.Offered.{Offered}
use Rattle.stream_netdev.specs.declared.Offered.TheVariants.{Taken}
use Rattle.spec_flow.specs.Settings.{Settings}
use Rattle.spec_flow.specs.Event.{Accepts, AsksAddress, At, Connects, IsStory, Story, newest_moment}
use Rattle.spec_flow.specs.Flow.{opened_at}
use Rattle.sim_halves.specs.Resends.{Resolves, least_wait}
use Rattle.sim_halves.proofs.InTime.{asks_again, asks_first}
use Rattle.sim_connection.proofs.Asking.{asks_address}
use Rattle.flow_splice.specs.Asks.{AsksOnce}
use Rattle.flow_splice.specs.Entries.{AreEvents, ident_after}
use Rattle.flow_splice.specs.Follows.{Follows, FollowsAt, IsAsking, IsOpen}
use Rattle.flow_splice.specs.Frames.{request_frame}
use Rattle.flow_splice.specs.Sends.{Sends, SendsOn, asked, asks_now, learnt, or_known}
use Rattle.flow_splice.specs.Serves.{Serves}
use Rattle.flow_splice.specs.Splice.{Splice, is_open}
use Rattle.flow_splice.specs.declared.Place.{Place}
use Rattle.flow_splice.specs.declared.Place.TheVariants.{Empty, InUse, InTimeWait}
use Rattle.flow_splice.proofs.Opened.{follows_later, open_follows, open_is}

-- ---- it is told

or_none : (m o : Option Mac) → or_known m o ≡ None → o ≡ None
or_none None o is = is
or_none (Some mac) o is = absurd cc

pub learn_follows : (s : Settings) (f : Splice) (mac : Option Mac) (past : Story) (now : ℕ) → Follows s f past now → Follows s (learnt f mac) past now
learn_follows s f mac past now h = by f.place f.shut h
  where
    by : (p : Place) (b : Bool) → FollowsAt p b s f past now → FollowsAt p b s (learnt f mac) past now
    by Empty b q = record { over = q.over; owes_none = q.owes_none; rests_none = q.rests_none }
    by InUse true q = record { over = q.over; owes = q.owes; mru = q.mru; known = λ none. q.known (or_none mac f.mac none) }
    by InUse false q = record {
      holds = q.holds;
      mru = q.mru;
      since = q.since;
      accepted = q.accepted;
      last = q.last;
      called = q.called;
      told = q.told;
      unfinished = q.unfinished;
      unsent = λ none. q.unsent (or_none mac f.mac none);
      resolves = λ none some. q.resolves (or_none mac f.mac none) some;
      asks = λ none. q.asks (or_none mac f.mac none);
      calm = q.calm;
    }
    by (InTimeWait since) b q = record { time_waits = q.time_waits; mru = q.mru; known = λ none. q.known (or_none mac f.mac none) }

pub learn_then : (f new : Splice) (mac : Option Mac) (link next : LinkState) (first last now : ℕ) (made : List Entry) → SendsOn (learnt f mac) new link next first last now made →
    SendsOn f new link next first last now made
learn_then f new mac link next first last now made sends = ((λ s past before ended known on h. sends.0 s past before ended known on (learn_follows s f mac past before h)), sends.1)

-- what a pump asks for is by the address that the flow has then
pub known_asks : (f new : Splice) (mac : Option Mac) (now : ℕ) (made : List Entry) {to : Mac} → or_known mac f.mac ≡ Some to → new.asked ≡ f.asked → AsksOnce (or_known mac f.mac) f new now made
known_asks f new mac now made known same = subst (λ (o : Option Mac). AsksOnce o f new now made) (sym known) same

pub unknown_asks : (f new : Splice) (mac : Option Mac) (now : ℕ) (made : List Entry) → or_known mac f.mac ≡ None → AsksOnce None (learnt f mac) new now made → AsksOnce
    (or_known mac f.mac) f new now made
unknown_asks f new (Some to) now made unknown asks = absurd cc
unknown_asks f new None now made unknown asks = subst (λ (o : Option Mac). AsksOnce o f new now made) (sym unknown) asks

pub learn_asks : (f new : Splice) (mac : Option Mac) (now : ℕ) → new ≡ learnt f mac → AsksOnce (or_known mac f.mac) f new now []
learn_asks f new mac now is = by (or_known mac f.mac) refl
  where
    by : (o : Option Mac) → or_known mac f.mac ≡ o → AsksOnce o f new now []
    by (Some to) known = ap (λ (x : Splice). x.asked) is
    by None unknown = inl (refl, is ∙ ap (λ (o : Option Mac). record f { mac = o }) (unknown ∙ sym (or_none mac f.mac unknown)))

-- ---- it is asked for

first_opened : (past : Story) → IsStory past → opened_at past ≤ newest_moment past
first_opened [] is = absurd is
first_opened (At m (Connects ours syn) ∷ past) is = omega arith
first_opened (At m (Accepts ours) ∷ past) is = omega arith
first_opened (At m _ ∷ []) is = absurd is
first_opened (At m _ ∷ b ∷ past) is = let before = first_opened (b ∷ past) is.2 in let low = is.1 in omega (arith, before, low)

three : (a b d : Bool) → (a && b && d) ≡ true → (a ≡ true) × (b ≡ true) × (d ≡ true)
three true true true is = (refl, refl, refl)
three true true false is = absurd cc
three true false d is = absurd cc
three false b d is = absurd cc

module _ (f : Splice) (now : ℕ) (unknown : f.mac ≡ None) (asks : asks_now f ≡ true) (result : Offered) (answer : Io) (result_is : result ≡ offered answer)
    (allowed : Allowed (LinkWrite (encoding (request_frame f.face)) answer))
    (new : Splice) (new_is : new ≡ asked result f now) (first : ℕ) (small : first < 2 ^ 16) where
  abbrev octets : List ℕ
  octets = encoding (request_frame f.face)

  parts : (is_open f ≡ true) × (nat_lt f.asked 9 ≡ true) × (f.asks ≡ true)
  parts = three (is_open f) (nat_lt f.asked 9) f.asks asks

  stays : first ≡ (first + 0) % 2 ^ 16
  stays = omega (arith, small)

  module _ (s : Settings) (past : Story) (before : ℕ) (ended known : Bool) (on : before ≤ now) (h : Follows s f past before) where
    o : IsOpen s f past before
    o = open_is s f past before parts.0 h

    abbrev Result : Type 0
    Result = (serves : Serves s new false ended known first now past (LinkWrite octets answer ∷ [])) × (first ≡ ident_after first serves.beats)

    over : 0 < f.asked → f.ask_at ≤ now
    over some = let late = (subst (λ (b : Bool). IsAsking b f.asked f.ask_at before) parts.2 (o.asks unknown)).1 some in omega (arith, late, on)

    resolves_now : (n : ℕ) → f.asked ≡ n → Resolves (At now AsksAddress ∷ past) (n + 1) (now + least_wait n)
    resolves_now zero is = asks_first past now (least_wait 0) (let opened = first_opened past o.holds.goes.story in let moment = o.holds.goes.moment in omega
        (arith, opened, moment, on)) (omega arith) (omega arith)
    resolves_now (suc n) is =
        let late : f.ask_at ≤ now = over (omega (arith, is)) in
        let again = asks_again past (suc n) f.ask_at now (least_wait (suc n)) late (omega arith) (omega arith)
        (subst (λ (k : ℕ). Resolves past k f.ask_at) is (o.resolves unknown (omega (arith, is)))) in
        subst (λ (k : ℕ). Resolves (At now AsksAddress ∷ past) k (now + least_wait (suc n))) (omega arith) again

    taken : nat_lt 0 (count_of answer) ≡ true → new ≡ asked Taken f now → Result
    taken some is = (
      record {
        beats = At now AsksAddress ∷ [];
        are = subst (λ (g : Splice). AreEvents s g.face g.mac false ended known first now past (LinkWrite octets answer ∷ []) (At now AsksAddress ∷ [])) (sym is) (
          [],
          refl,
          inr (
            record {
              unknown = unknown;
              frame = refl;
              accepted = o.holds.opened.calls (o.unsent unknown).0;
              unsent = o.holds.opened.out ∙ (o.unsent unknown).1;
              open_yet = o.holds.goes.open_yet;
            },
            sym (ap (λ (b : Bool). if b then At now AsksAddress ∷ [] else []) some),
          ),
        );
        follows = subst (λ (g : Splice). Follows s g (At now AsksAddress ∷ past) now) (sym is)
            (open_follows s (asked Taken f now) (At now AsksAddress ∷ past) now parts.0 (record {
              holds = asks_address s f.conn f.up f.down past before now on o.holds;
              mru = o.mru;
              since = o.since;
              accepted = o.accepted;
              last = o.last;
              called = o.called;
              told = o.told;
              unfinished = o.unfinished;
              unsent = o.unsent;
              resolves = λ none more. resolves_now f.asked refl;
              asks = λ none. omega arith;
              calm = λ unowed. refl;
            }));
      },
      stays,
    )

    untaken : count_of answer ≡ 0 → new ≡ f → Result
    untaken none is = (
      record {
        beats = [];
        are = subst (λ (g : Splice). AreEvents s g.face g.mac false ended known first now past (LinkWrite octets answer ∷ []) []) (sym is) (
          [],
          refl,
          inr (
            record {
              unknown = unknown;
              frame = refl;
              accepted = o.holds.opened.calls (o.unsent unknown).0;
              unsent = o.holds.opened.out ∙ (o.unsent unknown).1;
              open_yet = o.holds.goes.open_yet;
            },
            sym (ap (λ (n : ℕ). if nat_lt 0 n then At now AsksAddress ∷ [] else []) none),
          ),
        );
        follows = subst (λ (g : Splice). Follows s g past now) (sym is) (follows_later s f past before now on h);
      },
      stays,
    )

    by : (a : Io) → answer ≡ a → Result
    by (Done n) is =
        let some = subst (λ (q : Io). Allowed (LinkWrite octets q)) is allowed in
        taken (ap (λ (q : Io). nat_lt 0 (count_of q)) is ∙ (let more = some.0.0 in grind (arith, nat_tests))) (new_is ∙ ap (λ (r : Offered). asked r f now) (result_is ∙ ap offered is))
    by End is = untaken (ap count_of is) (new_is ∙ ap (λ (r : Offered). asked r f now) (result_is ∙ ap offered is))
    by NotYet is = untaken (ap count_of is) (new_is ∙ ap (λ (r : Offered). asked r f now) (result_is ∙ ap offered is))
    by IoFailed is = untaken (ap count_of is) (new_is ∙ ap (λ (r : Offered). asked r f now) (result_is ∙ ap offered is))

  pub requests : Sends f new first first now (LinkWrite octets answer ∷ [])
  requests s past before ended known on h = by s past before ended known on h answer refl
