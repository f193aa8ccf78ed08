-- Which calls ask for no guest: those on sockets, what comes of the link, and the segments of a flow.
use Rattle.std.proofs.Common.{refl, ◌≡◌, ℕ, ◌≤◌, ◌&&◌, ◌||◌, Bool, true, false, List, [], ◌∷◌, ◌++◌, drop, map, set, slice_get, Option, Some, None, ◌⊎◌, inl, inr, ap, sym, ◌∙◌, subst, arith}
use Rattle.std.proofs.lemmas.List.{map-set}
use Rattle.net_octets.specs.declared.Mac.{Mac}
use Rattle.world_face.specs.Frames.{opens, tail}
use Rattle.world_face.specs.Journal.{Close, Entry, LinkWrite}
use Rattle.world_face.specs.declared.Io.{Io}
use Rattle.world_face.specs.declared.Io.TheVariants.{Done, End, NotYet, Failed}
use Rattle.slirp_settings.specs.Addresses.{Config}
use Rattle.spec_flow.specs.Event.{Arrives, Story}
use Rattle.spec_flow.specs.Settings.{Settings}
use Rattle.spec_flows.specs.Book.{book, scene, turned}
use Rattle.spec_flows.specs.Doings.{Comes, Doing, doing, doing_by, goes}
use Rattle.spec_flows.specs.Flows.{is_on, with_event}
use Rattle.spec_flows.specs.Segments.{OnTuple, asked_in, segment_in}
use Rattle.spec_run.specs.Answers.{is_first, left}
use Rattle.spec_run.specs.Sending.{asked_beside, requests, requests_by}
use Rattle.flow_splice.specs.Entries.{Adds, AreEvents, ident_after}
use Rattle.flow_splice.specs.Frames.{segment_frame}
use Rattle.flow_splice.specs.Hosts.{is_for_reading, is_for_writing, shuts}
use Rattle.flow_splice.specs.Shapes.{IsHostWork, ends, gives, is_at_most_a_close, is_reading, is_writing}
use Rattle.flow_splice.specs.Splice.{Face, Splice}
use Rattle.flow_splice.specs.declared.Place.TheVariants.{Empty}
use Rattle.sim_flows.specs.Asked.{AreAsked, accepted_numbers}
use Rattle.sim_flows.specs.Core.{number_of}
use Rattle.sim_flows.proofs.ReadBack.{asks_none, four_off}
use Rattle.sim_flows.proofs.Requests.{ComeFrom}
use Rattle.tcp_flows.specs.Kept.{part_of}
use Rattle.tcp_flows.proofs.Asking.{asked_from, asked_then, has_frame, is_frame, told_numbers}
use Rattle.tcp_flows.proofs.Keeping.{part_back}
use Rattle.tcp_flows.proofs.Lists.{get_map}
use Rattle.tcp_flows.proofs.Seated.{part_is}

-- ---- calls on sockets write no frame

-- a call of another kind is none
no_frame : (test : Entry → Bool) → ((octets : List ℕ) (answer : Io) → test (LinkWrite octets answer) ≡ false) → (e : Entry) → test e ≡ true → is_frame e ≡ false
no_frame test never (LinkWrite octets answer) is = let not_it = sym (never octets answer) ∙ is in absurd cc
no_frame test never _ is = refl

neither : (a b : Bool) → a ≡ false → b ≡ false → (a || b) ≡ false
neither false b none is = is
neither true b none is = absurd cc

either : (a b : Bool) → (a || b) ≡ true → (a ≡ true) ⊎ (b ≡ true)
either true b is = inl refl
either false b is = inr is

both : (a b : Bool) → (a && b) ≡ true → (a ≡ true) × (b ≡ true)
both true b is = (refl, is)
both false b is = absurd cc

frames_both : (later first : List Entry) → has_frame later ≡ false → has_frame first ≡ false → has_frame (later ++ first) ≡ false
frames_both [] first none is = is
frames_both (e ∷ later) first none is = by (is_frame e) none (λ rest. frames_both later first rest is)
  where
    by : (b : Bool) → (b || has_frame later) ≡ false → (has_frame later ≡ false → has_frame (later ++ first) ≡ false) → (b || has_frame (later ++ first)) ≡ false
    by true none go_on = absurd cc
    by false none go_on = go_on none

abbrev None_of : List Entry → Type 0
None_of made = has_frame made ≡ false

on_front : (e : Entry) (made : List Entry) → is_frame e ≡ false → None_of made → None_of (e ∷ made)
on_front e made none rest = neither (is_frame e) (has_frame made) none rest

is_shut : (e : Entry) → shuts e ≡ true → is_frame e ≡ false
is_shut = no_frame shuts (λ octets answer. refl)

is_end : (e : Entry) → ends e ≡ true → is_frame e ≡ false
is_end = no_frame ends (λ octets answer. refl)

is_given : (e : Entry) → gives e ≡ true → is_frame e ≡ false
is_given = no_frame gives (λ octets answer. refl)

is_written : (e : Entry) → is_for_writing e ≡ true → is_frame e ≡ false
is_written = no_frame is_for_writing (λ octets answer. refl)

is_read : (e : Entry) → is_for_reading e ≡ true → is_frame e ≡ false
is_read = no_frame is_for_reading (λ octets answer. refl)

none_written : (made : List Entry) → is_writing made ≡ true → None_of made
none_written [] is = refl
none_written (a ∷ []) is = on_front a [] (is_written a is) refl
none_written (b ∷ a ∷ []) is = elim (either (shuts b && is_for_writing a) (ends b && gives a) is) [
  | inl one ↦ let two = both (shuts b) (is_for_writing a) one in on_front b (a ∷ []) (is_shut b two.0) (on_front a [] (is_written a two.1) refl)
  | inr one ↦ let two = both (ends b) (gives a) one in on_front b (a ∷ []) (is_end b two.0) (on_front a [] (is_given a two.1) refl)
]
none_written (c ∷ b ∷ a ∷ []) is =
    let front = both (shuts c && ends b) (gives a) is in
    let two = both (shuts c) (ends b) front.0 in
    on_front c (b ∷ a ∷ []) (is_shut c two.0) (on_front b (a ∷ []) (is_end b two.1) (on_front a [] (is_given a front.1) refl))
none_written (d ∷ c ∷ b ∷ a ∷ made) is = absurd cc

none_read : (made : List Entry) → is_reading made ≡ true → None_of made
none_read [] is = refl
none_read (a ∷ []) is = on_front a [] (is_read a is) refl
none_read (b ∷ a ∷ []) is = let two = both (shuts b) (is_for_reading a) is in on_front b (a ∷ []) (is_shut b two.0) (on_front a [] (is_read a two.1) refl)
none_read (c ∷ b ∷ a ∷ made) is = absurd cc

-- what a report makes
pub none_reported : (read write : Bool) (made : List Entry) → IsHostWork read write made → has_frame made ≡ false
none_reported read write made work = ap has_frame work.is ∙ frames_both work.reading work.writing (none_read work.reading work.reads) (none_written work.writing work.writes)

-- and at most a close
pub none_closed : (made : List Entry) → is_at_most_a_close made ≡ true → has_frame made ≡ false
none_closed [] is = refl
none_closed (Close socket ∷ []) is = refl
none_closed (_ ∷ made) is = absurd cc

-- ---- the flow of a slot has changed

-- each part has its number then, and asked no less
pub kept_asked : (parts : List Splice) (k : ℕ) (p q : Splice) → slice_get parts k ≡ Some p → (p.place ≡ Empty → ⊥) → number_of q ≡ number_of p → p.asked ≤ q.asked
    → q.accepted ≡ p.accepted → ComeFrom (map part_of parts) (map part_of (set parts k q))
kept_asked parts k p q at some number more kind j r here =
    asked_from (map part_of parts) k p (part_of q) (get_map part_of parts k p at ∙ ap Some (part_is p some))
    (λ s is. let one = part_back q.place q s is in (ap number_of (sym one) ∙ number, subst (λ (x : Splice). p.asked ≤ x.asked) one more, ap (λ (x : Splice). x.accepted) (sym one) ∙ kind)) j r
    (ap (λ (l : List (Option Splice)). slice_get l j) (sym (map-set part_of parts k q)) ∙ here)

-- ---- a segment came

went_not : (octets : List ℕ) (answer : Io) (o : Option (List ℕ)) (on : OnTuple) → doing_by None o (LinkWrite octets answer) ≡ Comes on → ⊥
went_not octets answer None on is = cc
went_not octets answer (Some frame) on is = by (segment_in frame) (asked_in frame) is
  where
    by : (s : Option OnTuple) (a : Option ℕ) → goes s a ≡ Comes on → ⊥
    by (Some other) a is = cc
    by None None is = cc
    by None (Some guest) is = cc

came_silent : (config : Config) (e : Entry) (past : List Entry) (on : OnTuple) → doing config past e ≡ Comes on → requests config (e ∷ past) ≡ requests config past
came_silent config (LinkWrite octets answer) past on is = absurd (went_not octets answer (opens (LinkWrite octets answer) (tail past)) on is)
came_silent config _ past on is = refl

-- it asks for nobody
pub came_asked : (config : Config) (e : Entry) (past : List Entry) (on : OnTuple) → doing config past e ≡ Comes on → (parts : List (Option Splice)) → AreAsked config parts past →
    AreAsked config parts (e ∷ past)
came_asked config e past on comes parts =
    asked_then config past (e ∷ past) parts parts (came_silent config e past on comes)
    (λ guest.
    ap (λ (d : Doing). accepted_numbers guest (turned config (scene config past) d (book config past)).flows) comes
    ∙ told_numbers guest (is_on on.tuple) (with_event (scene config past).moment (Arrives on.segment)) (λ f. refl) (λ f. refl) (book config past).flows) (λ k q here. (q, k, here, refl, omega arith, refl))

-- ---- segments go out

asks_nobody : (frames : List (List ℕ)) (octets : List ℕ) (answer : Io) (rest : List ℕ) (asked : List ℕ) → asked_in (drop 4 octets) ≡ None → requests_by frames
    (opens (LinkWrite octets answer) rest) asked ≡ asked
asks_nobody frames octets answer (x ∷ rest) asked none = refl
asks_nobody frames octets (Done n) [] asked none = ap (λ o. asked_beside (is_first (drop 4 octets) frames) o asked) none
asks_nobody frames octets End [] asked none = refl
asks_nobody frames octets NotYet [] asked none = refl
asks_nobody frames octets Failed [] asked none = refl

-- what a flow does that knows its guest's hardware address asks for nobody
module _ (config : Config) (s : Settings) (face : Face) (to : Mac) (directly ended known : Bool) (ident now : ℕ) (story : Story) where
  one_silent : (e : Entry) (past : List Entry) (rest beats : Story) → Adds s face (Some to) directly ended known ident now story e rest beats → requests config (e ∷ past) ≡ requests config past
  one_silent (LinkWrite octets answer) past rest beats adds = elim adds [
    | inl o ↦ asks_nobody (left config past) octets answer (tail past) (requests config past)
        (ap asked_in (ap (drop 4) o.1.frame ∙ four_off (segment_frame face o.1.to (ident_after ident rest) o.0)) ∙ asks_none face o.1.to (ident_after ident rest) o.0 o.1.sized)
    | inr r ↦ let unknown = r.0.unknown in absurd cc
  ]
  one_silent _ past rest beats adds = refl

  pub segments_silent : (made past : List Entry) (beats : Story) → AreEvents s face (Some to) directly ended known ident now story made beats → requests config (made ++ past) ≡ requests config past
  segments_silent [] past beats are = refl
  segments_silent (e ∷ made) past beats (rest, are, adds) = one_silent e (made ++ past) rest beats adds ∙ segments_silent made past rest are
