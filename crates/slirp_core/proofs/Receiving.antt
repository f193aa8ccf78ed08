-- What became of a segment that came, by the trace.
use Rattle.std.proofs.Common.{◌≡◌, ◌+◌, append-nil, List, [], ◌∷◌, ◌++◌, false, sym, ◌∙◌, ap, subst, inl, inr}
use Rattle.net_octets.specs.declared.Mac.{Mac}
use Rattle.world_face.specs.Journal.{AreAllowed, Connect, Entry}
use Rattle.world_face.specs.declared.Made.TheVariants.{Done, Failed}
use Rattle.slirp_settings.specs.Addresses.{Config}
use Rattle.spec_flows.specs.SegmentVerdicts.{SegmentVerdict, Dropped, AsksFor, GetsReset, NeedsRoom}
use Rattle.spec_run.specs.Answers.{frames_of, reset_for}
use Rattle.sim_flows.specs.Stands.{verdict_without_flow}
use Rattle.stream_netdev.specs.State.{LinkState}
use Rattle.tcp_flows.specs.Kept.{Kept}
use Rattle.tcp_flows.specs.Receiving.{IsLeft, Receives, Strays, has_room}
use Rattle.tcp_flows.specs.declared.receiving.Received.{Received}
use Rattle.tcp_flows.specs.declared.receiving.Received.TheVariants.{Settled, TurnedAway, Opened, Refused}
use Rattle.slirp_core.specs.Holds.{Comes, Holds, Standing, flowing}
use Rattle.slirp_core.specs.Segments.{Coming}
use Rattle.slirp_core.specs.State.{SlirpState}
use Rattle.slirp_core.proofs.Associating.{parted as parted_by}
use Rattle.slirp_core.proofs.Hearing.{alone_crowded, alone_dropped, alone_reset, connected, heard_strange, heard_taken, none_made, unconnected_then}

module _ (config : Config) (at : Standing) (slirp : SlirpState) (kept : Kept) (link : LinkState) (c : Coming) (past : List Entry) (comes : Comes config at slirp kept link c past) (mac : Mac) where
  module _ (made : List Entry) (new : Kept) (allowed : AreAllowed made) where
    module _ (result : Received) (s : Strays result slirp.config slirp.moment slirp.number kept new c.on mac c.tcp made) where
      all : AreAllowed (s.after ++ s.before)
      all = subst AreAllowed s.is allowed

      before_allowed : AreAllowed s.before
      before_allowed = (parted_by s.after s.before all).1

      after_allowed : AreAllowed s.after
      after_allowed = (parted_by s.after s.before all).0

      none : s.before ≡ []
      none = none_made config at slirp kept link c past comes s.before s.between before_allowed s.hears

      -- only what was made of it as one without a flow was made
      after_is : s.after ≡ made
      after_is = sym (s.is ∙ ap (λ b. s.after ++ b) none ∙ append-nil s.after)

      abbrev its : Config → SegmentVerdict
      its k = verdict_without_flow k (has_room s.between) c.on

      by_settings : (segment_verdict : SegmentVerdict) → its slirp.config ≡ segment_verdict → its config ≡ segment_verdict
      by_settings segment_verdict is = ap its (sym comes.guests.settings) ∙ is

    -- nothing is owed for it
    pub settled : Receives Settled slirp.config slirp.moment slirp.number kept new c.on mac c.tcp made → Holds config at slirp (flowing false new) link (made ++ past)
    settled (inl (is, hears)) = heard_taken config at slirp kept link c past comes made new allowed hears
    settled (inr (inl (is, hears))) = absurd cc
    settled (inr (inr s)) = by s.becomes
      where
        by : IsLeft slirp.moment (its Settled s slirp.config) s.between new s.after → Holds config at slirp (flowing false new) link (made ++ past)
        by (inl (is, same, nothing)) =
            subst (λ (k : Kept). Holds config at slirp (flowing false k) link (made ++ past)) (sym same)
            (subst (λ (m : List Entry). Holds config at slirp (flowing false s.between) link (m ++ past)) (none Settled s ∙ sym nothing ∙ after_is Settled s)
            (alone_dropped config at slirp kept link c past comes s.before s.between (before_allowed Settled s) s.hears (by_settings Settled s Dropped is)))
        by (inr (is, gives)) =
            subst (λ (m : List Entry). Holds config at slirp (flowing false new) link (m ++ past)) (after_is Settled s)
            (alone_crowded config at slirp kept link c past comes s.before s.between (before_allowed Settled s) s.hears (by_settings Settled s NeedsRoom is) new s.after (after_allowed Settled s) gives)

    -- it is answered by a reset
    pub turned_away : Receives TurnedAway slirp.config slirp.moment slirp.number kept new c.on mac c.tcp made
        → Holds config at (record slirp { pending = frames_of slirp.config slirp.sent (reset_for c.on ∷ []) }) (flowing false new) link (made ++ past)
    turned_away (inl (is, hears)) = absurd cc
    turned_away (inr (inl (is, hears))) = heard_strange config at slirp kept link c past comes made new allowed hears
    turned_away (inr (inr s)) =
        let is = s.becomes in
        let after : SlirpState = record slirp { pending = frames_of slirp.config slirp.sent (reset_for c.on ∷ []) } in
        subst (λ (k : Kept). Holds config at after (flowing false k) link (made ++ past)) (sym is.1)
        (subst (λ (m : List Entry). Holds config at after (flowing false s.between) link (m ++ past)) (none TurnedAway s ∙ sym is.2 ∙ after_is TurnedAway s)
        (alone_reset config at slirp kept link c past comes s.before s.between (before_allowed TurnedAway s) s.hears (by_settings TurnedAway s GetsReset is.0)))

    -- the host connects for it
    pub opened : mac.0 ≡ c.on.mac → Receives Opened slirp.config slirp.moment slirp.number kept new c.on mac c.tcp made
        → Holds config at (record slirp { number = slirp.number + 1 }) (flowing false new) link (made ++ past)
    opened is_its (inl (is, hears)) = absurd cc
    opened is_its (inr (inl (is, hears))) = absurd cc
    opened is_its (inr (inr s)) =
        let o = s.becomes in
        let one : s.after ≡ Connect slirp.number o.0 Done ∷ [] = o.1.1 in
        let fine = subst AreAllowed one (after_allowed Opened s) in
        subst (λ (m : List Entry). Holds config at (record slirp { number = slirp.number + 1 }) (flowing false new) link (m ++ past)) (sym one ∙ after_is Opened s)
        (connected config at slirp kept link c past comes s.before s.between (before_allowed Opened s) s.hears o.0 (by_settings Opened s (AsksFor o.0) o.1.0) new mac is_its fine.0 o.1.2)

    -- it doesn't
    pub refused : Receives Refused slirp.config slirp.moment slirp.number kept new c.on mac c.tcp made
        → Holds config at (record slirp { number = slirp.number + 1; pending = frames_of slirp.config slirp.sent (reset_for c.on ∷ []) }) (flowing false new) link (made ++ past)
    refused (inl (is, hears)) = absurd cc
    refused (inr (inl (is, hears))) = absurd cc
    refused (inr (inr s)) =
        let o = s.becomes in
        let one : s.after ≡ Connect slirp.number o.0 Failed ∷ [] = o.1.1 in
        let fine = subst AreAllowed one (after_allowed Refused s) in
        let after : SlirpState = record slirp { number = slirp.number + 1; pending = frames_of slirp.config slirp.sent (reset_for c.on ∷ []) } in
        subst (λ (k : Kept). Holds config at after (flowing false k) link (made ++ past)) (sym o.1.2)
        (subst (λ (m : List Entry). Holds config at after (flowing false s.between) link (m ++ past)) (sym one ∙ after_is Refused s)
        (unconnected_then config at slirp kept link c past comes s.before s.between (before_allowed Refused s) s.hears o.0 (by_settings Refused s (AsksFor o.0) o.1.0) fine.0))
