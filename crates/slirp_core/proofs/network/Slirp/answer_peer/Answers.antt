use Rattle.std.proofs.Common.{◌≡◌, ℕ, List, Some, None, if◌then◌else◌, take, sym, ◌∙◌, ap}
use Rattle.slirp_settings.specs.Addresses.{Config}
use Rattle.host_policy.specs.Targets.{shown, is_hidden}
use Rattle.slirp_core.specs.Replies.{owed_at, owed_by, or_learnt}
use Rattle.slirp_core.specs.State.{SlirpState}
use Rattle.slirp_core.proofs.Taking.{hidden_owed, shown_sent, sought_owed}
use Rattle.slirp_core.proofs.Viewed.{state_of}
use Rattle.slirp_core.proofs.network.Slirp.answer_peer.Goals as goal

-- a peer that isn't shown
pub returns-in_default-shown : goal.returns-in_default-shown
returns-in_default-shown c =
    let old = c.args.self.now in
    let b = c.in-Datagram in
    let octets = c.args.octets.now in
    let policy : c.self.inside.policy ≡ old.config = ap (λ (s : SlirpState). s.config) c.self.view_is in
    let hidden : None ≡ (if is_hidden old.config b.from then None else Some (shown old.config b.from)) =
    c.in_default-shown.ensures ∙ ap (λ (k : Config). if is_hidden k b.from then None else Some (shown k b.from)) policy in
    ap (λ (p : List (List ℕ)). record old { pending = p })
    (hidden_owed old b.from (take b.length octets) b.to (or_learnt old b.to b.mac) c.requires.none hidden ∙ sym (ap (owed_by old octets) b.is))

-- a guest whose hardware address isn't known
pub returns-in_default-mac_for : goal.returns-in_default-mac_for
returns-in_default-mac_for c =
    let old = c.args.self.now in
    let b = c.in-Datagram in
    let octets = c.args.octets.now in
    let policy : c.self.inside.policy ≡ old.config = ap (λ (s : SlirpState). s.config) c.self.view_is in
    let seen : Some c.in-Some.seen ≡ (if is_hidden old.config b.from then None else Some (shown old.config b.from)) =
    c.in-Some.ensures ∙ ap (λ (k : Config). if is_hidden k b.from then None else Some (shown k b.from)) policy in
    c.ask_for.ensures
    ∙ ap (λ (p : List (List ℕ)). record old { pending = p })
    (sought_owed old b.from c.in-Some.seen (take b.length octets) b.to seen
    ∙ ap (owed_at old b.from (take b.length octets) b.to) c.in_default-mac_for.ensures ∙ sym (ap (owed_by old octets) b.is))

pub returns : goal.returns
returns c =
    let old = c.args.self.now in
    let i = c.self.inside in
    let b = c.in-Datagram in
    let octets = c.args.octets.now in
    let seen = c.in-Some.seen in
    let known = c.in-Some-mac_for.known in
    let policy : i.policy ≡ old.config = ap (λ (s : SlirpState). s.config) c.self.view_is in
    let shown_is : Some seen ≡ (if is_hidden i.policy b.from then None else Some (shown i.policy b.from)) = c.in-Some.ensures in
    let pending : c.put_reply.new.outgoing ≡ owed_at (state_of i) b.from (take b.length octets) b.to (Some known) =
    c.put_reply.ensures ∙ shown_sent i.policy i.sent b.from seen (take b.length octets) b.to known.0 shown_is in
    ap (λ (p : List (List ℕ)). record (state_of i) { pending = p }) pending
    ∙ ap (λ (s : SlirpState). record s { pending = owed_at s b.from (take b.length octets) b.to (Some known) }) c.self.view_is
    ∙ ap (λ (p : List (List ℕ)). record old { pending = p })
    (ap (owed_at old b.from (take b.length octets) b.to) c.in-Some-mac_for.ensures ∙ sym (ap (owed_by old octets) b.is))
