-- A frame of a packet of a file that goes again goes out, and a packet is sent on its way.
use Rattle.std.proofs.Common.{◌≡◌, ℕ, ◌<◌, ◌≤◌, not, Bool, true, false, is_some, List, [], ◌∷◌, drop, take, length, map, Option, Some, None, option_map, inl, inr, refl, sym, ◌∙◌, ap, subst, arith}
use Rattle.std.specs.Option.{option_or}
use Rattle.std.proofs.lemmas.List.{length-take}
use Rattle.net_octets.specs.Kinds.{udp_proto}
use Rattle.world_face.specs.Journal.{Entry, LinkWrite}
use Rattle.world_face.specs.Frames.{goes_out, opens, tail}
use Rattle.world_face.specs.declared.Io.{Io}
use Rattle.world_face.specs.declared.Io.TheVariants.{Done, End, NotYet, Failed}
use Rattle.net_octets.specs.Octets.{our_mac}
use Rattle.slirp_settings.specs.Addresses.{Config, address, endpoint}
use Rattle.rules_udp.specs.declared.Reply.{Reply}
use Rattle.rules_udp.specs.declared.Reply.TheVariants.{Nothing as ReplyNothing, Datagram as ReplyDatagram, Unreachable as ReplyUnreachable}
use Rattle.udp_datagram.specs.Udp.{udp_octets}
use Rattle.ipv4_head.specs.Cuts.{cuts}
use Rattle.ipv4_head.specs.Sets.{Part}
use Rattle.rules_tftp.specs.Saying.{IsFromServer, said_by}
use Rattle.rules_tftp.proofs.Turning.{begun_left, ticked_left, ticked_none}
use Rattle.spec_flows.specs.Book.{book}
use Rattle.spec_flows.specs.Doings.{Nothing, doing, doing_by, goes}
use Rattle.spec_flows.specs.Laws.{MaySend, SendsOn, WritesBy, MustSend, flow_settings}
use Rattle.spec_flows.specs.Segments.{asked_in, segment_in}
use Rattle.spec_trace.specs.Moments.{moment}
use Rattle.rules_tftp.specs.Transfers.{Files, Said, Transfer, are_left, begun, next_again, said_again, ticked}
use Rattle.spec_run.specs.Answers.{files_begun, frames_of, is_first, left, part_frame, serving, told_of_files, uncut}
use Rattle.spec_run.specs.Laws.{Lawful}
use Rattle.spec_run.proofs.Deeds.{FlowsLetWrite}
use Rattle.spec_run.specs.Sending.{asked_beside, requests, requests_by}
use Rattle.spec_run.proofs.FileTurns.{MayGoAgain, aged_again, files_again, gone_again, left_again, no_flows}
use Rattle.spec_run.proofs.KeptFiles.{now_is}
use Rattle.stream_netdev.specs.State.{LinkState}
use Rattle.tcp_flows.specs.Kept.{Kept}
use Rattle.slirp_core.specs.Holds.{Holds, Standing, flowing}
use Rattle.slirp_core.specs.Owed.{IsOwed, OfLeft, kept_by}
use Rattle.slirp_core.proofs.Owing.{of_left}
use Rattle.slirp_core.proofs.Swapping.{holds_swapped}
use Rattle.slirp_core.proofs.Taking.{datagram_sent}
use Rattle.slirp_core.specs.State.{SlirpState}
use Rattle.slirp_core.proofs.AsGiven.{answers_as, told_as}

-- ---- its first frame goes out

module _ (config : Config) (past : List Entry) (said : Said) (frame : List ℕ) (rest : List (List ℕ)) (room : 28 ≤ config.mtu) (m : MayGoAgain config past said frame rest)
    (octets : List ℕ) (begins : drop 4 octets ≡ frame) where
  its_segment : segment_in (drop 4 octets) ≡ None
  its_segment = ap segment_in begins ∙ (no_flows config past said frame rest room m).segment

  its_asked : asked_in (drop 4 octets) ≡ None
  its_asked = ap asked_in begins ∙ (no_flows config past said frame rest room m).asked

  -- it is nothing to the flows
  pub may_write_again : FlowsLetWrite config past octets
  may_write_again = by (tail past)
    where
      by : (t : List ℕ) → WritesBy (MaySend (flow_settings config) (moment past)) (book config past).flows t octets
          × WritesBy (MustSend (flow_settings config) (moment past)) (book config past).flows t octets
      by [] = (
        subst (SendsOn (MaySend (flow_settings config) (moment past)) (book config past).flows) (sym its_segment) tt,
        subst (SendsOn (MustSend (flow_settings config) (moment past))
            (book config past).flows) (sym its_segment) tt,
      )
      by (x ∷ t) = (tt, tt)

  pub nothing_to_flows : (answer : Io) → doing config past (LinkWrite octets answer) ≡ Nothing
  nothing_to_flows answer = by answer (tail past)
    where
      by : (a : Io) (t : List ℕ) → doing_by None (opens (LinkWrite octets a) t) (LinkWrite octets answer) ≡ Nothing
      by (Done n) [] = λ i. goes (its_segment i) (its_asked i)
      by End [] = refl
      by NotYet [] = refl
      by Failed [] = refl
      by a (x ∷ t) = refl

  pub asks_nobody : (answer : Io) → requests config (LinkWrite octets answer ∷ past) ≡ requests config past
  asks_nobody answer = by answer (tail past)
    where
      by : (a : Io) (t : List ℕ) → requests_by (left config past) (opens (LinkWrite octets a) t) (requests config past) ≡ requests config past
      by (Done n) [] = ap (λ o. asked_beside (is_first (drop 4 octets) (left config past)) o (requests config past)) its_asked
      by End [] = refl
      by NotYet [] = refl
      by Failed [] = refl
      by a (x ∷ t) = refl

-- the others are left, and it isn't on its way any more
module _ (config : Config) (past : List Entry) (said : Said) (frame : List ℕ) (rest : List (List ℕ)) (room : 28 ≤ config.mtu) (m : MayGoAgain config past said frame rest)
    (octets : List ℕ) (answer : Io)
    (lawful : Lawful config past) (out : goes_out (LinkWrite octets answer) past ≡ Some frame) where
  same_now : (serving config (LinkWrite octets answer ∷ past)).now ≡ (serving config past).now
  same_now = sym (now_is config past)

  -- one that was on its way was counted before
  files_counted : (other : Said) → (serving config past).again ≡ Some other → (serving config (LinkWrite octets answer ∷ past)).files ≡ (serving config past).files
  files_counted other is =
      let s = serving config past in
      files_again config past said frame rest room m octets answer out ∙ ap (λ o. files_begun s.now o s.files) is

  transfers_gone : (kept : List Transfer) (aged : Bool) (o : Option Said) → (serving config past).again ≡ o → (aged ≡ false → (serving config past).again ≡ Some said)
      → kept ≡ kept_by aged (not (is_some (serving config past).again)) (serving config past).now (serving config past).files.transfers
      → kept ≡ kept_by aged false (serving config (LinkWrite octets answer ∷ past)).now (serving config (LinkWrite octets answer ∷ past)).files.transfers
  transfers_gone kept false o is way kept_is = kept_is ∙ sym (ap (λ (k : Files). k.transfers) (files_counted said (way refl)))
  transfers_gone kept true None is way kept_is =
      let s = serving config past in
      aged_again config past said frame rest room m octets answer kept lawful out is (kept_is ∙ ap (λ o. ticked s.now (not (is_some o)) s.files.transfers) is)
  transfers_gone kept true (Some other) is way kept_is =
      let s = serving config past in
      kept_is ∙ ap (λ o. ticked s.now (not (is_some o)) s.files.transfers) is ∙ sym (λ i. are_left (same_now i) (files_counted other is i).transfers)

  pub again_gone : (aged : Bool) (new : SlirpState) → new.pending ≡ rest → (aged ≡ false → (serving config past).again ≡ Some said)
      → new.transfers ≡ kept_by aged (not (is_some (serving config past).again)) (serving config past).now (serving config past).files.transfers → OfLeft config aged new
      (LinkWrite octets answer ∷ past)
  again_gone aged new pending way kept_is = record {
    left = left_again config past said frame rest room m octets answer out ∙ sym pending;
    again = gone_again config past said frame rest room m octets answer out;
    files = transfers_gone new.transfers aged (serving config past).again refl way kept_is;
  }

-- ---- a packet is sent on its way

-- a packet has a frame at least
pub frames_some : (config : Config) (ident : ℕ) (said : Said) → length said.octets ≤ 1472 → 0 < length (frames_of config ident (told_of_files config (Some said)))
frames_some config ident said few =
    subst (λ (l : List (List ℕ)). 0 < length l) (datagram_sent config ident (endpoint config.vhost 69) said.guest said.mac said.octets (omega (arith, few)))
    (one_at_least (part_frame said.mac (our_mac config.vhost) ident udp_proto (address (endpoint config.vhost 69)) (address said.guest))
    (uncut (udp_octets (address (endpoint config.vhost 69)) (address said.guest) (record { from_port = 69; to_port = said.guest.port; body = said.octets }))) config.mtu)
  where
    one_at_least : (as_frame : Part → List ℕ) (whole : Part) (mtu : ℕ) → 0 < length (map as_frame (cuts mtu whole))
    one_at_least as_frame whole mtu = omega arith

-- what the server says has at most 1,472 octets
pub said_fits : (vhost : ℕ) (reply : Reply) (octets : List ℕ) (said : Said) → IsFromServer vhost reply → said_by reply octets ≡ Some said → length said.octets ≤ 1472
said_fits vhost ReplyNothing octets said from is = cc
said_fits vhost (ReplyDatagram count at to None) octets said from is = cc
said_fits vhost (ReplyUnreachable code) octets said from is = cc
said_fits vhost (ReplyDatagram count at to (Some mac)) octets said from is =
    let same : take count octets ≡ said.octets = ap octets_in is in
    let few = length-take count octets in
    subst (λ (l : List ℕ). length l ≤ 1472) same (omega (arith, few, from.1))
  where
    octets_in : Option Said → List ℕ
    octets_in None = []
    octets_in (Some s) = s.octets

module _ (config : Config) (at : Standing) (slirp : SlirpState) (kept : Kept) (link : LinkState) (past : List Entry) (none : slirp.pending ≡ [])
    (holds : Holds config at slirp (flowing true kept) link past) where
  abbrev now : ℕ
  now = (serving config past).now

  abbrev all : List Transfer
  all = (serving config past).files.transfers

  at_now : now ≡ slirp.moment
  at_now = now_is config past ∙ holds.clock.moment

  l : OfLeft config true slirp past
  l = of_left config true slirp past none holds.answers.owed

  -- the same of those that are left
  ticked_is : ticked slirp.moment true slirp.transfers ≡ ticked now true all
  ticked_is = (λ i. ticked (sym at_now i) true (l.files i)) ∙ ticked_left now true all

  begun_is : begun slirp.moment true slirp.transfers ≡ option_map said_again (next_again now all)
  begun_is = (λ i. begun (sym at_now i) true (l.files i)) ∙ begun_left now true all

  abbrev pub sends_now : SlirpState
  sends_now = record slirp { pending = frames_of slirp.config slirp.sent (told_of_files slirp.config (begun slirp.moment true slirp.transfers)); transfers = ticked slirp.moment true slirp.transfers }

  owes_it : (o : Option Transfer) → next_again now all ≡ o → ((said : Said) → begun slirp.moment true slirp.transfers ≡ Some said → length said.octets ≤ 1472) → IsOwed config true sends_now past
  owes_it None found fits = inl (record {
    left = l.left ∙ none ∙ sym (ap (λ o. frames_of slirp.config slirp.sent (told_of_files slirp.config o)) (begun_is ∙ ap (option_map said_again) found));
    again = l.again;
    files = ticked_is ∙ ticked_none now true all found;
  })
  owes_it (Some t) found fits =
      let said = said_again t in
      let goes : begun slirp.moment true slirp.transfers ≡ Some said = begun_is ∙ ap (option_map said_again) found in
      inr (record {
        said = said;
        left = l.left ∙ none;
        may = (λ i. option_or (l.again i) (option_map said_again (found i)));
        some = subst (λ o. 0 < length (frames_of slirp.config slirp.sent (told_of_files slirp.config o))) (sym goes) (frames_some slirp.config slirp.sent said (fits said goes));
        pending = answers_as config holds.guests.settings slirp.sent (λ k. told_of_files k (begun slirp.moment true slirp.transfers)) (told_as config (begun slirp.moment true slirp.transfers))
            ∙ (λ i. frames_of config (sym holds.answers.sent i) (told_of_files config (goes i)));
        on_its_way = λ never. cc;
        files = ticked_is ∙ sym (ap (λ o. ticked now (not (is_some o)) all) l.again);
      })

  pub sends_it : ((said : Said) → begun slirp.moment true slirp.transfers ≡ Some said → length said.octets ≤ 1472) → Holds config at sends_now (flowing true kept) link past
  sends_it fits =
      holds_swapped config at slirp sends_now.pending sends_now.transfers slirp.flows (flowing true kept) link past holds
      (record { sent = holds.answers.sent; owed = owes_it (next_again now all) refl fits })
      (λ none unserved. ap (λ ts. frames_of slirp.config slirp.sent (told_of_files slirp.config (begun slirp.moment true ts))) unserved) (λ unserved. ap (ticked slirp.moment true) unserved)
