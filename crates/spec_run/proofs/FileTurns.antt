-- The first frame of a packet of a file that goes again may go out where nothing is left of an answer, and what the trace keeps then.
use Rattle.std.proofs.Common.{◌≡◌, ℕ, ◌≤◌, ◌==◌, ◌&&◌, ◌||◌, not, Bool, true, false, bytes_eq, List, [], ◌∷◌, drop, length, Option, Some, None, is_some, option_and_then, option_map}
use Rattle.std.specs.Option.{option_or}
use Rattle.std.proofs.Common.{if◌then◌else◌, refl, sym, ◌∙◌, ap, subst, lit<}
use Rattle.net_octets.specs.Kinds.{ipv4_kind, tcp_proto, udp_proto}
use Rattle.world_face.specs.Journal.{Entry, LinkWrite}
use Rattle.world_face.specs.Frames.{goes_out}
use Rattle.world_face.specs.declared.Io.{Io}
use Rattle.net_octets.specs.Octets.{our_mac}
use Rattle.slirp_settings.specs.Addresses.{Config, address}
use Rattle.ether_frame.specs.Ether.{Ether, read_ether}
use Rattle.ipv4_head.specs.Cuts.{cut_at}
use Rattle.ipv4_head.specs.Ip.{Ip, fragment_of, ip_octets, is_unbroken, read_ip}
use Rattle.udp_datagram.specs.Udp.{udp_octets}
use Rattle.tcp_segment.specs.Tcp.{read_tcp}
use Rattle.spec_flows.specs.Segments.{asked_in, asked_of, segment_in, to_guest, went_by, went_of}
use Rattle.rules_tftp.specs.Transfers.{Files, Said, Transfer, are_left, next_again, said_again, ticked}
use Rattle.rules_tftp.proofs.Turning.{ticked_some}
use Rattle.spec_run.specs.Answers.{IpAnswer, again_frames, begins_again, begun_by, files_begun, files_sent, frames_for, frames_of, identification, is_first, is_out, ledger, left}
use Rattle.spec_run.specs.Answers.{may_go_again, serving, starts, taken, told_of_files, uncut, unless_begun}
use Rattle.spec_run.specs.Laws.{Lawful}
use Rattle.spec_run.specs.Sending.{is_beside, is_explained, may_ask, sends_again, sends_segment}
use Rattle.spec_run.proofs.Bools.{and_both, same}
use Rattle.spec_run.proofs.Framing.{IsPart, frames_one, our_six, part_of_frames}
use Rattle.spec_run.proofs.KeptFiles.{are_kept, now_is}
use Rattle.spec_run.proofs.Numbers.{ident_fits, reads_cut}
use Rattle.spec_run.proofs.Reading.{SixSaid, file_answer, framed_ip, six_again}
use Rattle.spec_run.specs.Said.{Carries}

pub same_octets : (xs : List ℕ) → bytes_eq xs xs ≡ true
same_octets [] = refl
same_octets (x ∷ xs) = and_both (x == x) (bytes_eq xs xs) (same x) (same_octets xs)

-- the frame of a packet of a file is no segment's, and asks for nobody
pub record IsNoFlows (frame : List ℕ) : Type 0 where
  pub segment : segment_in frame ≡ None
  pub asked : asked_in frame ≡ None

of_part : (config : Config) (past : List Entry) (mac : List ℕ) (from to : ℕ) (body frame : List ℕ) (rest : List (List ℕ)) → 28 ≤ config.mtu → length mac ≡ 6 → drop 0
    (frames_for config (identification past) (IpAnswer mac udp_proto from to body)) ≡ frame ∷ rest → IsNoFlows frame
of_part config past mac from to body frame rest room six is = record { segment = ap (option_and_then went_of) framed ∙ by (read_ip octets) refl; asked = ap (option_and_then asked_of) framed }
  where
    p : IsPart config (identification past) mac udp_proto from to body frame 0
    p = part_of_frames config (identification past) mac udp_proto from to body frame rest 0 is

    octets : List ℕ
    octets =
        let cut = cut_at config.mtu (uncut body) 0 in
        ip_octets (identification past) (fragment_of cut.more cut.place) udp_proto from to cut.body

    ether : Ether
    ether = record { to = mac; from = our_mac config.vhost; kind = ipv4_kind; body = octets }

    framed : read_ether frame ≡ Some (record { to = mac; from = our_mac config.vhost; kind = ipv4_kind; body = octets })
    framed = ap read_ether p.is ∙ framed_ip mac (our_mac config.vhost) octets ipv4_kind six (our_six config.vhost) (lit< tt)

    by : (o : Option Ip) → read_ip octets ≡ o → option_and_then (went_by mac) o ≡ None
    by None holds = refl
    by (Some ip) holds =
        let c : Carries frame ip = record { ether = ether; framed = framed; kind = refl; holds = holds } in
        let r = reads_cut config (identification past) mac udp_proto from to body frame 0 ip room (ident_fits 0 past) six p c in
        let other : (ip.proto == tcp_proto) ≡ false = ap (λ n. n == tcp_proto) r.proto in
        ap (λ (b : Bool). option_map (to_guest mac ip) (if b && is_unbroken ip then read_tcp ip.from ip.to ip.body else None)) other

-- ---- what may go out then

-- a packet may go again, and this is the first of its frames
pub record MayGoAgain (config : Config) (past : List Entry) (said : Said) (frame : List ℕ) (rest : List (List ℕ)) : Type 0 where
  pub nothing : left config past ≡ []
  pub may : may_go_again (serving config past) ≡ Some said
  pub frames : frames_of config (identification past) (told_of_files config (Some said)) ≡ frame ∷ rest

module _ (config : Config) (past : List Entry) (said : Said) (frame : List ℕ) (rest : List (List ℕ)) (room : 28 ≤ config.mtu) (m : MayGoAgain config past said frame rest) where
  pub no_flows : IsNoFlows frame
  no_flows =
      let six : length said.mac ≡ 6 = subst SixSaid m.may (six_again config past) in
      let a = file_answer config said in
      of_part config past said.mac config.vhost (address said.guest)
      (udp_octets config.vhost (address said.guest) (record { from_port = 69; to_port = said.guest.port; body = said.octets })) frame rest room six
      (sym (frames_one config (identification past) a) ∙ m.frames)

  again_is : again_frames config (identification past) (serving config past) ≡ frame ∷ rest
  again_is = ap (λ o. frames_of config (identification past) (told_of_files config o)) m.may ∙ m.frames

  starts_it : starts frame (again_frames config (identification past) (serving config past)) ≡ true
  starts_it =
      ap (λ o. not (is_some o || is_some (asked_in frame)) && is_first frame (again_frames config (identification past) (serving config past))) no_flows.segment
      ∙ ap (λ o. not (is_some o) && is_first frame (again_frames config (identification past) (serving config past))) no_flows.asked
      ∙ ap (is_first frame) again_is ∙ same_octets frame

  pub is_explained_again : is_explained config past frame ≡ true
  is_explained_again =
      ap (λ l. is_first frame l || (is_out l && is_beside config past frame)) m.nothing
      ∙ ap (λ o. sends_segment config past frame o || may_ask config past frame (asked_in frame) || sends_again config past frame) no_flows.segment
      ∙ ap (λ o. may_ask config past frame o || sends_again config past frame) no_flows.asked ∙ starts_it

  -- ---- and what the trace keeps then

  begins_it : (e : Entry) → goes_out e past ≡ Some frame → begins_again config (identification past) (ledger config past) (goes_out e past) ≡ true
  begins_it e out =
      ap (begins_again config (identification past) (ledger config past)) out ∙ ap
      (λ l. is_out l && starts frame (again_frames config (identification past) (serving config past))) m.nothing ∙ starts_it

  -- the others are left; the packet isn't on its way any more, and was counted now unless it was before
  pub left_again : (octets : List ℕ) (answer : Io) → goes_out (LinkWrite octets answer) past ≡ Some frame → left config (LinkWrite octets answer ∷ past) ≡ rest
  left_again octets answer out =
      ap (λ o. taken o (again_frames config (identification past) (serving config past)) (left config past)) out
      ∙ ap (taken (Some frame) (again_frames config (identification past) (serving config past))) m.nothing
      ∙ ap (λ (b : Bool). if b then drop 1 (again_frames config (identification past) (serving config past)) else []) starts_it ∙ ap (drop 1) again_is

  pub gone_again : (octets : List ℕ) (answer : Io) → goes_out (LinkWrite octets answer) past ≡ Some frame → (serving config (LinkWrite octets answer ∷ past)).again ≡ None
  gone_again octets answer out = ap (λ (b : Bool). unless_begun b (serving config past).again) (begins_it (LinkWrite octets answer) out)

  pub files_again : (octets : List ℕ) (answer : Io) → goes_out (LinkWrite octets answer) past ≡ Some frame → (serving config (LinkWrite octets answer ∷ past)).files ≡ files_begun
      (serving config past).now (serving config past).again (serving config past).files
  files_again octets answer out = ap (λ (b : Bool). files_sent b (serving config past)) (begins_it (LinkWrite octets answer) out)

  -- where a server let those go that are over, and counted this one, it has then what is left of those of the trace
  pub aged_again : (octets : List ℕ) (answer : Io) (kept : List Transfer) → Lawful config past → goes_out (LinkWrite octets answer) past ≡ Some frame →
      (serving config past).again ≡ None → kept ≡ ticked (serving config past).now true (serving config past).files.transfers
      → kept ≡ are_left (serving config (LinkWrite octets answer ∷ past)).now (serving config (LinkWrite octets answer ∷ past)).files.transfers
  aged_again octets answer kept lawful out idle is =
      let s = serving config past in
      let after : (serving config (LinkWrite octets answer ∷ past)).files ≡ files_begun s.now None s.files = files_again octets answer out ∙ ap (λ o. files_begun s.now o s.files) idle in
      let same : (serving config (LinkWrite octets answer ∷ past)).now ≡ s.now = sym (now_is config past) in
      is ∙ by (next_again s.now s.files.transfers) refl (sym (ap (λ o. option_or o (option_map said_again (next_again s.now s.files.transfers))) idle) ∙ m.may)
      ∙ sym (ap (λ n. are_left n (serving config (LinkWrite octets answer ∷ past)).files.transfers) same ∙ ap (λ (f : Files). are_left s.now f.transfers) after)
    where
      by : (o : Option Transfer) → next_again (serving config past).now (serving config past).files.transfers ≡ o → option_map said_again o ≡ Some said
          → ticked (serving config past).now true (serving config past).files.transfers ≡ are_left (serving config past).now
          (files_begun (serving config past).now None (serving config past).files).transfers
      by None found is = cc
      by (Some t) found is =
          let k = are_kept config past lawful in
          ticked_some (serving config past).now t (serving config past).files.transfers k.apart k.waits found
          ∙ sym (ap (λ o. are_left (serving config past).now (begun_by (serving config past).now o (serving config past).files).transfers) found)
