-- Reads of the link by which no frame is whole, and those that end a run.
use Rattle.std.proofs.Common.{◌≡◌, ℕ, true, false, List, [], ◌∷◌, ◌++◌, Some, None, refl, sym, ◌∙◌, ap, subst}
use Rattle.poll_list.specs.declared.Want.{Want}
use Rattle.poll_list.specs.declared.Who.TheVariants.{Link as TheLink}
use Rattle.world_face.specs.Journal.{Entry, AreAllowed}
use Rattle.world_face.specs.Frames.{Ending}
use Rattle.slirp_settings.specs.Addresses.{Config}
use Rattle.spec_flows.specs.Segments.{segment_by}
use Rattle.spec_trace.specs.Fragments.{waiting}
use Rattle.spec_trace.specs.Packets.{Unheard}
use Rattle.spec_trace.specs.Sockets.{next_number}
use Rattle.spec_run.specs.Agenda.{is_to_read, wanted_of}
use Rattle.spec_run.specs.Datagrams.{Step, errand_by_packet}
use Rattle.stream_netdev.specs.Keeps.{Keeps, ReadsFrame, hands, ending_of}
use Rattle.stream_netdev.specs.State.{LinkState}
use Rattle.stream_netdev.specs.declared.Arrived.{Arrived}
use Rattle.slirp_core.specs.Holds.{asked_by, standing, flowing, Ended, HoldsAt, holders_of}
use Rattle.slirp_core.specs.Packets.{file_in, request_by_packet}
use Rattle.slirp_core.specs.State.{SlirpState}
use Rattle.slirp_core.proofs.Reading.{KeepsParts, after_packet, packet_of, read_ends_it, read_on}
use Rattle.serve_loop.specs.Turns.{HoldsNow}

module _ (config : Config) (count : ℕ) (wants : List Want) (item : Want) (items : List Want) (reads_it : is_to_read TheLink (wanted_of wants item) ≡ true)
    (slirp : SlirpState) (old new : LinkState) (answer : Arrived) (no_packet : slirp.pending ≡ []) (out : old.tail ≡ [])
    (made past : List Entry) (allowed : AreAllowed made) (read : (past : List Entry) → Keeps old past → Keeps new (made ++ past) × ReadsFrame answer new made past)
    (holds : HoldsNow config (standing count wants (item ∷ items)) false slirp old past) where
  -- no frame is whole
  pub nothing_came : hands answer new ≡ None → ending_of answer ≡ None → HoldsNow config (standing count wants items) false slirp new (made ++ past)
  nothing_came none goes_on =
      let at = waiting config past in
      let packet_is : packet_of config slirp.moment at (hands answer new) ≡ Unheard = ap (packet_of config slirp.moment at) none in
      let h = read_on config count wants item items reads_it slirp slirp.flows old new answer no_packet out made past allowed read holds slirp goes_on
      (subst (λ o. KeepsParts config slirp slirp o) (sym none) refl) (ap segment_by packet_is) (ap (λ p. file_in (request_by_packet config p)) packet_is)
      (ap (λ (p : List (List ℕ)). record slirp { pending = p }) no_packet
      ∙ sym (ap (λ o. after_packet config slirp (packet_of config slirp.moment at o) o slirp.fragments) none)) in
      subst (λ (t : Step). HoldsAt config (standing count wants items) t slirp (flowing false slirp.flows) new (made ++ past)) (ap (λ p. asked_by config slirp (errand_by_packet config p)) packet_is) h

  -- the run has ended
  pub read_ended : (why : Ending) → ending_of answer ≡ Some why → hands answer new ≡ None
      → Ended config count why slirp.forwards (holders_of slirp) (made ++ past) × (next_number (made ++ past) ≡ slirp.number)
  read_ended why is none = read_ends_it config count wants item items reads_it slirp slirp.flows old new answer no_packet out made past allowed read holds why is none
