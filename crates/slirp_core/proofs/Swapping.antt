-- What the core owes, its files and its flows change, and all else that holds stays.
use Rattle.std.proofs.Common.{◌≡◌, ℕ, List, []}
use Rattle.world_face.specs.Journal.{Entry}
use Rattle.slirp_settings.specs.Addresses.{Config}
use Rattle.rules_tftp.specs.Transfers.{Transfer}
use Rattle.spec_run.specs.Datagrams.{NeedsNothing}
use Rattle.stream_netdev.specs.State.{LinkState}
use Rattle.tcp_flows.specs.Kept.{Kept}
use Rattle.slirp_core.specs.Holds.{Begins, Flowing, Holds, OfAnswers, Standing, Stands, Turns}
use Rattle.slirp_core.specs.State.{SlirpState}

abbrev pub swapped : SlirpState → List (List ℕ) → List Transfer → Kept → SlirpState
swapped slirp pending transfers kept = record slirp { pending = pending; transfers = transfers; flows = kept }

pub holds_swapped : (config : Config) (at : Standing) (slirp : SlirpState) (pending : List (List ℕ)) (transfers : List Transfer) (kept : Kept) (f : Flowing) (link : LinkState) (past : List Entry)
    → Holds config at slirp f link past → OfAnswers config NeedsNothing f.aged (swapped slirp pending transfers kept) past
    → (slirp.pending ≡ [] → slirp.transfers ≡ [] → pending ≡ []) → (slirp.transfers ≡ [] → transfers ≡ []) → Holds config at (swapped slirp pending transfers kept) f link past
holds_swapped config at slirp pending transfers kept f link past holds answers nothing unserved = record {
  lawful = holds.lawful;
  allowed = holds.allowed;
  keeps = holds.keeps;
  answers = answers;
  guests = record {
    settings = holds.guests.settings;
    known = holds.guests.known;
    fragments = record {
      held = holds.guests.fragments.held;
      is_held = holds.guests.fragments.is_held;
      wait = holds.guests.fragments.wait;
    };
  };
  relayed = record { list = holds.relayed.list; questions = holds.relayed.questions; asks = holds.relayed.asks; heard = holds.relayed.heard };
  services = record { leases = holds.services.leases; quest = holds.services.quest };
  forwards = holds.forwards;
  flows = holds.flows;
  sockets = holds.sockets;
  clock = record { moment = holds.clock.moment; counted = holds.clock.counted };
  stands = stands holds.stands;
  agenda = holds.agenda;
  open_yet = holds.open_yet;
}
  where
    stands : Stands config NeedsNothing slirp f.kept link past → Stands config NeedsNothing (swapped slirp pending transfers kept) f.kept link past
    stands (Turns turn) = Turns turn
    stands (Begins u free unrested) = Begins (record {
      started = u.started;
      unwaited = u.unwaited;
      unreported = u.unreported;
      unasked = u.unasked;
      alone = u.alone;
      unnamed = u.unnamed;
      nothing = nothing u.nothing u.unserved;
      unserved = unserved u.unserved;
      empty = u.empty;
    }) free unrested
