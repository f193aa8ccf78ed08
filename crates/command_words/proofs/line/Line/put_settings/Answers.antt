use Rattle.std.proofs.Common.{◌≡◌, ℕ, ◌+◌, ◌%◌, ◌^◌, List, Option, codes, refl, ◌∙◌, ap}
use Rattle.std.proofs.lemmas.Result.{err_from_is_err_and}
use Rattle.std.specs.Option.{option_map}
use Rattle.slirp_settings.specs.Addresses.{Config}
use Rattle.slirp_settings.specs.declared.Denial.{Denial}
use Rattle.slirp_settings.specs.declared.GuestFwd.{GuestFwd}
use Rattle.command_words.specs.Meaning.{version_of}
use Rattle.command_words.proofs.Denying.{held_version}
use Rattle.slirp_settings.specs.Settings.{usual}
use Rattle.command_words.specs.Narrowing.{held_denials, held_guests, narrowed}
use Rattle.command_words.specs.Walking.{walk_of}
use Rattle.command_words.specs.Options.{Word, value_in}
use Rattle.address_text.specs.Texts.{IsNumber}
use Rattle.command_words.specs.Texts.{IsNetwork}
use Rattle.command_words.proofs.Finding.{match_default}
use Rattle.command_words.proofs.Settled.{made}
use Rattle.command_words.proofs.line.Line.put_settings.Goals as goal

pub returns-in_err-network-clause-refused : goal.returns-in_err-network-clause-refused
returns-in_err-network-clause-refused c = let p = err_from_is_err_and c.from_residual.result c.from_residual.ensures.1 in rw (p.1)
    (λ config are. c.in_err-network.ensures.refused config.network config.mask usual.network usual.mask are.net)

pub returns-in_err-config-clause-refused : goal.returns-in_err-config-clause-refused
returns-in_err-config-clause-refused c = let p = err_from_is_err_and c.from_residual-in_err-config.result c.from_residual-in_err-config.ensures.1 in rw (p.1)
    (λ config are. c.in_err-config.ensures.refused ((config.network + 2) % 2 ^ 32) config.vhost are.host)

pub returns-in_err-config-2-clause-refused : goal.returns-in_err-config-2-clause-refused
returns-in_err-config-2-clause-refused c = let p = err_from_is_err_and c.from_residual-in_err-config-2.result c.from_residual-in_err-config-2.ensures.1 in rw (p.1)
    (λ config are. c.in_err-config-2.ensures.refused ((config.network + 3) % 2 ^ 32) config.vnameserver are.dns)

pub returns-in_err-config-3-clause-refused : goal.returns-in_err-config-3-clause-refused
returns-in_err-config-3-clause-refused c = let p = err_from_is_err_and c.from_residual-in_err-config-3.result c.from_residual-in_err-config-3.ensures.1 in rw (p.1)
    (λ config are. c.in_err-config-3.ensures.refused ((config.network + 15) % 2 ^ 32) config.dhcp_start are.dhcp_start)

pub returns-in_err-config-4-clause-refused : goal.returns-in_err-config-4-clause-refused
returns-in_err-config-4-clause-refused c = let p = err_from_is_err_and c.from_residual-in_err-config-4.result c.from_residual-in_err-config-4.ensures.1 in rw (p.1)
    (λ config are. c.in_err-config-4.ensures.refused config.mtu usual.mtu are.mtu)

pub returns-in_err-config-5-clause-refused : goal.returns-in_err-config-5-clause-refused
returns-in_err-config-5-clause-refused c = let p = err_from_is_err_and c.from_residual-in_err-config-5.result c.from_residual-in_err-config-5.ensures.1 in rw (p.1)
    (λ config are. c.in_err-config-5.ensures.refused config.mru usual.mru are.mru)

pub returns-in_err-number-clause-refused : goal.returns-in_err-number-clause-refused
returns-in_err-number-clause-refused c = let p = err_from_is_err_and c.from_residual-in_err-number.result c.from_residual-in_err-number.ensures.1 in rw (p.1)
    (λ config are. c.in_err-number.ensures.refused config.flows usual.flows are.flows)

pub returns-in_err-number-2-clause-refused : goal.returns-in_err-number-2-clause-refused
returns-in_err-number-2-clause-refused c = let p = err_from_is_err_and c.from_residual-in_err-number-2.result c.from_residual-in_err-number-2.ensures.1 in rw (p.1)
    (λ config are. c.in_err-number-2.ensures.refused config.ring usual.ring are.ring)

pub returns-in_err-config-6-clause-refused : goal.returns-in_err-config-6-clause-refused
returns-in_err-config-6-clause-refused c = let p = err_from_is_err_and c.from_residual-in_err-config-6.result c.from_residual-in_err-config-6.ensures.1 in rw (p.1)
    (λ config are. c.in_err-config-6.ensures.refused config.resolver are.resolver)

pub returns-in_err-config-7-clause-refused : goal.returns-in_err-config-7-clause-refused
returns-in_err-config-7-clause-refused c = let p = err_from_is_err_and c.from_residual-in_err-config-7.result c.from_residual-in_err-config-7.ensures.1 in rw (p.1)
    (λ config are. c.in_err-config-7.ensures.refused config.turns usual.turns are.turns)

pub returns-in_err-config-8-clause-refused : goal.returns-in_err-config-8-clause-refused
returns-in_err-config-8-clause-refused c = let p = err_from_is_err_and c.from_residual-in_err-config-8.result c.from_residual-in_err-config-8.ensures.1 in rw (p.1)
    (λ config are. c.in_err-config-8.ensures.refused config.outbound are.outbound)

pub returns-in_err-config-9-clause-refused : goal.returns-in_err-config-9-clause-refused
returns-in_err-config-9-clause-refused c = let p = err_from_is_err_and c.from_residual-in_err-config-9.result c.from_residual-in_err-config-9.ensures.1 in rw (p.1)
    (λ config are. c.in_err-config-9.ensures.refused config.control are.control)

pub returns-clause-set : goal.returns-clause-set
returns-clause-set c = λ guests all led held.
    let is = c.requires ∙ ap (λ (g : List GuestFwd). record usual { guest_forwards = g; denied = c.args.config.now.denied.items }) led
    ∙ ap (λ (ds : List Denial). record usual { guest_forwards = held_guests guests; denied = ds }) held in
    let given : Word → Option Word = value_in (walk_of c.args.self.now).options in
    let network = c.in_ok-network.network.0 in
    let mask = c.in_ok-network.mask.0 in
    let base = c.args.config.now in
    let mtu = c.in_ok-config-4.field-0 in
    let mru = c.in_ok-config-5.field-0 in
    let flows = c.in_ok-number.field-0 in
    let ring = c.in_ok-number-2.field-0 in
    let resolver = c.in_ok-config-6.field-0 in
    let turns = c.in_ok-config-7.field-0 in
    let outbound = option_map (λ a. a.0) c.in_ok-config-8.field-0 in
    let control = c.in_ok-config-9.field-0 in
    let folder = option_map (λ path. path.bytes) c.folder-config.result in
    let set = λ (u : Config) (f r : ℕ) (g : List GuestFwd) (ds : List Denial). made u network mask c.in_ok-config.field-0.0 c.in_ok-config-2.field-0.0 c.in_ok-config-3.field-0.0
    c.has-config.result c.has-config-2.result
    c.put_text.new.into.items c.put_text-2.new.into.items c.put_text-3.new.into.items c.put_text-4.new.into.items folder mtu mru f r resolver turns outbound control
    c.has-config-3.result c.has-config-4.result c.has-config-5.result c.version-config.result u.forwards g ds in (
      set usual flows ring guests all,
      record {
        net = match_default (given (codes "--net")) ((network ≡ base.vnetwork.0) × (mask ≡ base.vnetmask.0)) ((network ≡ usual.network) × (mask ≡ usual.mask))
            (λ text. IsNetwork text network mask) (λ d. (d.0 ∙ ap (λ (u : Config). u.network) is, d.1 ∙ ap (λ (u : Config). u.mask) is)) c.in_ok-network.ensures.read;
        host = c.in_ok-config.ensures.read;
        dns = c.in_ok-config-2.ensures.read;
        dhcp_start = c.in_ok-config-3.ensures.read;
        restricted = c.has-config.ensures;
        no_loopback = c.has-config-2.ensures;
        hostname = c.put_text.ensures;
        domainname = c.put_text-2.ensures;
        tftp_server_name = c.put_text-3.ensures;
        bootfile = c.put_text-4.ensures;
        tftp_path = c.folder-config.ensures;
        mtu = match_default (given (codes "--mtu")) (mtu ≡ base.if_mtu) (mtu ≡ usual.mtu) (λ text. IsNumber 16 text mtu) (λ d. d ∙ ap (λ (u : Config). u.mtu) is) c.in_ok-config-4.ensures.read;
        mru = match_default (given (codes "--mru")) (mru ≡ base.if_mru) (mru ≡ usual.mru) (λ text. IsNumber 16 text mru) (λ d. d ∙ ap (λ (u : Config). u.mru) is) c.in_ok-config-5.ensures.read;
        flows = match_default (given (codes "--flows")) (flows ≡ base.flows) (flows ≡ usual.flows) (λ text. IsNumber 64 text flows)
            (λ d. d ∙ ap (λ (u : Config). u.flows) is) c.in_ok-number.ensures.read;
        ring = match_default (given (codes "--ring")) (ring ≡ base.ring) (ring ≡ usual.ring) (λ text. IsNumber 64 text ring) (λ d. d ∙ ap (λ (u : Config). u.ring) is) c.in_ok-number-2.ensures.read;
        resolver = c.in_ok-config-6.ensures.read;
        turns = match_default (given (codes "--turns")) (turns ≡ base.turns) (turns ≡ usual.turns) (λ text. IsNumber 64 text turns)
            (λ d. d ∙ ap (λ (u : Config). u.turns) is) c.in_ok-config-7.ensures.read;
        outbound = c.in_ok-config-8.ensures.read;
        control = c.in_ok-config-9.ensures.read;
        no_dns = c.has-config-3.ensures;
        no_dhcp = c.has-config-4.ensures;
        congestion = c.has-config-5.ensures;
        version = c.version-config.ensures ∙ ap (λ (g : List GuestFwd). version_of given g c.as_slice-2.result.now) (c.as_slice.ensures.value ∙ led)
            ∙ ap (λ (ds : List Denial). version_of given (held_guests guests) ds) (c.as_slice-2.ensures.value ∙ held) ∙ held_version given guests all;
        rest = refl;
      },
      refl,
      refl,
      ap (λ (u : Config). set u c.narrow-config.result c.narrow-config-2.result u.guest_forwards u.denied) is ∙ ap (λ (n : ℕ). set usual n c.narrow-config-2.result
          (held_guests guests) (held_denials all)) c.narrow-config.ensures ∙ ap
          (λ (n : ℕ). set usual (narrowed flows) n (held_guests guests) (held_denials all)) c.narrow-config-2.ensures,
    )

pub returns-clause-none : goal.returns-clause-none
returns-clause-none c = ap (λ (u : Config). u.forwards) c.requires
