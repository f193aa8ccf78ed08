-- Options give one settings, and words one meaning.
use Rattle.std.proofs.Common.{◌≡◌, ℕ, ◌+◌, ◌%◌, ◌^◌, Bool, List, [], ◌∷◌, ◌++◌, codes, decimal, Option, Some, None, MatchOption, refl, sym, ◌∙◌, ap, subst, arith}
use Rattle.std.proofs.lemmas.Fmt.{decimal_injective}
use Rattle.net_octets.specs.declared.Endpoint.{Endpoint}
use Rattle.slirp_settings.specs.Addresses.{Config}
use Rattle.slirp_settings.specs.Settings.{usual}
use Rattle.slirp_settings.specs.Ranges.{mask_of}
use Rattle.slirp_settings.specs.declared.Denial.{Denial}
use Rattle.slirp_settings.specs.declared.Forward.{Forward}
use Rattle.slirp_settings.specs.declared.GuestFwd.{GuestFwd}
use Rattle.world_face.specs.Journal.{Place, AtPath, AtEndpoint}
use Rattle.command_words.specs.declared.Tap.{Tap}
use Rattle.command_words.specs.declared.Tap.TheVariants.{Off, Record, Capture}
use Rattle.command_words.specs.declared.options.Verb.TheVariants.{Replay, Serve}
use Rattle.command_words.specs.Meaning.{AreSettings, IsTap, MeansReplay, MeansServe, is_capture, is_record, version_of}
use Rattle.command_words.specs.Options.{Word, repeated, single, value_in}
use Rattle.address_text.specs.Rules.{AreForwards, AreGuestForwards, guest_words, host_words}
use Rattle.address_text.specs.Texts.{IsNumber, IsAddress, IsEndpointText, endpoint_text, is_other}
use Rattle.address_text.proofs.Parting.{parts_once, digit_is_no_slash}
use Rattle.address_text.proofs.Addresses.{address, address_form, address_fits, same_address, same_endpoint}
use Rattle.command_words.proofs.Networks.{network_form}
use Rattle.command_words.specs.Texts.{AreDenials, IsNetwork, IsLink}
use Rattle.command_words.specs.Walking.{Walk}
use Rattle.command_words.proofs.Denying.{same_denials}
use Rattle.command_words.proofs.Guested.{same_guests}
use Rattle.command_words.proofs.Meant.{IsLinkAt, one_walk, replay_meant, serve_meant}
use Rattle.command_words.proofs.Ruled.{same_forwards}
use Rattle.command_words.proofs.Settled.{made}

-- one value, or one default
one_of : (o : Option Word) (u v : ℕ) (P : Word → ℕ → Type 0) → u ≡ v → ((text : Word) (n m : ℕ) → P text n → P text m → n ≡ m) → (n m : ℕ) → MatchOption o (n ≡ u)
    (λ text. P text n) → MatchOption o (m ≡ v) (λ text. P text m) → n ≡ m
one_of None u v P e same n m hn hm = hn ∙ e ∙ sym hm
one_of (Some text) u v P e same n m hn hm = same text n m hn hm

same_short : (text : Word) (n m : ℕ) → IsNumber 16 text n → IsNumber 16 text m → n ≡ m
same_short text n m hn hm = decimal_injective n m (omega (arith, hn.1)) (omega (arith, hm.1)) (sym hn.0 ∙ hm.0)

same_long : (text : Word) (n m : ℕ) → IsNumber 64 text n → IsNumber 64 text m → n ≡ m
same_long text n m hn hm = decimal_injective n m hn.1 hm.1 (sym hn.0 ∙ hm.0)

same_at : (text : Word) (n m : ℕ) → IsAddress text n → IsAddress text m → n ≡ m
same_at text n m hn hm = same_address n m hn.1 hm.1 (sym hn.0 ∙ hm.0)

same_to : (text : Word) (e f : Endpoint) → IsEndpointText text e → IsEndpointText text f → e ≡ f
same_to text e f he hf = same_endpoint e f he.1 hf.1 (sym he.0 ∙ hf.0)

-- one value, or none
one_if_any : {X : Type 0} (o : Option Word) (P : Word → X → Type 0) → ((text : Word) (x y : X) → P text x → P text y → x ≡ y) → (a b : Option X)
    → MatchOption o (a ≡ None) (λ text. (x : X) × (a ≡ Some x) × P text x) → MatchOption o (b ≡ None) (λ text. (x : X) × (b ≡ Some x) × P text x) → a ≡ b
one_if_any None P same a b ha hb = ha ∙ sym hb
one_if_any (Some text) P same a b ha hb = ha.1 ∙ ap Some (same text ha.0 hb.0 ha.2 hb.2) ∙ sym hb.1

same_network : (text : Word) (n m k l : ℕ) → IsNetwork text n m → IsNetwork text k l → (n ≡ k) × (m ≡ l)
same_network text n m k l h g =
    let p = parts_once 47 (is_other 47) refl (address n) (address k) (decimal h.0) (decimal g.0) (address_fits (is_other 47) digit_is_no_slash refl n h.2)
    (address_fits (is_other 47) digit_is_no_slash refl k g.2) (sym (network_form n h.0) ∙ sym h.1 ∙ g.1 ∙ network_form k g.0) in
    let ones : h.0 ≡ g.0 = decimal_injective h.0 g.0 (omega (arith, h.3)) (omega (arith, g.3)) p.1 in
    (same_address n k h.2 g.2 (address_form n ∙ p.0 ∙ sym (address_form k)), h.4 ∙ ap mask_of ones ∙ sym g.4)

one_network : (o : Option Word) (u v n m k l : ℕ) → MatchOption o ((n ≡ u) × (m ≡ v)) (λ text. IsNetwork text n m) → MatchOption o ((k ≡ u) × (l ≡ v)) (λ text. IsNetwork text k l) → (n ≡ k) × (m ≡ l)
one_network None u v n m k l h g = (h.0 ∙ sym g.0, h.1 ∙ sym g.1)
one_network (Some text) u v n m k l h g = same_network text n m k l h g

pub one_start : (given : Word → Option Word) (c d : Config) → AreSettings given c → AreSettings given d → c.dhcp_start ≡ d.dhcp_start
one_start given c d h g =
    let net = one_network (given (codes "--net")) usual.network usual.mask c.network c.mask d.network d.mask h.net g.net in
    one_of (given (codes "--dhcpstart")) ((c.network + 15) % 2 ^ 32) ((d.network + 15) % 2 ^ 32) IsAddress
    (ap (λ (n : ℕ). (n + 15) % 2 ^ 32) net.0) same_at c.dhcp_start d.dhcp_start h.dhcp_start g.dhcp_start

pub one_settings : (given : Word → Option Word) (rules guests denials : List Word) (c d : Config) → AreSettings given c → AreSettings given d
    → AreForwards rules c.dhcp_start c.forwards → AreForwards rules d.dhcp_start d.forwards
    → AreGuestForwards guests c.guest_forwards → AreGuestForwards guests d.guest_forwards → AreDenials denials c.denied → AreDenials denials d.denied → c ≡ d
one_settings given rules guests denials c d h g hf gf hg gg hd gd =
    let net = one_network (given (codes "--net")) usual.network usual.mask c.network c.mask d.network d.mask h.net g.net in
    let network : c.network ≡ d.network = net.0 in
    let mask : c.mask ≡ d.mask = net.1 in
    let vhost : c.vhost ≡ d.vhost = one_of (given (codes "--host")) ((c.network + 2) % 2 ^ 32) ((d.network + 2) % 2 ^ 32) IsAddress
    (ap (λ (n : ℕ). (n + 2) % 2 ^ 32) net.0) same_at c.vhost d.vhost h.host g.host in
    let vnameserver : c.vnameserver ≡ d.vnameserver = one_of (given (codes "--dns")) ((c.network + 3) % 2 ^ 32) ((d.network + 3) % 2 ^ 32) IsAddress
    (ap (λ (n : ℕ). (n + 3) % 2 ^ 32) net.0) same_at c.vnameserver d.vnameserver h.dns g.dns in
    let dhcp_start : c.dhcp_start ≡ d.dhcp_start = one_start given c d h g in
    let restricted : c.restricted ≡ d.restricted = h.restricted ∙ sym g.restricted in
    let no_loopback : c.no_loopback ≡ d.no_loopback = h.no_loopback ∙ sym g.no_loopback in
    let hostname : c.hostname ≡ d.hostname = h.hostname ∙ sym g.hostname in
    let domainname : c.domainname ≡ d.domainname = h.domainname ∙ sym g.domainname in
    let tftp_server_name : c.tftp_server_name ≡ d.tftp_server_name = h.tftp_server_name ∙ sym g.tftp_server_name in
    let bootfile : c.bootfile ≡ d.bootfile = h.bootfile ∙ sym g.bootfile in
    let tftp_path : c.tftp_path ≡ d.tftp_path = h.tftp_path ∙ sym g.tftp_path in
    let mtu : c.mtu ≡ d.mtu = one_of (given (codes "--mtu")) usual.mtu usual.mtu (IsNumber 16) refl same_short c.mtu d.mtu h.mtu g.mtu in
    let mru : c.mru ≡ d.mru = one_of (given (codes "--mru")) usual.mru usual.mru (IsNumber 16) refl same_short c.mru d.mru h.mru g.mru in
    let flows : c.flows ≡ d.flows = one_of (given (codes "--flows")) usual.flows usual.flows (IsNumber 64) refl same_long c.flows d.flows h.flows g.flows in
    let ring : c.ring ≡ d.ring = one_of (given (codes "--ring")) usual.ring usual.ring (IsNumber 64) refl same_long c.ring d.ring h.ring g.ring in
    let resolver : c.resolver ≡ d.resolver = one_if_any (given (codes "--resolver")) IsEndpointText same_to c.resolver d.resolver h.resolver g.resolver in
    let turns : c.turns ≡ d.turns = one_of (given (codes "--turns")) usual.turns usual.turns (IsNumber 64) refl same_long c.turns d.turns h.turns g.turns in
    let outbound : c.outbound ≡ d.outbound = one_if_any (given (codes "--outbound")) IsAddress same_at c.outbound d.outbound h.outbound g.outbound in
    let control : c.control ≡ d.control = one_if_any (given (codes "--control")) IsEndpointText same_to c.control d.control h.control g.control in
    let no_dns : c.no_dns ≡ d.no_dns = h.no_dns ∙ sym g.no_dns in
    let no_dhcp : c.no_dhcp ≡ d.no_dhcp = h.no_dhcp ∙ sym g.no_dhcp in
    let congestion : c.congestion ≡ d.congestion = h.congestion ∙ sym g.congestion in
    let denied : c.denied ≡ d.denied = same_denials denials c.denied d.denied hd gd in
    let led : c.guest_forwards ≡ d.guest_forwards = same_guests guests c.guest_forwards d.guest_forwards hg gg in
    let version : c.version ≡ d.version = h.version ∙ ap (λ (gs : List GuestFwd). version_of given gs c.denied) led ∙ ap (version_of given d.guest_forwards) denied ∙ sym g.version in
    let forwards : c.forwards ≡ d.forwards = same_forwards rules d.dhcp_start c.forwards d.forwards (subst (λ (n : ℕ). AreForwards rules n c.forwards) dhcp_start hf) gf in
    h.rest
    ∙ ap (λ (x : ℕ). made usual x c.mask c.vhost c.vnameserver c.dhcp_start c.restricted c.no_loopback c.hostname c.domainname c.tftp_server_name c.bootfile c.tftp_path c.mtu c.mru
    c.flows c.ring c.resolver c.turns c.outbound c.control c.no_dns c.no_dhcp c.congestion c.version c.forwards c.guest_forwards c.denied) network
    ∙ ap (λ (x : ℕ). made usual d.network x c.vhost c.vnameserver c.dhcp_start c.restricted c.no_loopback c.hostname c.domainname c.tftp_server_name c.bootfile c.tftp_path c.mtu
    c.mru c.flows c.ring c.resolver c.turns c.outbound c.control c.no_dns c.no_dhcp c.congestion c.version c.forwards c.guest_forwards c.denied) mask
    ∙ ap (λ (x : ℕ). made usual d.network d.mask x c.vnameserver c.dhcp_start c.restricted c.no_loopback c.hostname c.domainname c.tftp_server_name c.bootfile c.tftp_path c.mtu
    c.mru c.flows c.ring c.resolver c.turns c.outbound c.control c.no_dns c.no_dhcp c.congestion c.version c.forwards c.guest_forwards c.denied) vhost
    ∙ ap (λ (x : ℕ). made usual d.network d.mask d.vhost x c.dhcp_start c.restricted c.no_loopback c.hostname c.domainname c.tftp_server_name c.bootfile c.tftp_path c.mtu c.mru
    c.flows c.ring c.resolver c.turns c.outbound c.control c.no_dns c.no_dhcp c.congestion c.version c.forwards c.guest_forwards c.denied) vnameserver
    ∙ ap (λ (x : ℕ). made usual d.network d.mask d.vhost d.vnameserver x c.restricted c.no_loopback c.hostname c.domainname c.tftp_server_name c.bootfile c.tftp_path c.mtu c.mru
    c.flows c.ring c.resolver c.turns c.outbound c.control c.no_dns c.no_dhcp c.congestion c.version c.forwards c.guest_forwards c.denied) dhcp_start
    ∙ ap (λ (x : Bool). made usual d.network d.mask d.vhost d.vnameserver d.dhcp_start x c.no_loopback c.hostname c.domainname c.tftp_server_name c.bootfile c.tftp_path c.mtu c.mru
    c.flows c.ring c.resolver c.turns c.outbound c.control c.no_dns c.no_dhcp c.congestion c.version c.forwards c.guest_forwards c.denied) restricted
    ∙ ap (λ (x : Bool). made usual d.network d.mask d.vhost d.vnameserver d.dhcp_start d.restricted x c.hostname c.domainname c.tftp_server_name c.bootfile c.tftp_path c.mtu c.mru
    c.flows c.ring c.resolver c.turns c.outbound c.control c.no_dns c.no_dhcp c.congestion c.version c.forwards c.guest_forwards c.denied) no_loopback
    ∙ ap (λ (x : List ℕ). made usual d.network d.mask d.vhost d.vnameserver d.dhcp_start d.restricted d.no_loopback x c.domainname c.tftp_server_name c.bootfile c.tftp_path c.mtu
    c.mru c.flows c.ring c.resolver c.turns c.outbound c.control c.no_dns c.no_dhcp c.congestion c.version c.forwards c.guest_forwards c.denied) hostname
    ∙ ap (λ (x : List ℕ). made usual d.network d.mask d.vhost d.vnameserver d.dhcp_start d.restricted d.no_loopback d.hostname x c.tftp_server_name c.bootfile c.tftp_path c.mtu
    c.mru c.flows c.ring c.resolver c.turns c.outbound c.control c.no_dns c.no_dhcp c.congestion c.version c.forwards c.guest_forwards c.denied) domainname
    ∙ ap (λ (x : List ℕ). made usual d.network d.mask d.vhost d.vnameserver d.dhcp_start d.restricted d.no_loopback d.hostname d.domainname x c.bootfile c.tftp_path c.mtu c.mru
    c.flows c.ring c.resolver c.turns c.outbound c.control c.no_dns c.no_dhcp c.congestion c.version c.forwards c.guest_forwards c.denied) tftp_server_name
    ∙ ap (λ (x : List ℕ). made usual d.network d.mask d.vhost d.vnameserver d.dhcp_start d.restricted d.no_loopback d.hostname d.domainname d.tftp_server_name x c.tftp_path c.mtu
    c.mru c.flows c.ring c.resolver c.turns c.outbound c.control c.no_dns c.no_dhcp c.congestion c.version c.forwards c.guest_forwards c.denied) bootfile
    ∙ ap (λ (x : Option (List ℕ)). made usual d.network d.mask d.vhost d.vnameserver d.dhcp_start d.restricted d.no_loopback d.hostname d.domainname d.tftp_server_name d.bootfile x
    c.mtu c.mru c.flows c.ring c.resolver c.turns c.outbound c.control c.no_dns c.no_dhcp c.congestion c.version c.forwards c.guest_forwards c.denied) tftp_path
    ∙ ap (λ (x : ℕ). made usual d.network d.mask d.vhost d.vnameserver d.dhcp_start d.restricted d.no_loopback d.hostname d.domainname d.tftp_server_name d.bootfile d.tftp_path x
    c.mru c.flows c.ring c.resolver c.turns c.outbound c.control c.no_dns c.no_dhcp c.congestion c.version c.forwards c.guest_forwards c.denied) mtu
    ∙ ap (λ (x : ℕ). made usual d.network d.mask d.vhost d.vnameserver d.dhcp_start d.restricted d.no_loopback d.hostname d.domainname d.tftp_server_name d.bootfile d.tftp_path
    d.mtu x c.flows c.ring c.resolver c.turns c.outbound c.control c.no_dns c.no_dhcp c.congestion c.version c.forwards c.guest_forwards c.denied) mru
    ∙ ap (λ (x : ℕ). made usual d.network d.mask d.vhost d.vnameserver d.dhcp_start d.restricted d.no_loopback d.hostname d.domainname d.tftp_server_name d.bootfile d.tftp_path
    d.mtu d.mru x c.ring c.resolver c.turns c.outbound c.control c.no_dns c.no_dhcp c.congestion c.version c.forwards c.guest_forwards c.denied) flows
    ∙ ap (λ (x : ℕ). made usual d.network d.mask d.vhost d.vnameserver d.dhcp_start d.restricted d.no_loopback d.hostname d.domainname d.tftp_server_name d.bootfile d.tftp_path
    d.mtu d.mru d.flows x c.resolver c.turns c.outbound c.control c.no_dns c.no_dhcp c.congestion c.version c.forwards c.guest_forwards c.denied) ring
    ∙ ap (λ (x : Option Endpoint). made usual d.network d.mask d.vhost d.vnameserver d.dhcp_start d.restricted d.no_loopback d.hostname d.domainname d.tftp_server_name d.bootfile
    d.tftp_path d.mtu d.mru d.flows d.ring x c.turns c.outbound c.control c.no_dns c.no_dhcp c.congestion c.version c.forwards c.guest_forwards c.denied) resolver
    ∙ ap (λ (x : ℕ). made usual d.network d.mask d.vhost d.vnameserver d.dhcp_start d.restricted d.no_loopback d.hostname d.domainname d.tftp_server_name d.bootfile d.tftp_path
    d.mtu d.mru d.flows d.ring d.resolver x c.outbound c.control c.no_dns c.no_dhcp c.congestion c.version c.forwards c.guest_forwards c.denied) turns
    ∙ ap (λ (x : Option ℕ). made usual d.network d.mask d.vhost d.vnameserver d.dhcp_start d.restricted d.no_loopback d.hostname d.domainname d.tftp_server_name d.bootfile
    d.tftp_path d.mtu d.mru d.flows d.ring d.resolver d.turns x c.control c.no_dns c.no_dhcp c.congestion c.version c.forwards c.guest_forwards c.denied) outbound
    ∙ ap (λ (x : Option Endpoint). made usual d.network d.mask d.vhost d.vnameserver d.dhcp_start d.restricted d.no_loopback d.hostname d.domainname d.tftp_server_name d.bootfile
    d.tftp_path d.mtu d.mru d.flows d.ring d.resolver d.turns d.outbound x c.no_dns c.no_dhcp c.congestion c.version c.forwards c.guest_forwards c.denied) control
    ∙ ap (λ (x : Bool). made usual d.network d.mask d.vhost d.vnameserver d.dhcp_start d.restricted d.no_loopback d.hostname d.domainname d.tftp_server_name d.bootfile d.tftp_path
    d.mtu d.mru d.flows d.ring d.resolver d.turns d.outbound d.control x c.no_dhcp c.congestion c.version c.forwards c.guest_forwards c.denied) no_dns
    ∙ ap (λ (x : Bool). made usual d.network d.mask d.vhost d.vnameserver d.dhcp_start d.restricted d.no_loopback d.hostname d.domainname d.tftp_server_name d.bootfile d.tftp_path
    d.mtu d.mru d.flows d.ring d.resolver d.turns d.outbound d.control d.no_dns x c.congestion c.version c.forwards c.guest_forwards c.denied) no_dhcp
    ∙ ap (λ (x : Bool). made usual d.network d.mask d.vhost d.vnameserver d.dhcp_start d.restricted d.no_loopback d.hostname d.domainname d.tftp_server_name d.bootfile d.tftp_path
    d.mtu d.mru d.flows d.ring d.resolver d.turns d.outbound d.control d.no_dns d.no_dhcp x c.version c.forwards c.guest_forwards c.denied) congestion
    ∙ ap (λ (x : ℕ). made usual d.network d.mask d.vhost d.vnameserver d.dhcp_start d.restricted d.no_loopback d.hostname d.domainname d.tftp_server_name d.bootfile d.tftp_path
    d.mtu d.mru d.flows d.ring d.resolver d.turns d.outbound d.control d.no_dns d.no_dhcp d.congestion x c.forwards c.guest_forwards c.denied) version
    ∙ ap (λ (x : List Forward). made usual d.network d.mask d.vhost d.vnameserver d.dhcp_start d.restricted d.no_loopback d.hostname d.domainname d.tftp_server_name d.bootfile
    d.tftp_path d.mtu d.mru d.flows d.ring d.resolver d.turns d.outbound d.control d.no_dns d.no_dhcp d.congestion d.version x c.guest_forwards c.denied) forwards
    ∙ ap (λ (x : List GuestFwd). made usual d.network d.mask d.vhost d.vnameserver d.dhcp_start d.restricted d.no_loopback d.hostname d.domainname d.tftp_server_name d.bootfile
    d.tftp_path d.mtu d.mru d.flows d.ring d.resolver d.turns d.outbound d.control d.no_dns d.no_dhcp d.congestion d.version d.forwards x c.denied) led
    ∙ ap (λ (x : List Denial). made usual d.network d.mask d.vhost d.vnameserver d.dhcp_start d.restricted d.no_loopback d.hostname d.domainname d.tftp_server_name d.bootfile
    d.tftp_path d.mtu d.mru d.flows d.ring d.resolver d.turns d.outbound d.control d.no_dns d.no_dhcp d.congestion d.version d.forwards d.guest_forwards x) denied
    ∙ sym g.rest

-- the link is at one place
first : List ℕ → ℕ
first [] = 0
first (x ∷ xs) = x

one_place : (text : Word) (p q : Place) → IsLink text p → IsLink text q → p ≡ q
unfolding first
one_place text (AtPath path) (AtPath name) h g = let same : path ≡ name = (let encoded : codes "unix:" ++ path ≡ codes "unix:" ++ name = sym h.0 ∙ g.0 in cc) in ap AtPath same
one_place text (AtEndpoint at) (AtEndpoint to) h g =
    let encoded : codes "tcp:" ++ endpoint_text at ≡ codes "tcp:" ++ endpoint_text to = sym h.0 ∙ g.0 in
    let tail : endpoint_text at ≡ endpoint_text to = cc in
    ap AtEndpoint (same_endpoint at to h.1 g.1 tail)
one_place text (AtPath path) (AtEndpoint at) h g = absurd (omega (arith, ap first (sym h.0 ∙ g.0)))
one_place text (AtEndpoint at) (AtPath path) h g = absurd (omega (arith, ap first (sym h.0 ∙ g.0)))

one_link : (o : Option Word) (p q : Place) → IsLinkAt o p → IsLinkAt o q → p ≡ q
one_link None p q h g = absurd h
one_link (Some text) p q h g = one_place text p q h g

pub tail_of : (f e : Word) (r q : List Word) → ◌≡◌ {A = List Word} (f ∷ r) (e ∷ q) → (f ≡ e) × (r ≡ q)
tail_of f e r q is = (cc, cc)

-- words behind a command mean one thing
pub one_replay : (words : List Word) (f e : Word) (c d : Config) → MeansReplay words f c → MeansReplay words e d → (f ≡ e) × (c ≡ d)
one_replay words f e c d h g =
    let a = replay_meant words f c h in
    let b = replay_meant words e d g in
    let walk : a.walk ≡ b.walk = one_walk Replay words a.walk b.walk a.read b.read in
    let alone = tail_of f e a.rules b.rules (sym a.alone ∙ ap (λ (w : Walk). w.alone) walk ∙ b.alone) in
    let set = subst (λ (w : Walk). AreSettings (value_in (single w.options)) c) walk a.settings in
    let given = subst (λ (r : List Word). AreForwards (host_words r) c.dhcp_start c.forwards) alone.1 a.forwards in
    let led = subst (λ (r : List Word). AreGuestForwards (guest_words r) c.guest_forwards) alone.1 a.guests in
    let denied = subst (λ (w : Walk). AreDenials (repeated w.options) c.denied) walk a.denied in
    (alone.0, one_settings (value_in (single b.walk.options)) (host_words b.rules) (guest_words b.rules) (repeated b.walk.options) c d set b.settings given b.forwards led b.guests denied b.denied)

-- of two flags at most one stands, and each says one thing
same_tap : (s t : Tap) → is_record s ≡ is_record t → is_capture s ≡ is_capture t → s ≡ t
same_tap Off Off r c = refl
same_tap Off Record r c = absurd (cc r)
same_tap Off Capture r c = absurd (cc c)
same_tap Record Off r c = absurd (cc r)
same_tap Record Record r c = refl
same_tap Record Capture r c = absurd (cc r)
same_tap Capture Off r c = absurd (cc c)
same_tap Capture Record r c = absurd (cc r)
same_tap Capture Capture r c = refl

one_tap : (given : Word → Option Word) (s t : Tap) → IsTap given s → IsTap given t → s ≡ t
one_tap given s t h g = same_tap s t (sym h.0 ∙ g.0) (sym h.1 ∙ g.1)

pub one_serve : (words : List Word) (c d : Config) (p q : Place) (s t : Tap) → MeansServe words c p s → MeansServe words d q t → (c ≡ d) × (p ≡ q) × (s ≡ t)
one_serve words c d p q s t h g =
    let a = serve_meant words c p s h in
    let b = serve_meant words d q t g in
    let walk : a.walk ≡ b.walk = one_walk Serve words a.walk b.walk a.read b.read in
    let set = subst (λ (w : Walk). AreSettings (value_in (single w.options)) c) walk a.settings in
    let given = subst (λ (w : Walk). AreForwards (host_words w.alone) c.dhcp_start c.forwards) walk a.forwards in
    let led = subst (λ (w : Walk). AreGuestForwards (guest_words w.alone) c.guest_forwards) walk a.guests in
    let denied = subst (λ (w : Walk). AreDenials (repeated w.options) c.denied) walk a.denied in (
      one_settings (value_in (single b.walk.options)) (host_words b.walk.alone) (guest_words b.walk.alone) (repeated b.walk.options) c d set b.settings given b.forwards led b.guests denied b.denied,
      one_link (value_in (single b.walk.options) (codes "--link")) p q (subst (λ (w : Walk). IsLinkAt (value_in (single w.options) (codes "--link")) p) walk a.link) b.link,
      one_tap (value_in (single b.walk.options)) s t (subst (λ (w : Walk). IsTap (value_in (single w.options)) s) walk a.taps) b.taps,
    )
