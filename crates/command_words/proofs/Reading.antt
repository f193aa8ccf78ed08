-- The values of options: those of settings can be had, and those that can be had give settings.
use Rattle.std.proofs.Common.{◌≡◌, ℕ, ◌+◌, ◌%◌, ◌^◌, Bool, true, false, cond, List, [], ◌∷◌, ◌++◌, bytes_eq, codes, Option, Some, None, MatchOption, is_some, find, refl, sym, ◌∙◌, ap}
use Rattle.std.proofs.Common.{subst, append_assoc}
use Rattle.std.specs.Option.{option_map, option_map_or}
use Rattle.net_octets.specs.declared.Endpoint.{Endpoint}
use Rattle.slirp_settings.specs.Addresses.{Config}
use Rattle.slirp_settings.specs.Settings.{usual}
use Rattle.slirp_settings.specs.Ranges.{mask_of, none_twice}
use Rattle.slirp_settings.specs.declared.Denial.{Denial}
use Rattle.slirp_settings.specs.declared.GuestFwd.{GuestFwd}
use Rattle.command_words.specs.declared.options.Kind.{Kind}
use Rattle.command_words.specs.declared.options.Kind.TheVariants.{Short, Number, Address, AddressPort, Network, Link}
use Rattle.command_words.specs.declared.options.Verb.{Verb}
use Rattle.command_words.specs.declared.options.Verb.TheVariants.{Replay, Serve}
use Rattle.command_words.specs.Meaning.{AreSettings, version_of}
use Rattle.command_words.specs.Options.{Word, Row, Given, has_row, is_repeated, is_row, kind_of, repeated, rows, same_name, single, value_in}
use Rattle.command_words.specs.Values.{CanHave}
use Rattle.command_words.specs.Walking.{AreGiven, IsGiven}
use Rattle.address_text.specs.Texts.{IsNumber, IsAddress, IsEndpointText}
use Rattle.command_words.specs.Texts.{AreDenials, IsDenial, IsNetwork, held_folder, held_text}
use Rattle.address_text.proofs.Parting.{both}
use Rattle.command_words.proofs.Denying.{denial_network, network_denial}
use Rattle.command_words.proofs.Few.{fresh_there}
use Rattle.command_words.proofs.Finding.{match_some}
use Rattle.command_words.proofs.Given.{value_there}
use Rattle.command_words.proofs.Names.{same_text}
use Rattle.command_words.proofs.Settled.{made}

pub weaken : {X : Type 0} (o : Option X) (D : Type 0) (P Q : X → Type 0) → ((x : X) → P x → Q x) → MatchOption o D P → MatchOption o (Unit {0}) Q
weaken None D P Q f h = tt
weaken (Some x) D P Q f h = f x h

free : (o : Option Word) → MatchOption o (Unit {0}) (λ value. Unit {0})
free None = tt
free (Some value) = tt

none_read : (o : Option Word) (P : Word → Type 0) → is_some o ≡ false → MatchOption o (Unit {0}) P
none_read None P h = tt
none_read (Some value) P h = absurd (cc h)

-- of each option that the command has the value can be had
module _ (verb : Verb) (given : Word → Option Word) where
  abbrev pub CanRead : List Row → Type 0
  CanRead [] = Unit {0}
  CanRead (row ∷ rs) = (has_row verb row ≡ true → MatchOption (given row.name) (Unit {0}) (CanHave row.kind)) × CanRead rs

  find_read : (rs : List Row) (name : Word) → CanRead rs → MatchOption (option_map (λ row. row.kind) (find (is_row verb name) rs)) (Unit {0})
      (λ kind. MatchOption (given name) (Unit {0}) (CanHave kind))
  find_read [] name reads = tt
  find_read (row ∷ rs) name reads = by_test (find_read rs name reads.1) (is_row verb name row) refl
    where
      by_test : MatchOption (option_map (λ (row : Row). row.kind) (find (is_row verb name) rs)) (Unit {0}) (λ kind. MatchOption (given name) (Unit {0}) (CanHave kind)) →
          (t : Bool) → is_row verb name row ≡ t → MatchOption (option_map (λ (row : Row). row.kind) (cond t (Some row) (find (is_row verb name) rs))) (Unit {0})
          (λ kind. MatchOption (given name) (Unit {0}) (CanHave kind))
      by_test rest true e =
          let parts = both (bytes_eq row.name name) (has_row verb row) e in
          subst (λ (n : Word). MatchOption (given n) (Unit {0}) (CanHave row.kind)) (same_text row.name name parts.0) (reads.0 parts.1)
      by_test rest false e = rest

  pub settings_read : (config : Config) → AreSettings given config → is_some (given (codes "--deny")) ≡ false
      → (has_row verb (record { name = codes "--link"; kind = Link; serve_alone = true }) ≡ true → MatchOption (given (codes "--link")) (Unit {0}) (CanHave Link)) → CanRead rows
  settings_read config are none link = (
    link,
    (
      (λ _. free (given (codes "--record"))),
      (
        (λ _. free (given (codes "--capture"))),
        (
          (λ _. weaken (given (codes "--net")) _ (λ text. IsNetwork text config.network config.mask) (CanHave Network) (λ t h. (config.network, config.mask, h)) are.net),
          (
            (λ _. weaken (given (codes "--host")) _ (λ text. IsAddress text config.vhost) (CanHave Address) (λ t h. (config.vhost, h)) are.host),
            (
              (λ _. weaken (given (codes "--dns")) _ (λ text. IsAddress text config.vnameserver) (CanHave Address) (λ t h. (config.vnameserver, h)) are.dns),
              (
                (λ _. weaken (given (codes "--dhcpstart")) _ (λ text. IsAddress text config.dhcp_start) (CanHave Address) (λ t h. (config.dhcp_start, h)) are.dhcp_start),
                (
                  (λ _. free (given (codes "--restrict"))),
                  (
                    (λ _. free (given (codes "--no-loopback"))),
                    (
                      (λ _. free (given (codes "--hostname"))),
                      (
                        (λ _. free (given (codes "--domainname"))),
                        (
                          (λ _. free (given (codes "--tftp-server-name"))),
                          (
                            (λ _. free (given (codes "--bootfile"))),
                            (
                              (λ _. weaken (given (codes "--mtu")) _ (λ text. IsNumber 16 text config.mtu) (CanHave Short) (λ t h. (config.mtu, h)) are.mtu),
                              (
                                (λ _. weaken (given (codes "--mru")) _ (λ text. IsNumber 16 text config.mru) (CanHave Short) (λ t h. (config.mru, h)) are.mru),
                                (
                                  (λ _. weaken (given (codes "--flows")) _ (λ text. IsNumber 64 text config.flows) (CanHave Number) (λ t h. (config.flows, h)) are.flows),
                                  (
                                    (λ _. weaken (given (codes "--ring")) _ (λ text. IsNumber 64 text config.ring) (CanHave Number) (λ t h. (config.ring, h)) are.ring),
                                    (
                                      (λ _. weaken (given (codes "--turns")) _ (λ text. IsNumber 64 text config.turns) (CanHave Number) (λ t h. (config.turns, h)) are.turns),
                                      (
                                        (λ _. free (given (codes "--congestion"))),
                                        (
                                          (λ _. free (given (codes "--no-dhcp"))),
                                          (
                                            (λ _. weaken (given (codes "--resolver")) _ (λ text. (at : Endpoint) × (config.resolver ≡ Some at) × IsEndpointText text at)
                                                (CanHave AddressPort) (λ t h. (h.0, h.2)) are.resolver),
                                            (
                                              (λ _. free (given (codes "--no-dns"))),
                                              (
                                                (λ _. weaken (given (codes "--outbound")) _ (λ text. (a : ℕ) × (config.outbound ≡ Some a) × IsAddress text a) (CanHave Address)
                                                    (λ t h. (h.0, h.2)) are.outbound),
                                                (
                                                  (λ _. weaken (given (codes "--control")) _ (λ text. (at : Endpoint) × (config.control ≡ Some at) × IsEndpointText text at)
                                                      (CanHave AddressPort) (λ t h. (h.0, h.2)) are.control),
                                                  (
                                                    (λ _. free (given (codes "--tftp"))),
                                                    ((λ _. none_read (given (codes "--deny")) (CanHave Network) none), tt),
                                                  ),
                                                ),
                                              ),
                                            ),
                                          ),
                                        ),
                                      ),
                                    ),
                                  ),
                                ),
                              ),
                            ),
                          ),
                        ),
                      ),
                    ),
                  ),
                ),
              ),
            ),
          ),
        ),
      ),
    ),
  )

-- so each option that is given has such a value
given_read : (verb : Verb) (front o : List Given) → none_twice same_name (front ++ o) ≡ true → CanRead verb (value_in (front ++ o)) rows → AreGiven verb o
given_read verb front [] once reads = tt
given_read verb front (g ∷ rest) once reads =
    let there = value_there front g rest (fresh_there front g rest once) in
    let moved : (front ++ g ∷ []) ++ rest ≡ front ++ g ∷ rest = append_assoc front (g ∷ []) rest in (
      by_kind there (kind_of verb g.name) (find_read verb (value_in (front ++ g ∷ rest)) rows g.name reads),
      given_read verb (front ++ g ∷ []) rest
          (subst (λ (l : List Given). none_twice same_name l ≡ true) (sym moved) once)
          (subst (λ (l : List Given). CanRead verb (value_in l) rows) (sym moved) reads),
    )
  where
    by_kind : value_in (front ++ g ∷ rest) g.name ≡ Some g.value → (k : Option Kind) → MatchOption k (Unit {0}) (λ kind. MatchOption (value_in (front ++ g ∷ rest) g.name)
        (Unit {0}) (CanHave kind)) → MatchOption k (Unit {0}) (λ kind. CanHave kind g.value)
    by_kind there None h = tt
    by_kind there (Some kind) h = match_some (value_in (front ++ g ∷ rest) g.name) g.value (Unit {0}) (CanHave kind) there h

-- those that may stand several times are networks
deny_kind : (verb : Verb) → kind_of verb (codes "--deny") ≡ Some Network
deny_kind Replay = refl
deny_kind Serve = refl

denied_given : (verb : Verb) (g : Given) (d : Denial) → is_repeated g.name ≡ true → IsDenial g.value d → IsGiven verb g
denied_given verb g d is denial =
    let kind : kind_of verb g.name ≡ Some Network = ap (kind_of verb) (same_text g.name (codes "--deny") is) ∙ deny_kind verb in
    let n = denial_network g.value d denial in
    subst (λ (k : Option Kind). MatchOption k (Unit {0}) (λ kind. CanHave kind g.value)) (sym kind) (d.0.net.0, mask_of d.0.length, n)

all_of : (verb : Verb) (o : List Given) (ds : List Denial) → AreGiven verb (single o) → AreDenials (repeated o) ds → AreGiven verb o
all_of verb [] ds are denied = tt
all_of verb (g ∷ rest) ds are denied = by_test (all_of verb rest) (is_repeated g.name) refl ds are denied
  where
    by_test : ((es : List Denial) → AreGiven verb (single rest) → AreDenials (repeated rest) es → AreGiven verb rest) → (t : Bool) → is_repeated g.name ≡ t → (es : List Denial)
        → AreGiven verb (cond t (single rest) (g ∷ single rest)) → AreDenials (cond t (g.value ∷ repeated rest) (repeated rest)) es → IsGiven verb g × AreGiven verb rest
    by_test behind true e [] are denied = absurd denied
    by_test behind true e (d ∷ es) are denied = (denied_given verb g d e denied.0, behind es are denied.1)
    by_test behind false e es are denied = (are.0, behind es are.1 denied)

pub all_given : (verb : Verb) (o : List Given) (ds : List Denial) → none_twice same_name (single o) ≡ true → CanRead verb (value_in (single o)) rows → AreDenials (repeated o) ds → AreGiven verb o
all_given verb o ds once reads denied = all_of verb o ds (given_read verb [] (single o) once reads) denied

given_denial : (verb : Verb) (g : Given) → is_repeated g.name ≡ true → IsGiven verb g → (d : Denial) × IsDenial g.value d
given_denial verb g is are =
    let kind : kind_of verb g.name ≡ Some Network = ap (kind_of verb) (same_text g.name (codes "--deny") is) ∙ deny_kind verb in
    let can : CanHave Network g.value = match_some (kind_of verb g.name) Network (Unit {0}) (λ kind. CanHave kind g.value) kind are in
    network_denial g.value can.0 can.1 can.2

pub denials_of : (verb : Verb) (o : List Given) → AreGiven verb o → (ds : List Denial) × AreDenials (repeated o) ds
denials_of verb [] are = ([], tt)
denials_of verb (g ∷ rest) are = by_test (denials_of verb rest are.1) (is_repeated g.name) refl
  where
    by_test : ((ds : List Denial) × AreDenials (repeated rest) ds) → (t : Bool) → is_repeated g.name ≡ t → (ds : List Denial) × AreDenials (cond t (g.value ∷ repeated rest) (repeated rest)) ds
    by_test behind true e = let d = given_denial verb g e are.0 in (d.0 ∷ behind.0, (d.1, behind.1))
    by_test behind false e = behind

-- and back: of values that can be had settings are given
pick : {X : Type 0} (o : Option Word) (d : X) (P : Word → X → Type 0) → ((value : Word) → o ≡ Some value → (x : X) × P value x) → (x : X) × MatchOption o (x ≡ d) (λ value. P value x)
pick None d P f = (d, refl)
pick (Some value) d P f = f value refl

pick_two : (o : Option Word) (d e : ℕ) (P : Word → ℕ → ℕ → Type 0) → ((value : Word) → o ≡ Some value → (n : ℕ) × (m : ℕ) × P value n m) → (n : ℕ) × (m : ℕ) × MatchOption o
    ((n ≡ d) × (m ≡ e)) (λ value. P value n m)
pick_two None d e P f = (d, e, (refl, refl))
pick_two (Some value) d e P f = f value refl

pick_any : {X : Type 0} (o : Option Word) (P : Word → X → Type 0) → ((value : Word) → o ≡ Some value → (x : X) × P value x) → (r : Option X) × MatchOption o (r ≡ None)
    (λ value. (x : X) × (r ≡ Some x) × P value x)
pick_any None P f = (None, refl)
pick_any (Some value) P f = let x = f value refl in (Some x.0, (x.0, refl, x.1))

module _ (verb : Verb) where
  -- what is known of both commands
  of_both : (P : Verb → Type 0) → P Replay → P Serve → P verb
  of_both P r s = elim verb as P [ Replay ↦ r | Serve ↦ s ]

  pub value_read : (o : List Given) → AreGiven verb o → (name value : Word) → value_in o name ≡ Some value → (kind : Kind) → kind_of verb name ≡ Some kind → CanHave kind value
  value_read [] are name value is kind of = absurd (cc is)
  value_read (g ∷ rest) are name value is kind of = by_test (λ h. value_read rest are.1 name value h kind of) (bytes_eq g.name name) refl is
    where
      by_test : (value_in rest name ≡ Some value → CanHave kind value) → (t : Bool) → bytes_eq g.name name ≡ t
          → option_map (λ (given : Given). given.value) (cond t (Some g) (find (λ given. bytes_eq given.name name) rest)) ≡ Some value → CanHave kind value
      by_test behind true e h =
          let same : g.value ≡ value = cc in
          let known : kind_of verb g.name ≡ Some kind = ap (kind_of verb) (same_text g.name name e) ∙ of in
          subst (CanHave kind) same (match_some (kind_of verb g.name) kind (Unit {0}) (λ k. CanHave k g.value) known are.0)
      by_test behind false e h = behind h

  pub settings_of : (o : List Given) → AreGiven verb o → (gs : List GuestFwd) (ds : List Denial) → (config : Config) × AreSettings (value_in o) config ×
      (config.guest_forwards ≡ gs) × (config.denied ≡ ds)
  settings_of o are gs ds =
      let given = value_in o in
      let net = pick_two (given (codes "--net")) usual.network usual.mask (λ text n m. IsNetwork text n m) (λ v e. value_read o are (codes "--net") v e Network
      (of_both (λ b. kind_of b (codes "--net") ≡ Some Network) refl refl)) in
      let host = pick (given (codes "--host")) ((net.0 + 2) % 2 ^ 32) (λ text a. IsAddress text a) (λ v e. value_read o are (codes "--host") v e Address
      (of_both (λ b. kind_of b (codes "--host") ≡ Some Address) refl refl)) in
      let dns = pick (given (codes "--dns")) ((net.0 + 3) % 2 ^ 32) (λ text a. IsAddress text a) (λ v e. value_read o are (codes "--dns") v e Address
      (of_both (λ b. kind_of b (codes "--dns") ≡ Some Address) refl refl)) in
      let start = pick (given (codes "--dhcpstart")) ((net.0 + 15) % 2 ^ 32) (λ text a. IsAddress text a) (λ v e. value_read o are (codes "--dhcpstart") v e Address
      (of_both (λ b. kind_of b (codes "--dhcpstart") ≡ Some Address) refl refl)) in
      let mtu = pick (given (codes "--mtu")) usual.mtu (λ text n. IsNumber 16 text n) (λ v e. value_read o are (codes "--mtu") v e Short
      (of_both (λ b. kind_of b (codes "--mtu") ≡ Some Short) refl refl)) in
      let mru = pick (given (codes "--mru")) usual.mru (λ text n. IsNumber 16 text n) (λ v e. value_read o are (codes "--mru") v e Short
      (of_both (λ b. kind_of b (codes "--mru") ≡ Some Short) refl refl)) in
      let flows = pick (given (codes "--flows")) usual.flows (λ text n. IsNumber 64 text n) (λ v e. value_read o are (codes "--flows") v e Number
      (of_both (λ b. kind_of b (codes "--flows") ≡ Some Number) refl refl)) in
      let ring = pick (given (codes "--ring")) usual.ring (λ text n. IsNumber 64 text n) (λ v e. value_read o are (codes "--ring") v e Number
      (of_both (λ b. kind_of b (codes "--ring") ≡ Some Number) refl refl)) in
      let turns = pick (given (codes "--turns")) usual.turns (λ text n. IsNumber 64 text n) (λ v e. value_read o are (codes "--turns") v e Number
      (of_both (λ b. kind_of b (codes "--turns") ≡ Some Number) refl refl)) in
      let resolver = pick_any (given (codes "--resolver")) (λ text at. IsEndpointText text at) (λ v e. value_read o are (codes "--resolver") v e AddressPort
      (of_both (λ b. kind_of b (codes "--resolver") ≡ Some AddressPort) refl refl)) in
      let outbound = pick_any (given (codes "--outbound")) (λ text a. IsAddress text a) (λ v e. value_read o are (codes "--outbound") v e Address
      (of_both (λ b. kind_of b (codes "--outbound") ≡ Some Address) refl refl)) in
      let control = pick_any (given (codes "--control")) (λ text at. IsEndpointText text at) (λ v e. value_read o are (codes "--control") v e AddressPort
      (of_both (λ b. kind_of b (codes "--control") ≡ Some AddressPort) refl refl)) in (
        made usual net.0 net.1 host.0 dns.0 start.0 (is_some (given (codes "--restrict"))) (is_some (given (codes "--no-loopback")))
            (option_map_or held_text (given (codes "--hostname")) []) (option_map_or held_text (given (codes "--domainname")) [])
            (option_map_or held_text (given (codes "--tftp-server-name")) []) (option_map_or held_text (given (codes "--bootfile")) [])
            (option_map held_folder (given (codes "--tftp"))) mtu.0 mru.0 flows.0 ring.0 resolver.0 turns.0 outbound.0 control.0 (is_some (given (codes "--no-dns")))
            (is_some (given (codes "--no-dhcp"))) (is_some (given (codes "--congestion"))) (version_of given gs ds) [] gs ds,
        record {
          net = net.2;
          host = host.1;
          dns = dns.1;
          dhcp_start = start.1;
          restricted = refl;
          no_loopback = refl;
          hostname = refl;
          domainname = refl;
          tftp_server_name = refl;
          bootfile = refl;
          tftp_path = refl;
          mtu = mtu.1;
          mru = mru.1;
          flows = flows.1;
          ring = ring.1;
          resolver = resolver.1;
          turns = turns.1;
          outbound = outbound.1;
          control = control.1;
          no_dns = refl;
          no_dhcp = refl;
          congestion = refl;
          version = refl;
          rest = refl;
        },
        refl,
        refl,
      )
