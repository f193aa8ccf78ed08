-- What the words of a command line mean.
use Rattle.std.specs.Prelude.{◌≡◌, ◌⊎◌, ℕ, ◌+◌, ◌%◌, ◌^◌, ◌<◌, ◌≤◌, ◌||◌, ◌==◌, not, nat_lt, Bool, true, false, List, [], ◌∷◌, length, codes, Option, Some, None, is_some, Result, Ok, Err}
use Rattle.std.specs.Prelude.{MatchOption, if◌then◌else◌}
use Rattle.std.specs.Option.{option_map, option_map_or}
use Rattle.net_octets.specs.declared.Endpoint.{Endpoint}
use Rattle.slirp_settings.specs.Addresses.{Config}
use Rattle.slirp_settings.specs.Settings.{settings, usual}
use Rattle.slirp_settings.specs.Ranges.{first_broken}
use Rattle.slirp_settings.specs.declared.Denial.{Denial}
use Rattle.slirp_settings.specs.declared.GuestFwd.{GuestFwd}
use Rattle.slirp_settings.specs.Names.{field_name}
use Rattle.command_words.specs.declared.Setting.{Setting}
use Rattle.command_words.specs.declared.Setting.TheVariants.{Of, Octets}
use Rattle.world_face.specs.Journal.{IsPlace, Place, place_of}
use Rattle.command_words.specs.declared.Command.{Command}
use Rattle.command_words.specs.declared.Command.TheVariants.{Drive as DriveOf, Help as HelpOf, Replay as ReplayOf, Serve as ServeOf, Version as VersionOf}
use Rattle.command_words.specs.declared.Tap.{Tap}
use Rattle.command_words.specs.declared.Tap.TheVariants.{Record, Capture}
use Rattle.command_words.specs.declared.WordFault.{WordFault}
use Rattle.command_words.specs.declared.WordFault.TheVariants.{BadConfig}
use Rattle.command_words.specs.declared.options.Verb.TheVariants.{Replay, Serve}
use Rattle.command_words.specs.Options.{Word, Line, IsLine, line_words, words_alone, value_of, denied_of}
use Rattle.address_text.specs.Rules.{AreRules}
use Rattle.address_text.specs.Texts.{IsNumber, IsAddress, IsEndpointText}
use Rattle.command_words.specs.Texts.{AreDenials, IsNetwork, IsLink, held_folder, held_text}

-- A schedule in a file is replayed, or the link at a place is served, with these settings, and perhaps what is called is recorded or the link's frames are
-- captured; or a drill of so many octets is run, on a World that is made from a number; or how the words are written is told, or the version.
pub data Meaning : Type 0 where
  Replays : (file : Word) (config : Config) → Meaning
  Serves : (config : Config) (at : Place) (tap : Tap) → Meaning
  Drives : (number octets : ℕ) → Meaning
  Helps : Meaning
  TellsVersion : Meaning

-- those of a drill are the usual ones, as are those where nothing is run
abbrev pub config_of : Meaning → Config
config_of (Replays file config) = config
config_of (Serves config at tap) = config
config_of (Drives number octets) = usual
config_of Helps = usual
config_of TellsVersion = usual

-- how a setting is printed
abbrev pub setting_name : Setting → List ℕ
setting_name (Of field) = field_name field
setting_name Octets = codes "octets"

-- The first setting that isn't in its range. A drill has up to 10,000,000 octets.
abbrev pub broken_in : Meaning → Option Setting
broken_in (Replays file config) = option_map Of (first_broken config)
broken_in (Serves config at tap) = option_map Of (first_broken config)
broken_in (Drives number octets) = if nat_lt 10000000 octets then Some Octets else None
broken_in Helps = None
broken_in TellsVersion = None

-- a command with an option or a RULE that only version 2 of the settings has is of that version
abbrev pub version_of : (given : Word → Option Word) (guest_forwards : List GuestFwd) (denied : List Denial) → ℕ
version_of given guest_forwards denied =
    if is_some (given (codes "--outbound")) || is_some (given (codes "--control")) || is_some (given (codes "--no-dns")) || is_some (given (codes "--no-dhcp")) || not (length guest_forwards == 0)
    || not (length denied == 0) then 2 else 1

-- the settings that options give, by the value that each name has; what no option gives is usual. None of these gives forwards, forwards of guests or denied networks
pub record AreSettings (given : Word → Option Word) (config : Config) : Type 0 where
  pub net : MatchOption (given (codes "--net")) ((config.network ≡ usual.network) × (config.mask ≡ usual.mask)) (λ text. IsNetwork text config.network config.mask)
  pub host : MatchOption (given (codes "--host")) (config.vhost ≡ (config.network + 2) % 2 ^ 32) (λ text. IsAddress text config.vhost)
  pub dns : MatchOption (given (codes "--dns")) (config.vnameserver ≡ (config.network + 3) % 2 ^ 32) (λ text. IsAddress text config.vnameserver)
  pub dhcp_start : MatchOption (given (codes "--dhcpstart")) (config.dhcp_start ≡ (config.network + 15) % 2 ^ 32) (λ text. IsAddress text config.dhcp_start)
  pub restricted : config.restricted ≡ is_some (given (codes "--restrict"))
  pub no_loopback : config.no_loopback ≡ is_some (given (codes "--no-loopback"))
  pub hostname : config.hostname ≡ option_map_or held_text (given (codes "--hostname")) []
  pub domainname : config.domainname ≡ option_map_or held_text (given (codes "--domainname")) []
  pub tftp_server_name : config.tftp_server_name ≡ option_map_or held_text (given (codes "--tftp-server-name")) []
  pub bootfile : config.bootfile ≡ option_map_or held_text (given (codes "--bootfile")) []
  pub tftp_path : config.tftp_path ≡ option_map held_folder (given (codes "--tftp"))
  pub mtu : MatchOption (given (codes "--mtu")) (config.mtu ≡ usual.mtu) (λ text. IsNumber 16 text config.mtu)
  pub mru : MatchOption (given (codes "--mru")) (config.mru ≡ usual.mru) (λ text. IsNumber 16 text config.mru)
  pub flows : MatchOption (given (codes "--flows")) (config.flows ≡ usual.flows) (λ text. IsNumber 64 text config.flows)
  pub ring : MatchOption (given (codes "--ring")) (config.ring ≡ usual.ring) (λ text. IsNumber 64 text config.ring)
  pub resolver : MatchOption (given (codes "--resolver")) (config.resolver ≡ None) (λ text. (at : Endpoint) × (config.resolver ≡ Some at) × IsEndpointText text at)
  pub turns : MatchOption (given (codes "--turns")) (config.turns ≡ usual.turns) (λ text. IsNumber 64 text config.turns)
  pub outbound : MatchOption (given (codes "--outbound")) (config.outbound ≡ None) (λ text. (a : ℕ) × (config.outbound ≡ Some a) × IsAddress text a)
  pub control : MatchOption (given (codes "--control")) (config.control ≡ None) (λ text. (at : Endpoint) × (config.control ≡ Some at) × IsEndpointText text at)
  pub no_dns : config.no_dns ≡ is_some (given (codes "--no-dns"))
  pub no_dhcp : config.no_dhcp ≡ is_some (given (codes "--no-dhcp"))
  pub congestion : config.congestion ≡ is_some (given (codes "--congestion"))
  pub version : config.version ≡ version_of given config.guest_forwards config.denied
  pub rest : config ≡ record usual {
    network = config.network;
    mask = config.mask;
    vhost = config.vhost;
    vnameserver = config.vnameserver;
    dhcp_start = config.dhcp_start;
    restricted = config.restricted;
    no_loopback = config.no_loopback;
    hostname = config.hostname;
    domainname = config.domainname;
    tftp_server_name = config.tftp_server_name;
    bootfile = config.bootfile;
    tftp_path = config.tftp_path;
    mtu = config.mtu;
    mru = config.mru;
    flows = config.flows;
    ring = config.ring;
    resolver = config.resolver;
    turns = config.turns;
    outbound = config.outbound;
    control = config.control;
    no_dns = config.no_dns;
    no_dhcp = config.no_dhcp;
    congestion = config.congestion;
    version = config.version;
    forwards = config.forwards;
    guest_forwards = config.guest_forwards;
    denied = config.denied;
  }

-- the words behind `replay`: the first that stands by itself names the file, all others that do are RULEs, and networks are denied
abbrev pub MeansReplay : List Word → (file : Word) (config : Config) → Type 0
MeansReplay words file config =
    (line : Line) × (rules : List Word) × (words ≡ line_words line) × IsLine Replay line
    × (words_alone line ≡ file ∷ rules) × (0 < length file) × (length file ≤ 1280)
    × AreRules rules config.dhcp_start config.forwards config.guest_forwards × AreSettings (value_of line) config × AreDenials (denied_of line) config.denied

abbrev pub is_record : Tap → Bool
is_record Record = true
is_record _ = false

abbrev pub is_capture : Tap → Bool
is_capture Capture = true
is_capture _ = false

-- The calls are recorded where `--record` is given, and the frames captured where `--capture` is: one of them at most.
abbrev pub IsTap : (given : Word → Option Word) → Tap → Type 0
IsTap given tap = (is_some (given (codes "--record")) ≡ is_record tap) × (is_some (given (codes "--capture")) ≡ is_capture tap)

-- the words behind `serve`: those that stand by themselves are RULEs, the link is told, and networks are denied
abbrev pub MeansServe : List Word → (config : Config) (at : Place) (tap : Tap) → Type 0
MeansServe words config at tap =
    (line : Line) × (words ≡ line_words line) × IsLine Serve line × MatchOption (value_of line (codes "--link")) ⊥ (λ text. IsLink text at) × IsTap (value_of line) tap
    × AreRules (words_alone line) config.dhcp_start config.forwards config.guest_forwards × AreSettings (value_of line) config × AreDenials (denied_of line) config.denied

-- the words behind `drive` are two numbers
abbrev pub MeansDrive : List Word → (number octets : ℕ) → Type 0
MeansDrive words number octets = (one : Word) × (two : Word) × (words ≡ one ∷ two ∷ []) × IsNumber 64 one number × IsNumber 64 two octets

-- the word that tells how words are written, by itself
abbrev pub IsHelp : Word → Type 0
IsHelp word = (word ≡ codes "--help") ⊎ (word ≡ codes "help")

-- The first word is the command. Words of another command mean nothing.
abbrev pub Means : List Word → Meaning → Type 0
Means words (Replays file config) = (behind : List Word) × (words ≡ codes "replay" ∷ behind) × MeansReplay behind file config
Means words (Serves config at tap) = (behind : List Word) × (words ≡ codes "serve" ∷ behind) × MeansServe behind config at tap
Means words (Drives number octets) = (behind : List Word) × (words ≡ codes "drive" ∷ behind) × MeansDrive behind number octets
Means words Helps = (word : Word) × (words ≡ word ∷ []) × IsHelp word
Means words TellsVersion = words ≡ codes "--version" ∷ []

-- what a command says
abbrev pub said : Command → Meaning
said (ReplayOf file config) = Replays file.bytes (settings config)
said (ServeOf config at tap) = Serves (settings config) (place_of at) tap
said (DriveOf number octets) = Drives number octets
said HelpOf = Helps
said VersionOf = TellsVersion

-- the link can be opened there
abbrev pub HasPlace : Meaning → Type 0
HasPlace (Replays file config) = Unit {0}
HasPlace (Serves config at tap) = IsPlace at
HasPlace (Drives number octets) = Unit {0}
HasPlace Helps = Unit {0}
HasPlace TellsVersion = Unit {0}

-- Words of this meaning are answered by it where each setting is in its range, else by the first that isn't.
abbrev pub AnswersBy : Result Command WordFault → Meaning → Type 0
AnswersBy result meaning = MatchOption (broken_in meaning)
    ((command : Command) × (result ≡ Ok command) × (said command ≡ meaning))
    (λ setting. result ≡ Err (BadConfig setting))
