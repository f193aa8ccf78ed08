-- How a RULE is written on a command line: a port of the host that is given to a guest, or a port of the network that leads to one which the host reaches.
use Rattle.std.specs.Prelude.{◌≡◌, ◌⊎◌, ℕ, Bool, List, [], ◌∷◌, ◌++◌, MatchBool, bytes_eq, codes, take, if◌then◌else◌}
use Rattle.net_octets.specs.declared.Endpoint.{Endpoint}
use Rattle.slirp_settings.specs.declared.Forward.{Forward}
use Rattle.slirp_settings.specs.declared.GuestFwd.{GuestFwd}
use Rattle.slirp_settings.specs.declared.Proto.{Proto}
use Rattle.slirp_settings.specs.declared.Proto.TheVariants.{Tcp, Udp}
use Rattle.address_text.specs.Texts.{IsNumber, IsAddress, IsEndpointText}

-- an address that may be left out, and is the usual one then
abbrev pub IsAddressOr : (usual : ℕ) (text : List ℕ) (a : ℕ) → Type 0
IsAddressOr usual [] a = a ≡ usual
IsAddressOr usual (c ∷ cs) a = IsAddress (c ∷ cs) a

-- `[address]:port`
pub record IsPortAt (usual : ℕ) (text : List ℕ) (at : Endpoint) : Type 0 where
  pub before : List ℕ
  pub behind : List ℕ
  pub encoded : text ≡ before ++ codes ":" ++ behind
  pub address : IsAddressOr usual before at.addr.0
  pub port : IsNumber 16 behind at.port

-- `[tcp|udp]`: without it TCP
abbrev pub IsType : (text : List ℕ) (proto : Proto) → Type 0
IsType text Tcp = (text ≡ []) ⊎ (text ≡ codes "tcp")
IsType text Udp = text ≡ codes "udp"

-- `[tcp|udp]:[hostaddr]:hostport-[guestaddr]:guestport`: without addresses every one of the host's, and the first that is lent to guests
pub record IsForward (text : List ℕ) (dhcp_start : ℕ) (forward : Forward) : Type 0 where
  pub kind : List ℕ
  pub outside : List ℕ
  pub inside : List ℕ
  pub encoded : text ≡ kind ++ codes ":" ++ outside ++ codes "-" ++ inside
  pub type : IsType kind forward.proto
  pub host : IsPortAt 0 outside forward.host
  pub guest : IsPortAt dhcp_start inside forward.guest

-- `hostfwd=` may stand in front
abbrev pub IsRule : (text : List ℕ) (dhcp_start : ℕ) (forward : Forward) → Type 0
IsRule text dhcp_start forward =
    IsForward text dhcp_start forward ⊎ ((behind : List ℕ) × (text ≡ codes "hostfwd=" ++ behind) × IsForward behind dhcp_start forward)

-- each word is such a RULE, and these are their forwards, in their order
abbrev pub AreForwards : (words : List (List ℕ)) (dhcp_start : ℕ) (forwards : List Forward) → Type 0
AreForwards [] dhcp_start [] = Unit {0}
AreForwards [] dhcp_start (forward ∷ forwards) = ⊥
AreForwards (word ∷ words) dhcp_start [] = ⊥
AreForwards (word ∷ words) dhcp_start (forward ∷ forwards) = IsRule word dhcp_start forward × AreForwards words dhcp_start forwards

-- `[tcp]:ADDRESS:PORT-ENDPOINT`
pub record IsGuestForward (text : List ℕ) (forward : GuestFwd) : Type 0 where
  pub kind : List ℕ
  pub inside : List ℕ
  pub outside : List ℕ
  pub encoded : text ≡ kind ++ codes ":" ++ inside ++ codes "-" ++ outside
  pub type : IsType kind Tcp
  pub guest : IsEndpointText inside forward.guest
  pub host : IsEndpointText outside forward.host

-- behind `guestfwd=`
abbrev pub IsGuestRule : (text : List ℕ) (forward : GuestFwd) → Type 0
IsGuestRule text forward = (behind : List ℕ) × (text ≡ codes "guestfwd=" ++ behind) × IsGuestForward behind forward

-- each word is such a RULE, and these are their forwards of guests, in their order
abbrev pub AreGuestForwards : (words : List (List ℕ)) (forwards : List GuestFwd) → Type 0
AreGuestForwards [] [] = Unit {0}
AreGuestForwards [] (forward ∷ forwards) = ⊥
AreGuestForwards (word ∷ words) [] = ⊥
AreGuestForwards (word ∷ words) (forward ∷ forwards) = IsGuestRule word forward × AreGuestForwards words forwards

-- by its first letters a word is of one kind or the other
abbrev pub is_guest_word : List ℕ → Bool
is_guest_word word = bytes_eq (take 9 word) (codes "guestfwd=")

abbrev pub host_words : List (List ℕ) → List (List ℕ)
host_words [] = []
host_words (word ∷ words) = if is_guest_word word then host_words words else word ∷ host_words words

abbrev pub guest_words : List (List ℕ) → List (List ℕ)
guest_words [] = []
guest_words (word ∷ words) = if is_guest_word word then word ∷ guest_words words else guest_words words

-- each word is a RULE of one kind or the other, and these are what each kind gives
abbrev pub AreRules : (words : List (List ℕ)) (dhcp_start : ℕ) (forwards : List Forward) (guest_forwards : List GuestFwd) → Type 0
AreRules words dhcp_start forwards guest_forwards = AreForwards (host_words words) dhcp_start forwards × AreGuestForwards (guest_words words) guest_forwards

-- A word is a RULE or isn't, whichever address is the first that is lent.
abbrev pub IsRuleWord : (text : List ℕ) → Type 0
IsRuleWord text = MatchBool (is_guest_word text) ((forward : GuestFwd) × IsGuestRule text forward) ((forward : Forward) × IsRule text 0 forward)

abbrev pub AreRuleWords : (words : List (List ℕ)) → Type 0
AreRuleWords [] = Unit {0}
AreRuleWords (word ∷ words) = IsRuleWord word × AreRuleWords words
