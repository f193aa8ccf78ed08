-- The options, and what a command line is made of.
use Rattle.std.specs.Prelude.{◌≡◌, ℕ, ◌==◌, ◌&&◌, ◌<◌, not, Bool, true, false, List, [], ◌∷◌, ◌++◌, length, bytes_eq, codes, Option, Some, None, find, if◌then◌else◌}
use Rattle.std.specs.Option.{option_map}
use Rattle.slirp_settings.specs.Ranges.{none_twice}
use Rattle.command_words.specs.declared.options.Kind.{Kind}
use Rattle.command_words.specs.declared.options.Kind.TheVariants.{Nothing, Text, Short, Number, Address, AddressPort, Network, Link}
use Rattle.command_words.specs.declared.options.Verb.{Verb}
use Rattle.command_words.specs.declared.options.Verb.TheVariants.{Replay, Serve}

abbrev pub Word : Type 0
Word = List ℕ

-- an option, its name with the dashes: what its value can be, and whether `serve` alone has it
pub record Row : Type 0 where
  pub name : Word
  pub kind : Kind
  pub serve_alone : Bool

-- one without a value is a flag
abbrev pub has_value : Kind → Bool
has_value Nothing = false
has_value _ = true

abbrev pub of_all : Word → Kind → Row
of_all name kind = record { name = name; kind = kind; serve_alone = false }

abbrev pub of_serve : Word → Kind → Row
of_serve name kind = record { name = name; kind = kind; serve_alone = true }

-- the options: the name, what its value is, and whether `serve` alone has it
abbrev pub rows : List Row
rows =
    of_serve (codes "--link") Link
    ∷ of_serve (codes "--record") Nothing
    ∷ of_serve (codes "--capture") Nothing
    ∷ of_all (codes "--net") Network
    ∷ of_all (codes "--host") Address
    ∷ of_all (codes "--dns") Address
    ∷ of_all (codes "--dhcpstart") Address
    ∷ of_all (codes "--restrict") Nothing
    ∷ of_all (codes "--no-loopback") Nothing
    ∷ of_all (codes "--hostname") Text
    ∷ of_all (codes "--domainname") Text
    ∷ of_all (codes "--tftp-server-name") Text
    ∷ of_all (codes "--bootfile") Text
    ∷ of_all (codes "--mtu") Short
    ∷ of_all (codes "--mru") Short
    ∷ of_all (codes "--flows") Number
    ∷ of_all (codes "--ring") Number
    ∷ of_all (codes "--turns") Number
    ∷ of_all (codes "--congestion") Nothing
    ∷ of_all (codes "--no-dhcp") Nothing
    ∷ of_all (codes "--resolver") AddressPort
    ∷ of_all (codes "--no-dns") Nothing
    ∷ of_all (codes "--outbound") Address
    ∷ of_all (codes "--control") AddressPort
    ∷ of_all (codes "--tftp") Text
    ∷ of_all (codes "--deny") Network
    ∷ []

abbrev pub has_row : Verb → Row → Bool
has_row Serve row = true
has_row Replay row = not row.serve_alone

abbrev pub is_row : Verb → Word → Row → Bool
is_row verb name row = bytes_eq row.name name && has_row verb row

-- what the value of the command's option of this name can be; None where it has no such option
abbrev pub kind_of : Verb → Word → Option Kind
kind_of verb name = option_map (λ row. row.kind) (find (is_row verb name) rows)

-- whether it has a value
abbrev pub takes_value : Verb → Word → Option Bool
takes_value verb name = option_map has_value (kind_of verb name)

-- an option that was given, with its value; that of a flag is empty
pub record Given : Type 0 where
  pub name : Word
  pub value : Word

-- a piece of a command line
pub data Piece : Type 0 where
  -- `--name value`
  Apart : (name value : Word) → Piece
  -- `--name=value`
  Joined : (name value : Word) → Piece
  -- `--name`
  Flag : (name : Word) → Piece
  -- a word that stands by itself
  Plain : (word : Word) → Piece

abbrev pub is_dashed : Word → Bool
is_dashed [] = false
is_dashed (octet ∷ octets) = octet == 45

-- No value is empty. One that stands apart doesn't begin with a dash, and neither does a word that stands by itself.
abbrev pub IsPiece : Verb → Piece → Type 0
IsPiece verb (Apart name value) = (takes_value verb name ≡ Some true) × (0 < length value) × (is_dashed value ≡ false)
IsPiece verb (Joined name value) = (takes_value verb name ≡ Some true) × (0 < length value)
IsPiece verb (Flag name) = takes_value verb name ≡ Some false
IsPiece verb (Plain word) = is_dashed word ≡ false

abbrev pub piece_words : Piece → List Word
piece_words (Apart name value) = name ∷ value ∷ []
piece_words (Joined name value) = (name ++ codes "=" ++ value) ∷ []
piece_words (Flag name) = name ∷ []
piece_words (Plain word) = word ∷ []

-- What stands behind a command: pieces in any order, and perhaps `--` and further words, each of which stands by itself.
pub record Line : Type 0 where
  pub pieces : List Piece
  pub behind : Option (List Word)

abbrev pub ArePieces : Verb → List Piece → Type 0
ArePieces verb [] = Unit {0}
ArePieces verb (piece ∷ pieces) = IsPiece verb piece × ArePieces verb pieces

abbrev pub pieces_words : List Piece → List Word
pieces_words [] = []
pieces_words (piece ∷ pieces) = piece_words piece ++ pieces_words pieces

abbrev pub words_behind : Option (List Word) → List Word
words_behind None = []
words_behind (Some words) = codes "--" ∷ words

abbrev pub line_words : Line → List Word
line_words line = pieces_words line.pieces ++ words_behind line.behind

-- the options that are given, in their order
abbrev pub options_of : List Piece → List Given
options_of [] = []
options_of (Apart name value ∷ pieces) = record { name = name; value = value } ∷ options_of pieces
options_of (Joined name value ∷ pieces) = record { name = name; value = value } ∷ options_of pieces
options_of (Flag name ∷ pieces) = record { name = name; value = [] } ∷ options_of pieces
options_of (Plain word ∷ pieces) = options_of pieces

-- the words that stand by themselves, in their order
abbrev pub plain_words : List Piece → List Word
plain_words [] = []
plain_words (Apart name value ∷ pieces) = plain_words pieces
plain_words (Joined name value ∷ pieces) = plain_words pieces
plain_words (Flag name ∷ pieces) = plain_words pieces
plain_words (Plain word ∷ pieces) = word ∷ plain_words pieces

abbrev pub alone_behind : Option (List Word) → List Word
alone_behind None = []
alone_behind (Some words) = words

abbrev pub words_alone : Line → List Word
words_alone line = plain_words line.pieces ++ alone_behind line.behind

abbrev pub same_name : Given → Given → Bool
same_name a b = bytes_eq a.name b.name

-- one option may stand several times
abbrev pub is_repeated : Word → Bool
is_repeated name = bytes_eq name (codes "--deny")

-- the options that stand once, and the values of the one that may stand several times
abbrev pub single : List Given → List Given
single [] = []
single (given ∷ options) = if is_repeated given.name then single options else given ∷ single options

abbrev pub repeated : List Given → List Word
repeated [] = []
repeated (given ∷ options) = if is_repeated given.name then given.value ∷ repeated options else repeated options

-- each other option stands at most once
abbrev pub IsLine : Verb → Line → Type 0
IsLine verb line = ArePieces verb line.pieces × (none_twice same_name (single (options_of line.pieces)) ≡ true)

-- the value with which the option of this name is given, of those that stand once; None where it isn't
abbrev pub value_in : List Given → Word → Option Word
value_in options name = option_map (λ given. given.value) (find (λ given. bytes_eq given.name name) options)

abbrev pub value_of : Line → Word → Option Word
value_of line name = value_in (single (options_of line.pieces)) name

-- the networks that are denied
abbrev pub denied_of : Line → List Word
denied_of line = repeated (options_of line.pieces)
