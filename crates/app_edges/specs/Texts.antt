-- The texts that tell what the program came to.
use Rattle.std.specs.Prelude.{◌≡◌, ℕ, ◌&&◌, nat_le, List, [], ◌∷◌, ◌++◌, map, take, slice_get, codes, decimal, Option, Some, None, if◌then◌else◌}
use Rattle.std.specs.Option.{option_map_or}
use Rattle.address_text.specs.Texts.{endpoint_text}
use Rattle.slirp_settings.specs.declared.Forward.{Forward}
use Rattle.slirp_settings.specs.declared.Proto.{Proto}
use Rattle.slirp_settings.specs.declared.Proto.TheVariants.{Tcp, Udp}
use Rattle.command_words.specs.declared.Stop.{Stop}
use Rattle.world_face.specs.Puts.{added}
use Rattle.command_words.specs.Meaning.{setting_name}
use Rattle.replay.specs.Names.{name_text}
use Rattle.replay.specs.declared.CallName.{CallName}
use Rattle.world_face.specs.Tells.{Rose}
use Rattle.app_edges.specs.Mistakes.{named_word}
use Rattle.app_edges.specs.declared.outcome.Outcome.{Outcome}
use Rattle.app_edges.specs.declared.outcome.Outcome.TheVariants.{Done, Usage, BadConfig, ScheduleRead, ScheduleTooLarge, ScheduleLine, Diverged, FrameTooLong, FrameCut, LinkFault}
use Rattle.app_edges.specs.declared.outcome.Outcome.TheVariants.{WaitFault, TurnsSpent, ListenRefused, SinkFault, NoMemory, ControlRefused}

-- the call of the line that stands next, where one is left
abbrev pub wanted_text : Option CallName → List ℕ
wanted_text (Some wanted) = codes ", schedule has " ++ name_text wanted
wanted_text None = codes ", no line left"

-- an octet that is no letter, digit, sign or blank of ASCII is shown as a question mark
abbrev pub shown_octet : ℕ → ℕ
shown_octet octet = if nat_le 32 octet && nat_le octet 126 then octet else 63

-- of a word the first 200 octets are shown
abbrev pub shown : List ℕ → List ℕ
shown word = map shown_octet (take 200 word)

abbrev pub word_text : (number : ℕ) → List ℕ → List ℕ
word_text number word = codes "slirpd: word " ++ decimal number ++ codes ": " ++ shown word

abbrev pub missing_text : List ℕ
missing_text = codes "slirpd: a word is missing"

abbrev pub mistake_text : List (List ℕ) → Stop → List ℕ
mistake_text words stop = option_map_or (λ named. word_text named.0 named.1) (named_word words stop) missing_text

abbrev pub usage_text : List ℕ
usage_text = codes "usage: slirpd serve --link AT [OPTIONS] [RULE]... | replay FILE [OPTIONS] [RULE]... | drive NUMBER OCTETS"

-- a port of the host, as RULEs name it
abbrev pub type_text : Proto → List ℕ
type_text Tcp = codes "tcp "
type_text Udp = codes "udp "

abbrev pub forward_text : Forward → List ℕ
forward_text forward = type_text forward.proto ++ endpoint_text forward.host

-- which port it was, where the settings have a forward of this number
abbrev pub port_text : Option Forward → List ℕ
port_text None = []
port_text (Some forward) = codes ": " ++ forward_text forward

-- of these words of the command line, whose settings have these forwards
abbrev pub text_of : (words : List (List ℕ)) (forwards : List Forward) → Outcome → List ℕ
text_of words forwards Done = []
text_of words forwards (Usage stop) = mistake_text words stop ++ 10 ∷ usage_text
text_of words forwards (BadConfig setting) = codes "slirpd: config: " ++ setting_name setting
text_of words forwards ScheduleRead = codes "slirpd: schedule cannot be read"
text_of words forwards ScheduleTooLarge = codes "slirpd: schedule cannot be read"
text_of words forwards (ScheduleLine line) = codes "slirpd: schedule line " ++ decimal line
text_of words forwards (Diverged divergence) =
    codes "slirpd: diverged at line " ++ decimal divergence.line ++ codes ": made " ++ name_text divergence.made ++ wanted_text divergence.wanted
text_of words forwards (FrameTooLong length) = codes "slirpd: frame of " ++ decimal length ++ codes " octets"
text_of words forwards (FrameCut octets) = codes "slirpd: link ended inside a frame, " ++ decimal octets ++ codes " octets"
text_of words forwards LinkFault = codes "slirpd: link fault"
text_of words forwards WaitFault = codes "slirpd: wait fault"
text_of words forwards (TurnsSpent turns) = codes "slirpd: " ++ decimal turns ++ codes " turns spent"
text_of words forwards (ListenRefused number) = codes "slirpd: forward " ++ decimal number ++ codes " refused" ++ port_text (slice_get forwards number)
text_of words forwards SinkFault = []
text_of words forwards NoMemory = codes "slirpd: out of memory"
text_of words forwards ControlRefused = codes "slirpd: control refused"

-- a text and a line feed; nothing where there is no text
abbrev pub with_feed : List ℕ → List ℕ
with_feed [] = []
with_feed (x ∷ text) = (x ∷ text) ++ 10 ∷ []

-- what is put to tell an outcome
abbrev pub told_text : (words : List (List ℕ)) (forwards : List Forward) → Outcome → List ℕ
told_text words forwards outcome = with_feed (text_of words forwards outcome)

-- Where its count of faults didn't rise a sink got exactly the text of the outcome and a line feed.
abbrev pub Got : (words : List (List ℕ)) (forwards : List Forward) (old new : Option (List ℕ)) (faults faults_new : ℕ) → Outcome → Type 0
Got words forwards old new faults faults_new outcome = ¬ Rose faults faults_new → new ≡ added (told_text words forwards outcome) old

-- the last line of a transcript
abbrev pub end_line : ℕ → List ℕ
end_line status = codes "end " ++ decimal status ++ 10 ∷ []

-- lines, each with a line feed
abbrev pub lines_text : List (List ℕ) → List ℕ
lines_text [] = []
lines_text (line ∷ lines) = line ++ 10 ∷ lines_text lines

-- how the words are written: the commands, each option by its group, and the forms of a RULE
abbrev pub help_lines : List (List ℕ)
help_lines =
    codes "usage: slirpd serve --link AT [OPTIONS] [RULE]..."
    ∷ codes "       slirpd replay FILE [OPTIONS] [RULE]..."
    ∷ codes "       slirpd drive NUMBER OCTETS"
    ∷ codes "An option is --name VALUE or --name=VALUE; in parentheses stands what is usual."
    ∷ codes "A is an IPv4 address, N a number, T a text of at most 127 octets."
    ∷ codes "Link:"
    ∷ codes "  --link AT             serve: where to listen, unix:PATH or tcp:A:PORT"
    ∷ codes "  --record              serve: put each call with its answer, for replay"
    ∷ codes "  --capture             serve: put the frames of the link, classic pcap"
    ∷ codes "  --mtu N               the longest datagram to the guest, 576 to 1500 (1500)"
    ∷ codes "  --mru N               the longest datagram from it, 576 to 9216 (1500)"
    ∷ codes "Network:"
    ∷ codes "  --net A/N             the network, N from 8 to 27 (10.0.2.0/24)"
    ∷ codes "  --host A              the host's address in it (.2)"
    ∷ codes "  --dns A               the name server's address in it (.3)"
    ∷ codes "  --dhcpstart A         the first of 16 addresses for DHCP (.15)"
    ∷ codes "  --restrict            nothing leaves the network"
    ∷ codes "  --no-loopback         nothing reaches the host's loopback"
    ∷ codes "  --deny A/N            guests don't reach this network, up to 8 times (none)"
    ∷ codes "  --outbound A          the host's address from which datagrams go out (any)"
    ∷ codes "Services:"
    ∷ codes "  --resolver A:PORT     who answers questions to the name server (none)"
    ∷ codes "  --no-dns              nothing goes to the name server"
    ∷ codes "  --no-dhcp             answer nothing at the port of DHCP"
    ∷ codes "  --hostname T          the guest's name, told by DHCP"
    ∷ codes "  --domainname T        the guest's domain, told by DHCP"
    ∷ codes "  --tftp FOLDER         the folder whose files a guest may fetch (none)"
    ∷ codes "  --tftp-server-name T  the name of the server to boot from, told by DHCP"
    ∷ codes "  --bootfile T          the file to boot, told by DHCP"
    ∷ codes "Forwards:"
    ∷ codes "  RULE, up to 32        [hostfwd=][tcp|udp]:[A]:PORT-[A]:PORT"
    ∷ codes "                        a port of the host leads to a port of a guest, as"
    ∷ codes "                        tcp:127.0.0.1:2222-:22"
    ∷ codes "  RULE, up to 16        guestfwd=[tcp]:A:PORT-A:PORT"
    ∷ codes "                        a port of the network leads to one the host reaches, as"
    ∷ codes "                        guestfwd=:10.0.2.100:8000-127.0.0.1:8000"
    ∷ codes "  --control A:PORT      where to take commands that add and remove forwards"
    ∷ codes "Limits:"
    ∷ codes "  --flows N             connections at once, 1 to 4096 (256)"
    ∷ codes "  --ring N              octets of a connection's buffer in each direction,"
    ∷ codes "                        65535 to 1048576 (65535)"
    ∷ codes "  --turns N             how often the run may wait, 1 to 17592186044416 (2^44)"
    ∷ codes "  --congestion          bound what is under way by a congestion window"
    ∷ codes "Alone:"
    ∷ codes "  --help, help          this"
    ∷ codes "  --version             the version"
    ∷ []

abbrev pub help_text : List ℕ
help_text = lines_text help_lines

abbrev pub version_text : List ℕ
version_text = codes "slirpd 0.9.0" ++ 10 ∷ []
