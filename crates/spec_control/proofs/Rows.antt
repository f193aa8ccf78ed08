-- Commands from their lines to their replies, and what the laws say of each step.
use Rattle.std.proofs.Common.{◌≡◌, ℕ, ◌+◌, true, false, List, [], ◌∷◌, ◌++◌, None, Some, refl}
use Rattle.std.specs.Prelude.{bytes_eq, codes, if◌then◌else◌}
use Rattle.net_octets.specs.declared.Endpoint.{Endpoint}
use Rattle.poll_list.specs.declared.Want.{Want}
use Rattle.poll_list.specs.declared.Who.TheVariants.{Listener, Tcp as Connection}
use Rattle.world_face.specs.Journal.{Entry, Accept, CallAccept, CallClose, CallListen, CallNow, Close, Follows, Listen, Now, TcpRead, TcpWrite, Wait}
use Rattle.world_face.specs.declared.Accepted.TheVariants.{From}
use Rattle.world_face.specs.declared.Io.TheVariants.{Done, End, Failed}
use Rattle.world_face.specs.declared.Made.TheVariants.{Done as MadeDone, Failed as MadeFailed}
use Rattle.world_face.specs.declared.Waited.TheVariants.{Ready}
use Rattle.slirp_settings.specs.Addresses.{Config, endpoint}
use Rattle.slirp_settings.specs.Settings.{usual}
use Rattle.slirp_settings.specs.declared.Forward.{Forward}
use Rattle.slirp_settings.specs.declared.Proto.TheVariants.{Tcp}
use Rattle.rules_control.specs.Apart.{without_control}
use Rattle.rules_control.specs.Talk.{listener}
use Rattle.rules_control.specs.declared.Command.TheVariants.{Add, Remove, List as Lists, What}
use Rattle.spec_control.specs.ControlServer.{Nothing, Opening, Shutting, Reads, control_server}
use Rattle.spec_control.specs.Laws.{MayControl, reported, wants_of}

abbrev own : Endpoint
own = endpoint 0x7f000001 5556

-- the settings have a control
abbrev config : Config
config = record usual { control = Some own; version = 2 }

abbrev ssh : Forward
ssh = record { proto = Tcp; host = endpoint 0x7f000001 5555; guest = endpoint 0x0a00020f 22 }

-- lines of one letter stand for commands: a, r, l, o (its own port), h (of the virtual host); any other for one that is none
abbrev read : Reads
read line =
    if bytes_eq line (codes "a") then Add ssh
    else (if bytes_eq line (codes "r") then Remove Tcp ssh.host
    else (if bytes_eq line (codes "l") then Lists
    else (if bytes_eq line (codes "o") then Add (record ssh { host = own })
    else (if bytes_eq line (codes "h") then Add (record ssh { guest = endpoint 0x0a000202 22 }) else What))))

abbrev peer : ℕ
peer = listener + 1

-- a line of this letter came
abbrev line : ℕ → Entry
line letter = TcpRead peer 129 (Done 2) (letter ∷ 10 ∷ [])

-- a reply of three octets went out
abbrev wrote : Entry
wrote = TcpWrite peer (codes "ok" ++ 10 ∷ []) (Done 3)

abbrev opened : List Entry
opened = Listen listener own MadeDone ∷ []

-- a connection came
abbrev met : List Entry
met = Accept listener peer (From (endpoint 0x7f000001 40000)) ∷ opened

-- an add: its socket is opened next, whatever else could come
abbrev asked : List Entry
asked = line 97 ∷ met

opening_is_due : (control_server read config asked).awaited ≡ Opening ssh
opening_is_due = refl

it_comes_next : MayControl read config asked (CallListen 0 ssh.host)
it_comes_next = refl

abbrev given : List Entry
given = Listen 0 ssh.host MadeDone ∷ asked

is_given : (control_server read config given).forwards ≡ (ssh, 0) ∷ []
is_given = refl

is_added : (control_server read config given).added ≡ (0, ssh) ∷ []
is_added = refl

says_ok : (control_server read config given).talk.left ≡ codes "ok" ++ 10 ∷ []
says_ok = refl

-- all that the network sees of it
seen : without_control given ≡ Listen 0 ssh.host MadeDone ∷ []
seen = refl

-- a host that refuses has used the number up
abbrev refused : List Entry
refused = Listen 0 ssh.host MadeFailed ∷ asked

is_refused : (control_server read config refused).talk.left ≡ codes "refused" ++ 10 ∷ []
is_refused = refl

no_forward : (control_server read config refused).forwards ≡ []
no_forward = refl

used_up : (control_server read config refused).added ≡ (0, ssh) ∷ []
used_up = refl

-- the same line again, once the reply is out; the control's own port; an address that isn't a guest's
is_taken : (control_server read config (line 97 ∷ wrote ∷ given)).talk.left ≡ codes "taken" ++ 10 ∷ []
is_taken = refl

is_its_own : (control_server read config (line 111 ∷ met)).talk.left ≡ codes "taken" ++ 10 ∷ []
is_its_own = refl

is_no_guest : (control_server read config (line 104 ∷ met)).talk.left ≡ codes "bad guest" ++ 10 ∷ []
is_no_guest = refl

-- nothing is there to be listed or taken back, and a line that asks for nothing
none_listed : (control_server read config (line 108 ∷ met)).talk.left ≡ codes "ok" ++ 10 ∷ []
none_listed = refl

not_there : (control_server read config (line 114 ∷ met)).talk.left ≡ codes "not there" ++ 10 ∷ []
not_there = refl

asks_nothing : (control_server read config (line 120 ∷ met)).talk.left ≡ codes "what" ++ 10 ∷ []
asks_nothing = refl

-- two lines in one read: the second is answered when the reply to the first is out
abbrev both : List Entry
both = TcpRead peer 129 (Done 4) (114 ∷ 10 ∷ 114 ∷ 10 ∷ []) ∷ wrote ∷ given

close_is_due : (control_server read config both).awaited ≡ Shutting 0
close_is_due = refl

close_comes_next : MayControl read config both (CallClose 0)
close_comes_next = refl

is_taken_back : (control_server read config both).removed ≡ 0 ∷ []
is_taken_back = refl

last_not_there : (control_server read config (wrote ∷ Close 0 ∷ both)).talk.left ≡ codes "not there" ++ 10 ∷ []
last_not_there = refl

-- a connection that ended is closed next, and a reply that is left of it goes; then a peer is waited for
abbrev left : List Entry
left = TcpRead peer 129 End [] ∷ met

its_close_is_due : (control_server read config left).awaited ≡ Shutting peer
its_close_is_due = refl

waits_for_a_peer : wants_of (control_server read config (Close peer ∷ left)).talk ≡ record { of = Listener listener; read = true; write = false } ∷ []
waits_for_a_peer = refl

nothing_is_due : (control_server read config (Close peer ∷ left)).awaited ≡ Nothing
nothing_is_due = refl

-- while a reply is left nothing is read
abbrev waits : List Want
waits = record { of = Connection peer; read = false; write = true } ∷ []

waits_to_write : wants_of (control_server read config given).talk ≡ waits
waits_to_write = refl

-- what was reported in a direction that wasn't wanted asks for no call
unwanted : reported (Wait waits None Ready (record { of = Connection peer; read = true; write = false } ∷ []) ∷ given) ≡ []
unwanted = refl

-- the clock isn't asked before the control listens
not_yet : MayControl read config [] CallNow → ⊥
not_yet is = cc

listens_first : MayControl read config opened CallNow
listens_first = refl

-- a read that fails is the last call, though a whole line was kept from before: nothing is answered, and the close comes next
abbrev broken : List Entry
broken = TcpWrite peer (codes "ok" ++ 10 ∷ []) Failed ∷ Listen 0 ssh.host MadeDone ∷ TcpRead peer 129 (Done 4) (97 ∷ 10 ∷ 97 ∷ 10 ∷ []) ∷ met

only_its_close : MayControl read config broken (CallClose peer)
only_its_close = refl

nothing_is_said : (control_server read config broken).talk.left ≡ []
nothing_is_said = refl

-- a whole run up to the second peer, of which each call is one that may come: a connection ends, is closed, and another is accepted
abbrev for_a_peer : List Want
for_a_peer = record { of = Listener listener; read = true; write = false } ∷ []

abbrev for_a_line : List Want
for_a_line = record { of = Connection peer; read = true; write = false } ∷ []

abbrev run : List Entry
run =
    Accept listener (peer + 1) (From (endpoint 0x7f000001 40001)) ∷ Now 3 ∷ Wait for_a_peer None Ready for_a_peer ∷ Close peer ∷ TcpRead peer 129 End [] ∷ Now 2
    ∷ Wait for_a_line None Ready for_a_line ∷ Accept listener peer (From (endpoint 0x7f000001 40000)) ∷ Now 1 ∷ Wait for_a_peer None Ready for_a_peer ∷ Now 0 ∷ opened

each_may_come : Follows (MayControl read config) run
each_may_come = (
  record { on = refl; number = refl; alone = refl; reported = refl },
  (
    refl,
    (
      record { own = refl; served = refl },
      (
        refl,
        (
          record { peer = refl; out = refl; asked = refl; reported = refl },
          (
            refl,
            (
              record { own = refl; served = refl },
              (
                record { on = refl; number = refl; alone = refl; reported = refl },
                (
                  refl,
                  (
                    record { own = refl; served = refl },
                    (
                      refl,
                      (record { number = refl; configured = refl; opening = (0, refl); first = refl }, tt),
                    ),
                  ),
                ),
              ),
            ),
          ),
        ),
      ),
    ),
  ),
)

the_second_is_there : (control_server read config run).talk.peer ≡ Some (peer + 1)
the_second_is_there = refl

-- while the first is open no other may be
not_beside_another : MayControl read config met (CallAccept listener (peer + 1)) → ⊥
not_beside_another may = cc may.alone
