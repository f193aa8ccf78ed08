-- Questions to the name server that wait for their answer: open sockets, each for one question of one port of a guest, the longest unused first (RFC 1035, 4.1.1).
use Rattle.std.specs.Prelude.{ℕ, ◌+◌, ◌==◌, ◌&&◌, not, nat_le, nat_lt, Bool, false, List, [], ◌∷◌, ◌++◌, length, map, filter, find, Option, option_map, if◌then◌else◌}
use Rattle.std.specs.List.{list_any}
use Rattle.std.specs.Option.{option_map_or}
use Rattle.net_octets.specs.Octets.{one_at, two_at}
use Rattle.net_octets.specs.declared.Endpoint.{Endpoint}
use Rattle.net_octets.specs.declared.Mac.{Mac}
use Rattle.slirp_settings.specs.Classes.{same_endpoint}
use Rattle.rules_dns.specs.declared.Question.{Question}

-- so many questions wait at once; ours
abbrev pub most_questions : ℕ
most_questions = 512

-- each so many milliseconds after its last use; ours
abbrev pub question_life : ℕ
question_life = 10000

-- A message has a header of 12 octets; the first bit of its flags says whether it is an answer.
abbrev pub is_question : List ℕ → Bool
is_question octets = nat_le 12 (length octets) && nat_lt (one_at octets 2) 128

abbrev pub is_answer : List ℕ → Bool
is_answer octets = nat_le 12 (length octets) && nat_le 128 (one_at octets 2)

-- the identifier of a message
abbrev pub ident_in : List ℕ → ℕ
ident_in octets = two_at octets 0

abbrev pub is_numbered : ℕ → Question → Bool
is_numbered number q = q.number == number

-- it is of this port, with this identifier
abbrev pub is_of : Endpoint → ℕ → Question → Bool
is_of guest ident q = same_endpoint q.guest guest && (q.ident == ident)

abbrev pub numbers : List Question → List ℕ
numbers questions = map (λ q. q.number) questions

-- the question with this number; the socket of the one of this port with this identifier
abbrev pub numbered : ℕ → List Question → Option Question
numbered number questions = find (is_numbered number) questions

abbrev pub socket_of : Endpoint → ℕ → List Question → Option ℕ
socket_of guest ident questions = option_map (λ q. q.number) (find (is_of guest ident) questions)

-- its socket was closed
abbrev pub without : ℕ → List Question → List Question
without number questions = filter (λ q. not (is_numbered number q)) questions

-- it was used, so it is the last of all
abbrev pub moved_last : (Question → Question) → ℕ → List Question → List Question
moved_last change number [] = []
moved_last change number (q ∷ questions) = if is_numbered number q then questions ++ (change q ∷ []) else q ∷ moved_last change number questions

-- by the same question again, from this hardware address
abbrev pub asked_from : Mac → ℕ → Question → Question
asked_from mac now q = record { number = q.number; guest = q.guest; mac = mac; ident = q.ident; used = now }

-- by what came on its socket
abbrev pub heard_at : ℕ → Question → Question
heard_at now q = record { number = q.number; guest = q.guest; mac = q.mac; ident = q.ident; used = now }

-- it has waited for long enough
abbrev pub is_over : ℕ → Question → Bool
is_over now q = nat_le (q.used + question_life) now

abbrev pub is_idle : ℕ → ℕ → List Question → Bool
is_idle number now questions = list_any (λ q. is_numbered number q && is_over now q) questions

-- a message answers it that comes from the resolver and has its identifier (RFC 1035, 7.3; RFC 5452, 9.1)
abbrev pub is_answered : Option Endpoint → Question → Endpoint → List ℕ → Bool
is_answered resolver q peer octets = option_map_or (same_endpoint peer) resolver false && is_answer octets && (ident_in octets == q.ident)
