-- What becomes of the sockets becomes of the questions that wait on them.
use Rattle.std.proofs.Common.{◌≡◌, ℕ, Bool, true, false, cond, List, [], ◌∷◌, ◌++◌, find, is_some, Option, Some, None, option_map, refl, sym, ◌∙◌, ap}
use Rattle.std.proofs.lemmas.List.{map-append}
use Rattle.net_octets.specs.declared.Endpoint.{Endpoint}
use Rattle.idle_sockets.specs.Sockets.{is_numbered, is_of, moved_last, number_of, numbered, numbers, socket_of}
use Rattle.idle_sockets.specs.declared.IdleSocket.{IdleSocket}
use Rattle.idle_sockets.specs.Closing.{calls_for_room as calls_for_room_of, with_room as with_room_of}
use Rattle.idle_sockets.proofs.Mapping.{calls_mapped, find_mapped, room_mapped}
use Rattle.dns_relay.specs.Kept.{as_question, questions}
use Rattle.rules_dns.specs.Questions.{is_numbered as is_question, is_of as is_asked, moved_last as question_moved, numbered as question_numbered, numbers as question_numbers}
use Rattle.rules_dns.specs.Questions.{socket_of as question_socket}
use Rattle.dns_relay.specs.Relaying.{calls_for_room, with_room}
use Rattle.rules_dns.specs.declared.Question.{Question}

pub moved : (change : IdleSocket → IdleSocket) (changes : Question → Question) → ((s : IdleSocket) → as_question (change s) ≡ changes (as_question s)) → (n : ℕ) (sockets : List IdleSocket)
    → questions (moved_last change n sockets) ≡ question_moved changes n (questions sockets)
moved change changes alike n [] = refl
moved change changes alike n (s ∷ sockets) = by (is_numbered n s) (moved change changes alike n sockets)
  where
    by : (t : Bool) → questions (moved_last change n sockets) ≡ question_moved changes n (questions sockets) → questions (cond t (sockets ++ (change s ∷ [])) (s ∷ moved_last change n sockets)) ≡ cond t (questions sockets ++ (changes (as_question s) ∷ []))
        (as_question s ∷ question_moved changes n (questions sockets))
    by true rest = map-append as_question sockets (change s ∷ []) ∙ ap (λ (q : Question). questions sockets ++ (q ∷ [])) (alike s)
    by false rest = ap (λ (l : List Question). as_question s ∷ l) rest

pub numbers_are : (sockets : List IdleSocket) → numbers sockets ≡ question_numbers (questions sockets)
numbers_are [] = refl
numbers_are (s ∷ sockets) = ap (λ (l : List ℕ). s.number ∷ l) (numbers_are sockets)

pub numbered_is : (n : ℕ) (sockets : List IdleSocket) → question_numbered n (questions sockets) ≡ option_map as_question (numbered n sockets)
numbered_is n sockets = find_mapped as_question (is_numbered n) (is_question n) (λ s. refl) sockets

pub is_there : (n : ℕ) (sockets : List IdleSocket) → is_some (numbered n sockets) ≡ is_some (question_numbered n (questions sockets))
is_there n sockets = as_there (numbered n sockets) ∙ ap is_some (sym (numbered_is n sockets))
  where
    as_there : (found : Option IdleSocket) → is_some found ≡ is_some (option_map as_question found)
    as_there None = refl
    as_there (Some s) = refl

pub socket_is : (guest : Endpoint) (ident : ℕ) (sockets : List IdleSocket) → socket_of guest ident sockets ≡ question_socket guest ident (questions sockets)
socket_is guest ident [] = refl
socket_is guest ident (s ∷ sockets) = by (is_of guest ident s) (socket_is guest ident sockets)
  where
    by : (t : Bool) → socket_of guest ident sockets ≡ question_socket guest ident (questions sockets) → option_map number_of (cond t (Some s) (find (is_of guest ident) sockets)) ≡ option_map (λ (q : Question). q.number)
        (cond t (Some (as_question s)) (find (is_asked guest ident) (questions sockets)))
    by true rest = refl
    by false rest = rest

-- what is found of the questions is found of the sockets
pub found_is : (n : ℕ) (sockets : List IdleSocket) (list : List Question) → questions sockets ≡ list → (found : Option IdleSocket) → found ≡ numbered n sockets
    → question_numbered n list ≡ option_map as_question found
found_is n sockets list same found is = ap (question_numbered n) (sym same) ∙ numbered_is n sockets ∙ ap (option_map as_question) (sym is)

pub port_is : (guest : Endpoint) (ident : ℕ) (sockets : List IdleSocket) (list : List Question) → questions sockets ≡ list → (found : Option ℕ) → found ≡ socket_of guest ident sockets
    → question_socket guest ident list ≡ found
port_is guest ident sockets list same found is = ap (question_socket guest ident) (sym same) ∙ sym (socket_is guest ident sockets) ∙ sym is

-- room was made
pub left : (sockets new : List IdleSocket) (list : List Question) → questions sockets ≡ list → new ≡ with_room_of number_of sockets → questions new ≡ with_room list
left sockets new list same is = ap questions is ∙ room_mapped as_question number_of (λ (q : Question). q.number) (λ s. refl) sockets ∙ ap with_room same

pub calls_are : (sockets : List IdleSocket) (list : List Question) → questions sockets ≡ list → calls_for_room_of number_of sockets ≡ calls_for_room list
calls_are sockets list same = calls_mapped as_question number_of (λ (q : Question). q.number) (λ s. refl) sockets ∙ ap calls_for_room same
