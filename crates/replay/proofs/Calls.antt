-- A call is a name and arguments, of octets that stand in a call.
use Rattle.std.proofs.Common.{◌≡◌, ℕ, Bool, true, false, cond, eqb, ◌&&◌, List, [], ◌∷◌, ◌++◌, decimal, codes, refl, sym, ◌∙◌, ap, append_assoc}
use Rattle.std.specs.List.{list_all}
use Rattle.world_face.specs.Journal.{Call, CallNow, CallWait, CallLinkOpen, CallLinkRead, CallLinkWrite, CallConnect, CallConnected, CallListen, CallAccept, CallTcpRead, CallTcpWrite}
use Rattle.world_face.specs.Journal.{CallTcpEnd, CallClose, CallUdpOpen, CallUdpSend, CallUdpRecv, CallFileLen, CallFileRead}
use Rattle.replay.specs.declared.CallName.{CallName}
use Rattle.replay.specs.declared.CallName.TheVariants.{Now, Wait, LinkOpen, LinkRead, LinkWrite, Connect, Connected, Listen, Accept, TcpRead, TcpWrite, TcpEnd, Close, UdpOpen, UdpSend}
use Rattle.replay.specs.declared.CallName.TheVariants.{UdpRecv, FileLen, FileRead}
use Rattle.replay.specs.Names.{name_text, name_of}
use Rattle.address_text.specs.Texts.{endpoint_text, place_text}
use Rattle.address_text.proofs.Parting.{fit_append, fit_weaker}
use Rattle.replay.specs.Text.{hexadecimal, wants_text, timeout_text, call_text}
use Rattle.replay.proofs.Parting.{is_word, is_plain, word_is_plain, decimal_word, hexadecimal_word}
use Rattle.replay.proofs.Words.{endpoint_word, wants_word, timeout_word, place_octets}
use Rattle.replay.specs.Range.{InRange}

-- the arguments, each with a space after it
abbrev pub args_text : Call → List ℕ
args_text CallNow = []
args_text (CallWait wants timeout) = timeout_text timeout ++ 32 ∷ (wants_text wants ++ 32 ∷ [])
args_text (CallLinkOpen at) = hexadecimal (place_text at) ++ 32 ∷ []
args_text (CallLinkRead asked) = decimal asked ++ 32 ∷ []
args_text (CallLinkWrite octets) = hexadecimal octets ++ 32 ∷ []
args_text (CallConnect socket to) = decimal socket ++ 32 ∷ (endpoint_text to ++ 32 ∷ [])
args_text (CallConnected socket) = decimal socket ++ 32 ∷ []
args_text (CallListen socket at) = decimal socket ++ 32 ∷ (endpoint_text at ++ 32 ∷ [])
args_text (CallAccept listener socket) = decimal listener ++ 32 ∷ (decimal socket ++ 32 ∷ [])
args_text (CallTcpRead socket asked) = decimal socket ++ 32 ∷ (decimal asked ++ 32 ∷ [])
args_text (CallTcpWrite socket octets) = decimal socket ++ 32 ∷ (hexadecimal octets ++ 32 ∷ [])
args_text (CallTcpEnd socket) = decimal socket ++ 32 ∷ []
args_text (CallClose socket) = decimal socket ++ 32 ∷ []
args_text (CallUdpOpen socket at) = decimal socket ++ 32 ∷ (endpoint_text at ++ 32 ∷ [])
args_text (CallUdpSend socket to octets) = decimal socket ++ 32 ∷ (endpoint_text to ++ 32 ∷ (hexadecimal octets ++ 32 ∷ []))
args_text (CallUdpRecv socket asked) = decimal socket ++ 32 ∷ (decimal asked ++ 32 ∷ [])
args_text (CallFileLen name) = hexadecimal name ++ 32 ∷ []
args_text (CallFileRead name place asked) = hexadecimal name ++ 32 ∷ (decimal place ++ 32 ∷ (decimal asked ++ 32 ∷ []))

pub one : (n a : List ℕ) → (n ++ a) ++ 32 ∷ [] ≡ n ++ (a ++ 32 ∷ [])
one n a = append_assoc n a (32 ∷ [])

pub two : (n a b : List ℕ) → (((n ++ a) ++ 32 ∷ []) ++ b) ++ 32 ∷ [] ≡ n ++ (a ++ 32 ∷ (b ++ 32 ∷ []))
two n a b = simp append_assoc

pub three : (n a b c : List ℕ) → (((((n ++ a) ++ 32 ∷ []) ++ b) ++ 32 ∷ []) ++ c) ++ 32 ∷ [] ≡ n ++ (a ++ 32 ∷ (b ++ 32 ∷ (c ++ 32 ∷ [])))
three n a b c = simp append_assoc

-- a call is its name and its arguments
pub named : (c : Call) → call_text c ++ 32 ∷ [] ≡ name_text (name_of c) ++ 32 ∷ args_text c
unfolding call_text
named CallNow = refl
named (CallWait wants timeout) = two (codes "wait ") (timeout_text timeout) (wants_text wants)
named (CallLinkOpen at) = one (codes "lopen ") (hexadecimal (place_text at))
named (CallLinkRead asked) = one (codes "lread ") (decimal asked)
named (CallLinkWrite octets) = one (codes "lwrite ") (hexadecimal octets)
named (CallConnect socket to) = two (codes "connect ") (decimal socket) (endpoint_text to)
named (CallConnected socket) = one (codes "connected ") (decimal socket)
named (CallListen socket at) = two (codes "listen ") (decimal socket) (endpoint_text at)
named (CallAccept listener socket) = two (codes "accept ") (decimal listener) (decimal socket)
named (CallTcpRead socket asked) = two (codes "tread ") (decimal socket) (decimal asked)
named (CallTcpWrite socket octets) = two (codes "twrite ") (decimal socket) (hexadecimal octets)
named (CallTcpEnd socket) = one (codes "tend ") (decimal socket)
named (CallClose socket) = one (codes "close ") (decimal socket)
named (CallUdpOpen socket at) = two (codes "uopen ") (decimal socket) (endpoint_text at)
named (CallUdpSend socket to octets) = three (codes "usend ") (decimal socket) (endpoint_text to) (hexadecimal octets)
named (CallUdpRecv socket asked) = two (codes "urecv ") (decimal socket) (decimal asked)
named (CallFileLen name) = one (codes "flen ") (hexadecimal name)
named (CallFileRead name place asked) = three (codes "fread ") (hexadecimal name) (decimal place) (decimal asked)

pub name_word : (n : CallName) → list_all is_word (name_text n) ≡ true
name_word Now = refl
name_word Wait = refl
name_word LinkOpen = refl
name_word LinkRead = refl
name_word LinkWrite = refl
name_word Connect = refl
name_word Connected = refl
name_word Listen = refl
name_word Accept = refl
name_word TcpRead = refl
name_word TcpWrite = refl
name_word TcpEnd = refl
name_word Close = refl
name_word UdpOpen = refl
name_word UdpSend = refl
name_word UdpRecv = refl
name_word FileLen = refl
name_word FileRead = refl

-- words with a space after each
pub spaced : (a r : List ℕ) → list_all is_word a ≡ true → list_all is_plain r ≡ true → list_all is_plain (a ++ 32 ∷ r) ≡ true
spaced a r ha hr = fit_append is_plain a (32 ∷ r) (fit_weaker is_word is_plain word_is_plain a ha) hr

pub args_plain : (c : Call) → InRange c → list_all is_plain (args_text c) ≡ true
args_plain CallNow h = refl
args_plain (CallWait wants timeout) h = spaced (timeout_text timeout) (wants_text wants ++ 32 ∷ []) (timeout_word timeout h.0) (spaced (wants_text wants) [] (wants_word wants h.1) refl)
args_plain (CallLinkOpen at) h = spaced (hexadecimal (place_text at)) [] (hexadecimal_word (place_text at) (place_octets at h)) refl
args_plain (CallLinkRead asked) h = spaced (decimal asked) [] (decimal_word asked h) refl
args_plain (CallLinkWrite octets) h = spaced (hexadecimal octets) [] (hexadecimal_word octets h) refl
args_plain (CallConnect socket to) h = spaced (decimal socket) (endpoint_text to ++ 32 ∷ []) (decimal_word socket h.0) (spaced (endpoint_text to) [] (endpoint_word to h.1) refl)
args_plain (CallConnected socket) h = spaced (decimal socket) [] (decimal_word socket h) refl
args_plain (CallListen socket at) h = spaced (decimal socket) (endpoint_text at ++ 32 ∷ []) (decimal_word socket h.0) (spaced (endpoint_text at) [] (endpoint_word at h.1) refl)
args_plain (CallAccept listener socket) h = spaced (decimal listener) (decimal socket ++ 32 ∷ []) (decimal_word listener h.0) (spaced (decimal socket) [] (decimal_word socket h.1) refl)
args_plain (CallTcpRead socket asked) h = spaced (decimal socket) (decimal asked ++ 32 ∷ []) (decimal_word socket h.0) (spaced (decimal asked) [] (decimal_word asked h.1) refl)
args_plain (CallTcpWrite socket octets) h = spaced (decimal socket) (hexadecimal octets ++ 32 ∷ []) (decimal_word socket h.0) (spaced (hexadecimal octets) [] (hexadecimal_word octets h.1) refl)
args_plain (CallTcpEnd socket) h = spaced (decimal socket) [] (decimal_word socket h) refl
args_plain (CallClose socket) h = spaced (decimal socket) [] (decimal_word socket h) refl
args_plain (CallUdpOpen socket at) h = spaced (decimal socket) (endpoint_text at ++ 32 ∷ []) (decimal_word socket h.0) (spaced (endpoint_text at) [] (endpoint_word at h.1) refl)
args_plain (CallUdpSend socket to octets) h = spaced (decimal socket) (endpoint_text to ++ 32 ∷ (hexadecimal octets ++ 32 ∷ [])) (decimal_word socket h.0)
    (spaced (endpoint_text to) (hexadecimal octets ++ 32 ∷ []) (endpoint_word to h.1) (spaced (hexadecimal octets) [] (hexadecimal_word octets h.2) refl))
args_plain (CallUdpRecv socket asked) h = spaced (decimal socket) (decimal asked ++ 32 ∷ []) (decimal_word socket h.0) (spaced (decimal asked) [] (decimal_word asked h.1) refl)
args_plain (CallFileLen name) h = spaced (hexadecimal name) [] (hexadecimal_word name h) refl
args_plain (CallFileRead name place asked) h = spaced (hexadecimal name) (decimal place ++ 32 ∷ (decimal asked ++ 32 ∷ [])) (hexadecimal_word name h.0)
    (spaced (decimal place) (decimal asked ++ 32 ∷ []) (decimal_word place h.1) (spaced (decimal asked) [] (decimal_word asked h.2) refl))

pub call_plain : (c : Call) → InRange c → list_all is_plain (call_text c ++ 32 ∷ []) ≡ true
call_plain c h = rw (named c) (spaced (name_text (name_of c)) (args_text c) (name_word (name_of c)) (args_plain c h))

-- no two calls have one name
abbrev same_codes : List ℕ → List ℕ → Bool
same_codes [] [] = true
same_codes (x ∷ xs) (y ∷ ys) = eqb x y && same_codes xs ys
same_codes _ _ = false

abbrev named_at : List ℕ → CallName
named_at t =
    cond (same_codes t (codes "now")) Now (
    cond (same_codes t (codes "wait")) Wait (
    cond (same_codes t (codes "lopen")) LinkOpen (
    cond (same_codes t (codes "lread")) LinkRead (
    cond (same_codes t (codes "lwrite")) LinkWrite (
    cond (same_codes t (codes "connect")) Connect (
    cond (same_codes t (codes "connected")) Connected (
    cond (same_codes t (codes "listen")) Listen (
    cond (same_codes t (codes "accept")) Accept (
    cond (same_codes t (codes "tread")) TcpRead (
    cond (same_codes t (codes "twrite")) TcpWrite (
    cond (same_codes t (codes "tend")) TcpEnd (
    cond (same_codes t (codes "close")) Close (
    cond (same_codes t (codes "uopen")) UdpOpen (
    cond (same_codes t (codes "usend")) UdpSend (
    cond (same_codes t (codes "urecv")) UdpRecv (
    cond (same_codes t (codes "flen")) FileLen (
    FileRead)))))))))))))))))

inverse : (n : CallName) → named_at (name_text n) ≡ n
inverse Now = refl
inverse Wait = refl
inverse LinkOpen = refl
inverse LinkRead = refl
inverse LinkWrite = refl
inverse Connect = refl
inverse Connected = refl
inverse Listen = refl
inverse Accept = refl
inverse TcpRead = refl
inverse TcpWrite = refl
inverse TcpEnd = refl
inverse Close = refl
inverse UdpOpen = refl
inverse UdpSend = refl
inverse UdpRecv = refl
inverse FileLen = refl
inverse FileRead = refl

pub same_name : (n m : CallName) → name_text n ≡ name_text m → n ≡ m
same_name n m is = sym (inverse n) ∙ ap named_at is ∙ inverse m
