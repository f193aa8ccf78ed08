-- Calls, each of which has one text.
use Rattle.std.proofs.Common.{◌≡◌, ℕ, true, List, [], ◌∷◌, ◌++◌, decimal, refl, sym, ◌∙◌}
use Rattle.std.specs.List.{list_all}
use Rattle.world_face.specs.Journal.{Call, CallNow, CallWait, CallLinkOpen, CallLinkRead, CallLinkWrite, CallConnect, CallConnected, CallListen, CallAccept, CallTcpRead, CallTcpWrite}
use Rattle.world_face.specs.Journal.{CallTcpEnd, CallClose, CallUdpOpen, CallUdpSend, CallUdpRecv, CallFileLen, CallFileRead}
use Rattle.replay.specs.Names.{name_text, name_of}
use Rattle.address_text.specs.Texts.{endpoint_text, place_text}
use Rattle.address_text.proofs.Parting.{parts_once}
use Rattle.replay.specs.Text.{hexadecimal, wants_text, timeout_text, call_text}
use Rattle.replay.proofs.Parting.{is_word, decimal_word, hexadecimal_word}
use Rattle.replay.proofs.Words.{same_octets, endpoint_word, wants_word, timeout_word, place_octets}
use Rattle.address_text.proofs.Addresses.{same_endpoint}
use Rattle.spec_replay.proofs.Tokens.{same_wants, same_timeout, same_place}
use Rattle.std.proofs.lemmas.Fmt.{decimal_injective}
use Rattle.replay.specs.Range.{InRange}
use Rattle.replay.proofs.Calls.{args_text, named, name_word, same_name}

one_word : (a b : List ℕ) → list_all is_word a ≡ true → list_all is_word b ≡ true → a ++ 32 ∷ [] ≡ b ++ 32 ∷ [] → a ≡ b
one_word a b ha hb is = (parts_once 32 is_word refl a b [] [] ha hb is).0

next_word : (a b r s : List ℕ) → list_all is_word a ≡ true → list_all is_word b ≡ true → a ++ 32 ∷ r ≡ b ++ 32 ∷ s → (a ≡ b) × (r ≡ s)
next_word a b r s ha hb is = parts_once 32 is_word refl a b r s ha hb is

same_args : (c d : Call) → InRange c → InRange d → name_of c ≡ name_of d → args_text c ≡ args_text d → c ≡ d
same_args CallNow CallNow hc hd called is = refl
same_args (CallWait wants timeout) (CallWait wants' timeout') hc hd called is =
    let w0 = next_word (timeout_text timeout) (timeout_text timeout') (wants_text wants ++ 32 ∷ []) (wants_text wants' ++ 32 ∷ []) (timeout_word timeout hc.0) (timeout_word timeout' hd.0) is in
    let e0 : timeout ≡ timeout' = same_timeout timeout timeout' hc.0 hd.0 w0.0 in
    let w1 = next_word (wants_text wants) (wants_text wants') [] [] (wants_word wants hc.1) (wants_word wants' hd.1) w0.1 in
    let e1 : wants ≡ wants' = same_wants wants wants' hc.1 hd.1 w1.0 in
    cc
same_args (CallLinkOpen at) (CallLinkOpen at') hc hd called is =
    let w0 = next_word (hexadecimal (place_text at)) (hexadecimal (place_text at')) [] [] (hexadecimal_word (place_text at) (place_octets at hc))
    (hexadecimal_word (place_text at') (place_octets at' hd)) is in
    let e0 : at ≡ at' = same_place at at' hc hd (same_octets (place_text at) (place_text at') (place_octets at hc) (place_octets at' hd) w0.0) in
    cc
same_args (CallLinkRead asked) (CallLinkRead asked') hc hd called is =
    let w0 = next_word (decimal asked) (decimal asked') [] [] (decimal_word asked hc) (decimal_word asked' hd) is in
    let e0 : asked ≡ asked' = decimal_injective asked asked' hc hd w0.0 in
    cc
same_args (CallLinkWrite octets) (CallLinkWrite octets') hc hd called is =
    let w0 = next_word (hexadecimal octets) (hexadecimal octets') [] [] (hexadecimal_word octets hc) (hexadecimal_word octets' hd) is in
    let e0 : octets ≡ octets' = same_octets octets octets' hc hd w0.0 in
    cc
same_args (CallConnect socket to) (CallConnect socket' to') hc hd called is =
    let w0 = next_word (decimal socket) (decimal socket') (endpoint_text to ++ 32 ∷ []) (endpoint_text to' ++ 32 ∷ []) (decimal_word socket hc.0) (decimal_word socket' hd.0) is in
    let e0 : socket ≡ socket' = decimal_injective socket socket' hc.0 hd.0 w0.0 in
    let w1 = next_word (endpoint_text to) (endpoint_text to') [] [] (endpoint_word to hc.1) (endpoint_word to' hd.1) w0.1 in
    let e1 : to ≡ to' = same_endpoint to to' hc.1 hd.1 w1.0 in
    cc
same_args (CallConnected socket) (CallConnected socket') hc hd called is =
    let w0 = next_word (decimal socket) (decimal socket') [] [] (decimal_word socket hc) (decimal_word socket' hd) is in
    let e0 : socket ≡ socket' = decimal_injective socket socket' hc hd w0.0 in
    cc
same_args (CallListen socket at) (CallListen socket' at') hc hd called is =
    let w0 = next_word (decimal socket) (decimal socket') (endpoint_text at ++ 32 ∷ []) (endpoint_text at' ++ 32 ∷ []) (decimal_word socket hc.0) (decimal_word socket' hd.0) is in
    let e0 : socket ≡ socket' = decimal_injective socket socket' hc.0 hd.0 w0.0 in
    let w1 = next_word (endpoint_text at) (endpoint_text at') [] [] (endpoint_word at hc.1) (endpoint_word at' hd.1) w0.1 in
    let e1 : at ≡ at' = same_endpoint at at' hc.1 hd.1 w1.0 in
    cc
same_args (CallAccept listener socket) (CallAccept listener' socket') hc hd called is =
    let w0 = next_word (decimal listener) (decimal listener') (decimal socket ++ 32 ∷ []) (decimal socket' ++ 32 ∷ []) (decimal_word listener hc.0) (decimal_word listener' hd.0) is in
    let e0 : listener ≡ listener' = decimal_injective listener listener' hc.0 hd.0 w0.0 in
    let w1 = next_word (decimal socket) (decimal socket') [] [] (decimal_word socket hc.1) (decimal_word socket' hd.1) w0.1 in
    let e1 : socket ≡ socket' = decimal_injective socket socket' hc.1 hd.1 w1.0 in
    cc
same_args (CallTcpRead socket asked) (CallTcpRead socket' asked') hc hd called is =
    let w0 = next_word (decimal socket) (decimal socket') (decimal asked ++ 32 ∷ []) (decimal asked' ++ 32 ∷ []) (decimal_word socket hc.0) (decimal_word socket' hd.0) is in
    let e0 : socket ≡ socket' = decimal_injective socket socket' hc.0 hd.0 w0.0 in
    let w1 = next_word (decimal asked) (decimal asked') [] [] (decimal_word asked hc.1) (decimal_word asked' hd.1) w0.1 in
    let e1 : asked ≡ asked' = decimal_injective asked asked' hc.1 hd.1 w1.0 in
    cc
same_args (CallTcpWrite socket octets) (CallTcpWrite socket' octets') hc hd called is =
    let w0 = next_word (decimal socket) (decimal socket') (hexadecimal octets ++ 32 ∷ []) (hexadecimal octets' ++ 32 ∷ []) (decimal_word socket hc.0) (decimal_word socket' hd.0) is in
    let e0 : socket ≡ socket' = decimal_injective socket socket' hc.0 hd.0 w0.0 in
    let w1 = next_word (hexadecimal octets) (hexadecimal octets') [] [] (hexadecimal_word octets hc.1) (hexadecimal_word octets' hd.1) w0.1 in
    let e1 : octets ≡ octets' = same_octets octets octets' hc.1 hd.1 w1.0 in
    cc
same_args (CallTcpEnd socket) (CallTcpEnd socket') hc hd called is =
    let w0 = next_word (decimal socket) (decimal socket') [] [] (decimal_word socket hc) (decimal_word socket' hd) is in
    let e0 : socket ≡ socket' = decimal_injective socket socket' hc hd w0.0 in
    cc
same_args (CallClose socket) (CallClose socket') hc hd called is =
    let w0 = next_word (decimal socket) (decimal socket') [] [] (decimal_word socket hc) (decimal_word socket' hd) is in
    let e0 : socket ≡ socket' = decimal_injective socket socket' hc hd w0.0 in
    cc
same_args (CallUdpOpen socket at) (CallUdpOpen socket' at') hc hd called is =
    let w0 = next_word (decimal socket) (decimal socket') (endpoint_text at ++ 32 ∷ []) (endpoint_text at' ++ 32 ∷ []) (decimal_word socket hc.0) (decimal_word socket' hd.0) is in
    let e0 : socket ≡ socket' = decimal_injective socket socket' hc.0 hd.0 w0.0 in
    let w1 = next_word (endpoint_text at) (endpoint_text at') [] [] (endpoint_word at hc.1) (endpoint_word at' hd.1) w0.1 in
    let e1 : at ≡ at' = same_endpoint at at' hc.1 hd.1 w1.0 in
    cc
same_args (CallUdpSend socket to octets) (CallUdpSend socket' to' octets') hc hd called is =
    let w0 = next_word (decimal socket) (decimal socket') (endpoint_text to ++ 32 ∷ (hexadecimal octets ++ 32 ∷ [])) (endpoint_text to' ++ 32 ∷ (hexadecimal octets' ++ 32 ∷ []))
    (decimal_word socket hc.0) (decimal_word socket' hd.0) is in
    let e0 : socket ≡ socket' = decimal_injective socket socket' hc.0 hd.0 w0.0 in
    let w1 = next_word (endpoint_text to) (endpoint_text to') (hexadecimal octets ++ 32 ∷ []) (hexadecimal octets' ++ 32 ∷ []) (endpoint_word to hc.1) (endpoint_word to' hd.1) w0.1 in
    let e1 : to ≡ to' = same_endpoint to to' hc.1 hd.1 w1.0 in
    let w2 = next_word (hexadecimal octets) (hexadecimal octets') [] [] (hexadecimal_word octets hc.2) (hexadecimal_word octets' hd.2) w1.1 in
    let e2 : octets ≡ octets' = same_octets octets octets' hc.2 hd.2 w2.0 in
    cc
same_args (CallUdpRecv socket asked) (CallUdpRecv socket' asked') hc hd called is =
    let w0 = next_word (decimal socket) (decimal socket') (decimal asked ++ 32 ∷ []) (decimal asked' ++ 32 ∷ []) (decimal_word socket hc.0) (decimal_word socket' hd.0) is in
    let e0 : socket ≡ socket' = decimal_injective socket socket' hc.0 hd.0 w0.0 in
    let w1 = next_word (decimal asked) (decimal asked') [] [] (decimal_word asked hc.1) (decimal_word asked' hd.1) w0.1 in
    let e1 : asked ≡ asked' = decimal_injective asked asked' hc.1 hd.1 w1.0 in
    cc
same_args (CallFileLen name) (CallFileLen name') hc hd called is =
    let w0 = next_word (hexadecimal name) (hexadecimal name') [] [] (hexadecimal_word name hc) (hexadecimal_word name' hd) is in
    let e0 : name ≡ name' = same_octets name name' hc hd w0.0 in
    cc
same_args (CallFileRead name place asked) (CallFileRead name' place' asked') hc hd called is =
    let w0 = next_word (hexadecimal name) (hexadecimal name') (decimal place ++ 32 ∷ (decimal asked ++ 32 ∷ [])) (decimal place' ++ 32 ∷ (decimal asked' ++ 32 ∷ []))
    (hexadecimal_word name hc.0) (hexadecimal_word name' hd.0) is in
    let e0 : name ≡ name' = same_octets name name' hc.0 hd.0 w0.0 in
    let w1 = next_word (decimal place) (decimal place') (decimal asked ++ 32 ∷ []) (decimal asked' ++ 32 ∷ []) (decimal_word place hc.1) (decimal_word place' hd.1) w0.1 in
    let e1 : place ≡ place' = decimal_injective place place' hc.1 hd.1 w1.0 in
    let w2 = next_word (decimal asked) (decimal asked') [] [] (decimal_word asked hc.2) (decimal_word asked' hd.2) w1.1 in
    let e2 : asked ≡ asked' = decimal_injective asked asked' hc.2 hd.2 w2.0 in
    cc
same_args _ _ hc hd called is = cc called

-- a call with a space after it
pub same_call : (c d : Call) → InRange c → InRange d → call_text c ++ 32 ∷ [] ≡ call_text d ++ 32 ∷ [] → c ≡ d
same_call c d hc hd is =
    let parted = next_word (name_text (name_of c)) (name_text (name_of d)) (args_text c) (args_text d) (name_word (name_of c)) (name_word (name_of d)) (sym (named c) ∙ is ∙ named d) in
    same_args c d hc hd (same_name (name_of c) (name_of d) parted.0) parted.1
