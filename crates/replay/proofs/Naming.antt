-- The call whose name a text is, among all calls.
use Rattle.std.proofs.Common.{◌≡◌, ◌≢◌, ℕ, true, false, cond, List, [], ◌∷◌, Some, None, find, refl, sym, ◌∙◌, ap, subst}
use Rattle.std.proofs.lemmas.Slice.Eq.{bytes_eq-Decides}
use Rattle.replay.specs.declared.CallName.{CallName}
use Rattle.replay.specs.declared.CallName.TheVariants.{Now, Wait, LinkOpen, LinkRead, LinkWrite, Connect, Connected, Listen, Accept, TcpRead, TcpWrite, TcpEnd, Close, UdpOpen, UdpSend}
use Rattle.replay.specs.declared.CallName.TheVariants.{UdpRecv, FileLen, FileRead}
use Rattle.replay.specs.Names.{name_text, is_named}

-- the one that is found has this name
pub found_named : (text : List ℕ) (names : List CallName) (name : CallName) → Some name ≡ find (is_named text) names → text ≡ name_text name
found_named text [] name is = absurd (cc is)
found_named text (n ∷ ns) name is = elim (is_named text n) as (λ b. is_named text n ≡ b → Some name ≡ cond b (Some n) (find (is_named text) ns) → text ≡ name_text name) [
  | true ↦ λ yes here. let same : name ≡ n = cc in (bytes_eq-Decides text (name_text n)).0 yes ∙ ap name_text (sym same)
  | false ↦ λ no later. found_named text ns name later
] refl is

abbrev pub all_names : List CallName
all_names = Now ∷ Wait ∷ LinkOpen ∷ LinkRead ∷ LinkWrite ∷ Connect ∷ Connected ∷ Listen ∷ Accept ∷ TcpRead ∷ TcpWrite ∷ TcpEnd ∷ Close ∷ UdpOpen ∷ UdpSend ∷ UdpRecv ∷ FileLen ∷ FileRead ∷ []

own_name : (n : CallName) → find (is_named (name_text n)) all_names ≡ Some n
own_name Now = refl
own_name Wait = refl
own_name LinkOpen = refl
own_name LinkRead = refl
own_name LinkWrite = refl
own_name Connect = refl
own_name Connected = refl
own_name Listen = refl
own_name Accept = refl
own_name TcpRead = refl
own_name TcpWrite = refl
own_name TcpEnd = refl
own_name Close = refl
own_name UdpOpen = refl
own_name UdpSend = refl
own_name UdpRecv = refl
own_name FileLen = refl
own_name FileRead = refl

-- where none is found the text is no name
pub none_named : (text : List ℕ) → None ≡ find (is_named text) all_names → (n : CallName) → text ≢ name_text n
none_named text none n is = cc (subst (λ t. None ≡ find (is_named t) all_names) is none ∙ own_name n)
