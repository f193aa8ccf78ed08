-- Each line is read in some way: whatever could be written so is gone through, and stands there or doesn't.
use Rattle.std.proofs.Common.{◌≡◌, ◌≢◌, ◌⊎◌, inl, inr, ℕ, zero, suc, ◌<◌, ◌^◌, ◌==◌, Bool, true, false, List, [], ◌∷◌, ◌++◌, codes, decimal, refl, sym, ◌∙◌, ap, subst, append_assoc, arith}
use Rattle.std.proofs.lemmas.Bool.Decides.{nat_tests}
use Rattle.net_octets.specs.declared.Endpoint.{Endpoint}
use Rattle.slirp_settings.specs.declared.Forward.{Forward}
use Rattle.slirp_settings.specs.declared.Proto.{Proto}
use Rattle.slirp_settings.specs.declared.Proto.TheVariants.{Tcp, Udp}
use Rattle.address_text.specs.Texts.{IsAddress, IsEndpointText, IsNumber, address_text, endpoint_text}
use Rattle.address_text.proofs.Addresses.{made_of}
use Rattle.address_text.specs.Rules.{IsAddressOr, IsForward, IsPortAt, IsRule, IsType}
use Rattle.command_words.proofs.Ruled.{bare_refused, behind_refused, encoded_forward}
use Rattle.rules_control.specs.Commands.{IsAdd, IsRemove, Means, has_no_port, removal}
use Rattle.rules_control.specs.declared.Command.{Command}
use Rattle.rules_control.specs.declared.Command.TheVariants.{Add, Remove, List as Lists, What}
use Rattle.control.proofs.Encoding.{endpoint_of, no_removal, portless, rule_of}

-- it is so, or it isn't
abbrev Told : Type 0 → Type 0
Told P = P ⊎ ¬ P

both_told : {P Q : Type 0} → Told P → Told Q → Told (P × Q)
both_told (inl p) (inl q) = inl (p, q)
both_told (inl p) (inr no_q) = inr (λ both. no_q both.1)
both_told (inr no_p) q = inr (λ both. no_p both.0)

same_number : (m n : ℕ) → Told (m ≡ n)
same_number m n = by (m == n) refl
  where
    by : (b : Bool) → (m == n) ≡ b → Told (m ≡ n)
    by true is = inl (grind (arith, nat_tests))
    by false is = inr (λ same. grind (arith, nat_tests))

same_text : (a b : List ℕ) → Told (a ≡ b)
same_text [] [] = inl refl
same_text [] (y ∷ b) = inr (λ is. cc)
same_text (x ∷ a) [] = inr (λ is. cc)
same_text (x ∷ a) (y ∷ b) = by (same_number x y) (same_text a b)
  where
    by : Told (x ≡ y) → Told (a ≡ b) → Told (◌≡◌ {A = List ℕ} (x ∷ a) (y ∷ b))
    by (inl one) (inl rest) = inl (ap (λ o. o ∷ a) one ∙ ap (λ l. y ∷ l) rest)
    by (inl one) (inr other) = inr (λ is. let rest : a ≡ b = cc in other rest)
    by (inr other) rest = inr (λ is. let one : x ≡ y = cc in other one)

-- a number under some other of which P holds
abbrev Under : (ℕ → Type 0) → ℕ → Type 0
Under P n = (k : ℕ) × (k < n) × P k

under : (P : ℕ → Type 0) → ((k : ℕ) → Told (P k)) → (n : ℕ) → Told (Under P n)
under P told zero = inr (λ it. absurd (omega (arith, it.1)))
under P told (suc n) = by (told n) (under P told n)
  where
    at : (k : ℕ) → k < suc n → P k → ¬ P n → ¬ Under P n → Told (k ≡ n) → ⊥
    at k small is not_here none (inl same) = not_here (subst P same is)
    at k small is not_here none (inr other) = none (k, grind arith, is)

    by : Told (P n) → Told (Under P n) → Told (Under P (suc n))
    by (inl here) before = inl (n, omega arith, here)
    by (inr not_here) (inl it) = inl (it.0, omega (arith, it.1), it.2)
    by (inr not_here) (inr none) = inr (λ it. at it.0 it.1 it.2 not_here none (same_number it.0 n))

abbrev AsNumber : ℕ → List ℕ → Type 0
AsNumber bits text = (n : ℕ) × IsNumber bits text n

number : (bits : ℕ) (text : List ℕ) → Told (AsNumber bits text)
number bits text = by (under (λ n. text ≡ decimal n) (λ n. same_text text (decimal n)) (2 ^ bits))
  where
    by : Told (Under (λ n. text ≡ decimal n) (2 ^ bits)) → Told (AsNumber bits text)
    by (inl it) = inl (it.0, (it.2, it.1))
    by (inr none) = inr (λ it. none (it.0, it.1.1, it.1.0))

abbrev AsAddressOr : ℕ → List ℕ → Type 0
AsAddressOr usual text = (n : ℕ) × IsAddressOr usual text n

address : (bound : ℕ) (text : List ℕ) → Told ((n : ℕ) × (text ≡ address_text n) × (n < bound))
address bound text = by (under (λ n. text ≡ address_text n) (λ n. same_text text (address_text n)) bound)
  where
    by : Told (Under (λ n. text ≡ address_text n) bound) → Told ((n : ℕ) × (text ≡ address_text n) × (n < bound))
    by (inl it) = inl (it.0, it.2, it.1)
    by (inr none) = inr (λ it. none (it.0, it.2, it.1))

address_or : (usual : ℕ) (text : List ℕ) → Told (AsAddressOr usual text)
address_or usual [] = inl (usual, refl)
address_or usual (c ∷ cs) = by (address (2 ^ 32) (c ∷ cs))
  where
    by : Told ((n : ℕ) × (c ∷ cs ≡ address_text n) × (n < 2 ^ 32)) → Told ((n : ℕ) × IsAddress (c ∷ cs) n)
    by (inl it) = inl (it.0, (it.1, it.2))
    by (inr none) = inr (λ it. none (it.0, it.1.0, it.1.1))

abbrev AsEndpoint : List ℕ → Type 0
AsEndpoint text = (at : Endpoint) × IsEndpointText text at

abbrev AtAddress : List ℕ → ℕ → ℕ → Type 0
AtAddress text ports a = Under (λ p. text ≡ endpoint_text (made_of a p)) ports

endpoint_under : (text : List ℕ) (addresses ports : ℕ) → Told (Under (AtAddress text ports) addresses)
endpoint_under text addresses ports =
    under (AtAddress text ports) (λ a. under (λ p. text ≡ endpoint_text (made_of a p)) (λ p. same_text text (endpoint_text (made_of a p))) ports) addresses

endpoint : (text : List ℕ) → Told (AsEndpoint text)
endpoint text = by (endpoint_under text (2 ^ 32) (2 ^ 16))
  where
    by : Told (Under (AtAddress text (2 ^ 16)) (2 ^ 32)) → Told (AsEndpoint text)
    by (inl it) = inl (made_of it.0 it.2.0, (it.2.2, (it.1, it.2.1)))
    by (inr none) = inr (λ it. none (it.0.addr.0, it.1.1.0, (it.0.port, it.1.1.1, it.1.0)))

-- an octet of a text at which its parts are such
record Split (octet : ℕ) (text : List ℕ) (Q : List ℕ → List ℕ → Type 0) : Type 0 where
  before : List ℕ
  behind : List ℕ
  encoded : text ≡ before ++ octet ∷ behind
  parts : Q before behind

no_octet : (octet : ℕ) (before behind : List ℕ) → [] ≡ before ++ octet ∷ behind → ⊥
no_octet octet [] behind is = cc
no_octet octet (y ∷ before) behind is = cc

split : (octet : ℕ) (text : List ℕ) (Q : List ℕ → List ℕ → Type 0) → ((a b : List ℕ) → Told (Q a b)) → Told (Split octet text Q)
split octet [] Q told = inr (λ s. no_octet octet s.before s.behind s.encoded)
split octet (x ∷ text) Q told = by (both_told (same_number x octet) (told [] text)) (split octet text (λ a b. Q (x ∷ a) b) (λ a b. told (x ∷ a) b))
  where
    nowhere : ¬ ((x ≡ octet) × Q [] text) → ¬ Split octet text (λ a b. Q (x ∷ a) b) → (before behind : List ℕ) → x ∷ text ≡ before ++ octet ∷ behind → Q before behind → ⊥
    nowhere not_here not_later [] behind is parts =
        let one : x ≡ octet = cc in
        let rest : text ≡ behind = cc in
        not_here (one, subst (Q []) (sym rest) parts)
    nowhere not_here not_later (y ∷ before) behind is parts =
        let one : x ≡ y = cc in
        let rest : text ≡ before ++ octet ∷ behind = cc in
        not_later (record { before = before; behind = behind; encoded = rest; parts = subst (λ o. Q (o ∷ before) behind) (sym one) parts })

    by : Told ((x ≡ octet) × Q [] text) → Told (Split octet text (λ a b. Q (x ∷ a) b)) → Told (Split octet (x ∷ text) Q)
    by (inl here) later = inl (record { before = []; behind = text; encoded = ap (λ o. o ∷ text) here.0; parts = here.1 })
    by (inr not_here) (inl s) = inl (record { before = x ∷ s.before; behind = s.behind; encoded = ap (λ l. x ∷ l) s.encoded; parts = s.parts })
    by (inr not_here) (inr not_later) = inr (λ s. nowhere not_here not_later s.before s.behind s.encoded s.parts)

abbrev AsPort : ℕ → List ℕ → Type 0
AsPort usual text = (at : Endpoint) × IsPortAt usual text at

abbrev PortParts : ℕ → List ℕ → List ℕ → Type 0
PortParts usual before behind = AsAddressOr usual before × AsNumber 16 behind

port_at : (usual : ℕ) (text : List ℕ) → Told (AsPort usual text)
port_at usual text = by (split 58 text (PortParts usual) (λ a b. both_told (address_or usual a) (number 16 b)))
  where
    by : Told (Split 58 text (PortParts usual)) → Told (AsPort usual text)
    by (inl s) = inl (
      made_of s.parts.0.0 s.parts.1.0,
      record { before = s.before; behind = s.behind; encoded = s.encoded ∙ sym (append_assoc s.before (58 ∷ []) s.behind); address = s.parts.0.1; port = s.parts.1.1 },
    )
    by (inr none) = inr (λ it. none (record {
      before = it.1.before;
      behind = it.1.behind;
      encoded = it.1.encoded ∙ append_assoc it.1.before (58 ∷ []) it.1.behind;
      parts = ((it.0.addr.0, it.1.address), (it.0.port, it.1.port));
    }))

abbrev AsType : List ℕ → Type 0
AsType text = (proto : Proto) × IsType text proto

type_of : (text : List ℕ) → Told (AsType text)
type_of text = by (same_text text []) (same_text text (codes "tcp")) (same_text text (codes "udp"))
  where
    none : text ≢ [] → text ≢ codes "tcp" → text ≢ codes "udp" → (proto : Proto) → IsType text proto → ⊥
    none no_text no_tcp no_udp Tcp (inl is) = no_text is
    none no_text no_tcp no_udp Tcp (inr is) = no_tcp is
    none no_text no_tcp no_udp Udp is = no_udp is

    by : Told (text ≡ []) → Told (text ≡ codes "tcp") → Told (text ≡ codes "udp") → Told (AsType text)
    by (inl is) tcp udp = inl (Tcp, inl is)
    by (inr no_text) (inl is) udp = inl (Tcp, inr is)
    by (inr no_text) (inr no_tcp) (inl is) = inl (Udp, is)
    by (inr no_text) (inr no_tcp) (inr no_udp) = inr (λ it. none no_text no_tcp no_udp it.0 it.1)

abbrev AsForward : ℕ → List ℕ → Type 0
AsForward guest text = (f : Forward) × IsForward text guest f

abbrev EndParts : ℕ → List ℕ → List ℕ → Type 0
EndParts guest outside inside = AsPort 0 outside × AsPort guest inside

abbrev ForwardParts : ℕ → List ℕ → List ℕ → Type 0
ForwardParts guest kind rest = AsType kind × Split 45 rest (EndParts guest)

forward_of : (guest : ℕ) (text : List ℕ) → Told (AsForward guest text)
forward_of guest text =
    by (split 58 text (ForwardParts guest) (λ kind rest. both_told (type_of kind) (split 45 rest (EndParts guest) (λ a b. both_told (port_at 0 a) (port_at guest b)))))
  where
    by : Told (Split 58 text (ForwardParts guest)) → Told (AsForward guest text)
    by (inl s) =
        let ends = s.parts.1 in
        inl (
          record { proto = s.parts.0.0; host = ends.parts.0.0; guest = ends.parts.1.0 },
          record {
            kind = s.before;
            outside = ends.before;
            inside = ends.behind;
            encoded = encoded_forward text s.before s.behind ends.before ends.behind s.encoded ends.encoded;
            type = s.parts.0.1;
            host = ends.parts.0.1;
            guest = ends.parts.1.1;
          },
        )
    by (inr none) = inr (λ it.
        let is = it.1 in
        let rest = is.outside ++ 45 ∷ is.inside in
        none (record {
          before = is.kind;
          behind = rest;
          encoded = is.encoded ∙ sym (encoded_forward (is.kind ++ 58 ∷ rest) is.kind rest is.outside is.inside refl refl);
          parts = ((it.0.proto, is.type), record { before = is.outside; behind = is.inside; encoded = refl; parts = ((it.0.host, is.host), (it.0.guest, is.guest)) });
        }))

-- what stands behind a front
abbrev Behind : List ℕ → List ℕ → Type 0
Behind front text = (rest : List ℕ) × (text ≡ front ++ rest)

behind : (front text : List ℕ) → Told (Behind front text)
behind [] text = inl (text, refl)
behind (x ∷ front) [] = inr (λ it. let is = it.1 in cc)
behind (x ∷ front) (y ∷ text) = by (same_number y x) (behind front text)
  where
    by : Told (y ≡ x) → Told (Behind front text) → Told (Behind (x ∷ front) (y ∷ text))
    by (inl one) (inl it) = inl (it.0, ap (λ o. o ∷ text) one ∙ ap (λ l. x ∷ l) it.1)
    by (inl one) (inr none) = inr (λ it. let is = it.1 in let rest : text ≡ front ++ it.0 = cc in none (it.0, rest))
    by (inr other) rest = inr (λ it. let is = it.1 in let one : y ≡ x = cc in other one)

abbrev AsRule : ℕ → List ℕ → Type 0
AsRule guest text = (f : Forward) × IsRule text guest f

rule : (guest : ℕ) (text : List ℕ) → Told (AsRule guest text)
rule guest text = by (behind (codes "hostfwd=") text)
  where
    fronted : (rest : List ℕ) → text ≡ codes "hostfwd=" ++ rest → Told (AsForward guest rest) → Told (AsRule guest text)
    fronted rest encoded (inl it) = inl (it.0, inr (rest, encoded, it.1))
    fronted rest encoded (inr none) = inr (λ it. behind_refused text rest guest encoded (λ f is. none (f, is)) it.0 it.1)

    bare : ¬ Behind (codes "hostfwd=") text → Told (AsForward guest text) → Told (AsRule guest text)
    bare no_front (inl it) = inl (it.0, inl it.1)
    bare no_front (inr none) = inr (λ it. bare_refused text guest (λ rest is. no_front (rest, is)) (λ f is. none (f, is)) it.0 it.1)

    by : Told (Behind (codes "hostfwd=") text) → Told (AsRule guest text)
    by (inl it) = fronted it.0 it.1 (forward_of guest it.0)
    by (inr no_front) = bare no_front (forward_of guest text)

abbrev AsAdd : ℕ → List ℕ → Type 0
AsAdd guest line = (f : Forward) × IsAdd guest line f

add : (guest : ℕ) (line : List ℕ) → Told (AsAdd guest line)
add guest line = by (behind (codes "add ") line)
  where
    ported : (text : List ℕ) (f : Forward) → line ≡ codes "add " ++ text → IsRule text guest f → (b : Bool) → has_no_port f ≡ b → Told (AsAdd guest line)
    ported text f encoded is true none = inr (λ it. portless guest line text f encoded is none it.0 it.1)
    ported text f encoded is false some = inl (f, record { rule = text; encoded = encoded; is = is; ports = some })

    ruled : (text : List ℕ) → line ≡ codes "add " ++ text → Told (AsRule guest text) → Told (AsAdd guest line)
    ruled text encoded (inl it) = ported text it.0 encoded it.1 (has_no_port it.0) refl
    ruled text encoded (inr none) = inr (λ it. none (it.0, rule_of guest line text it.0 encoded it.1))

    by : Told (Behind (codes "add ") line) → Told (AsAdd guest line)
    by (inl it) = ruled it.0 it.1 (rule guest it.0)
    by (inr none) = inr (λ it. none (it.1.rule, it.1.encoded))

abbrev AsRemove : Proto → List ℕ → Type 0
AsRemove proto line = (host : Endpoint) × IsRemove line proto host

remove : (proto : Proto) (line : List ℕ) → Told (AsRemove proto line)
remove proto line = by (behind (removal proto) line)
  where
    ended : (text : List ℕ) → line ≡ removal proto ++ text → Told (AsEndpoint text) → Told (AsRemove proto line)
    ended text encoded (inl it) = inl (it.0, record { text = text; encoded = encoded; is = it.1 })
    ended text encoded (inr none) = inr (λ it. none (it.0, endpoint_of line text proto it.0 encoded it.1))

    by : Told (Behind (removal proto) line) → Told (AsRemove proto line)
    by (inl it) = ended it.0 it.1 (endpoint it.0)
    by (inr none) = inr (λ it. none (it.1.text, it.1.encoded))

command_of : (guest : ℕ) (line : List ℕ) → (command : Command) × Means guest line command
command_of guest line = by (same_text line (codes "list")) (add guest line) (remove Tcp line) (remove Udp line)
  where
    by : Told (line ≡ codes "list") → Told (AsAdd guest line) → Told (AsRemove Tcp line) → Told (AsRemove Udp line) → (command : Command) × Means guest line command
    by (inl is) adds tcp udp = (Lists, is)
    by (inr no_list) (inl it) tcp udp = (Add it.0, it.1)
    by (inr no_list) (inr no_add) (inl it) udp = (Remove Tcp it.0, it.1)
    by (inr no_list) (inr no_add) (inr no_tcp) (inl it) = (Remove Udp it.0, it.1)
    by (inr no_list) (inr no_add) (inr no_tcp) (inr no_udp) = (
      What,
      record {
        no_add = λ f is. no_add (f, is);
        no_remove = no_removal line (λ host is. no_tcp (host, is)) (λ host is. no_udp (host, is));
        no_list = no_list;
      },
    )

-- a way to read lines as they are meant
pub reading : (guest : ℕ) → (read : List ℕ → Command) × ((line : List ℕ) → Means guest line (read line))
reading guest = (λ line. (command_of guest line).0, λ line. (command_of guest line).1)
