-- Each line has one command: how it begins says which, and what stands behind that says the rest.
use Rattle.std.proofs.Common.{◌≡◌, ℕ, Bool, true, false, List, [], ◌∷◌, ◌++◌, codes, refl, sym, ◌∙◌, ap, subst, arith}
use Rattle.net_octets.specs.declared.Endpoint.{Endpoint}
use Rattle.slirp_settings.specs.declared.Forward.{Forward}
use Rattle.slirp_settings.specs.declared.Proto.{Proto}
use Rattle.slirp_settings.specs.declared.Proto.TheVariants.{Tcp, Udp}
use Rattle.address_text.specs.Texts.{IsEndpointText}
use Rattle.address_text.proofs.Addresses.{same_endpoint}
use Rattle.address_text.specs.Rules.{IsRule}
use Rattle.command_words.proofs.Ruled.{same_rule}
use Rattle.rules_control.specs.Commands.{IsAdd, IsRemove, Means, has_no_port, removal}
use Rattle.rules_control.specs.declared.Command.{Command}
use Rattle.rules_control.specs.declared.Command.TheVariants.{Add, Remove, List as Lists, What}

-- what stands behind a front is one text
pub same_rule_text : (a b : List ℕ) → codes "add " ++ a ≡ codes "add " ++ b → a ≡ b
same_rule_text a b is = cc

pub same_removal_text : (proto : Proto) (a b : List ℕ) → removal proto ++ a ≡ removal proto ++ b → a ≡ b
same_removal_text Tcp a b is = cc
same_removal_text Udp a b is = cc

-- the octet with which a line begins, and its eighth
head : List ℕ → ℕ
head [] = 0
head (x ∷ xs) = x

tail : List ℕ → List ℕ
tail [] = []
tail (x ∷ xs) = xs

eighth : List ℕ → ℕ
eighth line = head (tail (tail (tail (tail (tail (tail (tail line)))))))

removal_head : (proto : Proto) (text : List ℕ) → head (removal proto ++ text) ≡ 114
unfolding head
removal_head Tcp text = refl
removal_head Udp text = refl

-- the fronts differ
pub add_or_remove : (line rule text : List ℕ) (proto : Proto) → line ≡ codes "add " ++ rule → line ≡ removal proto ++ text → ⊥
unfolding head
add_or_remove line rule text proto one other = omega (arith, ap head (sym one ∙ other), removal_head proto text)

pub add_or_list : (line rule : List ℕ) → line ≡ codes "add " ++ rule → line ≡ codes "list" → ⊥
unfolding head
add_or_list line rule one other = omega (arith, ap head (sym one ∙ other))

remove_or_list : (line text : List ℕ) (proto : Proto) → line ≡ removal proto ++ text → line ≡ codes "list" → ⊥
unfolding head
remove_or_list line text proto one other = omega (arith, ap head (sym one ∙ other), removal_head proto text)

tcp_or_udp : (line a b : List ℕ) → line ≡ removal Tcp ++ a → line ≡ removal Udp ++ b → ⊥
unfolding head tail eighth
tcp_or_udp line a b one other = omega (arith, ap eighth (sym one ∙ other))

-- an add
pub rule_of : (guest : ℕ) (line rule : List ℕ) (f : Forward) → line ≡ codes "add " ++ rule → IsAdd guest line f → IsRule rule guest f
rule_of guest line rule f encoded add = subst (λ (t : List ℕ). IsRule t guest f) (same_rule_text add.rule rule (sym add.encoded ∙ encoded)) add.is

-- a test answers one of two
pub both : (b : Bool) → b ≡ true → b ≡ false → ⊥
both b holds fails = cc

-- a rule with a port 0 is none
pub portless : (guest : ℕ) (line rule : List ℕ) (f : Forward) → line ≡ codes "add " ++ rule → IsRule rule guest f → has_no_port f ≡ true → (g : Forward) → ¬ IsAdd guest line g
portless guest line rule f encoded is none g add =
    let same : f ≡ g = same_rule rule guest f g is (rule_of guest line rule g encoded add) in
    both (has_no_port g) (sym (ap has_no_port same) ∙ none) add.ports

-- a removal
pub endpoint_of : (line text : List ℕ) (proto : Proto) (host : Endpoint) → line ≡ removal proto ++ text → IsRemove line proto host → IsEndpointText text host
endpoint_of line text proto host encoded remove =
    subst (λ (t : List ℕ). IsEndpointText t host) (same_removal_text proto remove.text text (sym remove.encoded ∙ encoded)) remove.is

same_add : (guest : ℕ) (line : List ℕ) (f g : Forward) → IsAdd guest line f → IsAdd guest line g → f ≡ g
same_add guest line f g one other = same_rule one.rule guest f g one.is (rule_of guest line one.rule g one.encoded other)

same_host : (line : List ℕ) (proto : Proto) (a b : Endpoint) → IsRemove line proto a → IsRemove line proto b → a ≡ b
same_host line proto a b one other =
    let text = endpoint_of line one.text proto b one.encoded other in
    same_endpoint a b one.is.1 text.1 (sym one.is.0 ∙ text.0)

same_removal : (line : List ℕ) (p q : Proto) (a b : Endpoint) → IsRemove line p a → IsRemove line q b → Remove p a ≡ Remove q b
same_removal line Tcp Tcp a b one other = ap (Remove Tcp) (same_host line Tcp a b one other)
same_removal line Udp Udp a b one other = ap (Remove Udp) (same_host line Udp a b one other)
same_removal line Tcp Udp a b one other = absurd (tcp_or_udp line one.text other.text one.encoded other.encoded)
same_removal line Udp Tcp a b one other = absurd (tcp_or_udp line other.text one.text other.encoded one.encoded)

pub one_command : (guest : ℕ) (line : List ℕ) (one other : Command) → Means guest line one → Means guest line other → one ≡ other
one_command guest line (Add f) (Add g) a b = ap Add (same_add guest line f g a b)
one_command guest line (Add f) (Remove p h) a b = absurd (add_or_remove line a.rule b.text p a.encoded b.encoded)
one_command guest line (Add f) Lists a b = absurd (add_or_list line a.rule a.encoded b)
one_command guest line (Add f) What a b = absurd (b.no_add f a)
one_command guest line (Remove p h) (Add g) a b = absurd (add_or_remove line b.rule a.text p b.encoded a.encoded)
one_command guest line (Remove p h) (Remove q k) a b = same_removal line p q h k a b
one_command guest line (Remove p h) Lists a b = absurd (remove_or_list line a.text p a.encoded b)
one_command guest line (Remove p h) What a b = absurd (b.no_remove p h a)
one_command guest line Lists (Add g) a b = absurd (add_or_list line b.rule b.encoded a)
one_command guest line Lists (Remove q k) a b = absurd (remove_or_list line b.text q b.encoded a)
one_command guest line Lists Lists a b = refl
one_command guest line Lists What a b = absurd (b.no_list a)
one_command guest line What (Add g) a b = absurd (a.no_add g b)
one_command guest line What (Remove q k) a b = absurd (a.no_remove q k b)
one_command guest line What Lists a b = absurd (a.no_list b)
one_command guest line What What a b = refl

-- of both protocols none is a removal
pub no_removal : (line : List ℕ) → ((host : Endpoint) → ¬ IsRemove line Tcp host) → ((host : Endpoint) → ¬ IsRemove line Udp host)
    → (proto : Proto) (host : Endpoint) → ¬ IsRemove line proto host
no_removal line tcp udp Tcp host is = tcp host is
no_removal line tcp udp Udp host is = udp host is
