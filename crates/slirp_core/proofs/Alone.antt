-- Where no socket is open but those of forwards: they are closed in the order of the list.
use Rattle.std.proofs.Common.{◌≡◌, ℕ, Bool, true, false, List, [], ◌∷◌, ◌++◌, map, reverse, Some, inl, inr, refl, sym, ◌∙◌, ap, subst, append_assoc}
use Rattle.std.proofs.lemmas.List.{append-nil, map-append, reverse-append}
use Rattle.world_face.specs.Journal.{Close, Entry}
use Rattle.slirp_settings.specs.declared.Forward.{Forward}
use Rattle.spec_trace.specs.Sockets.{is_among}
use Rattle.rules_udp.specs.Associations.{IsLeast, numbers}
use Rattle.udp_assoc.specs.Relays.{ClosesLeast}
use Rattle.rules_udp.specs.declared.Association.{Association}
use Rattle.rules_dns.specs.Questions.{numbers as question_numbers}
use Rattle.dns_relay.specs.Relaying.{IsLeast as IsLeastAsked}
use Rattle.rules_dns.specs.declared.Question.{Question}
use Rattle.sim_flows.proofs.Options.{true_false}
use Rattle.rules_forward.specs.Opened.{Opened}
use Rattle.slirp_core.specs.Firsts.{IsQuestionFirst}
use Rattle.slirp_core.specs.Forwards.{ClosesForward}
use Rattle.rules_forward.specs.Opened.{forward_sockets}
use Rattle.slirp_core.specs.Holds.{HoldsNothingElse, IsOf, NoForwardFirst, carriers, holders_of}
use Rattle.slirp_core.specs.State.{SlirpState}

-- ---- one after another

-- the closes of these, newest first
abbrev closes : List Opened → List Entry
closes forwards = map Close (reverse (forward_sockets forwards))

-- of those that were open these are left, after these calls
abbrev pub AreLeft : List Opened → List Opened → List Entry → Type 0
AreLeft all left made = closes all ≡ closes left ++ made

pub all_left : (all : List Opened) → AreLeft all all []
all_left all = sym (append-nil (closes all))

first_behind : (f : Forward) (n : ℕ) (left : List Opened) → closes ((f, n) ∷ left) ≡ closes left ++ (Close n ∷ [])
first_behind f n left = ap (map Close) (reverse-append (n ∷ []) (forward_sockets left)) ∙ map-append Close (reverse (forward_sockets left)) (n ∷ [])

pub one_less : (all old new : List Opened) (made more : List Entry) → AreLeft all old made → ClosesForward true old new more → AreLeft all new (more ++ made)
one_less all old new made more left (f, n, was, one) =
    left ∙ ap (λ (l : List Opened). closes l ++ made) was ∙ ap (λ (l : List Entry). l ++ made) (first_behind f n new)
    ∙ append_assoc (closes new) (Close n ∷ []) made ∙ ap (λ (l : List Entry). closes new ++ (l ++ made)) (sym one)

pub none_left : (all old new : List Opened) (made more : List Entry) → AreLeft all old made → ClosesForward false old new more → more ++ made ≡ closes all
none_left all old new made more left (none, after, no_call) = ap (λ (l : List Entry). l ++ made) no_call ∙ sym (left ∙ ap (λ (l : List Opened). closes l ++ made) none)

-- ---- nothing else

pub stays_alone : (slirp : SlirpState) (forwards : List Opened) → HoldsNothingElse slirp → HoldsNothingElse (record slirp { forwards = forwards })
stays_alone slirp forwards nothing = record { alone = nothing.alone; unnamed = nothing.unnamed; none = nothing.none }

none_carries : (slirp : SlirpState) → HoldsNothingElse slirp → carriers (holders_of slirp) ≡ []
none_carries slirp nothing =
    ap (λ (l : List Association). numbers l ++ question_numbers slirp.questions) nothing.alone ∙ ap (λ (l : List Question). question_numbers l) nothing.unnamed

none_of : (slirp : SlirpState) → HoldsNothingElse slirp → (n : ℕ) → IsOf (carriers (holders_of slirp)) slirp.flows.flows.slots n → ⊥
none_of slirp nothing n (inl among) = true_false (sym (subst (λ (l : List ℕ). is_among n l ≡ true) (none_carries slirp nothing) among))
none_of slirp nothing n (inr has) = nothing.none has.0 has.1 has.2.here

none_there : (forwards : List Opened) → forward_sockets forwards ≡ [] → forwards ≡ []
none_there [] none = refl
none_there (x ∷ forwards) none = cc

pub none_at_all : (slirp : SlirpState) → HoldsNothingElse slirp → NoForwardFirst (forward_sockets slirp.forwards) (carriers (holders_of slirp)) slirp.flows.flows.slots → slirp.forwards ≡ []
none_at_all slirp nothing first = none_there slirp.forwards (first.none (none_of slirp nothing))

-- no question is the first, and no association
pub no_question : (list : List Association) (asked : List Question) → asked ≡ [] → IsQuestionFirst list asked → ⊥
no_question list asked none first =
    let least = subst (λ (l : List Question). IsLeastAsked (λ q. true) l (Some first.0)) none first.1 in
    true_false (sym least.0)

pub no_association : (b : Bool) (old new : List Association) (made : List Entry) → old ≡ [] → ClosesLeast (λ a. true) b old new made → (b ≡ false) × (made ≡ [])
no_association true old new made none (n, one, first, left) =
    let least = subst (λ (l : List Association). IsLeast (λ a. true) l (Some n)) none first in
    absurd (true_false (sym least.0))
no_association false old new made none (no_call, all, same) = (refl, no_call)
