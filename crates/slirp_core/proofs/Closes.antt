-- Calls that are closes alone.
use Rattle.std.proofs.Common.{◌≡◌, ℕ, Bool, true, false, List, [], ◌∷◌, ◌++◌, Option, refl, sym, ◌∙◌, ap, subst}
use Rattle.std.proofs.lemmas.List.Elements.{All-append, All-cons, All-head, All-nil, All-tail}
use Rattle.world_face.specs.Journal.{Close, Entry}
use Rattle.spec_trace.specs.Sockets.{next_number, number_after}
use Rattle.udp_assoc.specs.Relays.{ClosesLeast}
use Rattle.rules_udp.specs.declared.Association.{Association}
use Rattle.dns_relay.specs.Relaying.{ClosesLeast as ClosesLeastAsked}
use Rattle.rules_dns.specs.declared.Question.{Question}
use Rattle.flow_splice.specs.Splice.{Splice}
use Rattle.rules_forward.specs.Opened.{Opened}
use Rattle.tcp_flows.specs.Runs.{ClosesFirst}
use Rattle.slirp_core.specs.Forwards.{AreCloses, ClosesForward, IsClose}

-- ---- none, one, and some after others

pub none_closed : (made : List Entry) → made ≡ [] → AreCloses made
none_closed made none = subst AreCloses (sym none) (All-nil IsClose)

one_closed : (n : ℕ) (made : List Entry) → made ≡ Close n ∷ [] → AreCloses made
one_closed n made one = subst AreCloses (sym one) (All-cons IsClose (Close n) [] (n, refl) (All-nil IsClose))

pub close_then : (more made : List Entry) → AreCloses more → AreCloses made → AreCloses (more ++ made)
close_then more made later before = All-append IsClose more made later before

-- ---- of the first of a kind

pub of_forward : (more : Bool) (old new : List Opened) (made : List Entry) → ClosesForward more old new made → AreCloses made
of_forward true old new made (f, n, was, one) = one_closed n made one
of_forward false old new made (none, after, no_call) = none_closed made no_call

pub of_flow : (more : Bool) (old new : List (Option Splice)) (made : List Entry) → ClosesFirst more old new made → AreCloses made
of_flow true old new made (n, k, next, left, one) = one_closed n made one
of_flow false old new made (none, same, no_call) = none_closed made no_call

pub of_question : (more : Bool) (old new : List Question) (made : List Entry) → ClosesLeastAsked (λ q. true) more old new made → AreCloses made
of_question true old new made (n, one, least, left) = one_closed n made one
of_question false old new made (no_call, least, same) = none_closed made no_call

pub of_association : (more : Bool) (old new : List Association) (made : List Entry) → ClosesLeast (λ a. true) more old new made → AreCloses made
of_association true old new made (n, one, least, left) = one_closed n made one
of_association false old new made (no_call, least, same) = none_closed made no_call

-- ---- they draw no number

pub draw_none : (made past : List Entry) → AreCloses made → next_number (made ++ past) ≡ next_number past
draw_none [] past closes = refl
draw_none (e ∷ made) past closes =
    let this = All-head IsClose e made closes in
    ap (λ (x : Entry). number_after x (next_number (made ++ past))) this.1 ∙ draw_none made past (All-tail IsClose e made closes)
