-- The ports of the host that the settings give to guests are opened one after another, in their order.
use Rattle.std.proofs.Common.{◌≡◌, ◌≢◌, ℕ, zero, suc, ◌+◌, ◌<◌, ◌≤◌, ◌==◌, ◌&&◌, ◌||◌, not, nat_le, Bool, true, false, IsTrue, List, [], ◌∷◌, ◌++◌, length, drop, take, slice_get}
use Rattle.std.proofs.Common.{slice_index_or, Some, None, refl, sym, ◌∙◌, ap, subst, arith}
use Rattle.std.proofs.lemmas.Bool.Decides.{nat_tests}
use Rattle.std.proofs.lemmas.Option.{slice_get-get_or}
use Rattle.std.specs.List.{list_all, list_any}
use Rattle.world_face.specs.Journal.{AreAllowed, Entry}
use Rattle.world_face.specs.declared.Made.TheVariants.{Done, Failed}
use Rattle.slirp_settings.specs.Addresses.{Config, address, is_guest}
use Rattle.slirp_settings.specs.Ranges.{IsSound, is_forward, none_twice, same_host_port, same_proto}
use Rattle.slirp_settings.specs.declared.Forward.{Forward}
use Rattle.slirp_settings.specs.declared.Proto.{Proto}
use Rattle.slirp_settings.specs.declared.Proto.TheVariants.{Tcp, Udp}
use Rattle.slirp_settings.specs.declared.fields.Field.TheVariants.{Forwards}
use Rattle.std.specs.Prelude.{Result, Ok, Err}
use Rattle.std.specs.Result.{is_ok, result_err}
use Rattle.rules_forward.specs.declared.FwdFault.{FwdFault}
use Rattle.rules_forward.specs.Adding.{Adds, fault_of, opening_of}
use Rattle.rules_forward.specs.Opened.{Opened, is_at, is_taken}
use Rattle.port_forward.proofs.Adding.{no_cause}
use Rattle.spec_trace.specs.Shape.{Over, Refused}
use Rattle.spec_trace.specs.Sockets.{next_number}
use Rattle.stream_netdev.specs.State.{LinkState}
use Rattle.slirp_core.specs.Forwards.{Listens, with_numbers}
use Rattle.rules_forward.specs.Opened.{forward_sockets}
use Rattle.slirp_core.specs.Holds.{Closing, Opens, holders_of}
use Rattle.slirp_core.specs.State.{SlirpState}
use Rattle.spec_run.proofs.Bools.{first_of, second_of, turned}
use Rattle.slirp_core.proofs.Given.{opening_next}
use Rattle.slirp_core.proofs.Starting.{more_open, next_left, numbers_last, refused}

-- ---- what the ranges of the settings say of each forward

both : (a b c : Bool) → IsTrue (a && b && c) → (a ≡ true) × (b ≡ true) × (c ≡ true)
both true true true is = (refl, refl, refl)
both true true false is = cc
both true false c is = cc
both false b c is = cc

holds_at : (p : Forward → Bool) (list : List Forward) (k : ℕ) (f : Forward) → list_all p list ≡ true → slice_get list k ≡ Some f → p f ≡ true
holds_at p [] k f all at = cc
holds_at p (x ∷ list) zero f all at = ap p (the_same x at) ∙ first_of (p x) (list_all p list) all
  where
    the_same : (x : Forward) → Some x ≡ Some f → f ≡ x
    the_same x is = cc
holds_at p (x ∷ list) (suc k) f all at = holds_at p list k f (second_of (p x) (list_all p list) all) at

proto_turned : (a b : Proto) → same_proto a b ≡ same_proto b a
proto_turned Tcp Tcp = refl
proto_turned Tcp Udp = refl
proto_turned Udp Tcp = refl
proto_turned Udp Udp = refl

eq_turned : (a b : ℕ) → (a == b) ≡ (b == a)
eq_turned a b = sym (turned a b (a == b) refl)

port_turned : (f g : Forward) → same_host_port f g ≡ is_at g.proto g.host (f, 0)
port_turned f g = λ i. proto_turned f.proto g.proto i && (eq_turned (address f.host) (address g.host) i && eq_turned f.host.port g.host.port i)

-- no one before it has its port of the host
none_before : (done left : List Forward) (f : Forward) (n : ℕ) → none_twice same_host_port (done ++ f ∷ left) ≡ true → is_taken f.proto f.host (with_numbers n done) ≡ false
none_before [] left f n once = refl
none_before (g ∷ done) left f n once = neither (is_at f.proto f.host (g, n)) (is_taken f.proto f.host (with_numbers (n + 1) done))
    (sym (port_turned g f) ∙ other g done left f (not_true (list_any (same_host_port g) (done ++ f ∷ left)) (first_of (not (list_any (same_host_port g) (done ++ f ∷ left)))
    (none_twice same_host_port (done ++ f ∷ left)) once)))
    (none_before done left f (n + 1) (second_of (not (list_any (same_host_port g) (done ++ f ∷ left))) (none_twice same_host_port (done ++ f ∷ left)) once))
  where
    neither : (a b : Bool) → a ≡ false → b ≡ false → (a || b) ≡ false
    neither true b one two = cc
    neither false b one two = two

    not_true : (b : Bool) → not b ≡ true → b ≡ false
    not_true true is = cc
    not_true false is = refl

    or_first : (a b : Bool) → (a || b) ≡ false → a ≡ false
    or_first true b is = cc
    or_first false b is = refl

    or_next : (a b : Bool) → (a || b) ≡ false → b ≡ false
    or_next true b is = cc
    or_next false b is = is

    other : (g : Forward) (done left : List Forward) (f : Forward) → list_any (same_host_port g) (done ++ f ∷ left) ≡ false → same_host_port g f ≡ false
    other g [] left f none = or_first (same_host_port g f) (list_any (same_host_port g) left) none
    other g (x ∷ done) left f none = other g done left f (or_next (same_host_port g x) (list_any (same_host_port g) (done ++ f ∷ left)) none)

not_zero : (n : ℕ) → not (n == 0) ≡ true → n ≢ 0
not_zero n is zero_is = grind (arith, nat_tests, is, zero_is)

-- What a forward of sound settings has: its ports aren't 0, and where those before it are open nothing speaks against opening it.
pub record MayOpen (config : Config) (place : ℕ) (forward : Forward) (opened : List Opened) : Type 0 where
  pub at : slice_get config.forwards place ≡ Some forward
  pub few : place < 32
  pub host_port : forward.host.port ≢ 0
  pub guest_port : forward.guest.port ≢ 0
  pub unasked : fault_of config forward opened ≡ None

length_numbers : (n : ℕ) (fs : List Forward) → length (with_numbers n fs) ≡ length fs
length_numbers n [] = refl
length_numbers n (f ∷ fs) = ap suc (length_numbers (n + 1) fs)

length_both : (xs ys : List Forward) → length (xs ++ ys) ≡ length xs + length ys
length_both [] ys = omega arith
length_both (x ∷ xs) ys = let more = length_both xs ys in omega (arith, more)

-- a list at one of its places
at_place : (fs : List Forward) (k : ℕ) (f : Forward) → slice_get fs k ≡ Some f → (fs ≡ take k fs ++ f ∷ drop (suc k) fs) × (length (take k fs) ≡ k) × (take (k + 1) fs ≡ take k fs ++ f ∷ [])
at_place [] k f at = cc
at_place (x ∷ fs) zero f at = let it = the_same x at in (ap (λ y. y ∷ fs) it, refl, ap (λ y. y ∷ []) it)
  where
    the_same : (x : Forward) → Some x ≡ Some f → x ≡ f
    the_same x is = cc
at_place (x ∷ fs) (suc k) f at =
    let more = at_place fs k f at in
    let next : suc (k + 1) ≡ suc k + 1 = omega arith in
    (ap (λ l. x ∷ l) more.0, ap suc more.1, subst (λ n. take n (x ∷ fs) ≡ x ∷ (take k fs ++ f ∷ [])) next (ap (λ l. x ∷ l) more.2))

pub may_open : (config : Config) (place : ℕ) (f : Forward) (opened : List Opened) → IsSound config → slice_get config.forwards place ≡ Some f → opened ≡ with_numbers 0
    (take place config.forwards) → MayOpen config place f opened
may_open config place f opened sound at are =
    let ranges = both (nat_le (length config.forwards) 32) (list_all (is_forward config) config.forwards) (none_twice same_host_port config.forwards) (sound.each Forwards) in
    let each = holds_at (is_forward config) config.forwards place f ranges.1 at in
    let grouped = regroup (not (f.host.port == 0)) (not (f.guest.port == 0)) (is_guest config (address f.guest)) each in
    let ports = first_of (not (f.host.port == 0) && not (f.guest.port == 0)) (is_guest config (address f.guest)) grouped in
    let guest = second_of (not (f.host.port == 0) && not (f.guest.port == 0)) (is_guest config (address f.guest)) grouped in
    let here = at_place config.forwards place f at in
    let long : length config.forwards ≡ length (take place config.forwards) + length (f ∷ drop (suc place) config.forwards) = ap length here.0 ∙ length_both
    (take place config.forwards) (f ∷ drop (suc place) config.forwards) in
    let many : length opened ≡ length (take place config.forwards) = ap length are ∙ length_numbers 0 (take place config.forwards) in
    let most = ranges.0 in
    let few : length opened < 32 = grind (arith, nat_tests, most, long, many) in
    let here_is = here.1 in
    record {
      at = at;
      few = omega (arith, few, many, here_is);
      host_port = not_zero f.host.port (first_of (not (f.host.port == 0)) (not (f.guest.port == 0)) ports);
      guest_port = not_zero f.guest.port (second_of (not (f.host.port == 0)) (not (f.guest.port == 0)) ports);
      unasked = no_cause config f opened
          (ap (is_taken f.proto f.host) are ∙ none_before (take place config.forwards) (drop (suc place) config.forwards) f 0 (sym (ap (none_twice same_host_port) here.0) ∙ ranges.2)) guest few;
    }
  where
    regroup : (a b c : Bool) → (a && b && c) ≡ true → ((a && b) && c) ≡ true
    regroup true b c is = is
    regroup false b c is = cc

-- the next of the settings may be opened, where those before it are open
pub may_open_next : (fs : List Forward) (slirp now : SlirpState) (place : ℕ) (d : Forward) → fs ≡ slirp.config.forwards → IsSound slirp.config → place < length fs →
    now.forwards ≡ with_numbers 0 (take place slirp.config.forwards)
    → now ≡ record slirp { number = place; forwards = now.forwards } → MayOpen now.config place (slice_index_or fs place d) now.forwards
may_open_next fs slirp now place d are sound less opened same_state =
    subst (λ (c : Config). MayOpen c place (slice_index_or fs place d) now.forwards) (sym (ap (λ (s : SlirpState). s.config) same_state))
    (may_open slirp.config place (slice_index_or fs place d) now.forwards sound (ap (λ (l : List Forward). slice_get l place) (sym are) ∙ slice_get-get_or fs place d less) opened)

pub few_forwards : (config : Config) → IsSound config → length config.forwards ≤ 32
few_forwards config sound =
    let most = (both (nat_le (length config.forwards) 32) (list_all (is_forward config) config.forwards) (none_twice same_host_port config.forwards) (sound.each Forwards)).0 in
    grind (arith, nat_tests, most)

-- the list goes on
pub one_more_open : (config : Config) (place : ℕ) (f : Forward) (opened new : List Opened) (number : ℕ) → slice_get config.forwards place ≡ Some f → opened ≡ with_numbers 0
    (take place config.forwards) → number ≡ place → new ≡ opened ++ (f, number) ∷ []
    → new ≡ with_numbers 0 (take (place + 1) config.forwards)
one_more_open config place f opened new number at are is grown =
    let here = at_place config.forwards place f at in
    grown ∙ ap (λ l. l ++ (f, number) ∷ []) are ∙ ap (λ n. with_numbers 0 (take place config.forwards) ++ (f, n) ∷ []) (is ∙ sym here.1) ∙ numbers_last
    (take place config.forwards) f ∙ ap (with_numbers 0) (sym here.2)

-- ---- a port is opened, or the host refuses it

pub listened : (config : Config) (place : ℕ) (f : Forward) (slirp new : SlirpState) (link : LinkState) (made past : List Entry) → slice_get config.forwards place ≡ Some f →
    Listens true f slirp.number slirp.forwards new.forwards made
    → new ≡ record slirp { number = slirp.number + 1; forwards = new.forwards } → AreAllowed made → Opens config place slirp link past → Opens config (place + 1) new link (made ++ past)
listened config place f slirp new link made past at listens same allowed opens =
    let here : Opens config slirp.number slirp link past = subst (λ n. Opens config n slirp link past) (sym opens.number) opens in
    let next = next_left here.done here.left config.forwards f here.all (ap (slice_get config.forwards) (sym here.many ∙ opens.number) ∙ at) in
    let then_is = more_open config slirp link past here f next.0 next.1 (subst AreAllowed listens.1 allowed).0 in
    subst (λ es. Opens config (place + 1) new link (es ++ past)) (sym listens.1)
    (subst (λ n. Opens config (n + 1) new link (opening_of f.proto slirp.number f.host Done ∷ past)) opens.number
    (subst (λ s. Opens config (slirp.number + 1) s link (opening_of f.proto slirp.number f.host Done ∷ past))
    (sym (same ∙ ap (λ l. record slirp { number = slirp.number + 1; forwards = l }) listens.0)) then_is))

pub listen_refused : (config : Config) (place : ℕ) (f : Forward) (slirp new : SlirpState) (link : LinkState) (made past : List Entry) → slice_get config.forwards place ≡ Some f →
    Listens false f slirp.number slirp.forwards new.forwards made
    → new ≡ record slirp { number = slirp.number + 1; forwards = new.forwards } → AreAllowed made → Opens config place slirp link past
    → Closing config (Over (Refused place)) (forward_sockets new.forwards) (holders_of new) (made ++ past) × (next_number (made ++ past) ≡ new.number)
listen_refused config place f slirp new link made past at listens same allowed opens =
    let here : Opens config slirp.number slirp link past = subst (λ n. Opens config n slirp link past) (sym opens.number) opens in
    let next = next_left here.done here.left config.forwards f here.all (ap (slice_get config.forwards) (sym here.many ∙ opens.number) ∙ at) in
    let then_is = refused config slirp link past here f next.0 next.1 (subst AreAllowed listens.1 allowed).0 in
    let drawn : next_number (made ++ past) ≡ slirp.number + 1 =
    ap (λ (es : List Entry). next_number (es ++ past)) listens.1 ∙ opening_next f.proto slirp.number f.host Failed past ∙ ap (λ n. n + 1) opens.sockets.number in (
      subst (λ es. Closing config (Over (Refused place)) (forward_sockets new.forwards) (holders_of new) (es ++ past)) (sym listens.1)
          (subst (λ n. Closing config (Over (Refused n)) (forward_sockets new.forwards) (holders_of new) (opening_of f.proto slirp.number f.host Failed ∷ past)) opens.number
          (subst (λ (s : SlirpState). Closing config (Over (Refused slirp.number)) (forward_sockets s.forwards) (holders_of s) (opening_of f.proto slirp.number f.host Failed ∷ past))
          (sym (same ∙ ap (λ l. record slirp { number = slirp.number + 1; forwards = l }) listens.0)) then_is)),
      drawn ∙ sym (ap (λ (s : SlirpState). s.number) same),
    )

-- what the list says of a forward that was added
pub listens_by : {T : Type 0} (forward : Forward) (number : ℕ) (old new : List Opened) (result : Result T FwdFault) (made : List Entry) → Adds None forward number old new
    (result_err result) made → Listens (is_ok result) forward number old new made
listens_by forward number old new (Ok u) made (Done, is, (none, grown)) = (grown, is)
listens_by forward number old new (Ok u) made (Failed, is, (fault, same)) = cc
listens_by forward number old new (Err e) made (Done, is, (none, grown)) = cc
listens_by forward number old new (Err e) made (Failed, is, (fault, same)) = (same, is)
