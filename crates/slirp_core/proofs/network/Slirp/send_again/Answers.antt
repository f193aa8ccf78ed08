use Rattle.std.proofs.Common.{◌≡◌, ℕ, ◌≤◌, ◌<◌, List, [], ◌∷◌, drop, length, nat_lt, true, false, Option, Some, None, option_map, rules, refl, sym, ◌∙◌, ap, subst, arith}
use Rattle.std.proofs.lemmas.Bool.Decides.{nat_tests}
use Rattle.std.proofs.lemmas.List.{take_at}
use Rattle.rules_tftp.specs.Soundness.{AreSound}
use Rattle.tftp_server.specs.Serving.{Serving}
use Rattle.rules_tftp.specs.Saying.{IsFromServer}
use Rattle.rules_tftp.specs.Transfers.{Said, Transfer, begun, next_again, said_again, ticked}
use Rattle.rules_tftp.proofs.Turning.{due_count, fewer_due, next_left, ticked_none}
use Rattle.slirp_settings.specs.Addresses.{Config}
use Rattle.spec_run.specs.Answers.{frames_of, told_of_files}
use Rattle.slirp_core.specs.Holds.{Holds, flowing}
use Rattle.slirp_core.specs.State.{SlirpState}
use Rattle.slirp_core.proofs.Again.{frames_some, said_fits, sends_it}
use Rattle.slirp_core.proofs.Taking.{file_fits, file_told}
use Rattle.slirp_core.proofs.Viewed.{state_of}
use Rattle.slirp_core.proofs.network.Slirp.send_again.Goals as goal

none_of : {X : Type 0} (xs : List X) → nat_lt 0 (length xs) ≡ false → xs ≡ []
none_of [] is = refl
none_of (x ∷ xs) is = absurd (grind (arith, nat_tests, is))

some_of : (frames : List (List ℕ)) → nat_lt 0 (length frames) ≡ true → frames ≡ [] → ⊥
some_of [] is none = cc
some_of (f ∷ frames) is none = cc

-- where frames are pending then a packet went, and one is due fewer
fewer_by : (config : Config) (ident now : ℕ) (ts : List Transfer) (o : Option Transfer) (frames : List (List ℕ)) → AreSound ts → next_again now ts ≡ o →
    frames ≡ frames_of config ident (told_of_files config (begun now true ts)) → nat_lt 0 (length frames) ≡ true
    → due_count now (ticked now true ts) < due_count now ts
fewer_by config ident now ts None frames sound found is some = absurd (some_of frames some (is ∙ ap (λ o. frames_of config ident (told_of_files config (option_map said_again o))) found))
fewer_by config ident now ts (Some t) frames sound found is some = let one = fewer_due now t ts sound found in omega (arith, one)

-- where none are none is due
none_by : (config : Config) (ident now : ℕ) (ts : List Transfer) (o : Option Transfer) (frames : List (List ℕ)) → ((said : Said) → begun now true ts ≡ Some said →
    length said.octets ≤ 1472) → next_again now ts ≡ o
    → frames ≡ frames_of config ident (told_of_files config (begun now true ts)) → frames ≡ [] → next_again now (ticked now true ts) ≡ None
none_by config ident now ts None frames fits found is none = ap (next_again now) (ticked_none now true ts found) ∙ next_left now ts ∙ found
none_by config ident now ts (Some t) frames fits found is none =
    let goes : begun now true ts ≡ Some (said_again t) = ap (option_map said_again) found in
    let some = frames_some config ident (said_again t) (fits (said_again t) goes) in
    let nothing : frames_of config ident (told_of_files config (Some (said_again t))) ≡ [] = sym (ap (λ o. frames_of config ident (told_of_files config o)) goes) ∙ sym is ∙ none in
    absurd (omega (arith, some, ap length nothing))

pub returns-then-pending-clause-none : goal.returns-then-pending-clause-none
returns-then-pending-clause-none c result none = absurd (some_of c.args.self.now.pending (sym c.pending.ensures ∙ c.if-pending.true) none)

pub returns-then-not-has_transfers-clause-none : goal.returns-then-not-has_transfers-clause-none
returns-then-not-has_transfers-clause-none c result pending =
    let i = c.self.inside in
    let some : nat_lt 0 (length i.files.transfers) ≡ false = sym c.if-not-has_transfers.ensures.some in
    subst (λ (s : SlirpState). next_again s.moment s.transfers ≡ None) c.self.view_is (ap (next_again i.moment) (none_of i.files.transfers some))

pub put_reply-requires-clause-fits : goal.put_reply-requires-clause-fits
put_reply-requires-clause-fits c =
    let i = c.self.inside in
    let room = c.next_again-reply.new.into in
    let whole : c.deref.result.now ≡ room = c.deref.ensures.value ∙ take_at room (drop (length room) i.message.items) i.message.len (c.next_again-reply.auto.into ∙ c.deref_mut.ensures.len) in
    file_fits i.files.vhost c.next_again-reply.result (length c.deref.result.now) c.next_again-reply.ensures.from (search rules)

pub returns-clause-holds : goal.returns-clause-holds
returns-clause-holds c config at link past holds =
    let i = c.self.inside in
    let slirp : SlirpState = state_of i in
    let room = c.next_again-reply.new.into in
    let pending = c.put_reply.new.outgoing in
    let whole : c.deref.result.now ≡ room = c.deref.ensures.value ∙ take_at room (drop (length room) i.message.items) i.message.len (c.next_again-reply.auto.into ∙ c.deref_mut.ensures.len) in
    let owed : pending ≡ frames_of i.policy i.sent (told_of_files i.policy (begun i.moment true i.files.transfers)) =
    file_told i.policy i.sent c.next_again-reply.result i.outgoing pending c.deref.result.now room c.put_reply.ensures
    (ap (λ (s : SlirpState). s.pending) c.self.view_is ∙ none_of c.args.self.now.pending (sym c.pending.ensures ∙ c.if-pending.false))
    (subst (λ (n : ℕ). IsFromServer n c.next_again-reply.result) c.self.invariant.7.vhost c.next_again-reply.ensures.from) whole ∙ ap
    (λ o. frames_of i.policy i.sent (told_of_files i.policy o)) c.next_again-reply.ensures.says in
    let transfers : c.next_again-reply.new.self.transfers ≡ ticked i.moment true i.files.transfers = ap (λ (s : Serving). s.transfers) c.next_again-reply.ensures.list in
    let none : slirp.pending ≡ [] = ap (λ (s : SlirpState). s.pending) c.self.view_is ∙ none_of c.args.self.now.pending (sym c.pending.ensures ∙ c.if-pending.false) in
    subst (λ (p : List (List ℕ)). Holds config at (record slirp { pending = p; transfers = c.next_again-reply.new.self.transfers }) (flowing true i.flows) link past) (sym owed)
    (subst (λ (t : List Transfer). Holds config at (record slirp {
      pending = frames_of i.policy i.sent (told_of_files i.policy (begun i.moment true i.files.transfers));
      transfers = t;
    }) (flowing true i.flows) link past) (sym transfers)
    (sends_it config at slirp i.flows link past none (subst (λ (s : SlirpState). Holds config at s (flowing true s.flows) link past) (sym c.self.view_is) holds)
    (λ said is. said_fits i.files.vhost c.next_again-reply.result room said c.next_again-reply.ensures.from (c.next_again-reply.ensures.says ∙ is))))

pub returns-clause-fewer : goal.returns-clause-fewer
returns-clause-fewer c more =
    let i = c.self.inside in
    let room = c.next_again-reply.new.into in
    let pending = c.put_reply.new.outgoing in
    let whole : c.deref.result.now ≡ room = c.deref.ensures.value ∙ take_at room (drop (length room) i.message.items) i.message.len (c.next_again-reply.auto.into ∙ c.deref_mut.ensures.len) in
    let owed : pending ≡ frames_of i.policy i.sent (told_of_files i.policy (begun i.moment true i.files.transfers)) =
    file_told i.policy i.sent c.next_again-reply.result i.outgoing pending c.deref.result.now room c.put_reply.ensures
    (ap (λ (s : SlirpState). s.pending) c.self.view_is ∙ none_of c.args.self.now.pending (sym c.pending.ensures ∙ c.if-pending.false))
    (subst (λ (n : ℕ). IsFromServer n c.next_again-reply.result) c.self.invariant.7.vhost c.next_again-reply.ensures.from) whole ∙ ap
    (λ o. frames_of i.policy i.sent (told_of_files i.policy o)) c.next_again-reply.ensures.says in
    let transfers : c.next_again-reply.new.self.transfers ≡ ticked i.moment true i.files.transfers = ap (λ (s : Serving). s.transfers) c.next_again-reply.ensures.list in
    subst (λ (s : SlirpState). due_count i.moment c.next_again-reply.new.self.transfers < due_count s.moment s.transfers) c.self.view_is
    (subst (λ (t : List Transfer). due_count i.moment t < due_count i.moment i.files.transfers) (sym transfers)
    (fewer_by i.policy i.sent i.moment i.files.transfers (next_again i.moment i.files.transfers) pending c.next_again-reply.ensures.sound refl owed (sym c.pending-2.ensures ∙ more)))

pub returns-clause-none : goal.returns-clause-none
returns-clause-none c ended none =
    let i = c.self.inside in
    let room = c.next_again-reply.new.into in
    let pending = c.put_reply.new.outgoing in
    let whole : c.deref.result.now ≡ room = c.deref.ensures.value ∙ take_at room (drop (length room) i.message.items) i.message.len (c.next_again-reply.auto.into ∙ c.deref_mut.ensures.len) in
    let owed : pending ≡ frames_of i.policy i.sent (told_of_files i.policy (begun i.moment true i.files.transfers)) =
    file_told i.policy i.sent c.next_again-reply.result i.outgoing pending c.deref.result.now room c.put_reply.ensures
    (ap (λ (s : SlirpState). s.pending) c.self.view_is ∙ none_of c.args.self.now.pending (sym c.pending.ensures ∙ c.if-pending.false))
    (subst (λ (n : ℕ). IsFromServer n c.next_again-reply.result) c.self.invariant.7.vhost c.next_again-reply.ensures.from) whole ∙ ap
    (λ o. frames_of i.policy i.sent (told_of_files i.policy o)) c.next_again-reply.ensures.says in
    let transfers : c.next_again-reply.new.self.transfers ≡ ticked i.moment true i.files.transfers = ap (λ (s : Serving). s.transfers) c.next_again-reply.ensures.list in
    ap (next_again i.moment) transfers
    ∙ none_by i.policy i.sent i.moment i.files.transfers (next_again i.moment i.files.transfers) pending
    (λ said is. said_fits i.files.vhost c.next_again-reply.result room said c.next_again-reply.ensures.from (c.next_again-reply.ensures.says ∙ is)) refl owed none

pub returns-clause-still : goal.returns-clause-still
returns-clause-still c is = none_of c.put_reply.new.outgoing (sym c.pending-2.ensures ∙ is) ∙ sym (none_of c.args.self.now.pending (sym c.pending.ensures ∙ c.if-pending.false))
