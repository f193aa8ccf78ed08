-- What the message leaves and how it is answered is the definition's, and no hardware address has two addresses.
use Rattle.std.proofs.Common.{◌≡◌, ◌≤◌, ◌++◌, List, ℕ, Some, length, drop, sym, ap, ◌∙◌, subst, arith}
use Rattle.slirp_settings.specs.Settings.{settings}
use Rattle.rules_dhcp.specs.declared.Outcome.{Outcome}
use Rattle.rules_dhcp.specs.Leases.{IsOneToOne}
use Rattle.dhcp_server.specs.Lending.{Lending}
use Rattle.rules_dhcp.specs.Messages.{read_message}
use Rattle.rules_dhcp.specs.Replies.{reply_of, octets_of_reply, reply_to, replied_octets}
use Rattle.rules_dhcp.proofs.Owning.{IsGood, good_outcome}
use Rattle.dhcp_server.proofs.leases.Leases.message.Goals as goal

pub write_reply-requires-clause-place : goal.write_reply-requires-clause-place
write_reply-requires-clause-place c =
    let good = good_outcome (settings c.self.inside.config) c.args.now c.in-Some.message c.self.inside.leases (omega arith) c.self.invariant.1 in
    (subst IsGood (sym c.outcome_of-outcome.ensures) good).placed

pub invariant_of-self : goal.invariant_of-self
invariant_of-self c =
    let good = good_outcome (settings c.self.inside.config) c.args.now c.in-Some.message c.self.inside.leases (omega arith) c.self.invariant.1 in
    (c.self.invariant.0, subst IsOneToOne (sym c.copy_from_slice.ensures.after) (subst IsGood (sym c.outcome_of-outcome.ensures) good).one)

pub returns-clause-one_to_one : goal.returns-clause-one_to_one
returns-clause-one_to_one c = (invariant_of-self c).1

pub returns-clause-reply : goal.returns-clause-reply
returns-clause-reply c =
    let config = settings c.self.inside.config in
    let m = c.in-Some.message in
    c.write_reply.ensures.reply
    ∙ ap (λ (o : Outcome). reply_of config m o.answer) c.outcome_of-outcome.ensures
    ∙ ap (λ (s : Lending). reply_to s.config c.args.now s.leases (Some m)) c.self.view_is
    ∙ ap (reply_to c.args.self.now.config c.args.now c.args.self.now.leases) c.in-Some.ensures

pub returns-clause-octets : goal.returns-clause-octets
returns-clause-octets c =
    let config = settings c.self.inside.config in
    let m = c.in-Some.message in
    let is : octets_of_reply config m c.outcome_of-outcome.result.answer ≡ replied_octets c.args.self.now.config c.args.now c.args.self.now.leases (read_message c.args.body.now) =
    ap (λ (o : Outcome). octets_of_reply config m o.answer) c.outcome_of-outcome.ensures
    ∙ ap (λ (s : Lending). replied_octets s.config c.args.now s.leases (Some m)) c.self.view_is
    ∙ ap (replied_octets c.args.self.now.config c.args.now c.args.self.now.leases) c.in-Some.ensures in
    c.write_reply.ensures.octets ∙ ap (λ (xs : List ℕ). xs ++ drop (length xs) c.args.into.now) is

pub returns-clause-few : goal.returns-clause-few
returns-clause-few c =
    let config = settings c.self.inside.config in
    let m = c.in-Some.message in
    let is : octets_of_reply config m c.outcome_of-outcome.result.answer ≡ replied_octets c.args.self.now.config c.args.now c.args.self.now.leases (read_message c.args.body.now) =
    ap (λ (o : Outcome). octets_of_reply config m o.answer) c.outcome_of-outcome.ensures
    ∙ ap (λ (s : Lending). replied_octets s.config c.args.now s.leases (Some m)) c.self.view_is
    ∙ ap (replied_octets c.args.self.now.config c.args.now c.args.self.now.leases) c.in-Some.ensures in
    subst (λ (xs : List ℕ). length xs ≤ 790) is c.write_reply.ensures.few
