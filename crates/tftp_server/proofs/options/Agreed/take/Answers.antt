-- By the name of the option.
use Rattle.std.proofs.Common.{Bool, not, cond, Option, Some, None, sym, ◌∙◌, ap}
use Rattle.rules_tftp.specs.Packets.{Terms}
use Rattle.tftp_server.specs.Options.{with_known}
use Rattle.tftp_server.proofs.Knowing.{known_is}
use Rattle.tftp_server.proofs.options.Agreed.take.Goals as goal

pub returns-in-None : goal.returns-in-None
returns-in-None c =
    let old : Option Terms = Some c.args.self.now in
    let none : Option Terms = None in
    ap (λ (b : Bool). cond b old none) c.passes_over.ensures.passes ∙ sym (c.passes_over.ensures.known c.args.length c.args.name.now c.args.value.now (sym c.in-None.ensures))

pub returns-then-not-has : goal.returns-then-not-has
returns-then-not-has c =
    let none : Option Terms = None in
    c.take_known.ensures
    ∙ ap (λ (b : Bool). cond b none (with_known c.args.length c.in-Some.option c.args.value.now c.args.self.now)) c.if-not-has.ensures
    ∙ sym (known_is c.args.length c.args.name.now c.args.value.now c.in-Some.option c.args.self.now (sym c.in-Some.ensures))

pub returns-else-not-has : goal.returns-else-not-has
returns-else-not-has c =
    let old : Option Terms = Some c.args.self.now in
    let none : Option Terms = None in
    ap (λ (b : Bool). cond (not b) old none) c.if-not-has.false
    ∙ ap (λ (b : Bool). cond b none (with_known c.args.length c.in-Some.option c.args.value.now c.args.self.now)) c.if-not-has.ensures
    ∙ sym (known_is c.args.length c.args.name.now c.args.value.now c.in-Some.option c.args.self.now (sym c.in-Some.ensures))
