use Rattle.std.proofs.Common.{◌≡◌, ℕ, ◌^◌, ◌<◌, false, ◌++◌, length, Option, Some, IfSome, refl, sym, ◌∙◌, ap, subst, arith}
use Rattle.std.proofs.lemmas.List.{length-append}
use Rattle.spec_flows.specs.declared.Tuple.{Tuple}
use Rattle.spec_flows.specs.Book.{book}
use Rattle.slirp_core.specs.Holds.{after}
use Rattle.slirp_core.specs.NextFlow.{IsNextFlow}
use Rattle.serve_loop.specs.Turns.{AttendsNow}
use Rattle.rules_control.specs.Talk.{Talk, with_left}
use Rattle.spec_control.specs.ControlServer.{flows_in_use}
use Rattle.spec_control.specs.Replies.{flow_lines}
use Rattle.control_loop.specs.declared.control_server.ControlServer.{ControlServer}
use Rattle.control_loop.proofs.Listing.{all_left, digits_few, falls, left_after, listed_few, no_line_more, none_left_after, none_of_none, one_fewer, one_line_more}
use Rattle.control_loop.proofs.control_server.ControlServer.list_flows.Goals as goal

drawn : (o : Option (ℕ × Tuple)) (n : ℕ) (ends : Tuple) (number : ℕ) → o ≡ Some (n, ends) → IfSome o (λ next. next.0 < number) → n < number
drawn o n ends number is below = subst (λ o. IfSome o (λ next. next.0 < number)) is below

pub loop-count-init : goal.loop-count-init
loop-count-init c = record {
  told = λ settings count past attended. (
    ap (λ l. c.args.self.now.session.left ++ flow_lines l) (all_left (book settings past).flows),
    (let same = ap length (all_left (book settings past).flows) in omega (arith, same)),
  );
  few = c.requires.room;
  talk = refl;
  others = refl;
}

pub reply-requires-clause-fits : goal.reply-requires-clause-fits
reply-requires-clause-fits c =
    let number = subst (λ (x : ControlServer). x.service.slirp.number < 10 ^ 17) (sym c.loop-count.invariant.others) c.requires.number in
    let less = drawn c.flow_after.result c.in-Some.number c.in-Some.ends c.loop-count.self.service.slirp.number c.in-Some.is c.flow_after.ensures.drawn in
    omega (arith, c.loop-count.invariant.few, c.loop-count-test.true, c.flow_line.ensures.short, digits_few c.in-Some.number (omega (arith, less, number)), ap length (c.as_bytes.ensures.value ∙ c.as_str.ensures.value))

pub loop-count-preserved : goal.loop-count-preserved
loop-count-preserved c =
    let old = c.args.self.now in
    let it = c.loop-count.self in
    let n = c.in-Some.number in
    let ends = c.in-Some.ends in
    let bytes = c.as_bytes.result.now in
    let text = c.as_bytes.ensures.value ∙ c.as_str.ensures.value ∙ c.flow_line.ensures.text in
    let number = subst (λ (x : ControlServer). x.service.slirp.number < 10 ^ 17) (sym c.loop-count.invariant.others) c.requires.number in
    let less = drawn c.flow_after.result n ends it.service.slirp.number c.in-Some.is c.flow_after.ensures.drawn in
    let its_left = ap (λ (t : Talk). t.left) c.reply.ensures in
    record {
      told = λ settings count past attended.
          let flows = (book settings past).flows in
          let there = subst (λ (x : ControlServer). AttendsNow settings (after count) false x.service.slirp x.service.link past) (sym c.loop-count.invariant.others) attended in
          let next = subst (λ o. IsNextFlow c.loop-count.last o flows) c.in-Some.is (c.flow_after.ensures.next settings count past there) in
          let so_far = c.loop-count.invariant.told settings count past attended in
          let fall = falls settings past attended.0.lawful in (
            ap (λ l. l ++ flow_lines (left_after (Some n) flows)) its_left ∙ one_line_more c.loop-count.last n ends flows it.session.left (old.session.left ++ flow_lines (flows_in_use flows)) bytes fall next text so_far.0,
            one_fewer c.loop-count.last n c.loop-count._count (length (flows_in_use flows)) ends flows fall next so_far.1,
          );
      few = omega (
        arith,
        ap length its_left,
        length-append it.session.left bytes,
        ap length (c.as_bytes.ensures.value ∙ c.as_str.ensures.value),
        c.flow_line.ensures.short,
        digits_few n (omega (arith, less, number)),
        c.loop-count.invariant.few,
      );
      talk = c.reply.ensures ∙ ap (λ (t : Talk). with_left (it.session.left ++ bytes) t) c.loop-count.invariant.talk ∙ ap (λ l. with_left l old.session) (sym its_left);
      others = ap (λ (x : ControlServer). record x { session = c.reply.new.self }) c.loop-count.invariant.others;
    }

pub returns-in_default-clause-told : goal.returns-in_default-clause-told
returns-in_default-clause-told c settings count past attended =
    let old = c.args.self.now in
    let it = c.loop-count.self in
    let flows = (book settings past).flows in
    let there = subst (λ (x : ControlServer). AttendsNow settings (after count) false x.service.slirp x.service.link past) (sym c.loop-count.invariant.others) attended in
    let next = subst (λ o. IsNextFlow c.loop-count.last o flows) c.in_default.is (c.flow_after.ensures.next settings count past there) in
    c.loop-count.invariant.talk
    ∙ ap (λ l. with_left l old.session)
    (no_line_more (left_after c.loop-count.last flows) it.session.left (old.session.left ++ flow_lines (flows_in_use flows)) (none_left_after c.loop-count.last flows (falls settings past attended.0.lawful) next)
    (c.loop-count.invariant.told settings count past attended).0)

pub returns-clause-told : goal.returns-clause-told
returns-clause-told c settings count past attended =
    let old = c.args.self.now in
    let it = c.loop-count.self in
    let flows = (book settings past).flows in
    let so_far = c.loop-count.invariant.told settings count past attended in
    let few = listed_few settings count past attended c.requires.few in
    c.loop-count.invariant.talk
    ∙ ap (λ l. with_left l old.session)
    (no_line_more (left_after c.loop-count.last flows) it.session.left (old.session.left ++ flow_lines (flows_in_use flows))
    (none_of_none (left_after c.loop-count.last flows) (let many = so_far.1 in let all = c.loop-count-test.false in omega (arith, many, few, all))) so_far.0)
