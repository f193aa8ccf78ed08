use Rattle.std.proofs.Common.{◌≡◌, ℕ, ◌+◌, ◌≤◌, List, ◌++◌, length, slice_get, take, Some, sym, ◌∙◌, ap, subst, arith}
use Rattle.std.proofs.lemmas.List.{length-append}
use Rattle.rules_forward.specs.Opened.{Opened}
use Rattle.rules_control.specs.Talk.{Talk, with_left}
use Rattle.spec_control.specs.Replies.{forward_lines, forward_text, reply_line}
use Rattle.control_loop.specs.declared.control_server.ControlServer.{ControlServer}
use Rattle.control_loop.proofs.Listing.{all_taken, no_port_more, one_port_more}
use Rattle.control_loop.proofs.control_server.ControlServer.list_ports.Goals as goal

-- a control server whose connection is to say these lines
abbrev saying : List ℕ → ControlServer → ControlServer
saying left d = record d { session = with_left left d.session }

one_more : (old it : ControlServer) (k : ℕ) (o : Opened) (bytes : List ℕ) → it ≡ saying (forward_lines (take k old.service.slirp.forwards)) old → slice_get it.service.slirp.forwards k ≡ Some o
    → bytes ≡ reply_line (forward_text o.0) → saying (it.session.left ++ bytes) it ≡ saying (forward_lines (take (k + 1) old.service.slirp.forwards)) old
one_more old it k o bytes told here is =
    ap (λ (x : ControlServer). saying (x.session.left ++ bytes) x) told
    ∙ ap (λ l. saying l old)
    (ap (λ b. forward_lines (take k old.service.slirp.forwards) ++ b) is ∙ sym (one_port_more k old.service.slirp.forwards o (ap (λ (x : ControlServer). slice_get x.service.slirp.forwards k) (sym told) ∙ here)))

pub loop-place-init : goal.loop-place-init
loop-place-init c = record {
  told = ap (λ l. saying l c.args.self.now) c.requires.out;
  few = omega (arith, ap length c.requires.out);
  ports = λ some. absurd (omega (arith, some));
}

pub loop-place-preserved : goal.loop-place-preserved
loop-place-preserved c =
    let old = c.args.self.now in
    let it = c.loop-place.self in
    let k = c.loop-place.place in
    let bytes = c.as_bytes.result.now in
    let text = c.as_bytes.ensures.value ∙ c.as_str.ensures.value ∙ c.forward_line.ensures.text in
    record {
      told = ap (λ (t : Talk). record it { session = t }) c.reply.ensures
          ∙ one_more old it k (c.in-Some.forward, c.in-Some.field-0-1) bytes c.loop-place.invariant.told (sym c.forward.ensures.at ∙ c.in-Some.is) text;
      few = omega (
        arith,
        ap (λ (t : Talk). length t.left) c.reply.ensures,
        length-append it.session.left bytes,
        ap length (c.as_bytes.ensures.value ∙ c.as_str.ensures.value),
        c.forward_line.ensures.short,
        c.loop-place.invariant.few,
      );
      ports = λ some. subst (λ (x : ControlServer). length x.service.slirp.forwards ≤ 32) c.loop-place.invariant.told c.forward.ensures.few;
    }

pub returns-in_default-clause-told : goal.returns-in_default-clause-told
returns-in_default-clause-told c =
    let old = c.args.self.now in
    let it = c.loop-place.self in
    let k = c.loop-place.place in
    c.loop-place.invariant.told
    ∙ ap (λ l. saying (forward_lines l) old)
    (no_port_more k old.service.slirp.forwards (ap (λ (x : ControlServer). slice_get x.service.slirp.forwards k) (sym c.loop-place.invariant.told) ∙ sym c.forward.ensures.at ∙ c.in_default.is))

pub returns-clause-told : goal.returns-clause-told
returns-clause-told c =
    let old = c.args.self.now in
    let most = c.loop-place-test.false in
    c.loop-place.invariant.told
    ∙ ap (λ l. saying (forward_lines l) old)
    (all_taken c.loop-place.place old.service.slirp.forwards (let few = c.loop-place.invariant.ports (omega (arith, most)) in omega (arith, most, few)))
