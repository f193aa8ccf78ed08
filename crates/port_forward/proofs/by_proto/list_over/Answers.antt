use Rattle.std.proofs.Common.{◌++◌, ◌∷◌, [], Bool, List, length, take, sym, ◌∙◌, ap, arith, if◌then◌else◌}
use Rattle.std.proofs.lemmas.List.{append-nil}
use Rattle.rules_forward.specs.Opened.{Opened}
use Rattle.rules_forward.specs.Opened.{sockets_over}
use Rattle.port_forward.proofs.Forwarding.{all_taken, at_ok, few_taken, none_further, over_taken}
use Rattle.port_forward.proofs.by_proto.list_over.Goals.{in-Some+then-is_over, in-Some+else-is_over, in_default}
use Rattle.port_forward.proofs.by_proto.list_over.Goals as goal

pub loop-place-init : goal.loop-place-init
loop-place-init c = c.clear.ensures

pub loop-place-preserved : goal.loop-place-preserved
loop-place-preserved c =
    let place = c.loop-place.place in
    let less = c.loop-place-test.true in
    let count = c.len-place-end.ensures.count in
    let few = c.len-place-end.ensures.few in
    let long = ap length c.loop-place.invariant in
    let taken = few_taken c.args.proto c.args.forwards.now place in
    let before = sockets_over c.args.proto (take place c.args.forwards.now) in
    elim c.match-at.branch [
      | in-Some+then-is_over w ↦
          let n = w.in-Some.number in
          let pushed = at_ok w.try_push.result (w.try_push.ensures.variant.1 (omega (arith, long, taken, less, count, few))) w.try_push.ensures.ok in
          let over = sym w.is_over.ensures ∙ w.if-is_over.true in
          ap (λ l. l.items) w.numbers-is ∙ pushed ∙ ap (λ l. l ++ n ∷ []) c.loop-place.invariant
          ∙ sym (over_taken c.args.proto c.args.forwards.now place w.in-Some.forward n (sym c.at.ensures ∙ w.in-Some.is) ∙ ap (λ (b : Bool). before ++ (if b then n ∷ [] else [])) over)
      | in-Some+else-is_over w ↦
          let n = w.in-Some.number in
          let other = sym w.is_over.ensures ∙ w.if-is_over.false in
          ap (λ l. l.items) w.numbers-is ∙ c.loop-place.invariant
          ∙ sym (over_taken c.args.proto c.args.forwards.now place w.in-Some.forward n (sym c.at.ensures ∙ w.in-Some.is) ∙ ap
          (λ (b : Bool). before ++ (if b then n ∷ [] else [])) other ∙ append-nil before)
      | in_default w ↦ let all = none_further c.args.forwards.now place (sym c.at.ensures ∙ w.in_default.is) in absurd (omega (arith, all, less, count))
    ]

pub returns-clause-sockets : goal.returns-clause-sockets
returns-clause-sockets c =
    let all = c.loop-place-test.false in
    let count = c.len-place-end.ensures.count in
    c.loop-place.invariant ∙ ap (λ (l : List Opened). sockets_over c.args.proto l) (all_taken c.args.forwards.now c.loop-place.place (omega (arith, all, count)))
