use Rattle.std.proofs.Common.{ℕ, ◌≤◌, List, [], ◌∷◌, ◌++◌, length, map, take, get_or, sym, ◌∙◌, ap, arith}
use Rattle.std.proofs.lemmas.List.{length-map, length-take, map-append, take_all, take_more}
use Rattle.app_edges.specs.Texts.{shown_octet}
use Rattle.app_edges.proofs.Told.{cut_at}
use Rattle.app_edges.proofs.mistake.shown.Goals as goal

pub push-requires : goal.push-requires
push-requires c =
    let word = c.args.word.now in
    let front = take c.min.result word in
    let i = c.loop-octet.octet-index in
    (omega arith, omega (arith, ap length c.loop-octet.invariant, length-map (take i front) shown_octet, length-take i front, length-take c.min.result word, c.min.ensures, c.loop-octet-test.true))

pub loop-octet-preserved : goal.loop-octet-preserved
loop-octet-preserved c =
    let front = take c.min.result c.args.word.now in
    let i = c.loop-octet.octet-index in
    let next = ap (map shown_octet) (take_more front i 0 c.loop-octet-test.true) ∙ map-append shown_octet (take i front) (get_or front i 0 ∷ []) in
    c.push.ensures.items ∙ ap (λ (l : List ℕ). l ++ c.shown_octet.result ∷ []) c.loop-octet.invariant ∙ ap (λ (o : ℕ). map shown_octet (take i front) ++ o ∷ []) c.shown_octet.ensures ∙ sym next

pub returns : goal.returns
returns c =
    let word = c.args.word.now in
    let front = take c.min.result word in
    let i = c.loop-octet.octet-index in
    let past : length front ≤ i = omega (arith, c.loop-octet-test.false, c.loop-octet.auto.octet-index-end) in
    c.loop-octet.invariant ∙ ap (map shown_octet) (take_all i front past ∙ cut_at word c.min.result 200 c.min.ensures)
