use Rattle.std.proofs.Common.{◌≡◌, length, Some, refl, sym, ◌∙◌, ap, subst, arith}
use Rattle.std.proofs.lemmas.List.{with_items_is}
use Rattle.world_face.specs.Journal.{FileLen}
use Rattle.world_face.specs.Tells.{Answers}
use Rattle.world_face.specs.declared.FileSize.{FileSize}
use Rattle.world_face.specs.declared.FileSize.TheVariants.{Length}
use Rattle.world_face.proofs.Telling.{makes_one, makes_as, makes_from}
use Rattle.app_edges.specs.Fetching.{is_unmeasured}
use Rattle.app_edges.proofs.Fetched.{measured_small}
use Rattle.app_edges.proofs.fetching.read_file.Goals as goal

pub returns-in_default-clause-makes : goal.returns-in_default-clause-makes
returns-in_default-clause-makes g c = makes_one _ _ (FileLen c.args.name.now c.file_len.result) _ c.file_len.ensures
    (λ allowed. (((refl, refl), tt), tt, ((λ is. c.in_default.ensures.length), λ is. refl)))

pub returns-in_default-vec-clause-makes : goal.returns-in_default-vec-clause-makes
returns-in_default-vec-clause-makes g c = makes_one _ _ (FileLen c.args.name.now c.file_len.result) _ c.file_len.ensures (λ allowed. (
  ((refl, refl), tt),
  tt,
  (
    (λ is. cc),
    λ is. let not_it = sym is ∙ ap is_unmeasured c.in-Some.ensures.length ∙ measured_small c.in-Some.length c.in-Some.ensures.few in absurd cc,
  ),
))

pub returns-then-fetch-clause-makes : goal.returns-then-fetch-clause-makes
returns-then-fetch-clause-makes g c =
    let size : c.in-Some.length ≡ length c.deref_mut.result.now = omega (arith, c.deref_mut.ensures.len, c.in-Ok.ensures.len) in
    let measured = subst (λ (s : FileSize). Answers (g.W.World.tells c.args.world.now) (g.W.World.tells c.file_len.new.self) (FileLen c.args.name.now s)) c.in-Some.ensures.length c.file_len.ensures in
    makes_as _ _ _ _ (makes_from (makes_one _ _ (FileLen c.args.name.now (Length c.in-Some.length)) _ measured
    (λ allowed. (((refl, refl), tt), ap Some size, refl, measured_small c.in-Some.length c.in-Some.ensures.few)))
    c.if-fetch.ensures.brings) (λ made fetched. (
      fetched.0,
      (with_items_is c.in-Ok.octets c.fetch.new.octets (c.fetch.auto.octets ∙ c.deref_mut.ensures.len) ∙ fetched.1.0, fetched.1.1, fetched.1.2),
      tt,
    ))

pub returns-else-fetch-clause-makes : goal.returns-else-fetch-clause-makes
returns-else-fetch-clause-makes g c =
    let size : c.in-Some.length ≡ length c.deref_mut.result.now = omega (arith, c.deref_mut.ensures.len, c.in-Ok.ensures.len) in
    let measured = subst (λ (s : FileSize). Answers (g.W.World.tells c.args.world.now) (g.W.World.tells c.file_len.new.self) (FileLen c.args.name.now s)) c.in-Some.ensures.length c.file_len.ensures in
    makes_as _ _ _ _ (makes_from (makes_one _ _ (FileLen c.args.name.now (Length c.in-Some.length)) _ measured
    (λ allowed. (((refl, refl), tt), ap Some size, refl, measured_small c.in-Some.length c.in-Some.ensures.few)))
    c.if-fetch.ensures.brings) (λ made fetched. (fetched.0, tt, ((λ is. fetched.1), λ is. refl)))
