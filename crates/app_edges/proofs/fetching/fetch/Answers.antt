use Rattle.std.proofs.Common.{◌≡◌, ◌-◌, ◌<◌, min, length, Some, refl, sym, ◌∙◌, ap, arith}
use Rattle.std.proofs.lemmas.List.{take_all}
use Rattle.world_face.specs.declared.Io.TheVariants.{Done}
use Rattle.world_face.proofs.Telling.{brings_one, brings_then, brings_as}
use Rattle.app_edges.proofs.Fetched.{may_read, read_more, unread}
use Rattle.app_edges.proofs.fetching.fetch.Goals as goal

pub loop-have-preserved : goal.loop-have-preserved
loop-have-preserved g c =
    let name = c.args.name.now in
    let whole = length c.args.octets.now in
    let have = c.loop-have.have in
    let before = c.loop-have.octets in
    let read = c.in-Done.ensures.read in
    let size = c.loop-have.invariant.size in
    let less : have < whole = omega (arith, c.loop-have-test.true, size) in
    let asked : c.min-asked.result ≡ min (whole - have) 16384 = c.min-asked.ensures ∙ ap (λ n. min (n - have) 16384) size in
    record {
      brings = brings_then c.loop-have.invariant.brings (brings_one read.1 (λ allowed past fetched. read_more name whole have c.min-asked.result
          (Done c.in-Done.count) before c.read_part.new.octets read.0 past fetched less c.requires.few size asked read.2 refl));
      within = omega (arith, c.in-Done.ensures.count, c.min-asked.ensures, c.read_part.auto.octets, c.loop-have-test.true);
      size = c.read_part.auto.octets ∙ size;
    }

pub returns-in-End : goal.returns-in-End
returns-in-End g c =
    let name = c.args.name.now in
    let whole = length c.args.octets.now in
    let have = c.loop-have.have in
    let before = c.loop-have.octets in
    let read = c.read_part.ensures.read in
    let size = c.loop-have.invariant.size in
    let less : have < whole = omega (arith, c.loop-have-test.true, size) in
    let asked : c.min-asked.result ≡ min (whole - have) 16384 = c.min-asked.ensures ∙ ap (λ n. min (n - have) 16384) size in
    record {
      brings = brings_then c.loop-have.invariant.brings (brings_one read.1 (λ allowed past fetched.
          let may = may_read name whole have c.min-asked.result before past fetched less c.requires.few size asked in
          (((refl, may.0, may.1), fetched.0), unread c.read_part.result c.in-End.is)));
    }

pub returns : goal.returns
returns g c = record {
  brings = brings_as c.loop-have.invariant.brings (λ past fetched.
      let all = fetched.2 ∙ take_all c.loop-have.have c.loop-have.octets c.loop-have-test.false in
      (fetched.0, (sym all, fetched.1 ∙ ap Some (sym (ap length all ∙ c.loop-have.invariant.size)), fetched.3)));
}
