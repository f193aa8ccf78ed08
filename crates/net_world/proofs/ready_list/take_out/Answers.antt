use Rattle.std.proofs.Common.{◌<◌, ◌≤◌, List, Ok, Err, length, true, false, refl, sym, subst}
use Rattle.std.specs.List.Sorted.{IsBinarySearchResult}
use Rattle.net_world.specs.declared.ready_list.Listed.{Listed}
use Rattle.net_world.specs.Tables.{rank_of, by_rank, Lists}
use Rattle.net_world.proofs.Standing.{found_listed, lists_out}
use Rattle.net_world.proofs.ready_list.take_out.Goals as goal

pub unreachable-requires : goal.unreachable-requires
unreachable-requires c =
    let found = subst (λ (ls : List Listed). IsBinarySearchResult (λ (l : Listed). by_rank (rank_of l.of) (rank_of c.args.listed.of)) ls (Err c.in_default.field-0)) c.deref.ensures.value c.in_default.ensures.position in
    let fits = subst (λ (ls : List Listed). c.in_default.field-0 ≤ length ls) c.deref.ensures.value c.in_default.ensures.range in
    found_listed c.args.readable.now.items c.args.listed c.in_default.field-0 fits c.requires.rise c.requires.has found

pub returns-clause-lists : goal.returns-clause-lists
returns-clause-lists c =
    let found = subst (λ (ls : List Listed). IsBinarySearchResult (λ (l : Listed). by_rank (rank_of l.of) (rank_of c.args.listed.of)) ls (Ok c.in-Ok.at)) c.deref.ensures.value c.in-Ok.ensures.position in
    let below = subst (λ (ls : List Listed). c.in-Ok.at < length ls) c.deref.ensures.value c.in-Ok.ensures.range in
    let lists = lists_out c.args.readable.now.items c.args.listed c.in-Ok.at below c.requires.rise (λ other h of. (c.requires.alone other h of, refl)) found in
    subst (λ (ls : List Listed). Lists c.args.readable.now.items ls c.args.listed true false) (sym c.remove-was.ensures.items) lists
