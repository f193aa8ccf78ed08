use Rattle.std.proofs.Common.{ℕ, ◌≡◌, ◌<◌, ◌+◌, List, length, Ok, Err, Greater, sym, subst, arith}
use Rattle.std.specs.List.Sorted.{IsBinarySearchResult, IsPartitionPoint}
use Rattle.poll_list.specs.declared.Who.{Who}
use Rattle.net_world.specs.declared.ready_list.Listed.{Listed}
use Rattle.net_world.specs.Tables.{Table, by_rank, rank_of}
use Rattle.net_world.proofs.Ascending.{past, past_none}
use Rattle.net_world.proofs.Standing.{by_rank_total}
use Rattle.net_world.proofs.sockets.Sockets.next.Goals as goal

-- up to a place nothing stands above what was told last, and from there on all does
abbrev IsPast : Who → List Listed → ℕ → Type 0
IsPast last readable place =
    IsPartitionPoint (λ (l : Listed). by_rank (rank_of l.of) (rank_of last) ≡ Greater → ⊥) (λ (l : Listed). by_rank (rank_of l.of) (rank_of last) ≡ Greater) readable place

pub returns-in-Ok : goal.returns-in-Ok
returns-in-Ok g c =
    let s = c.self.inside in
    let found = subst (λ (ls : List Listed). IsBinarySearchResult (λ (l : Listed). by_rank (rank_of l.of) (rank_of s.last)) ls (Ok c.in-Ok.at)) c.deref.ensures.value c.in-Ok.ensures.position in
    let below = subst (λ (ls : List Listed). c.in-Ok.at < length ls) c.deref.ensures.value c.in-Ok.ensures.range in
    let all = past by_rank by_rank_total (λ (l : Listed). rank_of l.of) s.readable.items (rank_of s.last) c.in-Ok.at below c.self.invariant.0.rise found in
    let place : c.saturating_add.result ≡ c.in-Ok.at + 1 = omega (arith, c.saturating_add.ensures, c.in-Ok.ensures.range, c.deref.type_inv.0) in
    subst (λ (t : Table g.row.S.Denot). IsPast t.last t.readable c.saturating_add.result) c.self.view_is (subst (λ (n : ℕ). IsPast s.last s.readable.items n) (sym place) all)

pub returns-in-Err : goal.returns-in-Err
returns-in-Err g c =
    let s = c.self.inside in
    let found = subst (λ (ls : List Listed). IsBinarySearchResult (λ (l : Listed). by_rank (rank_of l.of) (rank_of s.last)) ls (Err c.in-Err.at)) c.deref.ensures.value c.in-Err.ensures.position in
    let all = past_none by_rank by_rank_total (λ (l : Listed). rank_of l.of) s.readable.items (rank_of s.last) c.in-Err.at c.self.invariant.0.rise found in
    subst (λ (t : Table g.row.S.Denot). IsPast t.last t.readable c.in-Err.at) c.self.view_is all
