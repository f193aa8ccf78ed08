use Rattle.std.proofs.Common.{List, Err, subst}
use Rattle.std.specs.List.Sorted.{IsBinarySearchResult}
use Rattle.std.specs.Ordering.{nat_cmp}
use Rattle.mio.specs.declared.net.stream.TcpStream.{TcpStream}
use Rattle.net_world.specs.declared.sockets.Place.{Place}
use Rattle.net_world.specs.Tables.{Table}
use Rattle.net_world.proofs.sockets.Sockets+TcpStream.free_place.Goals as goal

pub returns-in-Err-clause-position : goal.returns-in-Err-clause-position
returns-in-Err-clause-position c =
    subst (λ (t : Table TcpStream). IsBinarySearchResult (λ (p : Place). nat_cmp p.number c.args.number) t.places (Err c.in-Err.at)) c.self.view_is
    (subst (λ (ps : List Place). IsBinarySearchResult (λ (p : Place). nat_cmp p.number c.args.number) ps (Err c.in-Err.at)) c.deref.ensures.value c.in-Err.ensures.position)
