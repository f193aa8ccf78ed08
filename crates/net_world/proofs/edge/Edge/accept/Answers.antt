use Rattle.net_world.proofs.edge.Edge.accept.Goals as goal

pub returns-in-Some : goal.returns-in-Some
returns-in-Some c = λ some key slot here is. (let t = c.accept.ensures.accepts key slot here is in (t.0, t.1, t.2, t.3))
