use Rattle.replay.proofs.world.ScriptWorldWorld.close.Goals as goal

pub returns : goal.returns
returns c = c.follow.ensures
