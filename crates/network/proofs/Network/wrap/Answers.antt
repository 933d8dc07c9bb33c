use Rattle.network.specs.History.{wrapped}
use Rattle.network.proofs.Network.wrap.Goals as goal

pub returns-clause-history_begun : goal.returns-clause-history_begun
returns-clause-history_begun g c = wrapped c.args.cells.now
