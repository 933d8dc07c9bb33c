use Rattle.kinds.specs.AmountLaws.{selective}
use Rattle.kinds.proofs.amount.algebra.AmountSelective.selective.Goals as goal

pub returns : goal.returns
returns g c = selective g.met.N.Number.laws
