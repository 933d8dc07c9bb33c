use Rattle.std.proofs.Common.{◌*◌, arith}
use Rattle.std.proofs.lemmas.List.FromFn.{fill_by_all}
use Rattle.closure.specs.Cells.{blank}
use Rattle.network.specs.Layout.{identity_cell}
use Rattle.network.proofs.opening.write_identity.Goals as goal

pub returns : goal.returns
returns g c =
    let k = g.S.Semiring.entries in
    fill_by_all (identity_cell k c.args.n) c.loop-p.table (c.args.n * c.args.n) (blank k) (omega arith) (λ q h. c.loop-p.invariant q (omega arith))
