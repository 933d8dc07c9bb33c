use Rattle.std.proofs.Common.{◌+◌, ◌*◌, length, get_or, arith}
use Rattle.std.proofs.lemmas.List.FromFn.{fill_by_all}
use Rattle.closure.specs.Cells.{blank}
use Rattle.network.proofs.cells.copy_column.Goals as goal

pub returns : goal.returns
returns g c =
    let n = length c.args.column.now in
    let none = blank g.S.Semiring.entries in
    fill_by_all (λ x. get_or c.args.table.now (x * n + c.args.i) none) c.loop-x.column n none (omega arith) (λ p h. c.loop-x.invariant p (omega arith))
