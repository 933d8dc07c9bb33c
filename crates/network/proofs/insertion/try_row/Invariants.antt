use Rattle.std.proofs.Common.{◌≡◌, None}
use Rattle.closure.specs.Cells.{at}
use Rattle.closure.specs.Passes.{row_fault}
use Rattle.network.proofs.insertion.try_row.Given as goal

-- no product before this cell was refused
abbrev pub invariant-loop-cell : goal.invariant-loop-cell
invariant-loop-cell g l = row_fault g.S.Semiring.entries l.t (at g.S.Semiring.entries l.row) l.cell-index ≡ None
