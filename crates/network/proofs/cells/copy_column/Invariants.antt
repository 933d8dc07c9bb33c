use Rattle.std.proofs.Common.{◌≡◌, ℕ, ◌+◌, ◌*◌, ◌<◌, get_or}
use Rattle.closure.specs.Cells.{blank}
use Rattle.network.proofs.cells.copy_column.Given as goal

-- the cells before x are the column's
abbrev pub invariant-loop-x : goal.invariant-loop-x
invariant-loop-x g l =
    let none = blank g.S.Semiring.entries in
    (p : ℕ) → p < l.x → get_or l.column p none ≡ get_or l.table (p * l.n + l.i) none
