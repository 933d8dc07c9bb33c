use Rattle.closure.specs.Cells.{at}
use Rattle.closure.proofs.Rows.{PassedAbove}
use Rattle.network.proofs.insertion.pass.Given as goal

abbrev pub invariant-loop-x : goal.invariant-loop-x
invariant-loop-x g l = let k = g.S.Semiring.entries in PassedAbove k (at k l.column) l.m (at k l.row) l.n l.x l.initial.table l.table
