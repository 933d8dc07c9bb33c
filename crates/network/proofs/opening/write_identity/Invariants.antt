use Rattle.std.proofs.Common.{◌≡◌, ℕ, ◌<◌, get_or}
use Rattle.closure.specs.Cells.{blank}
use Rattle.network.specs.Layout.{identity_cell}
use Rattle.network.proofs.opening.write_identity.Given as goal

abbrev pub invariant-loop-p : goal.invariant-loop-p
invariant-loop-p g l = let k = g.S.Semiring.entries in (q : ℕ) → q < l.p → get_or l.table q (blank k) ≡ identity_cell k l.n q
