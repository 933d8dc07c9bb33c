use Rattle.std.proofs.Common.{◌≡◌, ℕ, ◌<◌, ◌≤◌, get_or}
use Rattle.closure.specs.Cells.{blank, at}
use Rattle.closure.specs.Passes.{raised_cell}
use Rattle.network.proofs.insertion.relax.Given as goal

-- the line is raised below y, and as it was from y on
abbrev pub invariant-loop-y : goal.invariant-loop-y
invariant-loop-y g l =
    let k = g.S.Semiring.entries in
    ((p : ℕ) → p < l.y → get_or l.line p (blank k) ≡ raised_cell k l.t (at k l.row) l.initial.line p)
    × ((p : ℕ) → l.y ≤ p → get_or l.line p (blank k) ≡ get_or l.initial.line p (blank k))
