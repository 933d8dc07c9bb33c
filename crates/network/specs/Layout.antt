-- Where a network's parts lie in its cells: the edges, then the closure, then the scratch.
use Rattle.std.specs.Prelude.{ℕ, ◌+◌, ◌*◌, ◌/◌, ◌%◌, cond, List, ◌==◌, slice_set}
use Rattle.std.specs.Result.{result_unwrap_or}
use Rattle.semiring.specs.Algebra.{Semiring}
use Rattle.semiring.specs.Entries.{Entries}
use Rattle.closure.specs.Cells.{over, blank, at, table_at}
use Rattle.closure.specs.Passes.{passed_cell}
use Rattle.closure.specs.Insertion.{factor}
use Rattle.network.specs.Faults.{needed}

module _ {s : Semiring} {Entry Cell Fault : Type 0} (k : Entries s Entry Cell Fault) (n : ℕ) where
  abbrev pub edge_of : List Cell → ℕ → ℕ → Entry
  edge_of xs i j = at k xs (i * n + j)

  abbrev pub closure_of : List Cell → ℕ → ℕ → Entry
  closure_of xs = table_at k n (n * n) xs

  -- unit on the diagonal, and none elsewhere
  abbrev pub identity_cell : ℕ → Cell
  identity_cell p = k.write (cond (p / n == p % n) k.unit k.none)

  -- no edges: everything none but the closure's diagonal
  abbrev pub opened : List Cell → List Cell
  opened xs = over identity_cell (n * n) (n * n) (over (λ _. blank k) 0 (needed n) xs)

  abbrev pub scratch_cleared : List Cell → List Cell
  scratch_cleared xs = over (λ _. blank k) (n * n + n * n) (n + n) xs

  -- onto each closure entry (x,y), the way by (x,i), m and (j,y)
  abbrev pub closure_passed : ℕ → ℕ → Entry → List Cell → List Cell
  closure_passed i j m xs = over (passed_cell k (λ x. closure_of xs x i) m (closure_of xs j) n (n * n) xs) (n * n) (n * n) xs

  abbrev pub edge_summed : ℕ → ℕ → Entry → List Cell → List Cell
  edge_summed i j σ xs = slice_set xs (i * n + j) (k.write (k.sum (edge_of xs i j) σ))

  -- the cells after σ was inserted from i to j
  abbrev pub inserted_cells : ℕ → ℕ → Entry → List Cell → List Cell
  inserted_cells i j σ xs = edge_summed i j σ (scratch_cleared (closure_passed i j (result_unwrap_or (factor k i j σ (closure_of xs j i)) k.none) xs))
