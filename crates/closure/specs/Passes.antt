-- One pass over a table: onto each entry is summed the way by a column, a factor and a row.
use Rattle.std.specs.Prelude.{ℕ, ◌+◌, ◌/◌, ◌%◌, cond, List, Option, slice_index_or}
use Rattle.semiring.specs.Algebra.{Semiring}
use Rattle.semiring.specs.Entries.{Entries}
use Rattle.closure.specs.Cells.{blank, times}
use Rattle.closure.specs.Outcomes.{first, either, failed}

module _ {s : Semiring} {Entry Cell Fault : Type 0} (k : Entries s Entry Cell Fault) where
  -- the first refused product of t with the n entries of a row
  abbrev pub row_fault : Entry → (ℕ → Entry) → ℕ → Option Fault
  row_fault t row n = first (λ y. failed (k.product t (row y))) n

  -- a cell after t·e was summed onto its entry; a factor none leaves the cell alone
  abbrev pub raised : Entry → Entry → Cell → Cell
  raised t e c = cond (k.same t k.none) c (k.write (k.sum (k.read c) (times k t e)))

  -- the p-th cell of a line after t times the p-th entry of a row was summed onto it
  abbrev pub raised_cell : Entry → (ℕ → Entry) → List Cell → ℕ → Cell
  raised_cell t row xs p = raised t (row p) (slice_index_or xs p (blank k))

  module _ (column : ℕ → Entry) (m : Entry) (row : ℕ → Entry) where
    -- T[x,y] + (column x · m) · row y
    abbrev pub passed : (ℕ → ℕ → Entry) → ℕ → ℕ → Entry
    passed t x y = k.sum (t x y) (times k (times k (column x) m) (row y))

    -- the first refused product of row x: its factor, then its n entries in order
    abbrev pub line_fault : ℕ → ℕ → Option Fault
    line_fault n x = either (failed (k.product (column x) m)) (row_fault (times k (column x) m) row n)

    -- the first refused product of n rows
    abbrev pub pass_fault : ℕ → Option Fault
    pass_fault n = first (line_fault n) n

    -- the p-th cell of the n-column table from a on, after the pass
    abbrev pub passed_cell : ℕ → ℕ → List Cell → ℕ → Cell
    passed_cell n a xs p = raised (times k (column (p / n)) m) (row (p % n)) (slice_index_or xs (a + p) (blank k))
