-- Lists of cells, and what loops over them leave.
use Rattle.std.specs.Prelude.{ℕ, ◌+◌, ◌*◌, List, ◌++◌, map, take, drop, slice_index_or}
use Rattle.std.specs.List.{range_with_len}
use Rattle.std.specs.Result.{result_unwrap_or}
use Rattle.semiring.specs.Algebra.{Semiring}
use Rattle.semiring.specs.Entries.{Entries}
use Rattle.closure.specs.Walks.{Table}

-- xs with its m places from a on written over by f 0, f 1, ..
unfoldable pub over : {A : Type 0} → (ℕ → A) → ℕ → ℕ → List A → List A
over f a m xs = take a xs ++ (map f (range_with_len 0 m) ++ drop (a + m) xs)

module _ {s : Semiring} {Entry Cell Fault : Type 0} (k : Entries s Entry Cell Fault) where
  -- the cell of none
  abbrev pub blank : Cell
  blank = k.write k.none

  -- the entry at a place
  abbrev pub at : List Cell → ℕ → Entry
  at xs p = k.read (slice_index_or xs p blank)

  -- the entry of row x and column y in the table of n columns that begins at a
  abbrev pub table_at : ℕ → ℕ → List Cell → ℕ → ℕ → Entry
  table_at n a xs x y = at xs (a + (x * n + y))

  -- the product, and none where it is refused
  abbrev pub times : Entry → Entry → Entry
  times a b = result_unwrap_or (k.product a b) k.none

  -- what a table of entries means
  abbrev pub values : (ℕ → ℕ → Entry) → Table s
  values t x y = k.value (t x y)
