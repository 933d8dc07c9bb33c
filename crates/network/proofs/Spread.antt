-- A pass over the closure by its own column and row, which lie in the scratch, and the scratch cleared.
use Rattle.std.proofs.Common.{◌≡◌, ℕ, ◌+◌, ◌-◌, ◌*◌, ◌/◌, ◌%◌, ◌<◌, ◌≤◌, List, ◌++◌, length, map, take, drop, get_or, sym, ap, ◌∙◌, ⊎_elim, zero-add, arith}
use Rattle.std.specs.List.{range_with_len}
use Rattle.std.proofs.lemmas.Bool.{cases_lt}
use Rattle.std.proofs.lemmas.Nat.{div_below, mod_below, mul-le}
use Rattle.std.proofs.lemmas.List.{length-append, length-take, length-drop, get_or_append_left, get_or-take, get_or-drop, drop_at, drop-drop}
use Rattle.std.proofs.lemmas.List.FromFn.{fill_by_all, get_or-map-range_with_len, length-map-range_with_len}
use Rattle.semiring.specs.Algebra.{Semiring}
use Rattle.semiring.specs.Entries.{Entries}
use Rattle.closure.specs.Cells.{blank, at}
use Rattle.closure.specs.Outcomes.{failed}
use Rattle.closure.specs.Passes.{passed_cell, row_fault}
use Rattle.closure.proofs.First.{first_same}
use Rattle.closure.proofs.Over.{over_two}
use Rattle.closure.proofs.Rows.{place_fits, row_end, row_fits}
use Rattle.network.specs.Faults.{needed}
use Rattle.network.specs.Layout.{closure_of, scratch_cleared, closure_passed}

module _ {s : Semiring} {Entry Cell Fault : Type 0} (k : Entries s Entry Cell Fault) (n i j : ℕ) (xs : List Cell)
    (i_in : i < n) (j_in : j < n) (room : needed n ≤ length xs) (l : ℕ) (l_is : l ≡ n * n) where
  -- the closure's own cells
  abbrev table : List Cell
  table = take l (drop (n * n) xs)

  pub table_cell : (p : ℕ) → p < n * n → get_or table p (blank k) ≡ get_or xs (n * n + p) (blank k)
  table_cell p h = get_or-take l (drop (n * n) xs) p (blank k) (omega arith) ∙ get_or-drop (n * n) xs p (blank k)

  pub closure_cell : (x y : ℕ) → x < n → y < n → at k table (x * n + y) ≡ closure_of k n xs x y
  closure_cell x y h g = ap k.read (table_cell (x * n + y) (place_fits x y n h g))

  -- one line taken off what is left of the table
  pub line_turn : (x : ℕ) (line rest left : List Cell) → left ≡ drop (x * n) table → left ≡ line ++ rest → length line ≡ n
      → (x < n) × (rest ≡ drop ((x + 1) * n) table) × ((y : ℕ) → y < n → at k line y ≡ closure_of k n xs x y)
  line_turn x line rest left left_is cut long =
      let table_long : length table ≡ n * n = simp (length-take, length-drop) (omega arith) in
      let left_long : length left ≡ n * n - x * n = ap length left_is ∙ length-drop (x * n) table ∙ ap (λ q. q - x * n) table_long in
      let parts : length left ≡ n + length rest = ap length cut ∙ length-append line rest ∙ ap (λ q. q + length rest) long in
      let inside : x < n = ⊎_elim (λ (v : x < n). v) (λ (v : n ≤ x). let over = mul-le n n x n v (omega arith) in absurd (omega arith)) (cases_lt x n) in
      let more = row_end x n in (
        inside,
        sym (drop_at line rest n long) ∙ ap (drop n) (sym cut ∙ left_is) ∙ drop-drop n (x * n) table ∙ ap (λ q. drop q table) (sym more),
        (λ y h.
            ap k.read (sym (get_or_append_left line rest (blank k) y (omega arith)) ∙ ap (λ z. get_or z y (blank k)) (sym cut ∙ left_is) ∙ get_or-drop (x * n) table y (blank k))
            ∙ closure_cell x y inside h),
      )

  -- no line is left
  pub no_line : (x : ℕ) (left : List Cell) → left ≡ drop (x * n) table → length left < n → x ≤ n → x ≡ n
  no_line x left left_is short upto =
      let table_long : length table ≡ n * n = simp (length-take, length-drop) (omega arith) in
      let left_long : length left ≡ n * n - x * n = ap length left_is ∙ length-drop (x * n) table ∙ ap (λ q. q - x * n) table_long in
      ⊎_elim (λ (v : x < n). let fits = row_fits x n v in absurd (omega arith)) (λ (v : n ≤ x). omega arith) (cases_lt x n)

  -- the lines that the pass goes by
  abbrev column : List Cell
  column = map (λ x. get_or table (x * n + i) (blank k)) (range_with_len 0 n)

  abbrev row : ℕ → List Cell
  row r = take r (drop (j * n) table)

  column_at : (x : ℕ) → x < n → at k column x ≡ closure_of k n xs x i
  column_at x h = ap k.read (get_or-map-range_with_len (λ x. get_or table (x * n + i) (blank k)) 0 n x x (blank k) h (zero-add x) ∙ table_cell (x * n + i) (place_fits x i n h i_in))

  row_at : (r y : ℕ) → r ≡ n → y < n → at k (row r) y ≡ closure_of k n xs j y
  row_at r y e h =
      ap k.read (get_or-take r (drop (j * n) table) y (blank k) (omega arith) ∙ get_or-drop (j * n) table y (blank k) ∙ table_cell (j * n + y) (place_fits j y n j_in h))

  row_long : (r : ℕ) → r ≡ n → length (row r) ≡ n
  row_long r e = let fits = row_fits j n j_in in simp (length-take, length-drop) (omega arith)

  -- the row is refused as the closure's is
  pub row_refused : (r : ℕ) → r ≡ n → (t : Entry) → row_fault k t (at k (row r)) (length (row r)) ≡ row_fault k t (closure_of k n xs j) n
  row_refused r e t =
      ap (row_fault k t (at k (row r))) (row_long r e)
      ∙ first_same (λ y. failed (k.product t (at k (row r) y))) (λ y. failed (k.product t (closure_of k n xs j y))) n (λ y h. ap (λ z. failed (k.product t z)) (row_at r y e h))

  by_lines : (m : Entry) (r c : ℕ) (edges table' scratch' behind : List Cell) → r ≡ n → c ≡ n + n
      → edges ≡ take (n * n) xs
      → table' ≡ map (passed_cell k (at k column) m (at k (row r)) (length (row r)) 0 table) (range_with_len 0 (length (row r) * length (row r)))
      → scratch' ≡ map (λ _. blank k) (range_with_len 0 c)
      → behind ≡ drop (n * n + n * n) xs
      → edges ++ (table' ++ (scratch' ++ drop (n + n) behind)) ≡ scratch_cleared k n (closure_passed k n i j m xs)
  by_lines m r c edges table' scratch' behind r_is c_is edges_are table_is scratch_is behind_is =
      let old = passed_cell k (at k column) m (at k (row r)) n 0 table in
      let new = passed_cell k (λ x. closure_of k n xs x i) m (closure_of k n xs j) n (n * n) xs in
      let none = λ (p : ℕ). blank k in
      let cell : (p : ℕ) → p < n * n → old p ≡ new p = λ p h.
      let a = column_at (p / n) (div_below p n n (omega arith) h) in
      let b = row_at r (p % n) r_is (mod_below p n (omega arith)) in
      let d = table_cell p h in
      let e = zero-add p in
      cc in
      let passed : table' ≡ map new (range_with_len 0 (n * n)) =
      table_is ∙ ap (λ q. map (passed_cell k (at k column) m (at k (row r)) q 0 table) (range_with_len 0 (q * q))) (row_long r r_is)
      ∙ fill_by_all new (map old (range_with_len 0 (n * n))) (n * n) (blank k) (length-map-range_with_len old 0 (n * n))
      (λ p h. get_or-map-range_with_len old 0 (n * n) p p (blank k) h (zero-add p) ∙ cell p h) in
      let cleared : scratch' ≡ map none (range_with_len 0 (n + n)) = scratch_is ∙ ap (λ q. map none (range_with_len 0 q)) c_is in
      let rest : drop (n + n) behind ≡ drop (n * n + n * n + (n + n)) xs = ap (drop (n + n)) behind_is ∙ drop-drop (n + n) (n * n + n * n) xs in
      ap (λ z. z ++ (table' ++ (scratch' ++ drop (n + n) behind))) edges_are
      ∙ ap (λ z. take (n * n) xs ++ (z ++ (scratch' ++ drop (n + n) behind))) passed
      ∙ ap (λ z. take (n * n) xs ++ (map new (range_with_len 0 (n * n)) ++ (z ++ drop (n + n) behind))) cleared
      ∙ ap (λ z. take (n * n) xs ++ (map new (range_with_len 0 (n * n)) ++ (map none (range_with_len 0 (n + n)) ++ z))) rest
      ∙ sym (over_two new none (n * n) (n * n) (n + n) xs (omega arith))

  pub spread_is : (m : Entry) (r r' c : ℕ) (edges cells column' row' table' scratch' behind : List Cell) → r ≡ n → r' ≡ n → c ≡ n + n
      → edges ≡ take (n * n) xs
      → cells ≡ table
      → column' ≡ map (λ x. get_or cells (x * r' + i) (blank k)) (range_with_len 0 r')
      → row' ≡ take r (drop (j * n) cells)
      → table' ≡ map (passed_cell k (at k column') m (at k row') (length row') 0 cells) (range_with_len 0 (length row' * length row'))
      → scratch' ≡ map (λ _. blank k) (range_with_len 0 c)
      → behind ≡ drop (n * n + n * n) xs
      → edges ++ (table' ++ (scratch' ++ drop (n + n) behind)) ≡ scratch_cleared k n (closure_passed k n i j m xs)
  spread_is m r r' c edges cells column' row' table' scratch' behind r_is r'_is c_is edges_are cells_are column_is row_is table_is scratch_is behind_is =
      let column_same : column' ≡ column = column_is ∙ ap (λ q. map (λ x. get_or cells (x * q + i) (blank k)) (range_with_len 0 q)) r'_is ∙ ap (λ z. map (λ x. get_or z (x * n + i) (blank k)) (range_with_len 0 n)) cells_are in
      let row_same : row' ≡ row r = row_is ∙ ap (λ z. take r (drop (j * n) z)) cells_are in
      by_lines m r c edges table' scratch' behind r_is c_is edges_are
      (table_is
      ∙ ap (λ z. map (passed_cell k (at k z) m (at k row') (length row') 0 cells) (range_with_len 0 (length row' * length row'))) column_same
      ∙ ap (λ z. map (passed_cell k (at k column) m (at k z) (length z) 0 cells) (range_with_len 0 (length z * length z))) row_same
      ∙ ap (λ z. map (passed_cell k (at k column) m (at k (row r)) (length (row r)) 0 z) (range_with_len 0 (length (row r) * length (row r)))) cells_are)
      scratch_is behind_is
