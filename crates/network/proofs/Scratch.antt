-- A column and a row of the closure, gathered in the scratch, and the pass by them.
use Rattle.std.proofs.Common.{◌≡◌, ℕ, ◌+◌, ◌*◌, ◌/◌, ◌%◌, ◌<◌, ◌≤◌, List, length, get_or, refl, ap, ◌∙◌, mul-one, arith}
use Rattle.std.proofs.lemmas.Nat.{div_below, mod_below}
use Rattle.semiring.specs.Algebra.{Semiring}
use Rattle.semiring.specs.Entries.{Entries}
use Rattle.closure.specs.Cells.{over, blank, at}
use Rattle.closure.specs.Passes.{passed_cell}
use Rattle.closure.proofs.Over.{Kept, over_kept, kept_within, length_over, get_or_over_below, get_or_over_in}
use Rattle.closure.proofs.Rows.{place_fits}
use Rattle.closure.proofs.Writes.{over_same, over_of_kept, kept_then, kept_apart, get_or_kept}
use Rattle.network.specs.Faults.{needed}
use Rattle.network.specs.Layout.{closure_of, scratch_cleared, closure_passed}

-- ys has column i of xs in its scratch, and zs row j as well
module _ {s : Semiring} {Entry Cell Fault : Type 0} (k : Entries s Entry Cell Fault) (n i j : ℕ) (xs ys zs : List Cell)
    (i_in : i < n) (j_in : j < n) (room : needed n ≤ length xs)
    (ys_is : ys ≡ over (λ x. get_or xs (n * n + i + x * n) (blank k)) (n * n + n * n) n xs)
    (zs_is : zs ≡ over (λ y. get_or ys (n * n + j * n + y * 1) (blank k)) (n * n + n * n + n) n ys) where
  ys_long : length ys ≡ length xs
  ys_long = ap length ys_is ∙ length_over (λ x. get_or xs (n * n + i + x * n) (blank k)) (n * n + n * n) xs n (omega arith)

  zs_long : length zs ≡ length xs
  zs_long = ap length zs_is ∙ length_over (λ y. get_or ys (n * n + j * n + y * 1) (blank k)) (n * n + n * n + n) ys n (omega (arith, ys_long)) ∙ ys_long

  ys_kept : Kept (n * n + n * n) (n + n) xs ys
  ys_kept = rw ys_is (kept_within (n * n + n * n) (n + n) (n * n + n * n) n xs (over (λ x. get_or xs (n * n + i + x * n) (blank k)) (n * n + n * n) n xs) (omega arith) (omega arith) (over_kept (λ x. get_or xs (n * n + i + x * n) (blank k)) (n * n + n * n) xs n (omega arith)))

  zs_kept : Kept (n * n + n * n) (n + n) xs zs
  zs_kept =
      let last : Kept (n * n + n * n) (n + n) ys zs = rw zs_is (kept_within (n * n + n * n) (n + n) (n * n + n * n + n) n ys (over (λ y. get_or ys (n * n + j * n + y * 1) (blank k)) (n * n + n * n + n) n ys) (omega arith) (omega arith) (over_kept (λ y. get_or ys (n * n + j * n + y * 1) (blank k)) (n * n + n * n + n) ys n (omega (arith, ys_long)))) in
      kept_then (n * n + n * n) (n + n) xs ys zs ys_kept last

  -- what the scratch holds: the column, then the row
  column_at : (x : ℕ) → x < n → at k zs (n * n + n * n + x) ≡ closure_of k n xs x i
  column_at x h =
      ap (λ l. at k l (n * n + n * n + x)) zs_is
      ∙ ap k.read (get_or_over_below (λ y. get_or ys (n * n + j * n + y * 1) (blank k)) (n * n + n * n + n) ys n (n * n + n * n + x) (blank k) (omega arith) (omega (arith, ys_long)))
      ∙ ap (λ l. at k l (n * n + n * n + x)) ys_is
      ∙ ap k.read (get_or_over_in (λ x. get_or xs (n * n + i + x * n) (blank k)) (n * n + n * n) xs n x (n * n + n * n + x) (blank k) h (omega arith) refl)
      ∙ ap (at k xs) (let e : n * n + i + x * n ≡ n * n + (x * n + i) = omega arith in e)

  row_at : (y : ℕ) → y < n → at k zs (n * n + n * n + n + y) ≡ closure_of k n xs j y
  row_at y h =
      let fits = place_fits j y n j_in h in
      ap (λ l. at k l (n * n + n * n + n + y)) zs_is
      ∙ ap k.read (get_or_over_in (λ y. get_or ys (n * n + j * n + y * 1) (blank k)) (n * n + n * n + n) ys n y (n * n + n * n + n + y) (blank k) h (omega (arith, ys_long)) refl)
      ∙ ap (at k ys) (let e : n * n + j * n + y * 1 ≡ n * n + (j * n + y) = omega (arith, mul-one y) in e)
      ∙ ap k.read (get_or_kept (n * n + n * n) (n + n) xs ys (n * n + (j * n + y)) (blank k) ys_kept (omega arith))

  -- a pass by the gathered lines, and the scratch cleared, is a pass by the closure's own
  pub spread_is : (m : Entry) (ws us : List Cell)
      → ws ≡ over (passed_cell k (λ x. at k zs (n * n + n * n + x)) m (λ y. at k zs (n * n + n * n + n + y)) n (n * n) zs) (n * n) (n * n) zs
      → us ≡ over (λ _. blank k) (n * n + n * n) (n + n) ws
      → us ≡ scratch_cleared k n (closure_passed k n i j m xs)
  spread_is m ws us ws_is us_is =
      let was = passed_cell k (λ x. at k zs (n * n + n * n + x)) m (λ y. at k zs (n * n + n * n + n + y)) n (n * n) zs in
      let new = passed_cell k (λ x. closure_of k n xs x i) m (closure_of k n xs j) n (n * n) xs in
      let each : (p : ℕ) → p < n * n → was p ≡ new p = λ p h.
      let old : get_or zs (n * n + p) (blank k) ≡ get_or xs (n * n + p) (blank k) = get_or_kept (n * n + n * n) (n + n) xs zs (n * n + p) (blank k) zs_kept (omega arith) in
      let a = column_at (p / n) (div_below p n n (omega arith) h) in
      let b = row_at (p % n) (mod_below p n (omega arith)) in
      cc in
      us_is
      ∙ ap (over (λ _. blank k) (n * n + n * n) (n + n)) (ws_is ∙ over_same was new (n * n) (n * n) zs (omega (arith, zs_long)) each)
      ∙ over_of_kept (λ _. blank k) (n * n + n * n) (n + n) (over new (n * n) (n * n) xs) (over new (n * n) (n * n) zs) (kept_apart new (n * n) (n * n) (n * n + n * n) (n + n) xs zs (omega arith) (omega arith) zs_long zs_kept)
