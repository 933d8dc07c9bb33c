-- One row of a pass, and the places of a table's rows.
use Rattle.std.proofs.Common.{◌≡◌, ℕ, ◌+◌, ◌-◌, ◌*◌, ◌/◌, ◌%◌, ◌<◌, ◌≤◌, true, false, cond, List, length, map, take, drop, get_or, ⊎_elim, zero-add, Some, None, Ok, Err, sym, refl, ap, ◌∙◌, add-mul, one-mul, arith}
use borrow.Rule.Slice.PartMut.{put_mid}
use Rattle.std.specs.List.{range_with_len}
use Rattle.std.specs.Result.{result_unwrap_or}
use Rattle.std.proofs.lemmas.Bool.{cases_lt}
use Rattle.std.proofs.lemmas.List.{get_or_read, get_or-take, get_or-drop}
use Rattle.std.proofs.lemmas.Nat.{div-mul-add, mod-mul-add, mul-le}
use Rattle.semiring.specs.Algebra.{Semiring, Laws}
use Rattle.semiring.specs.Entries.{Entries, Exact}
use Rattle.semiring.proofs.Held.{none_product, same_equal, sum_none}
use Rattle.closure.specs.Cells.{over, blank, at, times}
use Rattle.closure.specs.Outcomes.{either, failed}
use Rattle.closure.specs.Passes.{row_fault, raised, raised_cell, line_fault, passed_cell}
use Rattle.closure.proofs.First.{first_of_none}
use Rattle.closure.proofs.Over.{put_back, get_or_over_below, get_or_over_in, get_or_over_past}

pub row_end : (i n : ℕ) → (i + 1) * n ≡ i * n + n
row_end i n = add-mul i 1 n ∙ ap (λ z. i * n + z) (one-mul n)

pub row_fits : (i n : ℕ) → i < n → i * n + n ≤ n * n
row_fits i n h = omega (arith, row_end i n, mul-le (i + 1) n n n (omega arith) (omega arith))

pub place_fits : (i j n : ℕ) → i < n → j < n → i * n + j < n * n
place_fits i j n h l = let fits = row_fits i n h in omega arith

module _ {s : Semiring} {Entry Cell Fault : Type 0} (k : Entries s Entry Cell Fault) where
  -- what reading a cell of a slice gives
  pub read_at : (xs : List Cell) (q p : ℕ) (c : Cell) (e : Entry) → q ≡ p → q < length xs → c ≡ get_or xs q c → e ≡ k.read (get_or xs q c) → e ≡ at k xs p
  read_at xs q p c e same h is e_is = e_is ∙ ap k.read (sym is ∙ get_or_read xs q c h is (blank k)) ∙ ap (at k xs) same

  -- a factor none is never refused, and leaves the row alone
  pub none_row_fault : Laws s → Exact k → (t : Entry) (row : ℕ → Entry) (n : ℕ) → t ≡ k.none → row_fault k t row n ≡ None
  none_row_fault l exact t row n is =
      ap (λ e. row_fault k e row n) is ∙ first_of_none (λ y. failed (k.product k.none (row y))) n (λ y h. ap failed (none_product l exact (row y)))

  -- the entry of a raised cell, whether it was left alone or not
  pub read_raised : Laws s → Exact k → (t e : Entry) (c : Cell) → k.read (raised k t e c) ≡ k.sum (k.read c) (times k t e)
  read_raised l exact t e c = by (k.same t k.none) refl
    where
      written : Cell
      written = k.write (k.sum (k.read c) (times k t e))

      by : (b : _) → k.same t k.none ≡ b → k.read (cond b c written) ≡ k.sum (k.read c) (times k t e)
      by true is =
          let none_is : times k t e ≡ k.none = ap (λ x. times k x e) (same_equal l exact t k.none is) ∙ ap (λ r. result_unwrap_or r k.none) (none_product l exact e) in
          sym (ap (k.sum (k.read c)) none_is ∙ sum_none l exact (k.read c))
      by false is = exact.read_write (k.sum (k.read c) (times k t e))

  module _ (column : ℕ → Entry) (m : Entry) (row : ℕ → Entry) (n : ℕ) where
    -- a row is refused for its factor, or for one of its products
    pub fault_of_factor : (x : ℕ) (w : Fault) → k.product (column x) m ≡ Err w → line_fault k column m row n x ≡ Some w
    fault_of_factor x w e = ap (λ r. either (failed r) (row_fault k (result_unwrap_or r k.none) row n)) e

    pub fault_of_row : (x : ℕ) (t : Entry) → k.product (column x) m ≡ Ok t → line_fault k column m row n x ≡ row_fault k t row n
    fault_of_row x t e = ap (λ r. either (failed r) (row_fault k (result_unwrap_or r k.none) row n)) e

    -- of the table xs the rows above x are passed, and the others as they were
    abbrev pub PassedAbove : ℕ → List Cell → List Cell → Type 0
    PassedAbove x xs ys =
        ((p : ℕ) → p < x * n → get_or ys p (blank k) ≡ passed_cell k column m row n 0 xs p)
        × ((p : ℕ) → x * n ≤ p → get_or ys p (blank k) ≡ get_or xs p (blank k))

    pub pass_row : (xs ys line : List Cell) (x l : ℕ) (t : Entry) → length ys ≡ n * n → x < n → l ≡ n
        → PassedAbove x xs ys
        → t ≡ times k (column x) m
        → line ≡ map (raised_cell k t row (take l (drop (x * n) ys))) (range_with_len 0 n)
        → PassedAbove (x + 1) xs (put_mid (x * n) l ys line)
    pass_row xs ys line x l t long h l_is above t_is line_is =
        let fits = row_fits x n h in
        let more = row_end x n in
        let raised_is = raised_cell k t row (take l (drop (x * n) ys)) in
        let zs = over raised_is (x * n) n ys in
        let same : put_mid (x * n) l ys line ≡ zs = put_back raised_is (x * n) ys n l line l_is line_is in
        let cell : (y : ℕ) → y < n → raised_is y ≡ passed_cell k column m row n 0 xs (x * n + y) = λ y u.
        let old : get_or (take l (drop (x * n) ys)) y (blank k) ≡ get_or xs (x * n + y) (blank k) =
        get_or-take l (drop (x * n) ys) y (blank k) (omega arith) ∙ get_or-drop (x * n) ys y (blank k) ∙ above.1 (x * n + y) (omega arith) in
        let at_row : (x * n + y) / n ≡ x = div-mul-add x n y u in
        let at_column : (x * n + y) % n ≡ y = mod-mul-add x n y u in
        let place : 0 + (x * n + y) ≡ x * n + y = zero-add (x * n + y) in
        cc in
        let here : (p : ℕ) → p < (x + 1) * n → get_or zs p (blank k) ≡ passed_cell k column m row n 0 xs p = λ p u.
        ⊎_elim
        (λ (v : p < x * n). get_or_over_below raised_is (x * n) ys n p (blank k) v (omega arith) ∙ above.0 p v)
        (λ (v : x * n ≤ p).
        let e : x * n + (p - x * n) ≡ p = omega arith in
        get_or_over_in raised_is (x * n) ys n (p - x * n) p (blank k) (omega arith) (omega arith) e ∙ cell (p - x * n) (omega arith) ∙ ap (passed_cell k column m row n 0 xs) e)
        (cases_lt p (x * n)) in (
          (λ p u. ap (λ z. get_or z p (blank k)) same ∙ here p u),
          (λ p u. ap (λ z. get_or z p (blank k)) same ∙ get_or_over_past raised_is (x * n) ys n p (blank k) (omega arith) (omega arith) ∙ above.1 p (omega arith)),
        )
