-- The cells that an accepted call leaves mean what it promises.
use Rattle.std.proofs.Common.{◌≡◌, ℕ, ◌+◌, ◌*◌, ◌/◌, ◌%◌, ◌<◌, ◌≤◌, cond, eqb, ◌≢◌, List, length, get_or, drop, set, refl, ap, ◌∙◌, zero-add, arith}
use Rattle.std.specs.Result.{result_unwrap_or}
use Rattle.std.proofs.lemmas.Nat.{div-mul-add, mod-mul-add}
use Rattle.std.proofs.lemmas.List.{length-set, get_or-set_same, get_or-set_other, drop-set-lt}
use Rattle.std.proofs.lemmas.Bool.{eq-eqb, ne_eqb}
use Rattle.semiring.specs.Algebra.{Semiring, Laws}
use Rattle.semiring.specs.Entries.{Entries, Exact}
use Rattle.closure.specs.Cells.{over, blank, times}
use Rattle.closure.specs.Insertion.{factor}
use Rattle.closure.specs.Passes.{passed_cell, raised}
use Rattle.closure.proofs.Over.{length_over, get_or_over_below, get_or_over_in, get_or_over_past, drop_over}
use Rattle.closure.proofs.Rows.{place_fits, read_raised}
use Rattle.network.specs.Faults.{needed}
use Rattle.network.specs.Layout.{edge_of, closure_of, identity_cell, opened, inserted_cells}
use Rattle.network.specs.State.{state_with}
use Rattle.network.specs.Meaning.{Opened, Inserted}

-- the closure written by f, the scratch by z, and the cell e of the edges by v
module _ {A : Type 0} (f : ℕ → A) (z : A) (n e : ℕ) (v : A) (xs : List A) (room : needed n ≤ length xs) (e_in : e < n * n) (d : A) where
  abbrev closed : List A
  closed = over f (n * n) (n * n) xs

  abbrev wiped : List A
  wiped = over (λ _. z) (n * n + n * n) (n + n) closed

  abbrev after : List A
  after = set wiped e v

  closed_long : length closed ≡ length xs
  closed_long = length_over f (n * n) xs (n * n) (omega arith)

  wiped_long : length wiped ≡ length xs
  wiped_long = length_over (λ _. z) (n * n + n * n) closed (n + n) (omega (arith, closed_long)) ∙ closed_long

  pub after_long : length after ≡ length xs
  after_long = length-set wiped e v ∙ wiped_long

  pub edge_before : (p : ℕ) → p < n * n → get_or wiped p d ≡ get_or xs p d
  edge_before p h =
      get_or_over_below (λ _. z) (n * n + n * n) closed (n + n) p d (omega arith) (omega (arith, closed_long))
      ∙ get_or_over_below f (n * n) xs (n * n) p d h (omega arith)

  pub edge_after : get_or after e d ≡ v
  edge_after = get_or-set_same wiped e v d (omega (arith, wiped_long))

  pub other_edge_after : (p : ℕ) → p < n * n → p ≢ e → get_or after p d ≡ get_or xs p d
  other_edge_after p h ne = get_or-set_other wiped e p v d ne ∙ edge_before p h

  pub closure_after : (p : ℕ) → p < n * n → get_or after (n * n + p) d ≡ f p
  closure_after p h =
      get_or-set_other wiped e (n * n + p) v d (omega arith)
      ∙ get_or_over_below (λ _. z) (n * n + n * n) closed (n + n) (n * n + p) d (omega arith) (omega (arith, closed_long))
      ∙ get_or_over_in f (n * n) xs (n * n) p (n * n + p) d h (omega arith) refl

  pub scratch_after : (p : ℕ) → p < n + n → get_or after (n * n + n * n + p) d ≡ z
  scratch_after p h =
      get_or-set_other wiped e (n * n + n * n + p) v d (omega arith)
      ∙ get_or_over_in (λ _. z) (n * n + n * n) closed (n + n) p (n * n + n * n + p) d h (omega (arith, closed_long)) refl

  pub beyond_after : drop (needed n) after ≡ drop (needed n) xs
  beyond_after =
      drop-set-lt (needed n) wiped e v (omega arith)
      ∙ drop_over (λ _. z) (n * n + n * n) (n + n) (needed n) closed (omega arith) (omega (arith, closed_long))
      ∙ drop_over f (n * n) (n * n) (needed n) xs (omega arith) (omega arith)

module _ {s : Semiring} {Entry Cell Fault : Type 0} (k : Entries s Entry Cell Fault) (exact : Exact k) (n : ℕ) (xs : List Cell) (room : needed n ≤ length xs) where
  abbrev cleared : List Cell
  cleared = over (λ _. blank k) 0 (needed n) xs

  cleared_long : length cleared ≡ length xs
  cleared_long = length_over (λ _. blank k) 0 xs (needed n) (omega arith)

  cleared_blank : (p : ℕ) → p < needed n → get_or cleared p (blank k) ≡ blank k
  cleared_blank p h = get_or_over_in (λ _. blank k) 0 xs (needed n) p p (blank k) h (omega arith) (zero-add p)

  closure_opened : (i j : ℕ) → i < n → j < n → closure_of k n (opened k n xs) i j ≡ cond (eqb i j) k.unit k.none
  closure_opened i j h l =
      let fits = place_fits i j n h l in
      let row = div-mul-add i n j l in
      let column = mod-mul-add i n j l in
      let cell = get_or_over_in (identity_cell k n) (n * n) cleared (n * n) (i * n + j) (n * n + (i * n + j)) (blank k) fits (omega (arith, cleared_long)) refl in
      ap k.read cell ∙ exact.read_write (cond (eqb ((i * n + j) / n) ((i * n + j) % n)) k.unit k.none) ∙ (cc)

  pub opened_long : length (opened k n xs) ≡ length xs
  opened_long = length_over (identity_cell k n) (n * n) cleared (n * n) (omega (arith, cleared_long)) ∙ cleared_long

  pub opened_means : (was : ℕ) → Opened k n (state_with was xs) (state_with n (opened k n xs))
  opened_means was =
      record {
        node_count = refl;
        edges_none = λ i j h l.
            let fits = place_fits i j n h l in
            ap k.read (get_or_over_below (identity_cell k n) (n * n) cleared (n * n) (i * n + j) (blank k) fits (omega (arith, cleared_long)) ∙ cleared_blank (i * n + j) (omega arith)) ∙ exact.read_write k.none;
        diagonal_unit = λ i h. closure_opened i i h h ∙ ap (λ b. cond b k.unit k.none) (eq-eqb i i refl);
        elsewhere_none = λ i j h l ne. closure_opened i j h l ∙ ap (λ b. cond b k.unit k.none) (ne_eqb i j ne);
        tidy = record {
          scratch_none = λ p h. get_or_over_past (identity_cell k n) (n * n) cleared (n * n) (n * n + n * n + p) (blank k) (omega arith) (omega (arith, cleared_long)) ∙ cleared_blank (n * n + n * n + p) (omega arith);
          beyond_kept = drop_over (identity_cell k n) (n * n) (n * n) (needed n) cleared (omega arith) (omega (arith, cleared_long)) ∙ drop_over (λ _. blank k) 0 (needed n) (needed n) xs (omega arith) (omega arith);
        };
      }

  module _ (l : Laws s) (i j : ℕ) (i_in : i < n) (j_in : j < n) (σ : Entry) where
    pub inserted_long : length (inserted_cells k n i j σ xs) ≡ length xs
    inserted_long =
        let f = passed_cell k (λ x. closure_of k n xs x i) (result_unwrap_or (factor k i j σ (closure_of k n xs j i)) k.none) (closure_of k n xs j) n (n * n) xs in
        after_long f (blank k) n (i * n + j) _ xs room (place_fits i j n i_in j_in) (blank k)

    pub inserted_means : Inserted k i j σ (state_with n xs) (state_with n (inserted_cells k n i j σ xs))
    inserted_means =
        let m = result_unwrap_or (factor k i j σ (closure_of k n xs j i)) k.none in
        let column = λ (x : ℕ). closure_of k n xs x i in
        let f = passed_cell k column m (closure_of k n xs j) n (n * n) xs in
        let e = i * n + j in
        let fits = place_fits i j n i_in j_in in
        let ws = over (λ _. blank k) (n * n + n * n) (n + n) (over f (n * n) (n * n) xs) in
        let before : edge_of k n ws i j ≡ edge_of k n xs i j = ap k.read (edge_before f (blank k) n e (blank k) xs room fits (blank k) e fits) in
        let v = k.write (k.sum (edge_of k n ws i j) σ) in
        record {
          node_count_kept = refl;
          closure_inserted = λ x y h t.
              let in_table = place_fits x y n h t in
              let row = div-mul-add x n y t in
              let column_is = mod-mul-add x n y t in
              let cell = closure_after f (blank k) n e v xs room fits (blank k) (x * n + y) in_table in
              let raised_is : f (x * n + y) ≡ raised k (times k (column x) m) (closure_of k n xs j y) (get_or xs (n * n + (x * n + y)) (blank k)) = cc in
              ap k.read (cell ∙ raised_is) ∙ read_raised k l exact (times k (column x) m) (closure_of k n xs j y) (get_or xs (n * n + (x * n + y)) (blank k));
          edge_summed = ap k.read (edge_after f (blank k) n e v xs room fits (blank k)) ∙ exact.read_write _ ∙ ap (λ x. k.sum x σ) before;
          other_edges_kept = other_edge_after f (blank k) n e v xs room fits (blank k);
          tidy = record {
            scratch_none = scratch_after f (blank k) n e v xs room fits (blank k);
            beyond_kept = beyond_after f (blank k) n e v xs room fits (blank k);
          };
        }
