-- Writes cell by cell into one list, from a place on, and what they leave: for tables that lie in one slice by offsets.
use Rattle.std.proofs.Common.{◌≡◌, ℕ, zero, suc, ◌+◌, ◌-◌, ◌*◌, ◌/◌, ◌%◌, ◌<◌, ◌≤◌, true, cond, List, [], ◌∷◌, ◌++◌, map, length, get_or, take, drop, set, sym, refl, ap, ◌∙◌, ⊎_elim, add-zero, add_assoc, zero-add, add-one, arith}
use mathlib.Core.Path.{fun_ext}
use Rattle.std.specs.List.{range_with_len}
use Rattle.std.proofs.lemmas.Bool.{cases_lt}
use Rattle.std.proofs.lemmas.List.{append_assoc, take-append-drop, length-take-le, set_at, set-get_or, drop_more, same_lists, get_or-take}
use Rattle.std.proofs.lemmas.List.FromFn.{map-range_with_len_more}
use Rattle.std.proofs.lemmas.Nat.{div-mul-add, mod-mul-add, mul-le}
use Rattle.semiring.specs.Algebra.{Semiring}
use Rattle.semiring.specs.Entries.{Entries}
use Rattle.closure.specs.Cells.{over, blank, at, table_at, times}
use Rattle.closure.specs.Passes.{raised, passed_cell}
use Rattle.closure.proofs.Over.{Kept, front_length, length_over, get_or_over_below, get_or_over_in, get_or_over_past, drop_over}
use Rattle.closure.proofs.Rows.{place_fits, row_end, row_fits}

module _ {A : Type 0} (f : ℕ → A) (a : ℕ) (xs : List A) where
  pub over_none : over f a 0 xs ≡ xs
  unfolding over
  over_none = ap (λ n. take a xs ++ drop n xs) (add-zero a) ∙ take-append-drop a xs

  over_step : (m : ℕ) (y : A) → a + m < length xs → y ≡ f m → set (over f a m xs) (a + m) y ≡ over f a (m + 1) xs
  unfolding over
  over_step m y h is =
      let front = take a xs ++ map f (range_with_len 0 m) in
      let rest : drop (a + m) xs ≡ get_or xs (a + m) y ∷ drop (a + m + 1) xs = drop_more xs (a + m) y h in
      let was : take a xs ++ (map f (range_with_len 0 m) ++ drop (a + m) xs) ≡ front ++ (get_or xs (a + m) y ∷ drop (a + m + 1) xs) =
      ap (λ z. take a xs ++ (map f (range_with_len 0 m) ++ z)) rest ∙ sym (append_assoc (take a xs) (map f (range_with_len 0 m)) (get_or xs (a + m) y ∷ drop (a + m + 1) xs)) in
      let put = set_at front (get_or xs (a + m) y) (drop (a + m + 1) xs) y (a + m) (front_length f a xs m (omega arith)) in
      let grown : map f (range_with_len 0 (m + 1)) ≡ map f (range_with_len 0 m) ++ (y ∷ []) = map-range_with_len_more f 0 m m (omega arith) ∙ ap (λ z. map f (range_with_len 0 m) ++ (z ∷ [])) (sym is) in
      let last : take a xs ++ (map f (range_with_len 0 (m + 1)) ++ drop (a + (m + 1)) xs) ≡ front ++ (y ∷ drop (a + m + 1) xs) =
      ap (λ z. take a xs ++ (z ++ drop (a + (m + 1)) xs)) grown
      ∙ ap (λ z. take a xs ++ z) (append_assoc (map f (range_with_len 0 m)) (y ∷ []) (drop (a + (m + 1)) xs))
      ∙ sym (append_assoc (take a xs) (map f (range_with_len 0 m)) (y ∷ drop (a + (m + 1)) xs))
      ∙ ap (λ n. front ++ (y ∷ drop n xs)) (sym (add_assoc a m 1)) in
      ap (λ l. set l (a + m) y) was ∙ put ∙ sym last

  -- one turn of a loop that writes
  pub over_more : (ys : List A) (m q : ℕ) (y : A) → ys ≡ over f a m xs → a + m ≡ q → q < length xs → y ≡ f m → set ys q y ≡ over f a (m + 1) xs
  over_more ys m q y h e l is = ap (λ z. set z q y) h ∙ ap (λ p. set (over f a m xs) p y) (sym e) ∙ over_step m y (omega arith) is

  -- to write what stands there already changes nothing
  pub over_itself : (m : ℕ) (d : A) → a + m ≤ length xs → ((p : ℕ) → p < m → f p ≡ get_or xs (a + p) d) → over f a m xs ≡ xs
  over_itself zero d h each = over_none
  over_itself (suc m) d h each =
      ap (λ p. over f a p xs) (sym (add-one m))
      ∙ sym (over_more xs m (a + m) (f m) (sym (over_itself m d (omega arith) (λ p l. each p (omega arith)))) refl (omega arith) refl)
      ∙ ap (set xs (a + m)) (each m (omega arith))
      ∙ set-get_or xs (a + m) d

module _ {A : Type 0} where
  -- one loop's writes after another's, side by side
  pub over_join : (f f' : ℕ → A) (a b m n : ℕ) (xs ys : List A) → ys ≡ over f a m xs → a + m ≡ b → b + n ≤ length xs → ((j : ℕ) → j < n → f' j ≡ f (m + j)) → over f' b n ys ≡ over f a (m + n) xs
  over_join f f' a b m zero xs ys h e l each = over_none f' b ys ∙ h ∙ ap (λ p. over f a p xs) (sym (add-zero m))
  over_join f f' a b m (suc n) xs ys h e l each =
      let long : length ys ≡ length xs = ap length h ∙ length_over f a xs m (omega arith) in
      ap (λ p. over f' b p ys) (sym (add-one n))
      ∙ sym (over_more f' b ys (over f' b n ys) n (b + n) (f' n) refl refl (omega arith) refl)
      ∙ over_more f a xs (over f' b n ys) (m + n) (b + n) (f' n) (over_join f f' a b m n xs ys h e (omega arith) (λ j g. each j (omega arith))) (omega arith) (omega arith) (each n (omega arith))
      ∙ ap (λ p. over f a p xs) (let e : m + n + 1 ≡ m + suc n = omega arith in e)

  pub over_same : (f g : ℕ → A) (a m : ℕ) (xs : List A) → a + m ≤ length xs → ((j : ℕ) → j < m → f j ≡ g j) → over f a m xs ≡ over g a m xs
  over_same f g a m xs l each =
      over_join g f a a 0 m xs xs (sym (over_none g a xs)) (add-zero a) l (λ j h. each j h ∙ ap g (sym (zero-add j))) ∙ ap (λ p. over g a p xs) (zero-add m)

  pub kept_then : (a m : ℕ) (xs ys zs : List A) → Kept a m xs ys → Kept a m ys zs → Kept a m xs zs
  kept_then a m xs ys zs k l = (l.0 ∙ k.0, l.1 ∙ k.1)

  -- a place before the part that changed
  pub get_or_kept : (b l : ℕ) (xs ys : List A) (p : ℕ) (d : A) → Kept b l xs ys → p < b → get_or ys p d ≡ get_or xs p d
  get_or_kept b l xs ys p d k h = sym (get_or-take b ys p d h) ∙ ap (λ z. get_or z p d) k.0 ∙ get_or-take b xs p d h

  -- the same writes before that part, in each of two lists that differ there alone
  pub kept_apart : (f : ℕ → A) (a m b l : ℕ) (xs ys : List A) → a + m ≤ b → b + l ≤ length xs → length ys ≡ length xs → Kept b l xs ys → Kept b l (over f a m xs) (over f a m ys)
  kept_apart f a m b l xs ys h r e k =
      let same : (p : ℕ) (d : A) → p < b → get_or (over f a m ys) p d ≡ get_or (over f a m xs) p d = λ p d q.
      ⊎_elim
      (λ (u : p < a). get_or_over_below f a ys m p d u (omega arith) ∙ get_or_kept b l xs ys p d k q ∙ sym (get_or_over_below f a xs m p d u (omega arith)))
      (λ (u : a ≤ p). ⊎_elim
      (λ (v : p < a + m). get_or_over_in f a ys m (p - a) p d (omega arith) (omega arith) (omega arith) ∙ sym (get_or_over_in f a xs m (p - a) p d (omega arith) (omega arith) (omega arith)))
      (λ (v : a + m ≤ p). get_or_over_past f a ys m p d v (omega arith) ∙ get_or_kept b l xs ys p d k q ∙ sym (get_or_over_past f a xs m p d v (omega arith)))
      (cases_lt p (a + m)))
      (cases_lt p a) in
      let ny : length (take b (over f a m ys)) ≡ b = length-take-le b (over f a m ys) (omega (arith, length_over f a ys m (omega arith))) in
      let nx : length (take b (over f a m xs)) ≡ b = length-take-le b (over f a m xs) (omega (arith, length_over f a xs m (omega arith))) in (
        same_lists (take b (over f a m ys)) (take b (over f a m xs)) (ny ∙ sym nx) (λ p d q. let u : p < b = omega arith in get_or-take b (over f a m ys) p d u ∙ same p d u ∙ sym (get_or-take b (over f a m xs) p d u)),
        drop_over f a m (b + l) ys (omega arith) (omega arith) ∙ k.1 ∙ sym (drop_over f a m (b + l) xs (omega arith) (omega arith)),
      )

  -- what is written wherever the lists differ makes them one
  pub over_of_kept : (f : ℕ → A) (a m : ℕ) (xs ys : List A) → Kept a m xs ys → over f a m ys ≡ over f a m xs
  unfolding over
  over_of_kept f a m xs ys k =
      ap (λ z. z ++ (map f (range_with_len 0 m) ++ drop (a + m) ys)) k.0 ∙ ap (λ z. take a xs ++ (map f (range_with_len 0 m) ++ z)) k.1

-- a pair of nodes, either way round
pub places_fit : (i j n : ℕ) → i < n → j < n → (i * n + j < n * n) × (j * n + i < n * n)
places_fit i j n h l = (place_fits i j n h l, place_fits j i n l h)

pub square_small : (n m : ℕ) → n ≤ m → n * n ≤ m * m
square_small n m h = mul-le n n m m h h

module _ {s : Semiring} {Entry Cell Fault : Type 0} (k : Entries s Entry Cell Fault) where
  -- a row by the place where it begins
  pub row_at : (n a j : ℕ) (xs : List Cell) → ◌≡◌ {A = ℕ → Entry} (λ y. at k xs (a + j * n + y)) (table_at k n a xs j)
  row_at n a j xs = fun_ext (λ y. ap (at k xs) (add_assoc a (j * n) y))

  -- a factor none leaves the row alone
  pub none_row_kept : (t : Entry) (row : ℕ → Entry) (a n : ℕ) (xs : List Cell) → k.same t k.none ≡ true → a + n ≤ length xs → over (λ y. raised k t (row y) (get_or xs (a + y) (blank k))) a n xs ≡ xs
  none_row_kept t row a n xs skipped room =
      over_itself (λ y. raised k t (row y) (get_or xs (a + y) (blank k))) a xs n (blank k) room
      (λ y h. ap (λ b. cond b (get_or xs (a + y) (blank k)) (k.write (k.sum (k.read (get_or xs (a + y) (blank k))) (times k t (row y))))) skipped)

  module _ (column : ℕ → Entry) (m : Entry) (row : ℕ → Entry) (n : ℕ) where
    -- the rows below x were passed, and then row x
    pub pass_row : (a : ℕ) (xs ys zs : List Cell) (x : ℕ) (t : Entry) → a + n * n ≤ length xs → x < n
        → ys ≡ over (passed_cell k column m row n a xs) a (x * n) xs
        → t ≡ times k (column x) m
        → zs ≡ over (λ y. raised k t (row y) (get_or ys (a + x * n + y) (blank k))) (a + x * n) n ys
        → zs ≡ over (passed_cell k column m row n a xs) a ((x + 1) * n) xs
    pass_row a xs ys zs x t room h ys_is t_is zs_is =
        let fits = row_fits x n h in
        let new = passed_cell k column m row n a xs in
        let each : (y : ℕ) → y < n → raised k t (row y) (get_or ys (a + x * n + y) (blank k)) ≡ new (x * n + y) = λ y l.
        let place : a + x * n + y ≡ a + (x * n + y) = omega arith in
        let old : get_or ys (a + x * n + y) (blank k) ≡ get_or xs (a + x * n + y) (blank k) = ap (λ z. get_or z (a + x * n + y) (blank k)) ys_is ∙ get_or_over_past new a xs (x * n) (a + x * n + y) (blank k) (omega arith) (omega arith) in
        let at_row : (x * n + y) / n ≡ x = div-mul-add x n y l in
        let at_column : (x * n + y) % n ≡ y = mod-mul-add x n y l in
        cc in
        zs_is ∙ over_join new (λ y. raised k t (row y) (get_or ys (a + x * n + y) (blank k))) a (a + x * n) (x * n) n xs ys ys_is refl (omega arith) each ∙ ap (λ p. over new a p xs) (sym (row_end x n))

  -- what lies past the part that was written is as it was
  pub past_same : (f : ℕ → Cell) (a m b : ℕ) (xs ys : List Cell) → ys ≡ over f a m xs → a + m ≤ b → a ≤ length xs → ◌≡◌ {A = ℕ → Entry} (λ j. at k ys (b + j)) (λ j. at k xs (b + j))
  past_same f a m b xs ys h l r = fun_ext (λ j. ap (λ z. at k z (b + j)) h ∙ ap k.read (get_or_over_past f a xs m (b + j) (blank k) (omega arith) r))
