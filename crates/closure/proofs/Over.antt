-- What `over` writes, and what `Kept` leaves.
use Rattle.std.proofs.Common.{◌≡◌, ℕ, ◌+◌, ◌-◌, ◌<◌, ◌≤◌, List, ◌++◌, map, length, get_or, take, drop, sym, ap, ◌∙◌, zero-add, arith}
use borrow.Rule.Slice.PartMut.{put_mid}
use Rattle.std.specs.List.{range_with_len}
use Rattle.std.proofs.lemmas.List.{append_assoc, length-take-le, length-append, length-drop, length-take, take_at, drop_at, drop-drop, take-take, get_or_append_left, get_or-append_right, get_or-take, get_or-drop}
use Rattle.std.proofs.lemmas.List.FromFn.{length-map-range_with_len, get_or-map-range_with_len}
use Rattle.closure.specs.Cells.{over}

-- ys differs from xs in the m places from a on alone
abbrev pub Kept : {A : Type 0} → ℕ → ℕ → List A → List A → Type 0
Kept a m xs ys = (take a ys ≡ take a xs) × (drop (a + m) ys ≡ drop (a + m) xs)

module _ {A : Type 0} (f : ℕ → A) (a : ℕ) (xs : List A) where
  pub front_length : (m : ℕ) → a ≤ length xs → length (take a xs ++ map f (range_with_len 0 m)) ≡ a + m
  front_length m h = simp (length-append, length-map-range_with_len, length-take) (omega arith)

  pub length_over : (m : ℕ) → a + m ≤ length xs → length (over f a m xs) ≡ length xs
  unfolding over
  length_over m h = simp (length-append, length-map-range_with_len, length-take, length-drop) (omega arith)

  pub get_or_over_below : (m p : ℕ) (d : A) → p < a → a ≤ length xs → get_or (over f a m xs) p d ≡ get_or xs p d
  unfolding over
  get_or_over_below m p d h l =
      get_or_append_left (take a xs) (map f (range_with_len 0 m) ++ drop (a + m) xs) d p (simp length-take (omega arith)) ∙ get_or-take a xs p d h

  pub get_or_over_in : (m p q : ℕ) (d : A) → p < m → a ≤ length xs → a + p ≡ q → get_or (over f a m xs) q d ≡ f p
  unfolding over
  get_or_over_in m p q d h l e =
      get_or-append_right (take a xs) (map f (range_with_len 0 m) ++ drop (a + m) xs) a q d (length-take-le a xs l) (omega arith)
      ∙ get_or_append_left (map f (range_with_len 0 m)) (drop (a + m) xs) d (q - a) (simp length-map-range_with_len (omega arith))
      ∙ get_or-map-range_with_len f 0 m (q - a) p d (omega arith) (omega arith)

  pub get_or_over_past : (m p : ℕ) (d : A) → a + m ≤ p → a ≤ length xs → get_or (over f a m xs) p d ≡ get_or xs p d
  unfolding over
  get_or_over_past m p d h l =
      get_or-append_right (take a xs) (map f (range_with_len 0 m) ++ drop (a + m) xs) a p d (length-take-le a xs l) (omega arith)
      ∙ get_or-append_right (map f (range_with_len 0 m)) (drop (a + m) xs) m (p - a) d (length-map-range_with_len f 0 m) (omega arith)
      ∙ get_or-drop (a + m) xs (p - a - m) d
      ∙ ap (λ n. get_or xs n d) (let e : a + m + (p - a - m) ≡ p = omega arith in e)

  pub over_kept : (m : ℕ) → a + m ≤ length xs → Kept a m xs (over f a m xs)
  unfolding over
  over_kept m h = (
    take_at (take a xs) (map f (range_with_len 0 m) ++ drop (a + m) xs) a (length-take-le a xs (omega arith)),
    ap (drop (a + m)) (sym (append_assoc (take a xs) (map f (range_with_len 0 m)) (drop (a + m) xs))) ∙ drop_at (take a xs ++ map f (range_with_len 0 m)) (drop (a + m) xs) (a + m) (front_length m (omega arith)),
  )

  -- a part that is written by itself, and put back
  pub put_back : (m l : ℕ) (ys : List A) → l ≡ m → ys ≡ map f (range_with_len 0 m) → put_mid a l xs ys ≡ over f a m xs
  unfolding over
  put_back m l ys e h = ap (λ z. put_mid a l xs z) h ∙ ap (λ p. put_mid a p xs (map f (range_with_len 0 m))) e ∙ ap (λ z. take a xs ++ (map f (range_with_len 0 m) ++ z)) (drop-drop m a xs)

module _ {A : Type 0} where
  -- the front, written by itself
  pub put_front : (f : ℕ → A) (m : ℕ) (xs ys : List A) → ys ≡ map f (range_with_len 0 m) → ys ++ drop m xs ≡ over f 0 m xs
  unfolding over
  put_front f m xs ys h = ap (λ z. z ++ drop m xs) h ∙ ap (λ p. map f (range_with_len 0 m) ++ drop p xs) (sym (zero-add m))

  -- a part that is written, and then the part behind it
  pub over_two : (f g : ℕ → A) (a m n : ℕ) (xs : List A) → a + m ≤ length xs
      → over g (a + m) n (over f a m xs) ≡ take a xs ++ (map f (range_with_len 0 m) ++ (map g (range_with_len 0 n) ++ drop (a + m + n) xs))
  unfolding over
  over_two f g a m n xs room =
      let front = take a xs ++ map f (range_with_len 0 m) in
      let long : length front ≡ a + m = front_length f a xs m (omega arith) in
      let whole : take a xs ++ (map f (range_with_len 0 m) ++ drop (a + m) xs) ≡ front ++ drop (a + m) xs = sym (append_assoc (take a xs) (map f (range_with_len 0 m)) (drop (a + m) xs)) in
      let kept : drop (a + m + n) (front ++ drop (a + m) xs) ≡ drop (a + m + n) xs =
      sym (drop-drop n (a + m) (front ++ drop (a + m) xs)) ∙ ap (drop n) (drop_at front (drop (a + m) xs) (a + m) long) ∙ drop-drop n (a + m) xs in
      ap (λ z. take (a + m) z ++ (map g (range_with_len 0 n) ++ drop (a + m + n) z)) whole
      ∙ ap (λ z. z ++ (map g (range_with_len 0 n) ++ drop (a + m + n) (front ++ drop (a + m) xs))) (take_at front (drop (a + m) xs) (a + m) long)
      ∙ ap (λ z. front ++ (map g (range_with_len 0 n) ++ z)) kept
      ∙ append_assoc (take a xs) (map f (range_with_len 0 m)) (map g (range_with_len 0 n) ++ drop (a + m + n) xs)

  -- a change within a part is a change within a larger one
  pub kept_within : (a m b n : ℕ) (xs ys : List A) → a ≤ b → b + n ≤ a + m → Kept b n xs ys → Kept a m xs ys
  kept_within a m b n xs ys h l k =
      let e : b + n + (a + m - (b + n)) ≡ a + m = omega arith in
      let cut : (zs : List A) → drop (a + m) zs ≡ drop (a + m - (b + n)) (drop (b + n) zs) = λ zs. ap (λ p. drop p zs) (sym e) ∙ sym (drop-drop (a + m - (b + n)) (b + n) zs) in (
        sym (take-take a b ys h) ∙ ap (take a) k.0 ∙ take-take a b xs h,
        cut ys ∙ ap (drop (a + m - (b + n))) k.1 ∙ sym (cut xs),
      )

  -- what lies behind the part that is written
  pub drop_over : (f : ℕ → A) (a m b : ℕ) (xs : List A) → a + m ≤ b → a + m ≤ length xs → drop b (over f a m xs) ≡ drop b xs
  drop_over f a m b xs h l =
      ap (λ q. drop q (over f a m xs)) (sym (zero-add b)) ∙ (kept_within 0 b a m xs (over f a m xs) (omega arith) (omega arith) (over_kept f a xs m l)).1 ∙ ap (λ q. drop q xs) (zero-add b)
