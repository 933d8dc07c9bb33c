-- The operations on entries are those on amounts, refused exactly past the limit and below zero.
use Rattle.std.specs.Prelude.{◌≡◌, true, false, ◌≢◌, pos, ◌≤ℤ◌, Ok, Err, IsTrue, cond, int_lt, refl}
use Rattle.std.specs.Ordering.{int_cmp, is_lt, ord_min}
use Rattle.std.specs.declared.cmp.Ord as ord
use Rattle.std.specs.declared.cmp.PartialEq as eq
use Rattle.std.specs.declared.cmp.PartialOrd as partial
use mathlib.Core.HLevel.{is_prop→PathP}
use Rattle.std.proofs.Common.{arith, sym, ap, ◌∙◌}
use Rattle.std.proofs.Props.{props}
use Rattle.std.proofs.lemmas.Int.{ints, clamps, by_lt_z}
use Rattle.std.proofs.lemmas.Bool.{cond_both}
use Rattle.semiring.specs.Algebra.{AtMost, IsStar}
use Rattle.semiring.specs.Entries.{Exact, ExactProduct, ExactStar}
use Rattle.kinds.specs.Amount.{Amount, none, of, less, added}
use Rattle.kinds.specs.Numbers.{Numbers, NumberLaws, LimitLaws, values, in_limit, bounded}
use Rattle.kinds.specs.Entries.{value, made, held, starred, entries}
use Rattle.kinds.specs.AmountLaws.{up_at_most_unit, star_is_unit, no_star}
use Rattle.kinds.specs.declared.amount.Amount.{Amount as Entry}
use Rattle.kinds.specs.declared.number.Number as number

-- the smaller of two numbers, where it is known which that is
module _ {Number : Type 0} {n : Numbers Number} {nought : Number} (laws : NumberLaws n nought) (a b : Number) where
  min_first : n.whole a ≤ℤ n.whole b → n.min a b ≡ a
  min_first le = laws.injective (n.min a b) a (grind (arith, ints, clamps, laws.min_whole a b))

  min_second : n.whole b ≤ℤ n.whole a → n.min a b ≡ b
  min_second le = laws.injective (n.min a b) b (grind (arith, ints, clamps, laws.min_whole a b))

module _ {N : Type 0} {n : number.Ghosts N} {o : ord.Ghosts N} {e : eq.Ghosts N} {p : partial.Ghosts N} where
  -- two entries of one number are one entry
  pub entry_path : (a b : Entry N n o e p) → a.number ≡ b.number → a ≡ b
  entry_path a b same =
      λ i. record { number = same i; bound = is_prop→PathP (λ (j : 𝕀). IsTrue (bounded n.numbers n.LIMIT n.NONE (same j))) (λ j. hlevel props) a.bound b.bound i }

module _ {N : Type 0} (n : number.Ghosts N) (o : ord.Ghosts N) (e : eq.Ghosts N) (p : partial.Ghosts N) (laws : NumberLaws n.numbers n.ZERO) (limits : LimitLaws n.numbers n.LIMIT n.NONE) where
  abbrev TheEntry : Type 0
  TheEntry = Entry N n o e p

  -- what an entry stands for
  abbrev meaning : TheEntry → Amount N
  meaning = value

  -- the entry of a number
  abbrev of_number : N → TheEntry
  of_number = made

  out_of_range_not_held : (m : N) → in_limit n.numbers n.LIMIT m ≡ false → (a : TheEntry) → meaning a ≢ of m
  out_of_range_not_held m out a is = grind (arith, ints, limits.after_limit_whole, limits.limit_up)

  in_range_held : (m : N) → in_limit n.numbers n.LIMIT m ≡ true → meaning (of_number m) ≡ of m
  in_range_held m is = grind (arith, ints, limits.after_limit_whole, limits.limit_up)

  none_held : meaning (of_number n.NONE) ≡ none
  none_held = grind (arith, ints, limits.after_limit_whole, limits.limit_up)

  zero_held : meaning (of_number n.ZERO) ≡ of n.ZERO
  zero_held = in_range_held n.ZERO (grind (arith, ints, laws.zero_whole, limits.limit_up))

  held_exact : (u : Amount N) → ExactProduct (values n.numbers n.ZERO) meaning u (held u)
  held_exact none = none_held
  held_exact (of m) =
      cond_both (in_limit n.numbers n.LIMIT m) (Ok (made m)) (Err n.KIND) (ExactProduct (values n.numbers n.ZERO) meaning (of m))
      (in_range_held m)
      (out_of_range_not_held m)

  zero_is_star : (u : Amount N) → AtMost (values n.numbers n.ZERO) u (of n.ZERO) → IsStar (values n.numbers n.ZERO) u (meaning (of_number n.ZERO))
  zero_is_star u below = rw zero_held (star_is_unit laws u below)

  star_exact : (u : Amount N) → ExactStar (values n.numbers n.ZERO) meaning u (starred u)
  star_exact none = zero_is_star none refl
  star_exact (of m) =
      cond_both (int_lt (n.numbers.whole m) (pos 0)) (Err n.KIND) (Ok (made n.ZERO)) (ExactStar (values n.numbers n.ZERO) meaning (of m))
      (λ t. no_star laws m (omega (arith, ints, t)))
      (λ t. zero_is_star (of m) (up_at_most_unit laws m (omega (arith, ints, t))))

  remade : (a : TheEntry) → made a.number ≡ a
  remade a =
      entry_path (made a.number) a (laws.injective (of_number a.number).number a.number (grind (arith, ints, limits.after_limit_whole, limits.limit_up)))

  -- the smaller of two entries, in the order of their numbers
  pub min_made : ((a b : N) → o.cmp a b ≡ int_cmp (n.numbers.whole a) (n.numbers.whole b)) → (a b : TheEntry) → ord_min (λ x y. o.cmp x.number y.number) a b ≡ made (n.numbers.min a.number b.number)
  min_made order a b =
      rw (order b.number a.number)
      (by_lt_z (n.numbers.whole b.number) (n.numbers.whole a.number)
      (λ below.
      let picked : cond (is_lt (int_cmp (n.numbers.whole b.number) (n.numbers.whole a.number))) b a ≡ b = grind (arith, ints) in
      picked ∙ sym (ap made (min_second laws a.number b.number (omega (arith, ints, below))) ∙ remade b))
      (λ up.
      let picked : cond (is_lt (int_cmp (n.numbers.whole b.number) (n.numbers.whole a.number))) b a ≡ a = grind (arith, ints) in
      picked ∙ sym (ap made (min_first laws a.number b.number up) ∙ remade a)))

  sum_first : (a b : TheEntry) → n.numbers.whole a.number ≤ℤ n.numbers.whole b.number → meaning (of_number (n.numbers.min a.number b.number)) ≡ less n.numbers.min (meaning a) (meaning b)
  sum_first a b le = let first = min_first laws a.number b.number le in rw first (ap meaning (remade a) ∙ grind (arith, ints, first))

  sum_second : (a b : TheEntry) → n.numbers.whole b.number ≤ℤ n.numbers.whole a.number → meaning (of_number (n.numbers.min a.number b.number)) ≡ less n.numbers.min (meaning a) (meaning b)
  sum_second a b le = let second = min_second laws a.number b.number le in rw second (ap meaning (remade b) ∙ grind (arith, ints, second))

  pub exact : Exact (entries {n = n} {o = o} {e = e} {p = p})
  exact =
      record {
        injective = λ a b same. entry_path a b (laws.injective a.number b.number (grind (arith, ints, limits.after_limit_whole, limits.limit_up)));
        none_value = none_held;
        unit_value = zero_held;
        sum_value = λ a b. by_lt_z (n.numbers.whole b.number) (n.numbers.whole a.number) (λ below. sum_second a b (omega (arith, ints, below))) (sum_first a b);
        product_value = λ a b. held_exact (added n.numbers.add (value a) (value b));
        star_value = λ a. star_exact (value a);
        same_value = λ a b. ((λ t. entry_path a b (laws.injective a.number b.number (grind (arith, ints)))), (λ same. grind (arith, ints)));
        edge_none = grind (arith, ints, limits.after_limit_whole, limits.limit_up);
        edge_unit = grind (arith, ints, laws.zero_whole, limits.limit_up);
        edge_sum = λ a b p q. grind (arith, ints, clamps, limits.after_limit_whole, limits.limit_up, laws.min_whole a.number b.number);
        read_write = remade;
      }
