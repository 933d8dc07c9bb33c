-- Amounts keep every law. On whole numbers `grind` goes through the cases none and number, and leaves arithmetic; other numbers have the laws from the whole numbers that they are.
use Rattle.std.specs.Prelude.{◌≡◌, ℕ, zero, suc, ℤ, pos, ◌+ℤ◌, neg_ℤ, ◌≤ℤ◌, ◌<ℤ◌, unsigned_abs, refl, ◌⊎◌}
use Rattle.std.specs.Int.{int_min}
use Rattle.std.proofs.Common.{arith, ap, inl, inr, ⊎_elim}
use Rattle.std.proofs.Math.IntN.{+ℤ_assoc}
use Rattle.std.proofs.lemmas.Int.{ints, clamps, by_lt_z}
use Rattle.semiring.specs.Algebra.{Semiring, Dioid, Laws, SelectiveLaws, DijkstraLaws, AtMost, Below, IsStar, HasStar, power}
use Rattle.semiring.proofs.Order.{le_trans}
use Rattle.semiring.proofs.Star.{unit_is_star, star_power}
use Rattle.kinds.specs.Amount.{Amount, none, of, less, added, amounts}
use Rattle.kinds.specs.Numbers.{Numbers, NumberLaws, values}

-- amounts of whole numbers
abbrev integer_amounts : Semiring
integer_amounts = amounts int_min ◌+ℤ◌ (pos 0)

integer_dioid : Dioid integer_amounts
integer_dioid =
    record {
      plus_assoc = λ a b c. grind (arith, ints, clamps);
      plus_comm = λ a b. grind (arith, ints, clamps);
      plus_idem = λ a. grind (arith, ints, clamps);
      plus_none = λ a. grind arith;
      times_assoc = λ a b c. grind (arith, +ℤ_assoc);
      unit_times = λ a. grind (arith, ints);
      times_unit = λ a. grind (arith, ints);
      none_times = λ a. refl;
      times_none = λ a. grind arith;
      times_plus = λ a b c. grind (arith, ints, clamps);
      plus_times = λ a b c. grind (arith, ints, clamps);
      distinct = λ e. grind arith;
    }

integer_picks : (a b : Amount ℤ) → AtMost integer_amounts b a ⊎ Below integer_amounts a b
integer_picks a b = grind (arith, ints, clamps)

integer_times_comm : (a b : Amount ℤ) → added ◌+ℤ◌ a b ≡ added ◌+ℤ◌ b a
integer_times_comm a b = grind (arith, ints)

-- below zero each further power is smaller by one at least, so nothing bounds them all
one_lower : (n : ℤ) → n <ℤ pos 0 → (m : ℕ) (p : Amount ℤ) → AtMost integer_amounts (of (neg_ℤ (pos m))) p → AtMost integer_amounts (of (neg_ℤ (pos (suc m)))) (added ◌+ℤ◌ (of n) p)
one_lower n below m p lower = grind (arith, ints, clamps)

powers_fall : (n : ℤ) → n <ℤ pos 0 → (m : ℕ) → AtMost integer_amounts (of (neg_ℤ (pos m))) (power integer_amounts (of n) m)
powers_fall n below zero = refl
powers_fall n below (suc m) = one_lower n below m (power integer_amounts (of n) m) (powers_fall n below m)

unbounded : (v : Amount ℤ) → ((m : ℕ) → AtMost integer_amounts (of (neg_ℤ (pos m))) v) → ⊥
unbounded none over = let e = over 0 in grind arith
unbounded (of n) over = let e = over (suc (unsigned_abs n)) in grind (arith, ints, clamps)

-- an amount of f of the number
abbrev mapped : {Number : Type 0} → (Number → ℤ) → Amount Number → Amount ℤ
mapped f none = none
mapped f (of m) = of (f m)

module _ {Number : Type 0} {n : Numbers Number} {nought : Number} (numbers : NumberLaws n nought) where
  abbrev whole : Amount Number → Amount ℤ
  whole = mapped n.whole

  whole_injective : (a b : Amount Number) → whole a ≡ whole b → a ≡ b
  whole_injective none none e = refl
  whole_injective none (of b) e = cc
  whole_injective (of a) none e = cc
  whole_injective (of a) (of b) e = ap of (numbers.injective a b cc)

  whole_less : (a b : Amount Number) → whole (less n.min a b) ≡ less int_min (whole a) (whole b)
  whole_less none b = refl
  whole_less (of a) none = refl
  whole_less (of a) (of b) = ap of (numbers.min_whole a b)

  whole_added : (a b : Amount Number) → whole (added n.add a b) ≡ added ◌+ℤ◌ (whole a) (whole b)
  whole_added none b = refl
  whole_added (of a) none = refl
  whole_added (of a) (of b) = ap of (numbers.add_whole a b)

  whole_unit : whole (of nought) ≡ of (pos 0)
  whole_unit = ap of numbers.zero_whole

  dioid : Dioid (values n nought)
  dioid =
      record {
        plus_assoc = λ a b c. whole_injective _ _ (simp whole_less (integer_dioid.plus_assoc (whole a) (whole b) (whole c)));
        plus_comm = λ a b. whole_injective _ _ (simp whole_less (integer_dioid.plus_comm (whole a) (whole b)));
        plus_idem = λ a. whole_injective _ _ (simp whole_less (integer_dioid.plus_idem (whole a)));
        plus_none = λ a. whole_injective _ _ (simp whole_less (integer_dioid.plus_none (whole a)));
        times_assoc = λ a b c. whole_injective _ _ (simp whole_added (integer_dioid.times_assoc (whole a) (whole b) (whole c)));
        unit_times = λ a. whole_injective _ _ (simp (whole_added, whole_unit) (integer_dioid.unit_times (whole a)));
        times_unit = λ a. whole_injective _ _ (simp (whole_added, whole_unit) (integer_dioid.times_unit (whole a)));
        none_times = λ a. refl;
        times_none = λ a. whole_injective _ _ (simp whole_added (integer_dioid.times_none (whole a)));
        times_plus = λ a b c. whole_injective _ _ (simp (whole_added, whole_less) (integer_dioid.times_plus (whole a) (whole b) (whole c)));
        plus_times = λ a b c. whole_injective _ _ (simp (whole_added, whole_less) (integer_dioid.plus_times (whole a) (whole b) (whole c)));
        distinct = λ e. cc;
      }

  at_most_whole : (a b : Amount Number) → AtMost (values n nought) a b → AtMost integer_amounts (whole a) (whole b)
  at_most_whole a b below = rw whole_less at (ap whole below)

  whole_at_most : (a b : Amount Number) → AtMost integer_amounts (whole a) (whole b) → AtMost (values n nought) a b
  whole_at_most a b below = whole_injective _ _ (rw whole_less below)

  whole_power : (a : Amount Number) (m : ℕ) → whole (power (values n nought) a m) ≡ power integer_amounts (whole a) m
  whole_power a zero = whole_unit
  whole_power a (suc m) = simp (whole_added, whole_power a m)

  -- from nought up, unit is at least a number, so it is the star
  pub up_at_most_unit : (m : Number) → pos 0 ≤ℤ n.whole m → AtMost (values n nought) (of m) (of nought)
  up_at_most_unit m up = whole_at_most (of m) (of nought) (rw whole_unit (grind (arith, ints, clamps)))

  pub star_is_unit : (a : Amount Number) → AtMost (values n nought) a (of nought) → IsStar (values n nought) a (of nought)
  star_is_unit = unit_is_star dioid

  pub no_star : (m : Number) → n.whole m <ℤ pos 0 → HasStar (values n nought) (of m) → ⊥
  no_star m below (v, is) =
      unbounded (whole v) (λ k. le_trans integer_dioid {a = of (neg_ℤ (pos k))} (powers_fall (n.whole m) below k) (rw whole_power at (at_most_whole (power (values n nought) (of m) k) v (star_power dioid is k))))

  star_at_most_unit : (a : Amount Number) → HasStar (values n nought) a → AtMost (values n nought) a (of nought)
  star_at_most_unit none has = refl
  star_at_most_unit (of m) has = by_lt_z (n.whole m) (pos 0) (λ below. absurd (no_star m below has)) (up_at_most_unit m)

  pub laws : Laws (values n nought)
  laws =
      record {
        dioid = dioid;
        star_below = λ a b below has. (of nought, star_is_unit a (le_trans dioid below (star_at_most_unit b has)));
      }

  pub selective : SelectiveLaws (values n nought)
  selective =
      record {
        picks =
            λ a b.
            ⊎_elim (λ p. inl (whole_at_most b a p)) (λ p. inr (whole_at_most a b p.0, λ e. p.1 (ap whole e))) (integer_picks (whole a) (whole b));
        times_comm = λ a b. whole_injective _ _ (simp whole_added (integer_times_comm (whole a) (whole b)));
        star_at_most_unit = star_at_most_unit;
        at_most_unit_star = λ a below. (of nought, star_is_unit a below);
      }

  -- with no number below nought none is better than unit
  pub dijkstra : ((m : Number) → pos 0 ≤ℤ n.whole m) → DijkstraLaws (values n nought)
  dijkstra up = record { unit_greatest = unit_greatest }
    where
      unit_greatest : (a : Amount Number) → AtMost (values n nought) a (of nought)
      unit_greatest none = refl
      unit_greatest (of m) = up_at_most_unit m (up m)
