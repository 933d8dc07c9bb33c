-- What a star absorbs, and which values have one.
use Rattle.std.proofs.Common.{ℕ, zero, suc}
use Rattle.semiring.specs.Algebra.{Semiring, Dioid, AtMost, IsStar, power, within}
use Rattle.semiring.proofs.Order.{le_refl, le_trans, times_right, times_monotone, within_monotone}

module _ {s : Semiring} (d : Dioid s) where
  infixl 60 ◌+◌
  infixl 70 ◌·◌
  infix 50 ◌≤◌
  open s use {Value, unit, plus as ◌+◌, times as ◌·◌}
  open d use {times_assoc, unit_times, times_unit}

  abbrev ◌≤◌ : Value → Value → Type 0
  a ≤ b = AtMost s a b

  -- v holds every power of what it holds
  pub record Absorbs (v : Value) : Type 0 where
    pub one : unit ≤ v
    pub square : v · v ≤ v

  pub power_le : {a v : Value} → Absorbs v → a ≤ v → (m : ℕ) → power s a m ≤ v
  power_le h p zero = h.one
  power_le h p (suc m) = le_trans d (times_monotone d p (power_le h p m)) h.square

  pub absorbs_own_star : {v : Value} → Absorbs v → IsStar s v v
  absorbs_own_star {v} h =
      record {
        above = λ b c m. within_monotone d (power_le h (le_refl d) m);
        least = λ b c u below. rw times_unit at (below 1);
      }

  unit_absorbs : Absorbs unit
  unit_absorbs = record { one = le_refl d; square = rw unit_times (le_refl d) }

  pub power_at_most_unit : (a : Value) → a ≤ unit → (m : ℕ) → power s a m ≤ unit
  power_at_most_unit a h m = power_le unit_absorbs h m

  -- a value at most unit has unit as its star
  pub unit_is_star : (a : Value) → a ≤ unit → IsStar s a unit
  unit_is_star a h =
      record {
        above = λ b c m. within_monotone d (power_at_most_unit a h m);
        least = λ b c u below. below 0;
      }

  pub star_power : {a q : Value} → IsStar s a q → (m : ℕ) → power s a m ≤ q
  star_power {a} {q} i m = simp (unit_times, times_unit) at (i.above unit unit m)

  pub star_one : {a q : Value} → IsStar s a q → unit ≤ q
  star_one i = star_power i 0

  pub star_left : {a q : Value} → IsStar s a q → a · q ≤ q
  star_left {a} {q} i = rw times_unit at (i.least a unit q (λ m. rw times_unit (star_power i (suc m))))

  pub star_absorbs : {a q : Value} → IsStar s a q → Absorbs q
  star_absorbs {a} {q} i =
      record {
        one = star_one i;
        square = rw (unit_times, within) at (i.least unit q q (λ m. rw (unit_times, within) (more m)));
      }
    where
      more : (m : ℕ) → power s a m · q ≤ q
      more zero = rw unit_times (le_refl d)
      more (suc m) = rw times_assoc (le_trans d (times_right d (more m)) (star_left i))
