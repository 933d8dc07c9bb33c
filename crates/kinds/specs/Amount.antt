-- None, or a number of some sort: the values of kinds whose sum is the smaller and whose product adds.
use Rattle.std.specs.Prelude.{ℕ, List, Some, None, codes, Option}
use Rattle.semiring.specs.Algebra.{Semiring}

pub data Amount (Number : Type 0) : Type 0 where
  none : Amount Number
  of : Number → Amount Number

module _ {Number : Type 0} where
  -- the smaller of two amounts, where none is more than any number
  abbrev pub less : (Number → Number → Number) → Amount Number → Amount Number → Amount Number
  less min none b = b
  less min (of m) none = of m
  less min (of m) (of n) = of (min m n)

  -- two amounts added, none if either is none
  abbrev pub added : (Number → Number → Number) → Amount Number → Amount Number → Amount Number
  added add none b = none
  added add (of m) none = none
  added add (of m) (of n) = of (add m n)

  -- the number of an amount that is not none
  abbrev pub known : Amount Number → Option Number
  known none = None
  known (of n) = Some n

  -- how an amount is printed, its number by `digits`
  abbrev pub text : (Number → List ℕ) → Amount Number → List ℕ
  text digits none = codes "-"
  text digits (of n) = digits n

-- by the smaller of two numbers, their sum, and zero
abbrev pub amounts : {Number : Type 0} → (Number → Number → Number) → (Number → Number → Number) → Number → Semiring
amounts {Number} min add zero = record { Value = Amount Number; none = none; unit = of zero; plus = less min; times = added add }
