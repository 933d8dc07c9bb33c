-- The numbers of a kind, and what its entries hold of them.
use Rattle.std.specs.Prelude.{◌≡◌, ℤ, pos, ◌+ℤ◌, ◌≤ℤ◌, Bool, true, false, ◌||◌, cond, IsTrue, nat_le, int_lt, unsigned_abs, Option, Some, None}
use Rattle.std.specs.Int.{int_min}
use Rattle.std.specs.Ordering.{int_eq}
use Rattle.std.proofs.Common.{arith}
use Rattle.std.proofs.lemmas.Int.{ints}
use Rattle.semiring.specs.Algebra.{Semiring}
use Rattle.kinds.specs.Amount.{Amount, none, of, amounts}

-- a sort of number, by the whole number that each is, the smaller of two, and their sum
pub record Numbers (Number : Type 0) : Type 0 where
  pub whole : Number → ℤ
  pub min : Number → Number → Number
  pub add : Number → Number → Number

-- whether the magnitude of a whole number is at most that of a limit
abbrev pub up_to : ℤ → ℤ → Bool
up_to limit n = nat_le (unsigned_abs n) (unsigned_abs limit)

module _ {Number : Type 0} (n : Numbers Number) where
  -- no two are one whole number, and on them zero, the smaller and the sum are those of whole numbers
  pub record NumberLaws (zero : Number) : Type 0 where
    pub injective : (a b : Number) → n.whole a ≡ n.whole b → a ≡ b
    pub zero_whole : n.whole zero ≡ pos 0
    pub min_whole : (a b : Number) → n.whole (n.min a b) ≡ int_min (n.whole a) (n.whole b)
    pub add_whole : (a b : Number) → n.whole (n.add a b) ≡ n.whole a +ℤ n.whole b

  -- the limit is not below zero, and the number that stands for none is the next after it
  pub record LimitLaws (limit after_limit : Number) : Type 0 where
    pub limit_up : pos 0 ≤ℤ n.whole limit
    pub after_limit_whole : n.whole after_limit ≡ n.whole limit +ℤ pos 1

  -- none or any number: the sum is the smaller, the product adds
  abbrev pub values : Number → Semiring
  values zero = amounts n.min n.add zero

  -- none, or a number of a magnitude up to the edge limit
  abbrev pub edge_amount : Number → Amount Number → Bool
  edge_amount edge_limit none = true
  edge_amount edge_limit (of m) = up_to (n.whole edge_limit) (n.whole m)

module _ {Number : Type 0} (n : Numbers Number) (limit : Number) where
  -- whether the magnitude of a number is at most the limit
  abbrev pub in_limit : Number → Bool
  in_limit m = up_to (n.whole limit) (n.whole m)

  -- the sum of two numbers, or nothing, which is allowed past the limit
  abbrev pub IsSum : Number → Number → Option Number → Type 0
  IsSum a b None = in_limit (n.add a b) ≡ false
  IsSum a b (Some s) = s ≡ n.add a b

  -- what the number of an entry stands for: past the limit it is none
  abbrev pub amount : Number → Amount Number
  amount m = cond (int_lt (n.whole limit) (n.whole m)) none (of m)

module _ {Number : Type 0} (n : Numbers Number) (limit after_limit : Number) where
  -- whether an entry may have this number: up to the limit on either side, or the one that stands for none
  abbrev pub bounded : Number → Bool
  bounded m = in_limit n limit m || int_eq (n.whole m) (n.whole after_limit)

  -- the number of an entry: past the limit on either side the one that stands for none
  abbrev pub capped : Number → Number
  capped m = cond (in_limit n limit m) m after_limit

  -- it is one that an entry may have
  pub capped_bounded : (m : Number) → IsTrue (bounded (capped m))
  capped_bounded m = grind (arith, ints)
