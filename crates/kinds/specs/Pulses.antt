-- Numbers of pulses: natural numbers.
use Rattle.std.specs.Prelude.{◌≡◌, ℕ, ◌+◌, min, pos, ◌≤ℤ◌}
use Rattle.std.specs.Ordering.{nat_cmp, int_cmp}
use Rattle.std.proofs.Common.{arith}
use Rattle.std.proofs.lemmas.Bool.Decides.{nat_tests}
use Rattle.std.proofs.lemmas.Int.{ints, clamps}
use Rattle.kinds.specs.Limits.{pulses_limit, pulses_none}
use Rattle.kinds.specs.Numbers.{Numbers, NumberLaws, LimitLaws}

abbrev pub naturals : Numbers ℕ
naturals = record { whole = pos; min = min; add = ◌+◌ }

pub laws : NumberLaws naturals 0
laws =
    record {
      injective = λ a b e. cc;
      zero_whole = grind arith;
      min_whole = λ a b. grind (arith, ints, clamps);
      add_whole = λ a b. grind (arith, ints);
    }

pub limits : LimitLaws naturals pulses_limit pulses_none
limits =
    record {
      limit_up = grind (arith, ints);
      after_limit_whole = grind (arith, ints);
    }

-- they are in the order of whole numbers
pub order : (a b : ℕ) → nat_cmp a b ≡ int_cmp (pos a) (pos b)
order a b = grind (arith, nat_tests, ints)

-- none is below zero
pub up : (n : ℕ) → pos 0 ≤ℤ pos n
up n = grind (arith, ints)
