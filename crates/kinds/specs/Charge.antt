-- Charges: whole numbers of either sign.
use Rattle.std.specs.Prelude.{ℤ, pos, ◌+ℤ◌, refl}
use Rattle.std.specs.Int.{int_min}
use Rattle.std.proofs.Common.{arith}
use Rattle.std.proofs.lemmas.Int.{ints}
use Rattle.kinds.specs.Limits.{charge_limit, charge_none}
use Rattle.kinds.specs.Numbers.{Numbers, NumberLaws, LimitLaws}

abbrev pub integers : Numbers ℤ
integers = record { whole = λ n. n; min = int_min; add = ◌+ℤ◌ }

pub laws : NumberLaws integers (pos 0)
laws =
    record {
      injective = λ a b e. e;
      zero_whole = refl;
      min_whole = λ a b. refl;
      add_whole = λ a b. refl;
    }

pub limits : LimitLaws integers charge_limit charge_none
limits =
    record {
      limit_up = grind (arith, ints);
      after_limit_whole = refl;
    }
