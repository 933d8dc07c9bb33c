-- The kinds, each by its number.
use Rattle.std.specs.Prelude.{ℕ}
use Rattle.kinds.specs.declared.kind.Kind.{Kind}
use Rattle.kinds.specs.declared.kind.Kind.TheVariants.{Pulses, Charge}

abbrev pub kind_number : Kind → ℕ
kind_number Pulses = 1
kind_number Charge = 2
