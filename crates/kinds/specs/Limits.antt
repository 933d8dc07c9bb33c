-- The limits of the kinds, each named once.
use Rattle.std.specs.Prelude.{ℕ, ◌+◌, ℤ, pos, ◌+ℤ◌}

-- the largest number of pulses that an entry holds
abbrev pub pulses_limit : ℕ
pulses_limit = 1000000000

-- the largest number of pulses that an edge may have
abbrev pub pulses_edge_limit : ℕ
pulses_edge_limit = 1000000

-- the number that stands for none
abbrev pub pulses_none : ℕ
pulses_none = pulses_limit + 1

-- the largest magnitude of a charge that an entry holds
abbrev pub charge_limit : ℤ
charge_limit = pos 1000000000

-- the largest magnitude of a charge that an edge may have
abbrev pub charge_edge_limit : ℤ
charge_edge_limit = pos 1000000

-- the number that stands for none
abbrev pub charge_none : ℤ
charge_none = charge_limit +ℤ pos 1
