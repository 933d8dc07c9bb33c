-- What each fault of a network says, and the checks that every call puts first.
use Rattle.std.specs.Prelude.{ℕ, ◌+◌, ◌*◌, Bool, cond, ◌&&◌, Some, None, Option, Result, nat_le, nat_lt}
use Rattle.closure.specs.Limits.{max_nodes}
use Rattle.closure.specs.Refusals.{Refusal, failed_check, network, plain, described as table_described}
use Rattle.closure.specs.Outcomes.{either, map_err}
use Rattle.network.specs.declared.fault.NetworkFault.{NetworkFault}
use Rattle.network.specs.declared.fault.NetworkFault.TheVariants.{Check, Table}

abbrev pub described : {F : Type 0} → NetworkFault F → Refusal F
described (Check c) = failed_check network c
described (Table t) = table_described t

-- what a call answers, its fault by what it says
abbrev pub answer : {A F : Type 0} → Result A (NetworkFault F) → Result A (Refusal F)
answer r = map_err described r

-- n² edges, n² closure entries, 2n cells of scratch
abbrev pub needed : ℕ → ℕ
needed n = n * n + n * n + (n + n)

abbrev pub refused_unless : {F : Type 0} → Bool → Refusal F → Option (Refusal F)
refused_unless passes w = cond passes None (Some w)

-- check 1, the node count, and check 2, the slice's length
abbrev pub size_refusal : {F : Type 0} → ℕ → ℕ → Option (Refusal F)
size_refusal n long =
    either (refused_unless (nat_le 1 n && nat_le n max_nodes) (plain network 1))
    (refused_unless (nat_le (needed n) long) (plain network 2))

-- checks 1 and 2, and check 3, that both are nodes
abbrev pub pair_refusal : {F : Type 0} → ℕ → ℕ → ℕ → ℕ → Option (Refusal F)
pair_refusal n long i j = either (size_refusal n long) (refused_unless (nat_lt i n && nat_lt j n) (plain network 3))
