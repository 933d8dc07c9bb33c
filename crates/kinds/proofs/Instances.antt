-- What the definitions and laws of amounts come to for each kind, spelled out. The numbers and limits are those of `impl Number` for u64 and for i64.
use Rattle.std.specs.Prelude.{◌≡◌, ◌≢◌, ℕ, ◌+◌, ◌<◌, ◌≤◌, min, ℤ, pos, ◌+ℤ◌, neg_ℤ, ◌≤ℤ◌, ◌<ℤ◌, Bool, true, false, ◌&&◌, cond, IsTrue, nat_lt, nat_le, int_le, int_lt, decimal, Some, None, Ok, Err, ◌==◌, refl}
use Rattle.std.specs.Fmt.{signed_decimal}
use Rattle.std.specs.Int.{int_min}
use Rattle.std.specs.Ordering.{int_eq}
use Rattle.std.proofs.Common.{arith}
use Rattle.std.proofs.lemmas.Int.{ints}
use Rattle.std.proofs.lemmas.Bool.Decides.{nat_tests}
use Rattle.semiring.specs.Algebra.{Laws, SelectiveLaws, DijkstraLaws, AtMost, IsStar, HasStar}
use Rattle.semiring.specs.Entries.{Exact}
use Rattle.kinds.specs.Amount.{Amount, none, of, text, amounts}
use Rattle.kinds.specs.Limits.{pulses_limit, pulses_edge_limit, pulses_none, charge_limit, charge_edge_limit, charge_none}
use Rattle.kinds.specs.Numbers as numbers
use Rattle.kinds.specs.Pulses as pulses
use Rattle.kinds.specs.Charge as charge
use Rattle.kinds.specs.AmountLaws as generic
use Rattle.kinds.specs.Entries as entries
use Rattle.kinds.specs.Exact.{exact}
use Rattle.std.specs.declared.cmp.Ord as ord
use Rattle.std.specs.declared.cmp.PartialEq as eq
use Rattle.std.specs.declared.cmp.PartialOrd as partial
use Rattle.kinds.specs.declared.number.Number as number
use Rattle.kinds.specs.declared.amount.Amount as amount
use Rattle.kinds.specs.declared.kind.Kind.TheVariants as kind
use Rattle.kinds.specs.contracts.pulses.U64Number.TheImpl as of_u64
use Rattle.kinds.specs.contracts.charge.I64Number.TheImpl as of_i64

-- Pulses
pub pulses_values : numbers.values pulses.naturals 0 ≡ amounts min ◌+◌ 0
pulses_values = refl

pub pulses_amount : (n : ℕ) → numbers.amount pulses.naturals pulses_limit n ≡ cond (nat_lt pulses_limit n) none (of n)
pulses_amount n = refl

pub pulses_capped : (n : ℕ) → numbers.capped pulses.naturals pulses_limit pulses_none n ≡ min n pulses_none
pulses_capped n = grind (arith, nat_tests)

pub pulses_bound : (n : ℕ) → IsTrue (numbers.bounded pulses.naturals pulses_limit pulses_none n) → n ≤ pulses_none
pulses_bound n h = grind (arith, nat_tests, ints)

pub pulses_bounded : (n : ℕ) → n ≤ pulses_none → IsTrue (numbers.bounded pulses.naturals pulses_limit pulses_none n)
pulses_bounded n h = grind (arith, nat_tests, ints)

pub pulses_past_limit : (n : ℕ) → cond (numbers.in_limit pulses.naturals pulses_limit n) false true ≡ nat_lt pulses_limit n
pulses_past_limit n = grind (arith, nat_tests)

pub pulses_edge : (n : ℕ) → numbers.edge_amount pulses.naturals pulses_edge_limit (of n) ≡ nat_le n pulses_edge_limit
pulses_edge n = refl

pub pulses_same : (m n : ℕ) → int_eq (pos m) (pos n) ≡ (m == n)
pulses_same m n = grind (arith, nat_tests, ints)

pub pulses_not_below : (n : ℕ) → int_lt (pos n) (pos 0) ≡ false
pulses_not_below n = grind (arith, ints)

pub pulses_text : (a : Amount ℕ) → text (λ m. signed_decimal (pos m)) a ≡ text decimal a
pulses_text none = refl
pulses_text (of n) = refl

pub pulses_laws : Laws (amounts min ◌+◌ 0)
pulses_laws = generic.laws pulses.laws

pub pulses_selective : SelectiveLaws (amounts min ◌+◌ 0)
pulses_selective = generic.selective pulses.laws

pub pulses_dijkstra : DijkstraLaws (amounts min ◌+◌ 0)
pulses_dijkstra = generic.dijkstra pulses.laws pulses.up

pub pulses_star_is_unit : (a : Amount ℕ) → IsStar (amounts min ◌+◌ 0) a (of 0)
pulses_star_is_unit a = generic.star_is_unit pulses.laws a (pulses_dijkstra.unit_greatest a)

-- Charge
pub charge_values : numbers.values charge.integers (pos 0) ≡ amounts int_min ◌+ℤ◌ (pos 0)
charge_values = refl

-- from the negative of a limit to the limit
abbrev pub between : ℤ → ℤ → Bool
between limit n = int_le (neg_ℤ limit) n && int_le n limit

pub charge_up_to : (limit n : ℤ) → pos 0 ≤ℤ limit → numbers.up_to limit n ≡ between limit n
charge_up_to limit n up = grind (arith, nat_tests, ints)

pub charge_amount : (n : ℤ) → numbers.amount charge.integers charge_limit n ≡ cond (int_lt charge_limit n) none (of n)
charge_amount n = refl

pub charge_bound : (n : ℤ) → IsTrue (numbers.bounded charge.integers charge_limit charge_none n) → (neg_ℤ charge_limit ≤ℤ n) × (n ≤ℤ charge_none)
charge_bound n h = (grind (arith, nat_tests, ints), grind (arith, nat_tests, ints))

pub charge_bounded : (n : ℤ) → (neg_ℤ charge_limit ≤ℤ n) → (n ≤ℤ charge_none) → IsTrue (numbers.bounded charge.integers charge_limit charge_none n)
charge_bounded n l h = grind (arith, nat_tests, ints)

pub charge_same : (m n : ℤ) → int_eq m n ≡ (int_le m n && int_le n m)
charge_same m n = grind (arith, ints)

pub charge_text : (a : Amount ℤ) → text (λ m. signed_decimal (charge.integers.whole m)) a ≡ text signed_decimal a
charge_text a = refl

pub charge_laws : Laws (amounts int_min ◌+ℤ◌ (pos 0))
charge_laws = generic.laws charge.laws

pub charge_selective : SelectiveLaws (amounts int_min ◌+ℤ◌ (pos 0))
charge_selective = generic.selective charge.laws

pub charge_up_at_most_unit : (n : ℤ) → pos 0 ≤ℤ n → AtMost (amounts int_min ◌+ℤ◌ (pos 0)) (of n) (of (pos 0))
charge_up_at_most_unit = generic.up_at_most_unit charge.laws

pub charge_star_is_unit : (a : Amount ℤ) → AtMost (amounts int_min ◌+ℤ◌ (pos 0)) a (of (pos 0)) → IsStar (amounts int_min ◌+ℤ◌ (pos 0)) a (of (pos 0))
charge_star_is_unit = generic.star_is_unit charge.laws

pub charge_no_star : (n : ℤ) → n <ℤ pos 0 → HasStar (amounts int_min ◌+ℤ◌ (pos 0)) (of n) → ⊥
charge_no_star = generic.no_star charge.laws

module _ (o : ord.Ghosts ℕ) (e : eq.Ghosts ℕ) (p : partial.Ghosts ℕ) where
  abbrev n : number.Ghosts ℕ
  n = record { numbers = pulses.naturals; KIND = kind.Pulses; ZERO = 0; LIMIT = pulses_limit; EDGE_LIMIT = pulses_edge_limit; NONE = pulses_none }

  -- they are what `impl Number for u64` says
  pub pulses_numbers : n ≡ of_u64.ghosts
  pulses_numbers = refl

  pub pulses_made : (m : ℕ) → (entries.made {n = n} {o = o} {e = e} {p = p} m).number ≡ min m pulses_none
  pulses_made m = pulses_capped m

  pub pulses_exact : Exact (entries.entries {n = n} {o = o} {e = e} {p = p})
  pulses_exact = exact n o e p pulses.laws pulses.limits

  pub pulses_past_limit_not_held : (m : ℕ) → pulses_limit < m → (a : amount.Amount ℕ n o e p) → entries.value a ≢ of m
  pulses_past_limit_not_held m past a is = grind (arith, nat_tests, ints)

  pub pulses_up_to_limit_held : (m : ℕ) → m ≤ pulses_limit → entries.value (entries.made {n = n} {o = o} {e = e} {p = p} m) ≡ of m
  pulses_up_to_limit_held m up_to = grind (arith, nat_tests, ints)

  pub pulses_held : (m : ℕ) → entries.held {n = n} {o = o} {e = e} {p = p} (of m) ≡ cond (nat_lt pulses_limit m) (Err kind.Pulses) (Ok (entries.made m))
  pulses_held m = grind (arith, nat_tests)

  pub pulses_starred : (a : Amount ℕ) → entries.starred {n = n} {o = o} {e = e} {p = p} a ≡ Ok (entries.made 0)
  pulses_starred none = refl
  pulses_starred (of m) = rw (pulses_not_below m)

  pub pulses_checked : (m : ℕ) → entries.checked {n = n} {o = o} {e = e} {p = p} m ≡ cond (nat_lt pulses_limit m) None (Some (entries.made m))
  pulses_checked m = grind (arith, nat_tests)

  pub pulses_same_entry : (a b : amount.Amount ℕ n o e p) → (entries.entries {n = n} {o = o} {e = e} {p = p}).same a b ≡ (a.number == b.number)
  pulses_same_entry a b = pulses_same a.number b.number

  pub pulses_is_edge : (a : amount.Amount ℕ n o e p) (m : ℕ) → entries.value a ≡ of m → (entries.entries {n = n} {o = o} {e = e} {p = p}).is_edge a ≡ nat_le m pulses_edge_limit
  pulses_is_edge a m is = rw is

module _ (o : ord.Ghosts ℤ) (e : eq.Ghosts ℤ) (p : partial.Ghosts ℤ) where
  abbrev c : number.Ghosts ℤ
  c = record { numbers = charge.integers; KIND = kind.Charge; ZERO = pos 0; LIMIT = charge_limit; EDGE_LIMIT = charge_edge_limit; NONE = charge_none }

  -- they are what `impl Number for i64` says
  pub charge_numbers : c ≡ of_i64.ghosts
  charge_numbers = refl

  pub charge_in_limit : (m : ℤ) → numbers.up_to charge_limit m ≡ between charge_limit m
  charge_in_limit m = charge_up_to charge_limit m (omega (arith, ints))

  pub charge_made : (m : ℤ) → (entries.made {n = c} {o = o} {e = e} {p = p} m).number ≡ cond (between charge_limit m) m charge_none
  charge_made m = rw (charge_in_limit m)

  pub charge_exact : Exact (entries.entries {n = c} {o = o} {e = e} {p = p})
  charge_exact = exact c o e p charge.laws charge.limits

  pub charge_held : (m : ℤ) → entries.held {n = c} {o = o} {e = e} {p = p} (of m) ≡ cond (between charge_limit m) (Ok (entries.made m)) (Err kind.Charge)
  charge_held m = rw (← charge_in_limit m)

  pub charge_starred : (m : ℤ) → entries.starred {n = c} {o = o} {e = e} {p = p} (of m) ≡ cond (int_lt m (pos 0)) (Err kind.Charge) (Ok (entries.made (pos 0)))
  charge_starred m = refl

  pub charge_checked : (m : ℤ) → entries.checked {n = c} {o = o} {e = e} {p = p} m ≡ cond (between charge_limit m) (Some (entries.made m)) None
  charge_checked m = rw (← charge_in_limit m)

  pub charge_edge : (m : ℤ) → numbers.edge_amount charge.integers charge_edge_limit (of m) ≡ between charge_edge_limit m
  charge_edge m = charge_up_to charge_edge_limit m (omega (arith, ints))
