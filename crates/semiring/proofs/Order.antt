-- At most is a partial order, plus is its join, and times keeps it on either side.
use Rattle.std.proofs.Common.{◌≡◌, sym, ap, ◌∙◌}
use Rattle.semiring.specs.Algebra.{Semiring, Dioid, AtMost, within}

module _ {s : Semiring} (d : Dioid s) where
  infixl 60 ◌+◌
  infixl 70 ◌·◌
  infix 50 ◌≤◌
  open s use {Value, none, unit, plus as ◌+◌, times as ◌·◌}
  open d use {plus_assoc, plus_comm, plus_idem, plus_none, times_plus, plus_times, unit_times, times_unit}

  abbrev ◌≤◌ : Value → Value → Type 0
  a ≤ b = AtMost s a b

  pub le_refl : {a : Value} → a ≤ a
  le_refl {a} = plus_idem a

  pub le_trans : {a b c : Value} → a ≤ b → b ≤ c → a ≤ c
  le_trans {a} {b} {c} p q = rw (← q, ← plus_assoc, p)

  pub le_antisym : {a b : Value} → a ≤ b → b ≤ a → a ≡ b
  le_antisym {a} {b} p q = sym q ∙ plus_comm b a ∙ p

  pub none_le : {a : Value} → none ≤ a
  none_le {a} = plus_comm none a ∙ plus_none a

  pub plus_left : {a b : Value} → a ≤ a + b
  plus_left {a} {b} = rw (← plus_assoc, plus_idem)

  pub plus_right : {a b : Value} → b ≤ a + b
  plus_right {a} {b} = rw (plus_comm a b) plus_left

  pub plus_least : {a b c : Value} → a ≤ c → b ≤ c → a + b ≤ c
  plus_least {a} {b} {c} p q = plus_assoc a b c ∙ ap (◌+◌ a) q ∙ p

  pub under_left : {a b c : Value} → a ≤ b → a ≤ b + c
  under_left p = le_trans p plus_left

  pub under_right : {a b c : Value} → a ≤ c → a ≤ b + c
  under_right p = le_trans p plus_right

  pub times_right : {a b c : Value} → a ≤ b → c · a ≤ c · b
  times_right {a} {b} {c} p = sym (times_plus c a b) ∙ ap (◌·◌ c) p

  pub times_left : {a b c : Value} → a ≤ b → a · c ≤ b · c
  times_left {a} {b} {c} p = sym (plus_times a b c) ∙ ap (λ v. v · c) p

  pub times_monotone : {a b c e : Value} → a ≤ b → c ≤ e → a · c ≤ b · e
  times_monotone p q = le_trans (times_left p) (times_right q)

  pub within_monotone : {b c u v : Value} → u ≤ v → within s b u c ≤ within s b v c
  within_monotone p = times_left (times_right p)

  -- the context of two units is none at all
  pub within_unit : (v : Value) → within s unit v unit ≡ v
  within_unit v = times_unit (unit · v) ∙ unit_times v
