-- Two entries, each with the ways through one place spliced in, one after the other.
use Rattle.semiring.specs.Algebra.{Semiring, Dioid, AtMost}
use Rattle.semiring.proofs.Order.{plus_least, under_left, under_right, times_left, times_right}

module _ {s : Semiring} (d : Dioid s) where
  infixl 60 ◌+◌
  infixl 70 ◌·◌
  infix 50 ◌≤◌
  open s use {Value, plus as ◌+◌, times as ◌·◌}
  open d use {times_assoc, times_plus, plus_times}

  abbrev ◌≤◌ : Value → Value → Type 0
  a ≤ b = AtMost s a b

  pub splice : {a b c f f' g g' k : Value} → a · b ≤ c → a · f' ≤ f → g' · b ≤ g → k · (g' · f') · k ≤ k → (a + f · k · g') · (b + f' · k · g) ≤ c + f · k · g
  splice {a} {b} {c} {f} {f'} {g} {g'} {k} straight before behind between =
      rw (plus_times, times_plus a, times_plus (f · k · g'))
      (plus_least d
      (plus_least d (under_left d straight) (under_right d (simp (← times_assoc) (times_left d (times_left d before)))))
      (plus_least d
      (under_right d (rw (times_assoc (f · k) g' b) (times_right d behind)))
      (under_right d (simp times_assoc (simp times_assoc at (times_left d {c = g} (times_right d {c = f} between)))))))
