-- With no edge, the table that has unit on the diagonal and none elsewhere is continuous.
use Rattle.std.proofs.Common.{ℕ, ◌<◌}
use native.Mathlib.Decide.{ℕ_discrete}
use Rattle.semiring.specs.Algebra.{Semiring, Dioid}
use Rattle.semiring.proofs.Order.{le_refl, none_le}
use Rattle.closure.specs.Theory.{Empty}
use Rattle.closure.specs.Walks.{Table, TransitiveOver, Continuous}
use Rattle.closure.proofs.Moves.{Moves, moves_none, moves_unit, moves_continuous}

module _ {s : Semiring} (d : Dioid s) {n : ℕ} {edges t : Table s} (empty : Empty s n edges t) where
  open d use {unit_times, none_times}
  open empty use {no_edge, diagonal_unit, elsewhere_none}

  empty_transitive : TransitiveOver s n edges t
  empty_transitive =
      record {
        reflexive = λ x p. rw (diagonal_unit x p) (le_refl d);
        edges_held = λ x y p q. rw (no_edge x y p q) (none_le d);
        transitive = λ x z y p r q. elim (ℕ_discrete x z) [
          | yes e ↦ rw (e, diagonal_unit z r, unit_times) (le_refl d)
          | no e ↦ rw (elsewhere_none x z p r e, none_times) (none_le d)
        ];
      }

  empty_moves : (x y : ℕ) → x < n → y < n → Moves s n edges x y (t x y)
  empty_moves x y p q = elim (ℕ_discrete x y) [
    | yes e ↦ rw (e, diagonal_unit y q) (moves_unit d)
    | no e ↦ rw (elsewhere_none x y p q e) (moves_none d)
  ]

  pub empty_continuous : Continuous s n edges t
  empty_continuous = moves_continuous d empty_transitive empty_moves
