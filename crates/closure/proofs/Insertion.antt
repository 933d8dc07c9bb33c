-- One more edge: the closure with the ways by it, and when there is none.
use Rattle.std.proofs.Common.{ℕ, ◌<◌, ◌↔◌, refl}
use Rattle.semiring.specs.Algebra.{Semiring, AtMost, IsStar, HasStar, Laws}
use Rattle.semiring.proofs.Order.{le_refl, le_trans, plus_left, plus_right, plus_least, under_right, times_left, times_right, times_monotone, within_monotone}
use Rattle.semiring.proofs.Star.{star_one, star_left, star_absorbs}
use Rattle.closure.specs.Walks.{Table, TransitiveOver, Continuous}
use Rattle.closure.specs.Theory.{EdgeSummed, Extended}
use Rattle.closure.proofs.Walks.{continuous_closure, diagonal_star, transitive_above, walk_monotone}
use Rattle.closure.proofs.Moves.{Moves, moves_below, moves_edge, moves_times, moves_plus, moves_star, least_moves, continuous_transitive, moves_continuous}
use Rattle.closure.proofs.Pairs.{same_pair}
use Rattle.closure.proofs.Splice.{splice}

module _ {s : Semiring} (l : Laws s) (n i j : ℕ) (i<n : i < n) (j<n : j < n) where
  infixl 60 ◌+◌
  infixl 70 ◌·◌
  infix 50 ◌≤◌
  open s use {Value, plus as ◌+◌, times as ◌·◌}
  open l use {dioid as d, star_below}

  abbrev ◌≤◌ : Value → Value → Type 0
  a ≤ b = AtMost s a b

  module _ {σ : Value} {edges edges' t : Table s} (closed : Continuous s n edges t) (summed : EdgeSummed s n i j σ edges edges') where
    old : TransitiveOver s n edges t
    old = continuous_transitive d closed

    edges_grow : (x y : ℕ) → x < n → y < n → edges x y ≤ edges' x y
    edges_grow x y p q = elim (same_pair x y i j) [
      | yes e ↦ rw (e.0, e.1, summed.here) (plus_left d)
      | no e ↦ rw (summed.elsewhere x y p q e) (le_refl d)
    ]

    new_edge : σ ≤ edges' i j
    new_edge = rw summed.here (plus_right d)

    old_moves : (x y : ℕ) → x < n → y < n → Moves s n edges' x y (t x y)
    old_moves x y p q = least_moves d (λ b c u f. closed.least b c x y p q u (λ w. le_trans d (within_monotone d (walk_monotone d n edges edges' edges_grow w)) (f w)))

    new_moves : Moves s n edges' i j σ
    new_moves = moves_below d new_edge (moves_edge d i<n)

    module _ {q : Value} {t' : Table s} (star : IsStar s (σ · t j i) q) (extended : Extended s n i j σ q t t') where
      extended_moves : (x y : ℕ) → x < n → y < n → Moves s n edges' x y (t' x y)
      extended_moves x y p r =
          rw (extended x y p r)
          (moves_plus d (old_moves x y p r)
          (moves_times d
          (moves_times d (old_moves x i p i<n) (moves_times d (moves_star d star (moves_times d new_moves (old_moves j i j<n i<n))) new_moves))
          (old_moves j y j<n r)))

      table_grows : (x y : ℕ) → x < n → y < n → t x y ≤ t' x y
      table_grows x y p r = rw (extended x y p r) (plus_left d)

      -- the new edge with no lap, and nothing before or after it
      new_edge_held : σ ≤ t' i j
      new_edge_held = rw (extended i j i<n j<n) (under_right d wide)
        where
          wide : σ ≤ t i i · (q · σ) · t j j
          wide = simp (d.unit_times, d.times_unit) at
              (times_monotone d (times_monotone d (old.reflexive i i<n) (times_left d {c = σ} (star_one d star))) (old.reflexive j j<n))

      edges_held : (x y : ℕ) → x < n → y < n → edges' x y ≤ t' x y
      edges_held x y p r = elim (same_pair x y i j) [
        | yes e ↦ rw (e.0, e.1, summed.here) (plus_least d (le_trans d (old.edges_held i j i<n j<n) (table_grows i j i<n j<n)) new_edge_held)
        | no e ↦ rw (summed.elsewhere x y p r e) (le_trans d (old.edges_held x y p r) (table_grows x y p r))
      ]

      -- from the new edge by z back to it is one more lap
      lap : (z : ℕ) → z < n → q · σ · (t j z · t z i) · (q · σ) ≤ q · σ
      lap z p = simp d.times_assoc (simp d.times_assoc at
          (times_left d {c = σ}
          (le_trans d
          (times_right d {c = q} (le_trans d (times_left d {c = q} (times_right d {c = σ} (old.transitive j z i j<n p i<n))) (star_left d star)))
          (star_absorbs d star).square)))

      pub insertion_transitive : TransitiveOver s n edges' t'
      insertion_transitive =
          record {
            reflexive = λ x p. le_trans d (old.reflexive x p) (table_grows x x p p);
            edges_held = edges_held;
            transitive = λ x z y p r v.
                rw (extended x z p r, extended z y r v, extended x y p v)
                (splice d (old.transitive x z y p r v) (old.transitive x z i p r i<n) (old.transitive j z y j<n r v) (lap z r));
          }

      pub insertion_continuous : Continuous s n edges' t'
      insertion_continuous = moves_continuous d insertion_transitive extended_moves

    -- a transitive table is at least the lap by the new edge, so the lap has a star
    transitive_star : (u : Table s) → TransitiveOver s n edges' u → HasStar s (σ · t j i)
    transitive_star u h =
        star_below (σ · t j i) (u i i) (le_trans d (times_monotone d new back) (h.transitive i j i i<n j<n i<n))
        (u i i, diagonal_star d h i i<n)
      where
        new : σ ≤ u i j
        new = le_trans d new_edge (h.edges_held i j i<n j<n)

        back : t j i ≤ u j i
        back = (continuous_closure d closed j i j<n i<n).least (u j i) (λ w. le_trans d (walk_monotone d n edges edges' edges_grow w) (transitive_above d h w))

    pub cycle_criterion : HasStar s (σ · t j i) ↔ ((u : Table s) × TransitiveOver s n edges' u)
    cycle_criterion = (
      λ h. let t' : Table s = λ x y. t x y + t x i · (h.0 · σ) · t j y in (t', insertion_transitive h.1 (λ x y p r. refl)),
      λ h. transitive_star h.0 h.1,
    )
