-- Walks joined, and the tables that are at least every walk.
use Rattle.std.proofs.Common.{◌≡◌, ℕ, ◌<◌, sym, ap, ◌∙◌}
use Rattle.semiring.specs.Algebra.{Semiring, Dioid, AtMost, IsStar}
use Rattle.semiring.proofs.Order.{le_refl, le_trans, le_antisym, times_monotone, within_unit}
use Rattle.semiring.proofs.Star.{absorbs_own_star}
use Rattle.closure.specs.Walks.{Table, Walk, trivial, step, joined, walk_value, TransitiveOver, IsClosure, Continuous}

pub starts : {n x y : ℕ} → Walk n x y → x < n
starts (trivial p) = p
starts (step p w) = p

pub ends : {n x y : ℕ} → Walk n x y → y < n
ends (trivial p) = p
ends (step p w) = ends w

module _ {s : Semiring} (d : Dioid s) where
  infixl 60 ◌+◌
  infixl 70 ◌·◌
  infix 50 ◌≤◌
  open s use {Value, unit, plus as ◌+◌, times as ◌·◌}
  open d use {times_assoc, unit_times}

  abbrev ◌≤◌ : Value → Value → Type 0
  a ≤ b = AtMost s a b

  pub joining_multiplies : (edges : Table s) {n x z y : ℕ} (v : Walk n x z) (w : Walk n z y) → walk_value s edges (joined v w) ≡ walk_value s edges v · walk_value s edges w
  joining_multiplies edges (trivial p) w = sym (unit_times _)
  joining_multiplies edges (step {x = x} {z = z} p v) w = ap (◌·◌ (edges x z)) (joining_multiplies edges v w) ∙ sym (times_assoc _ _ _)

  module _ {n : ℕ} {edges : Table s} where
    pub transitive_above : {t : Table s} → TransitiveOver s n edges t → {x y : ℕ} (w : Walk n x y) → walk_value s edges w ≤ t x y
    transitive_above h (trivial p) = h.reflexive _ p
    transitive_above h (step p w) =
        le_trans d (times_monotone d (h.edges_held _ _ p (starts w)) (transitive_above h w)) (h.transitive _ _ _ p (starts w) (ends w))

    -- on the diagonal a transitive table absorbs laps, and so is its own star
    pub diagonal_star : {t : Table s} → TransitiveOver s n edges t → (x : ℕ) → x < n → IsStar s (t x x) (t x x)
    diagonal_star h x p = absorbs_own_star d (record { one = h.reflexive x p; square = h.transitive x x x p p p })

    -- the empty context is one of all
    pub continuous_closure : {t : Table s} → Continuous s n edges t → IsClosure s n edges t
    continuous_closure h x y p q =
        record {
          above = λ w. simp (within_unit d) at (h.above unit unit x y w);
          least = λ u f. rw (within_unit d) at (h.least unit unit x y p q u (λ w. rw (within_unit d) (f w)));
        }

    pub closure_unique : {t u : Table s} → IsClosure s n edges t → IsClosure s n edges u → (x y : ℕ) → x < n → y < n → t x y ≡ u x y
    closure_unique h k x y p q = le_antisym d ((h x y p q).least _ (k x y p q).above) ((k x y p q).least _ (h x y p q).above)

  -- more edges make no walk worse
  pub walk_monotone : (n : ℕ) (edges edges' : Table s) → ((x y : ℕ) → x < n → y < n → edges x y ≤ edges' x y) → {x y : ℕ} (w : Walk n x y) → walk_value s edges w ≤ walk_value s edges' w
  walk_monotone n edges edges' h (trivial p) = le_refl d
  walk_monotone n edges edges' h (step p w) = times_monotone d (h _ _ p (starts w)) (walk_monotone n edges edges' h w)

  -- edges that agree below n have the same closures
  pub closure_of_same_edges : (n : ℕ) (edges edges' t : Table s) → ((x y : ℕ) → x < n → y < n → edges x y ≡ edges' x y) → IsClosure s n edges t → IsClosure s n edges' t
  closure_of_same_edges n edges edges' t same h x y p q =
      record {
        above = λ w. le_trans d (walk_monotone n edges' edges (λ x y p q. rw (same x y p q) (le_refl d)) w) ((h x y p q).above w);
        least = λ u f. (h x y p q).least u (λ w. le_trans d (walk_monotone n edges edges' (λ x y p q. rw (same x y p q) (le_refl d)) w) (f w));
      }
