-- The values that stand for walks: unit, edges, and their sums, products and stars.
use Rattle.std.proofs.Common.{ℕ, zero, suc, ◌<◌}
use Rattle.semiring.specs.Algebra.{Semiring, Dioid, AtMost, power, within, IsStar}
use Rattle.semiring.proofs.Order.{le_trans, none_le, plus_least, within_monotone, within_unit, times_left}
use Rattle.closure.specs.Walks.{Table, Walk, trivial, step, joined, walk_value, TransitiveOver, Bound, Continuous}
use Rattle.closure.proofs.Walks.{joining_multiplies, transitive_above, continuous_closure}

-- v stands for walks from x to z: what bounds the walks from x in a context bounds those from z behind v
pub record Moves (s : Semiring) (n : ℕ) (edges : Table s) (x z : ℕ) (v : s.Value) : Type 0 where
  pub move : (b c : s.Value) (y : ℕ) (u : s.Value) → Bound s n edges b c x y u → Bound s n edges (s.times b v) c z y u

module _ {s : Semiring} (d : Dioid s) {n : ℕ} {edges : Table s} where
  infixl 60 ◌+◌
  infixl 70 ◌·◌
  open s use {Value, none, unit, plus as ◌+◌, times as ◌·◌}
  open d use {times_assoc, times_unit, none_times, times_none, times_plus, plus_times}

  pub moves_none : {x z : ℕ} → Moves s n edges x z none
  moves_none = record { move = λ b c y u f w. simp (within, times_none, none_times) (none_le d) }

  pub moves_unit : {x : ℕ} → Moves s n edges x x unit
  moves_unit = record { move = λ b c y u f w. rw (times_unit b) (f w) }

  pub moves_edge : {x z : ℕ} → x < n → Moves s n edges x z (edges x z)
  moves_edge {x} {z} p = record { move = λ b c y u f w. rw (within, times_assoc b (edges x z) (walk_value s edges w)) (f (step p w)) }

  pub moves_below : {x z : ℕ} {v v' : Value} → AtMost s v v' → Moves s n edges x z v' → Moves s n edges x z v
  moves_below p m = record { move = λ b c y u f w. le_trans d (times_left d (within_monotone d p)) (m.move b c y u f w) }

  pub moves_plus : {x z : ℕ} {v v' : Value} → Moves s n edges x z v → Moves s n edges x z v' → Moves s n edges x z (v + v')
  moves_plus {v = v} {v' = v'} m m' =
      record { move = λ b c y u f w. simp (within, times_plus b v v', plus_times) (plus_least d (m.move b c y u f w) (m'.move b c y u f w)) }

  pub moves_times : {x z y : ℕ} {v v' : Value} → Moves s n edges x z v → Moves s n edges z y v' → Moves s n edges x y (v · v')
  moves_times {v = v} {v' = v'} m m' =
      record { move = λ b c y u f. rw (← times_assoc b v v') (m'.move (b · v) c y u (m.move b c y u f)) }

  moves_power : {x : ℕ} {a : Value} → Moves s n edges x x a → (k : ℕ) → Moves s n edges x x (power s a k)
  moves_power m zero = moves_unit
  moves_power m (suc k) = moves_times m (moves_power m k)

  pub moves_star : {x : ℕ} {a q : Value} → IsStar s a q → Moves s n edges x x a → Moves s n edges x x q
  moves_star {a = a} {q = q} i m =
      record {
        move = λ b c y u f w.
            rw (within, times_assoc (b · q) (walk_value s edges w) c)
            (i.least b (walk_value s edges w · c) u
            (λ k. rw (within, ← times_assoc (b · power s a k) (walk_value s edges w) c) ((moves_power m k).move b c y u f w)));
      }

  -- what moves is least, and what is least moves
  pub moves_least : {x y : ℕ} {v : Value} → Moves s n edges x y v → y < n → (b c u : Value) → Bound s n edges b c x y u → AtMost s (within s b v c) u
  moves_least {y = y} {v = v} m p b c u f = rw (within, times_unit (b · v)) at (m.move b c y u f (trivial p))

  pub least_moves : {x z : ℕ} {v : Value} → ((b c u : Value) → Bound s n edges b c x z u → AtMost s (within s b v c) u) → Moves s n edges x z v
  least_moves {v = v} h =
      record {
        move = λ b c y u f w.
            rw (within, times_assoc (b · v) (walk_value s edges w) c)
            (h b (walk_value s edges w · c) u
            (λ v'. simp (← times_assoc) (simp (within, joining_multiplies d edges v' w, ← times_assoc) at (f (joined v' w)))));
      }

  moves_le : {x y : ℕ} {v u : Value} → Moves s n edges x y v → y < n → ((w : Walk n x y) → AtMost s (walk_value s edges w) u) → AtMost s v u
  moves_le {v = v} {u = u} m p f = rw (within_unit d v) at (moves_least m p unit unit u (λ w. rw (within_unit d (walk_value s edges w)) (f w)))

  -- a table is continuous exactly if it is transitive and its entries move
  module _ {t : Table s} where
    continuous_moves : Continuous s n edges t → (x y : ℕ) → x < n → y < n → Moves s n edges x y (t x y)
    continuous_moves h x y p q = least_moves (λ b c u. h.least b c x y p q u)

    pub continuous_transitive : Continuous s n edges t → TransitiveOver s n edges t
    continuous_transitive h =
        record {
          reflexive = λ x p. (continuous_closure d h x x p p).above (trivial p);
          edges_held = λ x y p q. simp times_unit at ((continuous_closure d h x y p q).above (step p (trivial q)));
          transitive = λ x z y p r q. moves_le (moves_times (continuous_moves h x z p r) (continuous_moves h z y r q)) q (continuous_closure d h x y p q).above;
        }

    pub moves_continuous : TransitiveOver s n edges t → ((x y : ℕ) → x < n → y < n → Moves s n edges x y (t x y)) → Continuous s n edges t
    moves_continuous h m =
        record {
          above = λ b c x y w. within_monotone d (transitive_above d h w);
          least = λ b c x y p q u. moves_least (m x y p q) q b c u;
        }
