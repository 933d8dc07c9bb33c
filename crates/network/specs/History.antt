-- A network's history: the calls made on it, and the edges that it has accepted.
use Rattle.std.specs.Prelude.{ℕ, cond, ◌&&◌, List, Some, None, Option, Result, ◌==◌}
use Rattle.semiring.specs.Algebra.{Semiring}
use Rattle.semiring.specs.Entries.{Entries}
use Rattle.closure.specs.Outcomes.{outcome, unless}
use Rattle.closure.specs.Refusals.{Refusal}
use Rattle.network.specs.Calls.{after_insert, after_open, insert_refusal, open_refusal, read_refusal}
use Rattle.network.specs.State.{State, state_with, edge_in, closure_in}
use Rattle.network.specs.declared.call.Call.{Call}
use Rattle.network.specs.declared.call.Call.TheVariants.{Open, Insert, Edge, Closure}

module _ {s : Semiring} {E C F : Type 0} (k : Entries s E C F) where
  -- what a call is answered
  abbrev pub reply : Call E → State C → Result (Option E) (Refusal F)
  reply (Open n) v = outcome (open_refusal k n v) None
  reply (Insert i j σ) v = outcome (insert_refusal k i j σ v) None
  reply (Edge i j) v = outcome (read_refusal k i j v) (Some (edge_in k v i j))
  reply (Closure i j) v = outcome (read_refusal k i j v) (Some (closure_in k v i j))

  -- the network after a call
  abbrev pub after : Call E → State C → State C
  after (Open n) v = after_open k n v
  after (Insert i j σ) v = after_insert k i j σ v
  after (Edge i j) v = v
  after (Closure i j) v = v

  abbrev pub no_edges : ℕ → ℕ → E
  no_edges x y = k.none

  -- σ summed onto the edge from i to j
  abbrev pub with_edge : ℕ → ℕ → E → (ℕ → ℕ → E) → ℕ → ℕ → E
  with_edge i j σ edges x y = cond (x == i && y == j) (k.sum (edges x y) σ) (edges x y)

  -- the edges accepted up to and with a call: opening begins anew, an insertion adds one, a refused call none
  abbrev pub edges_after : Call E → State C → (ℕ → ℕ → E) → ℕ → ℕ → E
  edges_after (Open n) v edges = unless (open_refusal k n v) no_edges edges
  edges_after (Insert i j σ) v edges = unless (insert_refusal k i j σ v) (with_edge i j σ edges) edges
  edges_after (Edge i j) v edges = edges
  edges_after (Closure i j) v edges = edges

  -- some calls, refused ones among them, lead from a wrapped slice to the network v, and accepted these edges
  pub data Reached : State C → (ℕ → ℕ → E) → Type 0 where
    wrapped : (xs : List C) → Reached (state_with 0 xs) no_edges
    called : {v : State C} {edges : ℕ → ℕ → E} → Reached v edges → (c : Call E) → Reached (after c v) (edges_after c v edges)
