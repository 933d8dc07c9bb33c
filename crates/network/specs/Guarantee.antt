-- What holds of every network, at every moment of every history.
use Rattle.std.specs.Prelude.{◌≡◌, ℕ, ◌+◌, ◌*◌, ◌<◌, ◌≤◌, ◌↔◌, length, IfOk, Some, None, Option, Result}
use Rattle.semiring.specs.Algebra.{HasStar, Semiring}
use Rattle.semiring.specs.Entries.{Entries}
use Rattle.closure.specs.Cells.{at, values}
use Rattle.closure.specs.Outcomes.{failed}
use Rattle.closure.specs.Refusals.{Refusal}
use Rattle.closure.specs.Walks.{Table, Walk, walk_value, IsClosure, LeastOverWalks, TransitiveOver}
use Rattle.network.specs.Calls.{insert_refusal}
use Rattle.network.specs.Faults.{answer, size_refusal}
use Rattle.network.specs.History.{Reached, edges_after, with_edge}
use Rattle.network.specs.State.{State, edge_in, closure_in}
use Rattle.network.specs.declared.call.Call.{Call}
use Rattle.network.specs.declared.fault.NetworkFault.{NetworkFault}

abbrev pub RefusedWith : {F : Type 0} → ℕ → Option (Refusal F) → Type 0
RefusedWith number None = ⊥
RefusedWith number (Some r) = r.number ≡ number

module _ {s : Semiring} {E C F : Type 0} (k : Entries s E C F) (v : State C) (edges : ℕ → ℕ → E) where
  -- unless it is refused with 1 to 5, inserting σ is refused for a cycle exactly when no table is transitive over the edges with it
  abbrev pub CycleExact : ℕ → ℕ → E → Option (Refusal F) → Type 0
  CycleExact i j σ refusal =
      ((number : ℕ) → number ≤ 5 → ¬ RefusedWith number refusal)
      → RefusedWith 6 refusal ↔ ((t : Table s) → ¬ TransitiveOver s v.n (values k (with_edge k i j σ edges)) t)

  pub record Guarantee : Type 0 where
    -- once opened, no call fails check 1 or 2 of it, and its scratch is none
    pub size_fits : 0 < v.n → size_refusal {F = F} v.n (length v.cells) ≡ None
    pub scratch_none : (p : ℕ) → p < v.n + v.n → at k v.cells (v.n * v.n + v.n * v.n + p) ≡ k.none
    -- the network holds the accepted edges
    pub edges_held : (x y : ℕ) → x < v.n → y < v.n → edge_in k v x y ≡ edges x y
    -- its closure is transitive over them, and the best over all walks
    pub closure_transitive : TransitiveOver s v.n (values k edges) (values k (closure_in k v))
    pub closure_best : IsClosure s v.n (values k edges) (values k (closure_in k v))
    -- no closed walk gets better with every lap: all laps together have a best value
    pub laps_bounded : (x : ℕ) (w : Walk v.n x x) → HasStar s (walk_value s (values k edges) w)
    -- no other history that accepted the same edges has another closure, whatever their order
    pub closure_by_edges : (w : State C) (edges' : ℕ → ℕ → E) → Reached k w edges' → w.n ≡ v.n
        → ((x y : ℕ) → x < v.n → y < v.n → edges' x y ≡ edges x y)
        → (x y : ℕ) → x < v.n → y < v.n → closure_in k w x y ≡ closure_in k v x y
    pub cycle_exact : (i j : ℕ) (σ : E) → CycleExact i j σ (insert_refusal k i j σ v)

module _ {s : Semiring} {E C F : Type 0} (k : Entries s E C F) where
  -- a history that led to v leads on to w by this call, with the edges that it accepted
  abbrev pub CarriedOn : Call E → State C → State C → Type 0
  CarriedOn c v w = (edges : ℕ → ℕ → E) → Reached k v edges → Reached k w (edges_after k c v edges)

  -- the guarantee, at every moment of every history
  abbrev pub EveryHistory : Type 0
  EveryHistory = (v : State C) (edges : ℕ → ℕ → E) → Reached k v edges → Guarantee k v edges

  -- the answer r to an insertion, into a network that some history has reached
  abbrev pub CycleAnswerExact : ℕ → ℕ → E → State C → Result (Unit {0}) (NetworkFault F) → Type 0
  CycleAnswerExact i j σ v r = (edges : ℕ → ℕ → E) → Reached k v edges → CycleExact k v edges i j σ (failed (answer r))

  -- an entry that was read is the edge that the history accepted
  abbrev pub EdgeAccepted : {G : Type 0} → ℕ → ℕ → State C → Result E G → Type 0
  EdgeAccepted i j v r = (edges : ℕ → ℕ → E) → Reached k v edges → IfOk r (λ e. e ≡ edges i j)

  -- an entry that was read is the best over all walks by the edges that the history accepted
  abbrev pub BestOverWalks : {G : Type 0} → ℕ → ℕ → State C → Result E G → Type 0
  BestOverWalks i j v r = (edges : ℕ → ℕ → E) → Reached k v edges → IfOk r (λ e. LeastOverWalks s v.n (values k edges) i j (k.value e))
