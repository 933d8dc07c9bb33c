-- What an accepted call means, entry by entry: v is the network before it, w after it.
use Rattle.std.specs.Prelude.{◌≡◌, ℕ, ◌+◌, ◌*◌, ◌<◌, ◌≢◌, drop, slice_index_or}
use Rattle.semiring.specs.Algebra.{Semiring}
use Rattle.semiring.specs.Entries.{Entries}
use Rattle.closure.specs.Cells.{blank}
use Rattle.closure.specs.Insertion.{inserted}
use Rattle.network.specs.Faults.{needed}
use Rattle.network.specs.State.{State, edge_in, closure_in}

module _ {s : Semiring} {Entry Cell Fault : Type 0} (k : Entries s Entry Cell Fault) where
  -- the scratch of n nodes is none, and what lies behind the network is as before
  pub record Tidy (n : ℕ) (v w : State Cell) : Type 0 where
    pub scratch_none : (p : ℕ) → p < n + n → slice_index_or w.cells (n * n + n * n + p) (blank k) ≡ blank k
    pub beyond_kept : drop (needed n) w.cells ≡ drop (needed n) v.cells

  -- n nodes and no edge: each node reaches itself alone
  pub record Opened (n : ℕ) (v w : State Cell) : Type 0 where
    pub node_count : w.n ≡ n
    pub edges_none : (i j : ℕ) → i < n → j < n → edge_in k w i j ≡ k.none
    pub diagonal_unit : (i : ℕ) → i < n → closure_in k w i i ≡ k.unit
    pub elsewhere_none : (i j : ℕ) → i < n → j < n → i ≢ j → closure_in k w i j ≡ k.none
    pub tidy : Tidy n v w

  -- σ from i to j: every closure entry by the formula, one edge more, and no other change
  pub record Inserted (i j : ℕ) (σ : Entry) (v w : State Cell) : Type 0 where
    pub node_count_kept : w.n ≡ v.n
    pub closure_inserted : (x y : ℕ) → x < v.n → y < v.n → closure_in k w x y ≡ inserted k i j (closure_in k v) σ x y
    pub edge_summed : edge_in k w i j ≡ k.sum (edge_in k v i j) σ
    pub other_edges_kept : (p : ℕ) → p < v.n * v.n → p ≢ i * v.n + j → slice_index_or w.cells p (blank k) ≡ slice_index_or v.cells p (blank k)
    pub tidy : Tidy v.n v w
