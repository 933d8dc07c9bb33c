-- Walks over a table of edges, and the tables that are at least every walk.
use Rattle.std.specs.Prelude.{ℕ, ◌<◌}
use Rattle.semiring.specs.Algebra.{Semiring, AtMost, within}

-- a value for each pair of nodes
abbrev pub Table : Semiring → Type 0
Table s = ℕ → ℕ → s.Value

-- a walk from x to y among the nodes below n: one node alone, or an edge to some node z and a walk from there
pub data Walk (n : ℕ) : ℕ → ℕ → Type 0 where
  trivial : {x : ℕ} → x < n → Walk n x x
  step : {x z y : ℕ} → x < n → Walk n z y → Walk n x y

-- one walk after another
abbrev pub joined : {n x z y : ℕ} → Walk n x z → Walk n z y → Walk n x y
joined (trivial p) v = v
joined (step p w) v = step p (joined w v)

module _ (s : Semiring) (edges : Table s) where
  -- the product of the walk's edges in their order, unit if it has none
  abbrev pub walk_value : {n x y : ℕ} → Walk n x y → s.Value
  walk_value (trivial p) = s.unit
  walk_value {x = x} (step {z = z} p w) = s.times (edges x z) (walk_value w)

module _ (s : Semiring) (n : ℕ) (edges : Table s) where
  -- v is at least every walk from x to y, and at most whatever else is
  pub record LeastOverWalks (x y : ℕ) (v : s.Value) : Type 0 where
    pub above : (w : Walk n x y) → AtMost s (walk_value s edges w) v
    pub least : (u : s.Value) → ((w : Walk n x y) → AtMost s (walk_value s edges w) u) → AtMost s v u

  -- each entry is the best over all walks
  abbrev pub IsClosure : Table s → Type 0
  IsClosure t = (x y : ℕ) → x < n → y < n → LeastOverWalks x y (t x y)

  -- t is at least unit on the diagonal, at least each edge, and at least each way in two parts
  pub record TransitiveOver (t : Table s) : Type 0 where
    pub reflexive : (x : ℕ) → x < n → AtMost s s.unit (t x x)
    pub edges_held : (x y : ℕ) → x < n → y < n → AtMost s (edges x y) (t x y)
    pub transitive : (x z y : ℕ) → x < n → z < n → y < n → AtMost s (s.times (t x z) (t z y)) (t x y)

  -- in the context b, c no walk from x to y exceeds u
  abbrev pub Bound : s.Value → s.Value → ℕ → ℕ → s.Value → Type 0
  Bound b c x y u = (w : Walk n x y) → AtMost s (within s b (walk_value s edges w) c) u

  -- each entry of t is the least bound of its walks in every context, not in the empty one alone
  pub record Continuous (t : Table s) : Type 0 where
    pub above : (b c : s.Value) (x y : ℕ) → Bound b c x y (within s b (t x y) c)
    pub least : (b c : s.Value) (x y : ℕ) → x < n → y < n → (u : s.Value) → Bound b c x y u → AtMost s (within s b (t x y) c) u
