-- What is proved of every semiring: its order, its walks, and the closure under insertion.
use Rattle.std.specs.Prelude.{◌≡◌, ℕ, ◌<◌, ◌≢◌, ◌↔◌}
use Rattle.semiring.specs.Algebra.{Semiring, AtMost, IsStar, HasStar}
use Rattle.closure.specs.Walks.{Table, Walk, joined, walk_value, TransitiveOver, IsClosure, Continuous}

module _ (s : Semiring) where
  -- at most is a partial order, plus is its join, and times keeps it on either side
  pub record Ordered : Type 0 where
    pub reflexive : (a : s.Value) → AtMost s a a
    pub transitive : (a b c : s.Value) → AtMost s a b → AtMost s b c → AtMost s a c
    pub antisymmetric : (a b : s.Value) → AtMost s a b → AtMost s b a → a ≡ b
    pub plus_above : (a b : s.Value) → AtMost s a (s.plus a b) × AtMost s b (s.plus a b)
    pub plus_least : (a b c : s.Value) → AtMost s a c → AtMost s b c → AtMost s (s.plus a b) c
    pub times_monotone : (a b c d : s.Value) → AtMost s a b → AtMost s c d → AtMost s (s.times a c) (s.times b d)

  -- no edge at all, and t the closure of that: each node reaches itself alone
  pub record Empty (n : ℕ) (edges t : Table s) : Type 0 where
    pub no_edge : (x y : ℕ) → x < n → y < n → edges x y ≡ s.none
    pub diagonal_unit : (x : ℕ) → x < n → t x x ≡ s.unit
    pub elsewhere_none : (x y : ℕ) → x < n → y < n → x ≢ y → t x y ≡ s.none

  -- edges' is edges with σ summed onto the edge from i to j
  pub record EdgeSummed (n i j : ℕ) (σ : s.Value) (edges edges' : Table s) : Type 0 where
    pub here : edges' i j ≡ s.plus (edges i j) σ
    pub elsewhere : (x y : ℕ) → x < n → y < n → ¬ ((x ≡ i) × (y ≡ j)) → edges' x y ≡ edges x y

  -- t' is t with the ways by an edge σ from i to j, whose laps q stands for
  abbrev pub Extended : ℕ → ℕ → ℕ → s.Value → s.Value → Table s → Table s → Type 0
  Extended n i j σ q t t' = (x y : ℕ) → x < n → y < n → t' x y ≡ s.plus (t x y) (s.times (s.times (t x i) (s.times q σ)) (t j y))

  pub record Theory : Type 0 where
    pub ordered : Ordered
    pub joining_multiplies : (edges : Table s) (n x z y : ℕ) (v : Walk n x z) (w : Walk n z y)
        → walk_value s edges (joined v w) ≡ s.times (walk_value s edges v) (walk_value s edges w)
    pub transitive_above_walks : (n : ℕ) (edges t : Table s) → TransitiveOver s n edges t
        → (x y : ℕ) (w : Walk n x y) → AtMost s (walk_value s edges w) (t x y)
    pub closed_walks_have_stars : (n : ℕ) (edges t : Table s) → TransitiveOver s n edges t
        → (x : ℕ) (w : Walk n x x) → HasStar s (walk_value s edges w)
    pub continuous_closes : (n : ℕ) (edges t : Table s) → Continuous s n edges t → IsClosure s n edges t × TransitiveOver s n edges t
    pub empty_continuous : (n : ℕ) (edges t : Table s) → Empty n edges t → Continuous s n edges t
    pub insertion_continuous : (n i j : ℕ) → i < n → j < n → (σ q : s.Value) (edges edges' t t' : Table s)
        → Continuous s n edges t → EdgeSummed n i j σ edges edges' → IsStar s (s.times σ (t j i)) q → Extended n i j σ q t t'
        → Continuous s n edges' t'
    pub cycle_criterion : (n i j : ℕ) → i < n → j < n → (σ : s.Value) (edges edges' t : Table s)
        → Continuous s n edges t → EdgeSummed n i j σ edges edges'
        → HasStar s (s.times σ (t j i)) ↔ ((u : Table s) × TransitiveOver s n edges' u)
    pub closure_unique : (n : ℕ) (edges t u : Table s) → IsClosure s n edges t → IsClosure s n edges u
        → (x y : ℕ) → x < n → y < n → t x y ≡ u x y
