-- A closed idempotent semiring by its values, and the laws that every one keeps.
use Rattle.std.specs.Prelude.{◌≡◌, ℕ, zero, suc, ◌≢◌, ◌⊎◌}

-- `plus` takes two ways together, `times` puts one after the other; `none` is no way, `unit` is staying
pub record Semiring : Type 1 where
  pub Value : Type 0
  pub none : Value
  pub unit : Value
  pub plus : Value → Value → Value
  pub times : Value → Value → Value

module _ (s : Semiring) where
  -- b is at least a
  abbrev pub AtMost : s.Value → s.Value → Type 0
  AtMost a b = s.plus a b ≡ b

  -- b is better than a
  abbrev pub Below : s.Value → s.Value → Type 0
  Below a b = AtMost a b × (a ≢ b)

  abbrev pub power : s.Value → ℕ → s.Value
  power a zero = s.unit
  power a (suc m) = s.times a (power a m)

  -- v between b and c
  abbrev pub within : s.Value → s.Value → s.Value → s.Value
  within b v c = s.times (s.times b v) c

  -- v is the least value that is at least every power of a, in every context b, c
  pub record IsStar (a v : s.Value) : Type 0 where
    pub above : (b c : s.Value) (m : ℕ) → AtMost (within b (power a m) c) (within b v c)
    pub least : (b c u : s.Value) → ((m : ℕ) → AtMost (within b (power a m) c) u) → AtMost (within b v c) u

  abbrev pub HasStar : s.Value → Type 0
  HasStar a = (v : s.Value) × IsStar a v

  -- the laws of the two operations: an idempotent semiring, whose none and unit differ
  pub record Dioid : Type 0 where
    pub plus_assoc : (a b c : s.Value) → s.plus (s.plus a b) c ≡ s.plus a (s.plus b c)
    pub plus_comm : (a b : s.Value) → s.plus a b ≡ s.plus b a
    pub plus_idem : (a : s.Value) → s.plus a a ≡ a
    pub plus_none : (a : s.Value) → s.plus a s.none ≡ a
    pub times_assoc : (a b c : s.Value) → s.times (s.times a b) c ≡ s.times a (s.times b c)
    pub unit_times : (a : s.Value) → s.times s.unit a ≡ a
    pub times_unit : (a : s.Value) → s.times a s.unit ≡ a
    pub none_times : (a : s.Value) → s.times s.none a ≡ s.none
    pub times_none : (a : s.Value) → s.times a s.none ≡ s.none
    pub times_plus : (a b c : s.Value) → s.times a (s.plus b c) ≡ s.plus (s.times a b) (s.times a c)
    pub plus_times : (a b c : s.Value) → s.times (s.plus a b) c ≡ s.plus (s.times a c) (s.times b c)
    pub distinct : s.none ≢ s.unit

  -- all that is asked of a semiring: these, and that what lies below a value with a star has a star
  pub record Laws : Type 0 where
    pub dioid : Dioid
    pub star_below : (a b : s.Value) → AtMost a b → HasStar b → HasStar a

  -- the sum of two values is one of them, and it is decided which; a star exists exactly at most unit
  pub record SelectiveLaws : Type 0 where
    pub picks : (a b : s.Value) → AtMost b a ⊎ Below a b
    pub times_comm : (a b : s.Value) → s.times a b ≡ s.times b a
    pub star_at_most_unit : (a : s.Value) → HasStar a → AtMost a s.unit
    pub at_most_unit_star : (a : s.Value) → AtMost a s.unit → HasStar a

  -- beyond the selective laws: no value is better than unit
  pub record DijkstraLaws : Type 0 where
    pub unit_greatest : (a : s.Value) → AtMost a s.unit
