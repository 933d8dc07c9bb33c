-- What memory can hold of a semiring: entries, and the cells that they lie in.
use Rattle.std.specs.Prelude.{◌≡◌, Bool, T, ◌≢◌, ◌↔◌, Ok, Err, Result}
use Rattle.semiring.specs.Algebra.{Semiring, IsStar, HasStar}

module _ (s : Semiring) {Entry Fault : Type 0} (value : Entry → s.Value) where
  -- the entry of v, or a refusal where no entry has that value
  abbrev pub ExactProduct : s.Value → Result Entry Fault → Type 0
  ExactProduct v (Ok e) = value e ≡ v
  ExactProduct v (Err w) = (e : Entry) → value e ≢ v

  -- the entry of a's star, or a refusal where a has none
  abbrev pub ExactStar : s.Value → Result Entry Fault → Type 0
  ExactStar a (Ok e) = IsStar s a (value e)
  ExactStar a (Err w) = HasStar s a → ⊥

-- an entry means one value; a cell is the plain form in which an entry lies in a slice
pub record Entries (s : Semiring) (Entry Cell Fault : Type 0) : Type 0 where
  pub value : Entry → s.Value
  pub none : Entry
  pub unit : Entry
  pub sum : Entry → Entry → Entry
  pub product : Entry → Entry → Result Entry Fault
  pub star : Entry → Result Entry Fault
  pub same : Entry → Entry → Bool
  pub is_edge : Entry → Bool
  pub read : Cell → Entry
  pub write : Entry → Cell

-- the operations on entries are those on values, refused exactly where they must be
pub record Exact {s : Semiring} {Entry Cell Fault : Type 0} (k : Entries s Entry Cell Fault) : Type 0 where
  pub injective : (a b : Entry) → k.value a ≡ k.value b → a ≡ b
  pub none_value : k.value k.none ≡ s.none
  pub unit_value : k.value k.unit ≡ s.unit
  pub sum_value : (a b : Entry) → k.value (k.sum a b) ≡ s.plus (k.value a) (k.value b)
  pub product_value : (a b : Entry) → ExactProduct s k.value (s.times (k.value a) (k.value b)) (k.product a b)
  pub star_value : (a : Entry) → ExactStar s k.value (k.value a) (k.star a)
  pub same_value : (a b : Entry) → T (k.same a b) ↔ (a ≡ b)
  pub edge_none : T (k.is_edge k.none)
  pub edge_unit : T (k.is_edge k.unit)
  pub edge_sum : (a b : Entry) → T (k.is_edge a) → T (k.is_edge b) → T (k.is_edge (k.sum a b))
  pub read_write : (e : Entry) → k.read (k.write e) ≡ e
