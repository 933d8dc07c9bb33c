-- What a network is at a moment: its node count and its cells.
use Rattle.std.specs.Prelude.{ℕ, List}
use Rattle.semiring.specs.Algebra.{Semiring}
use Rattle.semiring.specs.Entries.{Entries}
use Rattle.network.specs.declared.Network.{Network}
use Rattle.network.specs.Layout.{closure_of, edge_of}

pub record State (Cell : Type 0) : Type 0 where
  pub n : ℕ
  pub cells : List Cell

abbrev pub state_with : {Cell : Type 0} → ℕ → List Cell → State Cell
state_with n xs = record { n = n; cells = xs }

abbrev pub state : {S Entry Cell Fault : Type 0} → Network S Entry Cell Fault → State Cell
state w = state_with w.n w.cells.now

module _ {s : Semiring} {Entry Cell Fault : Type 0} (k : Entries s Entry Cell Fault) (w : State Cell) where
  abbrev pub edge_in : ℕ → ℕ → Entry
  edge_in = edge_of k w.n w.cells

  abbrev pub closure_in : ℕ → ℕ → Entry
  closure_in = closure_of k w.n w.cells
