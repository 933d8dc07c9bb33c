-- What a network's calls answer, and the state that they leave.
use Rattle.std.specs.Prelude.{ℕ, length, Option, Result}
use Rattle.semiring.specs.Algebra.{Semiring}
use Rattle.semiring.specs.Entries.{Entries}
use Rattle.closure.specs.Refusals.{Refusal, network, place, no_edge}
use Rattle.closure.specs.Outcomes.{either, outcome, unless}
use Rattle.closure.specs.Insertion.{insertion_refusal}
use Rattle.network.specs.Faults.{pair_refusal, refused_unless, size_refusal}
use Rattle.network.specs.Layout.{inserted_cells, opened}
use Rattle.network.specs.State.{State, state_with, edge_in, closure_in}

module _ {s : Semiring} {Entry Cell Fault : Type 0} (k : Entries s Entry Cell Fault) where
  -- checks 1 and 2 of the node count that is asked for
  abbrev pub open_refusal : ℕ → State Cell → Option (Refusal Fault)
  open_refusal n w = size_refusal n (length w.cells)

  abbrev pub after_open : ℕ → State Cell → State Cell
  after_open n w = unless (open_refusal n w) (state_with n (opened k n w.cells)) w

  -- checks 1 to 3
  abbrev pub read_refusal : ℕ → ℕ → State Cell → Option (Refusal Fault)
  read_refusal i j w = pair_refusal w.n (length w.cells) i j

  abbrev pub edge_answer : ℕ → ℕ → State Cell → Result Entry (Refusal Fault)
  edge_answer i j w = outcome (read_refusal i j w) (edge_in k w i j)

  abbrev pub closure_answer : ℕ → ℕ → State Cell → Result Entry (Refusal Fault)
  closure_answer i j w = outcome (read_refusal i j w) (closure_in k w i j)

  -- checks 1 to 3, check 4 of the given entry, and the steps of the insertion in their order
  abbrev pub insert_refusal : ℕ → ℕ → Entry → State Cell → Option (Refusal Fault)
  insert_refusal i j σ w =
      either (read_refusal i j w)
      (either (refused_unless (k.is_edge σ) (no_edge network (place i j)))
      (insertion_refusal k i j (closure_in k w) w.n σ))

  abbrev pub after_insert : ℕ → ℕ → Entry → State Cell → State Cell
  after_insert i j σ w = unless (insert_refusal i j σ w) (state_with w.n (inserted_cells k w.n i j σ w.cells)) w
