-- What a transcript leaves of its network: the state after its calls, or after the first of them.
use Rattle.std.specs.Prelude.{◌≡◌, ℕ, ◌<◌, ◌≤◌, List, length, take, fold, Ok, Err, Result}
use Rattle.semiring.specs.Algebra.{Semiring}
use Rattle.semiring.specs.Entries.{Entries}
use Rattle.network.specs.History.{after}
use Rattle.network.specs.State.{State}
use Rattle.network.specs.declared.call.Call.{Call}

module _ {s : Semiring} {E C F : Type 0} (k : Entries s E C F) where
  -- the network after some calls
  abbrev pub after_all : List (Call E) → State C → State C
  after_all calls v = fold (λ w c. after k c w) v calls

  -- printed to the end, all calls were made; cut short by a printer that failed, the first m of them, and one at least
  abbrev pub Performed : {A W : Type 0} → List (Call E) → State C → State C → Result A W → Type 0
  Performed calls v w (Ok _) = w ≡ after_all calls v
  Performed calls v w (Err _) = (m : ℕ) × (0 < m) × (m ≤ length calls) × (w ≡ after_all (take m calls) v)
