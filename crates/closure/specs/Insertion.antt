-- An edge σ from i to j inserted into the table t of the ways so far, over entries.
use Rattle.std.specs.Prelude.{ℕ, Some, None, Ok, Err, Option, Result}
use Rattle.std.specs.Result.{result_unwrap_or}
use Rattle.semiring.specs.Algebra.{Semiring}
use Rattle.semiring.specs.Entries.{Entries}
use Rattle.closure.specs.declared.fault.Place.{Place}
use Rattle.closure.specs.Refusals.{Refusal, place, too_large, cycle}
use Rattle.closure.specs.Outcomes.{and_then, map_err}
use Rattle.closure.specs.Passes.{passed, pass_fault}

-- the refusal of a product that some step met
abbrev pub blamed : {F : Type 0} → Place → Option F → Option (Refusal F)
blamed p None = None
blamed p (Some w) = Some (too_large p w)

module _ {s : Semiring} {Entry Cell Fault : Type 0} (k : Entries s Entry Cell Fault) (i j : ℕ) where
  -- m, the edge after any number of laps: p = σ·back is one lap, q its star, and m = q·σ
  abbrev pub factor : Entry → Entry → Result Entry (Refusal Fault)
  factor σ back =
      and_then (map_err (too_large (place i j)) (k.product σ back))
      (λ p. and_then (map_err (cycle (place i j)) (k.star p)) (λ q. map_err (too_large (place i j)) (k.product q σ)))

  module _ (t : ℕ → ℕ → Entry) where
    -- T[x,y] + (T[x,i]·m)·T[j,y]
    abbrev pub inserted : Entry → ℕ → ℕ → Entry
    inserted σ = passed k (λ x. t x i) (result_unwrap_or (factor σ (t j i)) k.none) (t j) t

    abbrev pub pass_refusal : ℕ → Result Entry (Refusal Fault) → Option (Refusal Fault)
    pass_refusal n (Err w) = Some w
    pass_refusal n (Ok m) = blamed (place i j) (pass_fault k (λ x. t x i) m (t j) n)

    -- the first refused step, in the order of the formula, on n nodes
    abbrev pub insertion_refusal : ℕ → Entry → Option (Refusal Fault)
    insertion_refusal n σ = pass_refusal n (factor σ (t j i))
