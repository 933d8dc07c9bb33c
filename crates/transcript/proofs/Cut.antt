-- A transcript that is cut short after one more call.
use Rattle.std.proofs.Common.{◌≡◌, ℕ, ◌+◌, ◌<◌, List, length, take, get_or, Err, Result, sym, ap, ◌∙◌, subst, arith}
use Rattle.std.proofs.lemmas.List.Sums.{fold_more}
use Rattle.semiring.specs.Algebra.{Semiring}
use Rattle.semiring.specs.Entries.{Entries}
use Rattle.network.specs.History.{after}
use Rattle.network.specs.State.{State}
use Rattle.network.specs.declared.call.Call.{Call}
use Rattle.transcript.specs.Transcript.{after_all, Performed}

module _ {s : Semiring} {E C F : Type 0} (k : Entries s E C F) where
  pub cut_after : {A W : Type 0} (calls : List (Call E)) (v u w : State C) (i : ℕ) (call : Call E) (r : Result A W) → i < length calls
      → call ≡ get_or calls i call → u ≡ after_all k (take i calls) v → w ≡ after k call u → (failure : W) → r ≡ Err failure → Performed k calls v w r
  cut_after calls v u w i call r inside is made left failure failed =
      let more : w ≡ after_all k (take (i + 1) calls) v =
      left ∙ ap (after k call) made ∙ ap (λ x. after k x (after_all k (take i calls) v)) is ∙ sym (fold_more (λ z x. after k x z) v calls i call inside) in
      subst (Performed k calls v w) (sym failed) (i + 1, omega arith, omega arith, more)
