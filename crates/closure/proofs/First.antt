-- The first refusal below a bound, as a loop that stops at it finds it.
use Rattle.std.proofs.Common.{◌≡◌, ℕ, zero, suc, ◌+◌, ◌-◌, ◌<◌, ◌≤◌, Some, None, Option, refl, ap, ◌∙◌, ⊎_elim, add-zero, add-suc, arith}
use Rattle.std.proofs.lemmas.Bool.{cases_lt}
use Rattle.closure.specs.Outcomes.{first, either}
use Rattle.closure.proofs.Outcomes.{none_of_either}

module _ {A : Type 0} where
  pub first_none : (f : ℕ → Option A) → first f 0 ≡ None
  unfolding first
  first_none f = refl

  pub first_more : (f : ℕ → Option A) (m : ℕ) → first f (m + 1) ≡ either (first f m) (f m)
  unfolding first
  first_more f m = ap (first f) (add-suc m 0 ∙ ap suc (add-zero m))

  -- one more step of a search that has found nothing
  pub first_next : (f : ℕ → Option A) (m : ℕ) → first f m ≡ None → first f (m + 1) ≡ f m
  first_next f m h = first_more f m ∙ ap (λ o. either o (f m)) h

  pub first_same : (f g : ℕ → Option A) (n : ℕ) → ((j : ℕ) → j < n → f j ≡ g j) → first f n ≡ first g n
  unfolding first
  first_same f g zero each = refl
  first_same f g (suc n) each = let e = first_same f g n (λ j h. each j (omega arith)) in let l = each n (omega arith) in cc

  pub first_of_none : (f : ℕ → Option A) (n : ℕ) → ((j : ℕ) → j < n → f j ≡ None) → first f n ≡ None
  unfolding first
  first_of_none f zero each = refl
  first_of_none f (suc n) each = let e = first_of_none f n (λ j h. each j (omega arith)) in let l = each n (omega arith) in cc

  pub none_of_first : (f : ℕ → Option A) (n : ℕ) → first f n ≡ None → (j : ℕ) → j < n → f j ≡ None
  unfolding first
  none_of_first f zero h j l = absurd (omega arith)
  none_of_first f (suc n) h j l = ⊎_elim
      (λ (u : j < n). none_of_first f n (none_of_either (first f n) (f n) h).0 j u)
      (λ (u : n ≤ j). ap f (let e : j ≡ n = omega arith in e) ∙ (none_of_either (first f n) (f n) h).1)
      (cases_lt j n)

  first_on : (f : ℕ → Option A) (m d : ℕ) (w : A) → first f m ≡ Some w → first f (m + d) ≡ Some w
  unfolding first
  first_on f m zero w h = ap (first f) (add-zero m) ∙ h
  first_on f m (suc d) w h = ap (first f) (add-suc m d) ∙ ap (λ o. either o (f (m + d))) (first_on f m d w h)

  -- nothing up to m, and one there: what a search below n finds
  pub first_here : (f : ℕ → Option A) (m n : ℕ) (w : A) → m < n → first f m ≡ None → f m ≡ Some w → first f n ≡ Some w
  first_here f m n w l h e =
      ap (first f) (let far : n ≡ m + 1 + (n - (m + 1)) = omega arith in far) ∙ first_on f (m + 1) (n - (m + 1)) w (first_next f m h ∙ e)
