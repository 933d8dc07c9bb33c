-- Pairs of nodes: told apart, also by their places in a table.
use Rattle.std.proofs.Common.{◌≡◌, ℕ, ◌+◌, ◌*◌, ◌/◌, ◌%◌, ◌<◌, sym, ap, ◌∙◌}
use native.Mathlib.Decide.{ℕ_discrete}
use Rattle.std.proofs.lemmas.Nat.{div-mul-add, mod-mul-add}

pub same_pair : (x y i j : ℕ) → Dec ((x ≡ i) × (y ≡ j))
same_pair x y i j = both (ℕ_discrete x i) (ℕ_discrete y j)
  where
    both : Dec (x ≡ i) → Dec (y ≡ j) → Dec ((x ≡ i) × (y ≡ j))
    both (yes p) (yes q) = yes (p, q)
    both (yes p) (no q) = no (λ h. q h.1)
    both (no p) q = no (λ h. p h.0)

pub place_pair : (x y i j n : ℕ) → y < n → j < n → x * n + y ≡ i * n + j → (x ≡ i) × (y ≡ j)
place_pair x y i j n p q same = (
  sym (div-mul-add x n y p) ∙ ap (λ z. z / n) same ∙ div-mul-add i n j q,
  sym (mod-mul-add x n y p) ∙ ap (λ z. z % n) same ∙ mod-mul-add i n j q,
)
