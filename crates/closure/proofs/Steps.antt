-- What the steps of an insertion, accepted or refused, say of the values.
use Rattle.std.proofs.Common.{◌≡◌, ℕ, Some, None, Ok, Err, Option, Result, sym, refl, ap, ◌∙◌, subst}
use Rattle.std.specs.Result.{result_unwrap_or}
use Rattle.semiring.specs.Algebra.{Semiring, IsStar, HasStar}
use Rattle.semiring.specs.Entries.{Entries, Exact, ExactProduct, ExactStar}
use Rattle.closure.specs.Cells.{times, values}
use Rattle.closure.specs.Insertion.{blamed, factor, inserted, insertion_refusal, pass_refusal}
use Rattle.closure.specs.Outcomes.{failed}
use Rattle.closure.specs.Passes.{line_fault, pass_fault, passed, row_fault}
use Rattle.closure.specs.Refusals.{Refusal, cycle, place, too_large}
use Rattle.closure.specs.Theory.{Extended}
use Rattle.closure.proofs.First.{none_of_first}
use Rattle.closure.proofs.Outcomes.{none_of_either, some_not_none}

module _ {s : Semiring} {Entry Cell Fault : Type 0} (k : Entries s Entry Cell Fault) (exact : Exact k) where
  -- a product that is not refused is the product of the values
  product_held : (a b : Entry) → failed (k.product a b) ≡ None → k.value (times k a b) ≡ s.times (k.value a) (k.value b)
  product_held a b h = held (k.product a b) h (exact.product_value a b)
    where
      held : (r : Result Entry Fault) → failed r ≡ None → ExactProduct s k.value (s.times (k.value a) (k.value b)) r → k.value (result_unwrap_or r k.none) ≡ s.times (k.value a) (k.value b)
      held (Ok e) h is = is
      held (Err w) h is = some_not_none (Some w) w refl h

  module _ (i j n : ℕ) (t : ℕ → ℕ → Entry) (σ : Entry) where
    -- one lap by the new edge
    abbrev lap : s.Value
    lap = s.times (k.value σ) (k.value (t j i))

    -- what each outcome of the steps means
    pub data Steps : Option (Refusal Fault) → Type 0 where
      accepted : (q : s.Value) → IsStar s lap q → Extended s n i j (k.value σ) q (values k t) (values k (inserted k i j t σ)) → Steps None
      cyclic : (w : Fault) → (HasStar s lap → ⊥) → Steps (Some (cycle (place i j) w))
      overflowing : (w : Fault) → Steps (Some (too_large (place i j) w))

    abbrev refusal : Option (Refusal Fault)
    refusal = insertion_refusal k i j t n σ

    module _ (m : Entry) (is_m : factor k i j σ (t j i) ≡ Ok m) where
      extended : (q : s.Value) → k.value m ≡ s.times q (k.value σ) → pass_fault k (λ x. t x i) m (t j) n ≡ None → Extended s n i j (k.value σ) q (values k t) (values k (inserted k i j t σ))
      extended q m_value h x y p r =
          let line = none_of_either (failed (k.product (t x i) m)) (row_fault k (times k (t x i) m) (t j) n) (none_of_first (line_fault k (λ z. t z i) m (t j) n) n h x p) in
          let row = none_of_first (λ z. failed (k.product (times k (t x i) m) (t j z))) n line.1 y r in
          ap (λ z. k.value (passed k (λ w. t w i) (result_unwrap_or z k.none) (t j) t x y)) is_m
          ∙ exact.sum_value (t x y) (times k (times k (t x i) m) (t j y))
          ∙ ap (s.plus (k.value (t x y))) (product_held (times k (t x i) m) (t j y) row)
          ∙ ap (λ v. s.plus (k.value (t x y)) (s.times v (k.value (t j y)))) (product_held (t x i) m line.0)
          ∙ ap (λ v. s.plus (k.value (t x y)) (s.times (s.times (k.value (t x i)) v) (k.value (t j y)))) m_value

      passing : (q : s.Value) → IsStar s lap q → k.value m ≡ s.times q (k.value σ) → (o : Option Fault) → pass_fault k (λ x. t x i) m (t j) n ≡ o → Steps refusal
      passing q star m_value None h = subst Steps (sym (ap (pass_refusal k i j t n) is_m ∙ ap (blamed (place i j)) h)) (accepted q star (extended q m_value h))
      passing q star m_value (Some w) h = subst Steps (sym (ap (pass_refusal k i j t n) is_m ∙ ap (blamed (place i j)) h)) (overflowing w)

    multiplied : (p q : Entry) → k.product σ (t j i) ≡ Ok p → k.star p ≡ Ok q → IsStar s lap (k.value q) → (r : Result Entry Fault) → k.product q σ ≡ r → ExactProduct s k.value (s.times (k.value q) (k.value σ)) r → Steps refusal
    multiplied p q is_p is_q star (Ok m) is_m m_value = passing m (cc) (k.value q) star m_value (pass_fault k (λ x. t x i) m (t j) n) refl
    multiplied p q is_p is_q star (Err w) is_m none_holds = subst Steps (sym (let is : refusal ≡ Some (too_large (place i j) w) = cc in is)) (overflowing w)

    starred : (p : Entry) → k.product σ (t j i) ≡ Ok p → k.value p ≡ lap → (r : Result Entry Fault) → k.star p ≡ r → ExactStar s k.value (k.value p) r → Steps refusal
    starred p is_p p_value (Ok q) is_q star = multiplied p q is_p is_q (subst (λ v. IsStar s v (k.value q)) p_value star) (k.product q σ) refl (exact.product_value q σ)
    starred p is_p p_value (Err w) is_q no_star = subst Steps (sym (let is : refusal ≡ Some (cycle (place i j) w) = cc in is)) (cyclic w (subst (λ v. HasStar s v → ⊥) p_value no_star))

    lapped : (r : Result Entry Fault) → k.product σ (t j i) ≡ r → ExactProduct s k.value lap r → Steps refusal
    lapped (Ok p) is_p p_value = starred p is_p p_value (k.star p) refl (exact.star_value p)
    lapped (Err w) is_p none_holds = subst Steps (sym (let is : refusal ≡ Some (too_large (place i j) w) = cc in is)) (overflowing w)

    pub steps : Steps refusal
    steps = lapped (k.product σ (t j i)) refl (exact.product_value σ (t j i))
