-- What exactness says of none: its products are held, and summing it on changes nothing.
use Rattle.std.proofs.Common.{◌≡◌, true, T, Ok, Err, Result, sym, refl, ap, ◌∙◌, subst}
use Rattle.semiring.specs.Algebra.{Semiring, Laws}
use Rattle.semiring.specs.Entries.{Entries, Exact, ExactProduct}

module _ {s : Semiring} (l : Laws s) {Entry Cell Fault : Type 0} {k : Entries s Entry Cell Fault} (exact : Exact k) where
  held : (e : Entry) (r : Result Entry Fault) → ExactProduct s k.value (k.value e) r → r ≡ Ok e
  held e (Ok x) is = ap Ok (exact.injective x e is)
  held e (Err w) refused = absurd (refused e refl)

  -- the product of none and an entry is none, and never refused
  pub none_product : (e : Entry) → k.product k.none e ≡ Ok k.none
  none_product e =
      let none_times : s.times (k.value k.none) (k.value e) ≡ k.value k.none = ap (λ v. s.times v (k.value e)) exact.none_value ∙ l.dioid.none_times (k.value e) ∙ sym exact.none_value in
      held k.none (k.product k.none e) (subst (λ v. ExactProduct s k.value v (k.product k.none e)) none_times (exact.product_value k.none e))

  pub same_equal : (a b : Entry) → k.same a b ≡ true → a ≡ b
  same_equal a b yes_same = (exact.same_value a b).0 (subst T (sym yes_same) tt)

  pub sum_none : (e : Entry) → k.sum e k.none ≡ e
  sum_none e = exact.injective (k.sum e k.none) e (exact.sum_value e k.none ∙ ap (s.plus (k.value e)) exact.none_value ∙ l.dioid.plus_none (k.value e))
