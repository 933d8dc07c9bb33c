-- What an answer tells of the refusal behind it.
use Rattle.std.proofs.Common.{◌≡◌, ℕ, Some, None, Ok, Err, Option, Result, refl, arith}
use Rattle.closure.specs.Outcomes.{either, failed, map_ok, outcome}

pub some_not_none : {A B : Type 0} (o : Option A) (w : A) → o ≡ Some w → o ≡ None → B
some_not_none o w e h = let z : ◌≡◌ {A = ℕ} 0 1 = cc in absurd (omega arith)

pub none_of_either : {A : Type 0} (o r : Option A) → either o r ≡ None → (o ≡ None) × (r ≡ None)
none_of_either None r h = (refl, h)
none_of_either (Some w) r h = some_not_none (Some w) w refl h

module _ {A F : Type 0} where
  pub none_from_ok : (r : Result A F) (o : Option F) (x y : A) → r ≡ outcome o x → r ≡ Ok y → o ≡ None
  none_from_ok r None x y e h = refl
  none_from_ok r (Some w) x y e h = let z : ◌≡◌ {A = ℕ} 0 1 = cc in absurd (omega arith)

  pub some_from_err : (r : Result A F) (o : Option F) (x : A) (w : F) → r ≡ outcome o x → r ≡ Err w → o ≡ Some w
  some_from_err r None x w e h = let z : ◌≡◌ {A = ℕ} 0 1 = cc in absurd (omega arith)
  some_from_err r (Some v) x w e h = cc

  pub failed_outcome : (o : Option F) (x : A) → failed (outcome o x) ≡ o
  failed_outcome None x = refl
  failed_outcome (Some w) x = refl

  pub map_ok_outcome : {B : Type 0} (f : A → B) (o : Option F) (x : A) → map_ok f (outcome o x) ≡ outcome o (f x)
  map_ok_outcome f None x = refl
  map_ok_outcome f (Some w) x = refl
