use Rattle.std.proofs.Common.{◌≡◌, ℕ, ◌<◌, length, List, [], ◌∷◌, zero, suc, get_or, refl, arith, rules, of_calls}
use Rattle.std.proofs.lemmas.List.FromFn.{fill_by_all}
use Rattle.std.specs.List.{FoldsTo}
use Rattle.closure.specs.Cells.{blank}
use Rattle.network.proofs.cells.clear.Goals as goal

-- what a step gives, where each gives v
each_item : {P A : Type 0} (R : P → A → P → Type 0) (v : A) → ((p : P) (x : A) (q : P) → R p x q → x ≡ v) → (p : P) (xs : List A) (q : P) → FoldsTo R p xs q → (k : ℕ) → k < length xs → get_or xs k v ≡ v
each_item R v each p [] q f k h = refl
each_item R v each p (x ∷ xs) q f zero h = each p x f.0 f.1
each_item R v each p (x ∷ xs) q f (suc k) h = each_item R v each f.0 xs q f.2 k (omega arith)

pub returns : goal.returns
returns g c =
    let k = g.S.Semiring.entries in
    fill_by_all (λ _. blank k) c.fill_with.new.self (length c.args.cells.now) (blank k) (omega arith)
    (λ p h. each_item _ (blank k) (λ p x q r. search (rules, of_calls)) _ c.fill_with.new.self _ c.fill_with.ensures.ran.1 p (omega arith))
