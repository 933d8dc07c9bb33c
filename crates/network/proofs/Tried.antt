-- What the refusal of an opening or an insertion, or that there is none, says of the network and of the values.
use Rattle.std.proofs.Common.{◌≡◌, ℕ, ◌<◌, ◌≤◌, Bool, true, false, ◌&&◌, ltb, leb, length, Some, None, Option, sym, refl, ap, ◌∙◌, subst, arith}
use Rattle.std.proofs.lemmas.Bool.{and_parts, leb-true, ltb-true}
use Rattle.semiring.specs.Algebra.{Semiring, IsStar, HasStar, Laws}
use Rattle.semiring.specs.Entries.{Entries, Exact}
use Rattle.closure.specs.Cells.{values}
use Rattle.closure.specs.Insertion.{inserted, insertion_refusal}
use Rattle.closure.specs.Limits.{max_nodes}
use Rattle.closure.specs.Outcomes.{either, unless}
use Rattle.closure.specs.Refusals.{Refusal, cycle, network, no_edge, place, plain}
use Rattle.closure.specs.Theory.{Extended}
use Rattle.closure.proofs.Outcomes.{some_not_none}
use Rattle.closure.proofs.Steps.{Steps, accepted as steps_accepted, cyclic as steps_cyclic, overflowing, steps}
use Rattle.network.specs.Calls.{after_insert, after_open, insert_refusal, open_refusal, read_refusal}
use Rattle.network.specs.Faults.{needed, refused_unless}
use Rattle.network.specs.Layout.{inserted_cells, opened}
use Rattle.network.specs.Meaning.{Inserted, Opened}
use Rattle.network.specs.State.{State, closure_in, state_with}
use Rattle.network.proofs.Meaning.{inserted_means, opened_means}

module _ {s : Semiring} {E C F : Type 0} (k : Entries s E C F) (i j : ℕ) (σ : E) (v : State C) where
  abbrev step_refusal : Option (Refusal F)
  step_refusal = insertion_refusal k i j (closure_in k v) v.n σ

  abbrev decided_by : Option (Refusal F) → Bool → Option (Refusal F)
  decided_by pair edge = either pair (either (refused_unless edge (no_edge network (place i j))) step_refusal)

  -- which part of an insertion decides: the pair, and then the edge or the steps
  pub pair_decides : (r : Refusal F) → read_refusal k i j v ≡ Some r → insert_refusal k i j σ v ≡ Some r
  pair_decides r pair = ap (λ o. decided_by o (k.is_edge σ)) pair

  pub edge_decides : (edge : Bool) → read_refusal k i j v ≡ None → k.is_edge σ ≡ edge → insert_refusal k i j σ v ≡ decided_by None edge
  edge_decides edge pair is = ap (λ o. decided_by o (k.is_edge σ)) pair ∙ ap (decided_by None) is

  pub after_decided : (o : Option (Refusal F)) → insert_refusal k i j σ v ≡ o → unless o (state_with v.n (inserted_cells k v.n i j σ v.cells)) v ≡ after_insert k i j σ v
  after_decided o is = sym (ap (λ r. unless r (state_with v.n (inserted_cells k v.n i j σ v.cells)) v) is)

module _ {s : Semiring} {E C F : Type 0} (k : Entries s E C F) (exact : Exact k) where
  -- an accepted opening has room
  pub open_fits : (n : ℕ) (v : State C) → open_refusal k n v ≡ None → needed n ≤ length v.cells
  open_fits n v = fits (leb 1 n && leb n max_nodes) (leb (needed n) (length v.cells)) refl
    where
      fits : (counted long : Bool) → leb (needed n) (length v.cells) ≡ long → either (refused_unless counted (plain {F = F} network 1)) (refused_unless long (plain network 2)) ≡ None → needed n ≤ length v.cells
      fits true true is h = leb-true _ _ is
      fits true false is h = some_not_none _ _ refl h
      fits false long is h = some_not_none _ _ refl h

  pub accepted_opens : (n : ℕ) (v w : State C) → w ≡ after_open k n v → open_refusal k n v ≡ None → Opened k n v w
  accepted_opens n v w is none =
      subst (Opened k n v) (sym (is ∙ ap (λ o. unless o (state_with n (opened k n v.cells)) v) none)) (opened_means k exact n v.cells (open_fits n v none) v.n)

  module _ (v : State C) (i j : ℕ) (σ : E) where
    abbrev lap : s.Value
    lap = s.times (k.value σ) (k.value (closure_in k v j i))

    -- the three outcomes that matter to the closure
    pub data Tried : Option (Refusal F) → Type 0 where
      accepted : i < v.n → j < v.n → needed v.n ≤ length v.cells → (q : s.Value) → IsStar s lap q
          → Extended s v.n i j (k.value σ) q (values k (closure_in k v)) (values k (inserted k i j (closure_in k v) σ))
          → Tried None
      cyclic : i < v.n → j < v.n → (w : F) → (HasStar s lap → ⊥) → Tried (Some (cycle (place i j) w))
      refused : (r : Refusal F) → r.number ≤ 5 → Tried (Some r)

    after_checks : (counted long nodes edge : Bool) → leb (needed v.n) (length v.cells) ≡ long → (ltb i v.n && ltb j v.n) ≡ nodes
        → (o : Option (Refusal F)) → Steps k exact i j v.n (closure_in k v) σ o
        → Tried (either (either (either (refused_unless counted (plain network 1)) (refused_unless long (plain network 2))) (refused_unless nodes (plain network 3)))
        (either (refused_unless edge (no_edge network (place i j))) o))
    after_checks false long nodes edge room pair o h = refused _ (omega arith)
    after_checks true false nodes edge room pair o h = refused _ (omega arith)
    after_checks true true false edge room pair o h = refused _ (omega arith)
    after_checks true true true false room pair o h = refused _ (omega arith)
    after_checks true true true true room pair None (steps_accepted q star extended) =
        let both = and_parts (ltb i v.n) (ltb j v.n) pair in
        accepted (ltb-true _ _ both.0) (ltb-true _ _ both.1) (leb-true _ _ room) q star extended
    after_checks true true true true room pair (Some r) (steps_cyclic w no_star) =
        let both = and_parts (ltb i v.n) (ltb j v.n) pair in
        cyclic (ltb-true _ _ both.0) (ltb-true _ _ both.1) w no_star
    after_checks true true true true room pair (Some r) (overflowing w) = refused _ (omega arith)

    pub tried : Tried (insert_refusal k i j σ v)
    tried =
        after_checks (leb 1 v.n && leb v.n max_nodes) (leb (needed v.n) (length v.cells)) (ltb i v.n && ltb j v.n) (k.is_edge σ) refl refl
        (insertion_refusal k i j (closure_in k v) v.n σ) (steps k exact i j v.n (closure_in k v) σ)

    accepted_inserted : Laws s → (o : Option (Refusal F)) → Tried o → o ≡ None → Inserted k i j σ v (unless o (state_with v.n (inserted_cells k v.n i j σ v.cells)) v)
    accepted_inserted l None (accepted i_in j_in room q star extended) _ = inserted_means k exact v.n v.cells room l i j i_in j_in σ
    accepted_inserted l (Some r) _ none = some_not_none (Some r) r refl none

    pub accepted_inserts : Laws s → (w : State C) → w ≡ after_insert k i j σ v → insert_refusal k i j σ v ≡ None → Inserted k i j σ v w
    accepted_inserts l w is none = subst (Inserted k i j σ v) (sym is) (accepted_inserted l (insert_refusal k i j σ v) tried none)
