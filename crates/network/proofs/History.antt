-- Every history keeps what is guaranteed.
use Rattle.std.proofs.Common.{◌≡◌, ℕ, ◌+◌, ◌*◌, ◌<◌, Bool, true, false, cond, ◌&&◌, eqb, ◌↔◌, length, Some, None, Option, Result, sym, refl, ap, ◌∙◌, subst, arith}
use Rattle.std.proofs.lemmas.Bool.{and_from, and_parts, cond-true, eq-eqb, eqb-true}
use Rattle.semiring.specs.Algebra.{Semiring, HasStar, Laws}
use Rattle.semiring.specs.Entries.{Entries, Exact}
use Rattle.closure.specs.Cells.{at, values}
use Rattle.closure.specs.Outcomes.{failed, outcome, unless}
use Rattle.closure.specs.Refusals.{Refusal}
use Rattle.closure.specs.Theory.{EdgeSummed}
use Rattle.closure.specs.Walks.{Table, Continuous, IsClosure, TransitiveOver}
use Rattle.closure.proofs.Outcomes.{failed_outcome}
use Rattle.closure.proofs.Pairs.{place_pair, same_pair}
use Rattle.closure.proofs.Rows.{place_fits}
use Rattle.closure.proofs.Theory.{theory}
use Rattle.closure.proofs.Walks.{closure_of_same_edges}
use Rattle.network.specs.Calls.{insert_refusal, open_refusal}
use Rattle.network.specs.Faults.{answer, size_refusal}
use Rattle.network.specs.Guarantee.{CarriedOn, CycleExact, CycleAnswerExact, EveryHistory, Guarantee}
use Rattle.network.specs.History.{Reached, wrapped, called, after, edges_after, no_edges, with_edge}
use Rattle.network.specs.Layout.{inserted_cells, opened}
use Rattle.network.specs.State.{State, state_with, edge_in, closure_in}
use Rattle.network.specs.declared.call.Call.{Call}
use Rattle.network.specs.declared.call.Call.TheVariants.{Open, Insert, Edge, Closure}
use Rattle.network.specs.declared.fault.NetworkFault.{NetworkFault}
use Rattle.network.proofs.Meaning.{inserted_long, inserted_means, opened_long, opened_means}
use Rattle.network.proofs.Tried.{Tried, accepted, cyclic, refused, tried, open_fits}

module _ {s : Semiring} {E C F : Type 0} (k : Entries s E C F) where
  pub carried_on : (c : Call E) (v w : State C) → w ≡ after k c v → CarriedOn k c v w
  carried_on c v w is edges h = subst (λ z. Reached k z (edges_after k c v edges)) (sym is) (called h c)

module _ {s : Semiring} {E C F : Type 0} (k : Entries s E C F) (l : Laws s) (exact : Exact k) where
  with_edge_here : (i j : ℕ) (σ : E) (edges : ℕ → ℕ → E) → with_edge k i j σ edges i j ≡ k.sum (edges i j) σ
  with_edge_here i j σ edges = cond-true (eqb i i && eqb j j) (k.sum (edges i j) σ) (edges i j) (and_from (eqb i i) (eqb j j) (eq-eqb i i refl) (eq-eqb j j refl))

  with_edge_elsewhere : (i j : ℕ) (σ : E) (edges : ℕ → ℕ → E) (x y : ℕ) → ¬ ((x ≡ i) × (y ≡ j)) → with_edge k i j σ edges x y ≡ edges x y
  with_edge_elsewhere i j σ edges x y other = kept (eqb x i && eqb y j) refl
    where
      kept : (b : Bool) → (eqb x i && eqb y j) ≡ b → cond b (k.sum (edges x y) σ) (edges x y) ≡ edges x y
      kept true is = let both = and_parts (eqb x i) (eqb y j) is in absurd (other (eqb-true x i both.0, eqb-true y j both.1))
      kept false is = refl

  edge_summed : (n i j : ℕ) (σ : E) (edges : ℕ → ℕ → E) → EdgeSummed s n i j (k.value σ) (values k edges) (values k (with_edge k i j σ edges))
  edge_summed n i j σ edges =
      record {
        here = ap k.value (with_edge_here i j σ edges) ∙ exact.sum_value (edges i j) σ;
        elsewhere = λ x y p q other. ap k.value (with_edge_elsewhere i j σ edges x y other);
      }

  -- what each call keeps: the size, the scratch, the accepted edges, and the closure in every context
  record Kept (v : State C) (edges : ℕ → ℕ → E) : Type 0 where
    pub size_fits : 0 < v.n → size_refusal {F = F} v.n (length v.cells) ≡ None
    pub scratch_none : (p : ℕ) → p < v.n + v.n → at k v.cells (v.n * v.n + v.n * v.n + p) ≡ k.none
    pub edges_held : (x y : ℕ) → x < v.n → y < v.n → edge_in k v x y ≡ edges x y
    pub continuous : Continuous s v.n (values k edges) (values k (closure_in k v))

  open_keeps : (n : ℕ) (v : State C) (edges : ℕ → ℕ → E) → Kept v edges
      → (o : Option (Refusal F)) → open_refusal k n v ≡ o → Kept (unless o (state_with n (opened k n v.cells)) v) (unless o (no_edges k) edges)
  open_keeps n v edges h (Some w) is = h
  open_keeps n v edges h None is =
      let room = open_fits k exact n v is in
      let means = opened_means k exact n v.cells room v.n in
      let w = state_with n (opened k n v.cells) in
      record {
        size_fits = λ _. ap (size_refusal n) (opened_long k exact n v.cells room) ∙ is;
        scratch_none = λ p h. ap k.read (means.tidy.scratch_none p h) ∙ exact.read_write k.none;
        edges_held = means.edges_none;
        continuous = (theory l).empty_continuous n (values k (no_edges k)) (values k (closure_in k w)) (record {
          no_edge = λ x y p q. exact.none_value;
          diagonal_unit = λ x p. ap k.value (means.diagonal_unit x p) ∙ exact.unit_value;
          elsewhere_none = λ x y p q other. ap k.value (means.elsewhere_none x y p q other) ∙ exact.none_value;
        });
      }

  insert_keeps : (i j : ℕ) (σ : E) (v : State C) (edges : ℕ → ℕ → E) → Kept v edges
      → (o : Option (Refusal F)) → Tried k exact v i j σ o
      → Kept (unless o (state_with v.n (inserted_cells k v.n i j σ v.cells)) v) (unless o (with_edge k i j σ edges) edges)
  insert_keeps i j σ v edges h (Some w) _ = h
  insert_keeps i j σ v edges h None (accepted i_in j_in room q star extended) =
      let means = inserted_means k exact v.n v.cells room l i j i_in j_in σ in
      let w = state_with v.n (inserted_cells k v.n i j σ v.cells) in
      record {
        size_fits = λ some. ap (size_refusal v.n) (inserted_long k exact v.n v.cells room l i j i_in j_in σ) ∙ h.size_fits some;
        scratch_none = λ p h. ap k.read (means.tidy.scratch_none p h) ∙ exact.read_write k.none;
        edges_held = λ x y p r. elim (same_pair x y i j) [
          | yes e ↦ rw (e.0, e.1) (means.edge_summed ∙ ap (λ a. k.sum a σ) (h.edges_held i j i_in j_in) ∙ sym (with_edge_here i j σ edges))
          | no e ↦ ap k.read (means.other_edges_kept (x * v.n + y) (place_fits x y v.n p r) (λ same. e (place_pair x y i j v.n r j_in same)))
              ∙ h.edges_held x y p r
              ∙ sym (with_edge_elsewhere i j σ edges x y e)
        ];
        continuous = (theory l).insertion_continuous v.n i j i_in j_in (k.value σ) q (values k edges) (values k (with_edge k i j σ edges)) (values k (closure_in k v)) (values k (closure_in k w))
            h.continuous (edge_summed v.n i j σ edges) star (λ x y p r. ap k.value (means.closure_inserted x y p r) ∙ extended x y p r);
      }

  call_keeps : (c : Call E) (v : State C) (edges : ℕ → ℕ → E) → Kept v edges → Kept (after k c v) (edges_after k c v edges)
  call_keeps (Open n) v edges h = open_keeps n v edges h (open_refusal k n v) refl
  call_keeps (Insert i j σ) v edges h = insert_keeps i j σ v edges h (insert_refusal k i j σ v) (tried k exact v i j σ)
  call_keeps (Edge i j) v edges h = h
  call_keeps (Closure i j) v edges h = h

  history_keeps : {v : State C} {edges : ℕ → ℕ → E} → Reached k v edges → Kept v edges
  history_keeps (wrapped xs) =
      record {
        size_fits = λ some. absurd (omega arith);
        scratch_none = λ p h. absurd (omega arith);
        edges_held = λ x y p. absurd (omega arith);
        continuous = (theory l).empty_continuous 0 _ _ (record { no_edge = λ x y p. absurd (omega arith); diagonal_unit = λ x p. absurd (omega arith); elsewhere_none = λ x y p. absurd (omega arith) });
      }
  history_keeps (called h c) = call_keeps c _ _ (history_keeps h)

  same_closure : (v w : State C) (edges edges' : ℕ → ℕ → E) → Kept v edges → Kept w edges' → w.n ≡ v.n
      → ((x y : ℕ) → x < v.n → y < v.n → edges' x y ≡ edges x y)
      → (x y : ℕ) → x < v.n → y < v.n → closure_in k w x y ≡ closure_in k v x y
  same_closure v w edges edges' h h' same_n same x y p q =
      let of_w = ((theory l).continuous_closes w.n (values k edges') (values k (closure_in k w)) h'.continuous).0 in
      let of_v = ((theory l).continuous_closes v.n (values k edges) (values k (closure_in k v)) h.continuous).0 in
      let in_v = subst (λ n. IsClosure s n (values k edges') (values k (closure_in k w))) same_n of_w in
      let over_same = closure_of_same_edges l.dioid v.n (values k edges') (values k edges) (values k (closure_in k w)) (λ x y p q. ap k.value (same x y p q)) in_v in
      exact.injective (closure_in k w x y) (closure_in k v x y) ((theory l).closure_unique v.n (values k edges) (values k (closure_in k w)) (values k (closure_in k v)) over_same of_v x y p q)

  module _ (v : State C) (edges : ℕ → ℕ → E) (h : Kept v edges) (i j : ℕ) (σ : E) where
    criterion : i < v.n → j < v.n → HasStar s (s.times (k.value σ) (k.value (closure_in k v j i))) ↔ ((t : Table s) × TransitiveOver s v.n (values k (with_edge k i j σ edges)) t)
    criterion i_in j_in = (theory l).cycle_criterion v.n i j i_in j_in (k.value σ) (values k edges) (values k (with_edge k i j σ edges)) (values k (closure_in k v)) h.continuous (edge_summed v.n i j σ edges)

    cycle_exact : (o : Option (Refusal F)) → Tried k exact v i j σ o → CycleExact k v edges i j σ o
    cycle_exact None (accepted i_in j_in room q star extended) passes = (
      λ none. absurd none,
      λ no_table. let table = (criterion i_in j_in).0 (q, star) in no_table table.0 table.1,
    )
    cycle_exact (Some r) (cyclic i_in j_in w no_star) passes = (λ _ t over. no_star ((criterion i_in j_in).1 (t, over)), λ _. refl)
    cycle_exact (Some r) (refused _ early) passes = absurd (passes r.number early refl)

  pub guarantee : {v : State C} {edges : ℕ → ℕ → E} → Reached k v edges → Guarantee k v edges
  guarantee {v} {edges} h =
      let kept = history_keeps h in
      let closes = (theory l).continuous_closes v.n (values k edges) (values k (closure_in k v)) kept.continuous in
      record {
        size_fits = kept.size_fits;
        scratch_none = kept.scratch_none;
        edges_held = kept.edges_held;
        closure_transitive = closes.1;
        closure_best = closes.0;
        laps_bounded = (theory l).closed_walks_have_stars v.n (values k edges) (values k (closure_in k v)) closes.1;
        closure_by_edges = λ w edges' r. same_closure v w edges edges' kept (history_keeps r);
        cycle_exact = λ i j σ. cycle_exact v edges kept i j σ (insert_refusal k i j σ v) (tried k exact v i j σ);
      }

  pub every_history : EveryHistory k
  every_history v edges h = guarantee h

  pub cycle_answer_exact : (i j : ℕ) (σ : E) (v : State C) (r : Result (Unit {0}) (NetworkFault F)) → answer r ≡ outcome (insert_refusal k i j σ v) tt → CycleAnswerExact k i j σ v r
  cycle_answer_exact i j σ v r answered edges h =
      subst (CycleExact k v edges i j σ) (sym (ap failed answered ∙ failed_outcome (insert_refusal k i j σ v) tt)) ((guarantee h).cycle_exact i j σ)
