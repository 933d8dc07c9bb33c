use Rattle.std.proofs.Common.{◌≡◌, ◌+◌, ◌-◌, ◌*◌, Err, [], ◌∷◌, ◌++◌, length, take, drop, refl, sym, ap, ◌∙◌, zero-mul, arith, rules}
use Rattle.std.specs.Slice.Iter.{chunks_exact_rest, chunks_exact_size}
use Rattle.std.proofs.lemmas.List.{length-append}
use Rattle.std.proofs.lemmas.Result.{err_from_is_err_and}
use Rattle.closure.specs.Outcomes.{first, outcome}
use Rattle.closure.specs.Passes.{row_fault, line_fault}
use Rattle.closure.proofs.First.{first_none, first_next, first_here}
use Rattle.closure.proofs.Outcomes.{none_from_ok, some_from_err}
use Rattle.closure.proofs.Rows.{read_at, fault_of_factor, fault_of_row}
use Rattle.network.specs.Layout.{closure_of}
use Rattle.network.proofs.Spread.{line_turn, no_line, row_refused}
use Rattle.network.proofs.insertion.try_pass.Goals as goal

pub loop-line-init : goal.loop-line-init
loop-line-init g c =
    let k = g.S.Semiring.entries in
    let p = c.args.pair in
    let n = p.n in
    let t = closure_of k n c.args.cells.now in
    let made = c.into_iter-line-iterator.ensures.into_iter_gives in
    let size : chunks_exact_size c.into_iter-line-iterator.result ≡ n = search rules in
    let left : chunks_exact_rest c.into_iter-line-iterator.result ≡ take (n * n + n * n - n * n) (drop (n * n) c.args.cells.now) = search rules in
    let table = take (n * n + n * n - n * n) (drop (n * n) c.args.cells.now) in
    (omega (arith, size), tt, size, omega arith, left ∙ ap (λ q. drop q table) (sym (zero-mul n)), first_none (line_fault k (λ x. t x p.i) c.args.m (t p.j) n))

pub returns-in_err-t : goal.returns-in_err-t
returns-in_err-t g c =
    let k = g.S.Semiring.entries in
    let p = c.args.pair in
    let n = p.n in
    let t = closure_of k n c.args.cells.now in
    let x = length c.loop-line.yielded in
    let cut = c.in-Some.ensures.steps.1 in
    let turn = line_turn k n p.i p.j c.args.cells.now (omega arith) (omega arith) (omega arith) (n * n + n * n - n * n) (omega arith) x c.in-Some.line.now (chunks_exact_rest c.next.new.self) (chunks_exact_rest c.loop-line.line-iterator) c.loop-line.invariant.4 cut.0 (omega arith) in
    let cell = read_at k c.in-Some.line.now p.i p.i c.index-line-pair.result c.read.result refl (omega arith) c.index-line-pair.is (cc) ∙ turn.2 p.i (omega arith) in
    let e = err_from_is_err_and c.from_residual.result c.from_residual.ensures.1 in
    let read : c.product.result ≡ k.product (t x p.i) c.args.m = c.product.ensures ∙ ap (λ e. k.product e c.args.m) cell in
    let here = first_here (line_fault k (λ x. t x p.i) c.args.m (t p.j) n) x n e.0 turn.0 c.loop-line.invariant.5 (fault_of_factor k (λ x. t x p.i) c.args.m (t p.j) n x e.0 (sym read ∙ c.in_err-t.was ∙ ap Err (sym e.2))) in
    e.1 ∙ sym (ap (λ o. outcome o tt) here)

pub returns-in_err-try_row : goal.returns-in_err-try_row
returns-in_err-try_row g c =
    let k = g.S.Semiring.entries in
    let p = c.args.pair in
    let n = p.n in
    let t = closure_of k n c.args.cells.now in
    let x = length c.loop-line.yielded in
    let f = c.in_ok-t.t in
    let cut = c.in-Some.ensures.steps.1 in
    let turn = line_turn k n p.i p.j c.args.cells.now (omega arith) (omega arith) (omega arith) (n * n + n * n - n * n) (omega arith) x c.in-Some.line.now (chunks_exact_rest c.next.new.self) (chunks_exact_rest c.loop-line.line-iterator) c.loop-line.invariant.4 cut.0 (omega arith) in
    let cell = read_at k c.in-Some.line.now p.i p.i c.index-line-pair.result c.read.result refl (omega arith) c.index-line-pair.is (cc) ∙ turn.2 p.i (omega arith) in
    let e = err_from_is_err_and c.from_residual-in_err-try_row.result c.from_residual-in_err-try_row.ensures.1 in
    let read : c.product.result ≡ k.product (t x p.i) c.args.m = c.product.ensures ∙ ap (λ e. k.product e c.args.m) cell in
    let row_is = row_refused k n p.i p.j c.args.cells.now (omega arith) (omega arith) (omega arith) (n * n + n * n - n * n) (omega arith) (p.j * n + n - p.j * n) (omega arith) f in
    let fault = some_from_err c.try_row.result (row_fault k f (t p.j) n) tt e.0 (c.try_row.ensures ∙ ap (λ o. outcome o tt) row_is) (c.in_err-try_row.was ∙ ap Err (sym e.2)) in
    let here = first_here (line_fault k (λ x. t x p.i) c.args.m (t p.j) n) x n e.0 turn.0 c.loop-line.invariant.5 (fault_of_row k (λ x. t x p.i) c.args.m (t p.j) n x f (sym read ∙ c.in_ok-t.was) ∙ fault) in
    e.1 ∙ sym (ap (λ o. outcome o tt) here)

pub loop-line-preserved : goal.loop-line-preserved
loop-line-preserved g c =
    let k = g.S.Semiring.entries in
    let p = c.args.pair in
    let n = p.n in
    let t = closure_of k n c.args.cells.now in
    let x = length c.loop-line.yielded in
    let f = c.in_ok-t.t in
    let cut = c.in-Some.ensures.steps.1 in
    let turn = line_turn k n p.i p.j c.args.cells.now (omega arith) (omega arith) (omega arith) (n * n + n * n - n * n) (omega arith) x c.in-Some.line.now (chunks_exact_rest c.next.new.self) (chunks_exact_rest c.loop-line.line-iterator) c.loop-line.invariant.4 cut.0 (omega arith) in
    let cell = read_at k c.in-Some.line.now p.i p.i c.index-line-pair.result c.read.result refl (omega arith) c.index-line-pair.is (cc) ∙ turn.2 p.i (omega arith) in
    let read : c.product.result ≡ k.product (t x p.i) c.args.m = c.product.ensures ∙ ap (λ e. k.product e c.args.m) cell in
    let row_is = row_refused k n p.i p.j c.args.cells.now (omega arith) (omega arith) (omega arith) (n * n + n * n - n * n) (omega arith) (p.j * n + n - p.j * n) (omega arith) f in
    let held = none_from_ok c.try_row.result (row_fault k f (t p.j) n) tt tt (c.try_row.ensures ∙ ap (λ o. outcome o tt) row_is) c.in_ok-try_row.was in
    let passed = first_next (line_fault k (λ x. t x p.i) c.args.m (t p.j) n) x c.loop-line.invariant.5 ∙ fault_of_row k (λ x. t x p.i) c.args.m (t p.j) n x f (sym read ∙ c.in_ok-t.was) ∙ held in
    let count : length (c.loop-line.yielded ++ c.in-Some.line ∷ []) ≡ x + 1 = length-append c.loop-line.yielded (c.in-Some.line ∷ []) in
    let size = c.in-Some.ensures.steps.0 ∙ c.loop-line.invariant.2 in
    let table = take (n * n + n * n - n * n) (drop (n * n) c.args.cells.now) in
    (omega (arith, size), tt, size, omega (arith, count, turn.0), turn.1 ∙ ap (λ q. drop (q * n) table) (sym count), ap (first (line_fault k (λ x. t x p.i) c.args.m (t p.j) n)) count ∙ passed)

pub returns : goal.returns
returns g c =
    let k = g.S.Semiring.entries in
    let p = c.args.pair in
    let n = p.n in
    let t = closure_of k n c.args.cells.now in
    let short = c.in-None.ensures.steps.1 in
    let end = no_line k n p.i p.j c.args.cells.now (omega arith) (omega arith) (omega arith) (n * n + n * n - n * n) (omega arith) (length c.loop-line.yielded) (chunks_exact_rest c.loop-line.line-iterator) c.loop-line.invariant.4 (omega arith) (omega arith) in
    sym (ap (λ o. outcome o tt) (sym (ap (first (line_fault k (λ x. t x p.i) c.args.m (t p.j) n)) end) ∙ c.loop-line.invariant.5))
