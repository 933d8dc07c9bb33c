use Rattle.std.proofs.Common.{◌≡◌, Err, length, sym, ap, ◌∙◌, arith}
use Rattle.std.proofs.lemmas.List.{get_or_read}
use Rattle.std.proofs.lemmas.Result.{err_from_is_err_and}
use Rattle.semiring.proofs.Held.{same_equal}
use Rattle.closure.specs.Cells.{at, blank}
use Rattle.closure.specs.Outcomes.{failed, outcome}
use Rattle.closure.proofs.First.{first_none, first_next, first_here}
use Rattle.closure.proofs.Rows.{none_row_fault}
use Rattle.network.proofs.insertion.try_row.Goals as goal

pub returns-then-same : goal.returns-then-same
returns-then-same g c =
    let k = g.S.Semiring.entries in
    let none_is = same_equal g.met.S.Semiring.laws g.met.S.Semiring.exact c.args.t k.none (cc) in
    sym (ap (λ o. outcome o tt) (none_row_fault k g.met.S.Semiring.laws g.met.S.Semiring.exact c.args.t (at k c.args.row.now) (length c.args.row.now) none_is))

pub loop-cell-init : goal.loop-cell-init
loop-cell-init g c = let k = g.S.Semiring.entries in first_none (λ y. failed (k.product c.args.t (at k c.args.row.now y)))

pub returns-in_err-product : goal.returns-in_err-product
returns-in_err-product g c =
    let k = g.S.Semiring.entries in
    let row = at k c.args.row.now in
    let e = err_from_is_err_and c.from_residual.result c.from_residual.ensures.1 in
    let was = c.in_err-product.was ∙ ap Err (sym e.2) in
    let read : c.product.result ≡ k.product c.args.t (row c.loop-cell.cell-index) = c.product.ensures ∙ ap (k.product c.args.t) (c.read.ensures ∙ ap k.read (get_or_read c.args.row.now c.loop-cell.cell-index c.cell-item.result (omega arith) c.cell-item.is (blank k))) in
    let got : k.product c.args.t (row c.loop-cell.cell-index) ≡ Err e.0 = sym read ∙ was in
    let here = first_here (λ y. failed (k.product c.args.t (row y))) c.loop-cell.cell-index (length c.args.row.now) e.0 (omega arith) c.loop-cell.invariant (ap failed got) in
    e.1 ∙ sym (ap (λ o. outcome o tt) here)

pub loop-cell-preserved : goal.loop-cell-preserved
loop-cell-preserved g c =
    let k = g.S.Semiring.entries in
    let y = c.loop-cell.cell-index in
    let read : c.product.result ≡ k.product c.args.t (at k c.args.row.now y) = c.product.ensures ∙ ap (k.product c.args.t) (c.read.ensures ∙ ap k.read (get_or_read c.args.row.now y c.cell-item.result (omega arith) c.cell-item.is (blank k))) in
    first_next (λ y. failed (k.product c.args.t (at k c.args.row.now y))) y c.loop-cell.invariant ∙ ap failed (sym read ∙ c.in_ok-product.was)
