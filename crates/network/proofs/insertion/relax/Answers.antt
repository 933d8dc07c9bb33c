use Rattle.std.proofs.Common.{◌≡◌, length, true, get_or, sym, ap, cond, arith}
use Rattle.std.proofs.lemmas.List.FromFn.{fill_by_all}
use Rattle.closure.specs.Cells.{blank, at, times}
use Rattle.closure.specs.Passes.{raised_cell}
use Rattle.network.proofs.insertion.relax.Goals as goal

pub returns-then-same : goal.returns-then-same
returns-then-same g c =
    let k = g.S.Semiring.entries in
    let xs = c.args.line.now in
    let row = at k c.args.row.now in
    let skipped : k.same c.args.t k.none ≡ true = cc in
    fill_by_all (raised_cell k c.args.t row xs) xs (length c.args.row.now) (blank k) (omega arith)
    (λ p h. sym (ap (λ b. cond b (get_or xs p (blank k)) (k.write (k.sum (at k xs p) (times k c.args.t (row p))))) skipped))

pub returns : goal.returns
returns g c =
    let k = g.S.Semiring.entries in
    fill_by_all (raised_cell k c.args.t (at k c.args.row.now) c.args.line.now) c.loop-y.line (length c.args.row.now) (blank k) (omega arith)
    (λ p h. c.loop-y.invariant.0 p (omega arith))
