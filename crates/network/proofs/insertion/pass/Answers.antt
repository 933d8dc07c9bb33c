use Rattle.std.proofs.Common.{◌≡◌, ◌+◌, ◌-◌, ◌*◌, length, arith}
use Rattle.std.proofs.lemmas.List.{get_or_read}
use Rattle.std.proofs.lemmas.List.FromFn.{fill_by_all}
use Rattle.closure.specs.Cells.{blank, at, times}
use Rattle.closure.specs.Passes.{passed_cell}
use Rattle.closure.proofs.Rows.{pass_row}
use Rattle.network.proofs.insertion.pass.Goals as goal

pub loop-x-preserved : goal.loop-x-preserved
loop-x-preserved g c =
    let k = g.S.Semiring.entries in
    let n = length c.args.row.now in
    let x = c.loop-x.x in
    let read = get_or_read c.args.column.now x c.index-column-x.result (omega arith) c.index-column-x.is (blank k) in
    let t_is : c.unwrap_or-t.result ≡ times k (at k c.args.column.now x) c.args.m = cc in
    pass_row k (at k c.args.column.now) c.args.m (at k c.args.row.now) n c.args.table.now c.loop-x.table c.relax.new.line x (x * n + n - x * n)
    c.unwrap_or-t.result (omega arith) (omega arith) (omega arith) c.loop-x.invariant t_is c.relax.ensures

pub returns : goal.returns
returns g c =
    let k = g.S.Semiring.entries in
    let n = length c.args.row.now in
    let end : c.loop-x.x ≡ n = omega arith in
    fill_by_all (passed_cell k (at k c.args.column.now) c.args.m (at k c.args.row.now) n 0 c.args.table.now) c.loop-x.table (n * n) (blank k) (omega arith)
    (λ p h. c.loop-x.invariant.0 p (rw end h))
