use Rattle.std.proofs.Common.{◌≡◌, ◌+◌, ◌-◌, ◌*◌, ◌∙◌, ap, refl, ◌++◌, length, take, drop, arith}
use Rattle.std.proofs.lemmas.List.{drop-drop, length-append, length-take-le}
use Rattle.network.proofs.Spread.{spread_is}
use Rattle.network.proofs.insertion.spread.Goals as goal

pub returns : goal.returns
returns g c =
    let k = g.S.Semiring.entries in
    let p = c.args.pair in
    let n = p.n in
    let xs = c.args.cells.now in
    let rest : c.split_at_mut-edges.result.1.now ≡ drop (n * n) xs = c.split_at_mut-edges.ensures.back in
    let table_is : c.split_at_mut-closure.result.0.now ≡ take (n * n) (drop (n * n) xs) = c.split_at_mut-closure.ensures.front ∙ ap (take (n * n)) rest in
    let behind : c.split_at_mut-closure.result.1.now ≡ drop (n * n + n * n) xs = c.split_at_mut-closure.ensures.back ∙ ap (drop (n * n)) rest ∙ drop-drop (n * n) (n * n) xs in
    let scratch_long = length-take-le (n + n) c.split_at_mut-closure.result.1.now (omega arith) in
    spread_is k n p.i p.j xs (omega arith) (omega arith) (omega arith) (n * n) refl c.args.m (p.j * n + n - p.j * n) (length c.split_at_mut-column.result.0.now)
    (length (c.copy_column.new.column ++ c.copy_from_slice.new.self))
    c.split_at_mut-edges.result.0.now c.split_at_mut-closure.result.0.now c.copy_column.new.column c.copy_from_slice.new.self c.pass.new.table c.clear.new.cells c.split_at_mut-closure.result.1.now
    (omega arith) c.split_at_mut-column.ensures.front_len (simp length-append (omega (arith, scratch_long))) c.split_at_mut-edges.ensures.front table_is
    c.copy_column.ensures c.copy_from_slice.ensures.after c.pass.ensures c.clear.ensures behind
