use Rattle.std.proofs.Common.{◌+◌, ◌-◌, ◌*◌, ◌∙◌, ap, map, arith}
use borrow.Rule.Slice.PartMut.{put_mid}
use Rattle.std.specs.List.{range_with_len}
use Rattle.std.proofs.lemmas.List.{length-take-le}
use Rattle.closure.specs.Cells.{over, blank}
use Rattle.closure.proofs.Over.{put_back, put_front}
use Rattle.network.specs.Faults.{needed}
use Rattle.network.specs.Layout.{identity_cell}
use Rattle.network.proofs.opening.clear_network.Goals as goal

pub returns : goal.returns
returns g c =
    let k = g.S.Semiring.entries in
    let n = c.args.n in
    let xs = c.args.cells.now in
    let none = λ (p : Prim.Native.Nat.ℕ). blank k in
    let m = c.needed.result in
    let cleared = put_front none m xs c.clear.new.cells (c.clear.ensures ∙ ap (λ l. map none (range_with_len 0 l)) (length-take-le m xs (omega arith))) ∙ ap (λ l. over none 0 l xs) c.needed.ensures in
    let closure = put_back (identity_cell k n) (n * n) (over none 0 (needed n) xs) (n * n) (n * n + n * n - n * n) c.write_identity.new.table (omega arith) c.write_identity.ensures in
    ap (λ z. put_mid (n * n) (n * n + n * n - n * n) z c.write_identity.new.table) cleared ∙ closure
