use Rattle.std.proofs.Common.{◌≡◌, ◌+◌, ◌-◌, ◌*◌, ◌≤◌, length, take, drop, None}
use Rattle.std.specs.Slice.Iter.{chunks_exact_rest, chunks_exact_size}
use Rattle.closure.specs.Outcomes.{first}
use Rattle.closure.specs.Passes.{line_fault}
use Rattle.network.specs.Layout.{closure_of}
use Rattle.network.proofs.insertion.try_pass.Given as goal

-- no row before the line is refused, and the lines from there on are left
abbrev pub invariant-loop-line : goal.invariant-loop-line
invariant-loop-line g l =
    let n = l.n in
    let t = closure_of g.S.Semiring.entries n l.cells in
    let x = length l.yielded in
    (goal.iterator-loop-line g).can_next l.line-iterator
    × (goal.iterator-loop-line g).is_finite l.line-iterator
    × (chunks_exact_size l.line-iterator ≡ n)
    × (x ≤ n)
    × (chunks_exact_rest l.line-iterator ≡ drop (x * n) (take (n * n + n * n - n * n) (drop (n * n) l.cells)))
    × (first (line_fault g.S.Semiring.entries (λ x. t x l.pair.i) l.m (t l.pair.j) n) x ≡ None)
