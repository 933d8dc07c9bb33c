use Rattle.std.proofs.Common.{◌≡◌, ◌+◌, ◌*◌, sym, subst, arith}
use Rattle.closure.specs.Cells.{values}
use Rattle.closure.specs.Walks.{LeastOverWalks}
use Rattle.closure.proofs.Rows.{read_at}
use Rattle.network.specs.State.{state}
use Rattle.network.proofs.History.{guarantee}
use Rattle.network.proofs.Network.closure.Goals as goal

pub returns-clause-best_over_walks : goal.returns-clause-best_over_walks
returns-clause-best_over_walks g c =
    let k = g.S.Semiring.entries in
    let v = state c.args.self.now in
    let n = c.in_ok-pair.pair.n in
    let i = c.args.i in
    let j = c.args.j in
    let pair = c.in_ok-pair.ensures.pair in
    let room = c.in_ok-pair.ensures.room in
    let place : n * n + c.index.result ≡ v.n * v.n + (i * v.n + j) = cc in
    let is = read_at k v.cells (n * n + c.index.result) (v.n * v.n + (i * v.n + j)) c.index-self-pair.result c.read.result place (omega (arith, room)) c.index-self-pair.is c.read.ensures in
    λ edges h. subst (λ e. LeastOverWalks g.S.Semiring.values v.n (values k edges) i j (k.value e)) (sym is) ((guarantee k g.met.S.Semiring.laws g.met.S.Semiring.exact h).closure_best i j (omega arith) (omega arith))
