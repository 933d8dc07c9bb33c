use Rattle.std.proofs.Common.{◌≡◌, ◌+◌, ◌*◌, ◌∙◌, arith}
use Rattle.closure.proofs.Rows.{read_at}
use Rattle.network.specs.State.{state}
use Rattle.network.proofs.History.{guarantee}
use Rattle.network.proofs.Network.edge.Goals as goal

pub returns-clause-edge_accepted : goal.returns-clause-edge_accepted
returns-clause-edge_accepted g c =
    let k = g.S.Semiring.entries in
    let v = state c.args.self.now in
    let i = c.args.i in
    let j = c.args.j in
    let pair = c.in_ok-pair.ensures.pair in
    let room = c.in_ok-pair.ensures.room in
    let place : c.index.result ≡ i * v.n + j = cc in
    let is = read_at k v.cells c.index.result (i * v.n + j) c.index-self-index.result c.read.result place (omega (arith, room)) c.index-self-index.is c.read.ensures in
    λ edges h. is ∙ (guarantee k g.met.S.Semiring.laws g.met.S.Semiring.exact h).edges_held i j (omega arith) (omega arith)
