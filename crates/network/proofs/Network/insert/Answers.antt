use Rattle.std.proofs.Common.{◌≡◌, Ok, rules}
use Rattle.network.specs.Calls.{after_insert}
use Rattle.network.specs.State.{state, state_with}
use Rattle.network.specs.declared.call.Call.TheVariants.{Insert}
use Rattle.network.proofs.History.{carried_on, cycle_answer_exact}
use Rattle.network.proofs.Network.insert.Goals as goal
use Rattle.network.proofs.Tried.{accepted_inserts}

pub returns-in_err-insert_edge-clause-cycle_refused_exactly : goal.returns-in_err-insert_edge-clause-cycle_refused_exactly
returns-in_err-insert_edge-clause-cycle_refused_exactly g c =
    cycle_answer_exact g.S.Semiring.entries g.met.S.Semiring.laws g.met.S.Semiring.exact c.args.i c.args.j c.args.edge (state c.args.self.now) c.from_residual-in_err-insert_edge.result (search rules)

pub returns-clause-accepted_inserts : goal.returns-clause-accepted_inserts
returns-clause-accepted_inserts g c =
    let k = g.S.Semiring.entries in
    let v = state c.args.self.now in
    let left : state_with v.n c.insert_edge.new.cells ≡ after_insert k c.args.i c.args.j c.args.edge v = search rules in
    accepted_inserts k g.met.S.Semiring.exact v c.args.i c.args.j c.args.edge g.met.S.Semiring.laws (state_with v.n c.insert_edge.new.cells) left

pub returns-clause-history_carried_on : goal.returns-clause-history_carried_on
returns-clause-history_carried_on g c =
    let k = g.S.Semiring.entries in
    let v = state c.args.self.now in
    let left : state_with v.n c.insert_edge.new.cells ≡ after_insert k c.args.i c.args.j c.args.edge v = search rules in
    carried_on k (Insert c.args.i c.args.j c.args.edge) v (state_with v.n c.insert_edge.new.cells) left

pub returns-clause-cycle_refused_exactly : goal.returns-clause-cycle_refused_exactly
returns-clause-cycle_refused_exactly g c =
    cycle_answer_exact g.S.Semiring.entries g.met.S.Semiring.laws g.met.S.Semiring.exact c.args.i c.args.j c.args.edge (state c.args.self.now) (Ok tt) (search rules)
