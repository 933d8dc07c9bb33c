use Rattle.std.proofs.Common.{◌≡◌, rules}
use Rattle.network.specs.Calls.{after_open}
use Rattle.network.specs.State.{state, state_with}
use Rattle.network.specs.declared.call.Call.TheVariants.{Open}
use Rattle.network.proofs.History.{carried_on}
use Rattle.network.proofs.Network.open.Goals as goal
use Rattle.network.proofs.Tried.{accepted_opens}

pub returns-clause-accepted_opens : goal.returns-clause-accepted_opens
returns-clause-accepted_opens g c =
    let k = g.S.Semiring.entries in
    let n = c.args.n in
    let v = state c.args.self.now in
    let left : state_with n c.clear_network.new.cells ≡ after_open k n v = search rules in
    accepted_opens k g.met.S.Semiring.exact n v (state_with n c.clear_network.new.cells) left

pub returns-clause-history_carried_on : goal.returns-clause-history_carried_on
returns-clause-history_carried_on g c =
    let k = g.S.Semiring.entries in
    let n = c.args.n in
    let v = state c.args.self.now in
    let left : state_with n c.clear_network.new.cells ≡ after_open k n v = search rules in
    carried_on k (Open n) v (state_with n c.clear_network.new.cells) left
