use Rattle.closure.proofs.Theory.{theory}
use Rattle.network.proofs.History.{every_history}
use Rattle.network.proofs.Network.perform.Goals as goal

pub returns-in-Open-clause-every_history_guaranteed : goal.returns-in-Open-clause-every_history_guaranteed
returns-in-Open-clause-every_history_guaranteed g c = every_history g.S.Semiring.entries g.met.S.Semiring.laws g.met.S.Semiring.exact

pub returns-in-Open-clause-theory_of_closures : goal.returns-in-Open-clause-theory_of_closures
returns-in-Open-clause-theory_of_closures g c = theory g.met.S.Semiring.laws

pub returns-in-Insert-clause-every_history_guaranteed : goal.returns-in-Insert-clause-every_history_guaranteed
returns-in-Insert-clause-every_history_guaranteed g c = every_history g.S.Semiring.entries g.met.S.Semiring.laws g.met.S.Semiring.exact

pub returns-in-Insert-clause-theory_of_closures : goal.returns-in-Insert-clause-theory_of_closures
returns-in-Insert-clause-theory_of_closures g c = theory g.met.S.Semiring.laws

pub returns-in-Edge-clause-every_history_guaranteed : goal.returns-in-Edge-clause-every_history_guaranteed
returns-in-Edge-clause-every_history_guaranteed g c = every_history g.S.Semiring.entries g.met.S.Semiring.laws g.met.S.Semiring.exact

pub returns-in-Edge-clause-theory_of_closures : goal.returns-in-Edge-clause-theory_of_closures
returns-in-Edge-clause-theory_of_closures g c = theory g.met.S.Semiring.laws

pub returns-in-Closure-clause-every_history_guaranteed : goal.returns-in-Closure-clause-every_history_guaranteed
returns-in-Closure-clause-every_history_guaranteed g c = every_history g.S.Semiring.entries g.met.S.Semiring.laws g.met.S.Semiring.exact

pub returns-in-Closure-clause-theory_of_closures : goal.returns-in-Closure-clause-theory_of_closures
returns-in-Closure-clause-theory_of_closures g c = theory g.met.S.Semiring.laws
