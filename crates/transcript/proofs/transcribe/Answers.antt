use Rattle.std.proofs.Common.{arith}
use Rattle.std.proofs.lemmas.Result.{err_from_is_err_and}
use Rattle.network.specs.State.{state}
use Rattle.transcript.proofs.Cut.{cut_after}
use Rattle.transcript.proofs.transcribe.Goals as goal

pub returns-in_err-println-clause-performed : goal.returns-in_err-println-clause-performed
returns-in_err-println-clause-performed g c =
    let e = err_from_is_err_and c.from_residual.result c.from_residual.ensures.1 in
    cut_after g.S.Semiring.entries c.args.calls.now (state c.args.network.now) (state c.loop-call.network) (state c.perform.new.self) c.loop-call.call-index c.call-item.result
    c.from_residual.result (omega arith) c.call-item.is c.loop-call.invariant.0 c.perform.ensures.state_after e.0 e.1

pub returns-in_err-print_closure-clause-performed : goal.returns-in_err-print_closure-clause-performed
returns-in_err-print_closure-clause-performed g c =
    let e = err_from_is_err_and c.from_residual-in_err-print_closure.result c.from_residual-in_err-print_closure.ensures.1 in
    cut_after g.S.Semiring.entries c.args.calls.now (state c.args.network.now) (state c.loop-call.network) (state c.perform.new.self) c.loop-call.call-index c.call-item.result
    c.from_residual-in_err-print_closure.result (omega arith) c.call-item.is c.loop-call.invariant.0 c.perform.ensures.state_after e.0 e.1
