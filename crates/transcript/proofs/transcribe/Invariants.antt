use Rattle.std.proofs.Common.{◌≡◌, take}
use Rattle.network.specs.State.{state}
use Rattle.transcript.specs.Transcript.{after_all}
use Rattle.transcript.proofs.transcribe.Given as goal

-- the calls so far are made, on the cells that were lent
abbrev pub invariant-loop-call : goal.invariant-loop-call
invariant-loop-call g l =
    (state l.network ≡ after_all g.S.Semiring.entries (take l.call-index l.calls) (state l.initial.network))
    × (l.network.cells.ghost_name ≡ l.initial.network.cells.ghost_name)
