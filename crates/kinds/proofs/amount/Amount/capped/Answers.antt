use Rattle.std.proofs.Common.{◌≡◌, rules}
use Rattle.kinds.specs.Numbers.{capped}
use Rattle.kinds.specs.Exact.{entry_path}
use Rattle.kinds.proofs.amount.Amount.capped.Goals as goal

pub returns : goal.returns
returns g c =
    let number = g.N.Number in
    let same : c.if-is_within.result ≡ capped number.numbers number.LIMIT number.NONE c.args.number = search rules in
    entry_path _ _ same
