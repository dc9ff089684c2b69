use Rattle.races_text.proofs.NamedLemmas.StretchLemmas.{early_hidden, early_shown}
use Rattle.races_text.proofs.named.stretches.hidden_first.Goals as goal

pub returns-then-not-only-clause-hidden : goal.returns-then-not-only-clause-hidden
returns-then-not-only-clause-hidden c = early_hidden c.args.events.now c.args.passed c.args.range.now c.args.only c.early.result c.if-not-only.true c.early.ensures

pub returns-then-not-only-clause-shown : goal.returns-then-not-only-clause-shown
returns-then-not-only-clause-shown c = early_shown c.args.events.now c.args.passed c.args.range.now c.args.only c.early.result c.if-not-only.true c.early.ensures
