use Rattle.std.proofs.Common.{◌-◌, ap₂, sym, ◌∙◌, length-drop}
use Rattle.chart.specs.Histories.{sent, received}
use Rattle.reordering.specs.OtherRuns.Walks.{sends_in}
use Rattle.reordering.proofs.witness.numbered.Passed.waiting.Goals as goal

pub returns : goal.returns
returns c = λ h passed.
    c.saturating_sub.ensures ∙ ap₂ (λ a b. a - b) (c.at.ensures (sends_in h) passed.sent) (c.at-2.ensures (received h) passed.received) ∙ sym (length-drop (received h c.args.from c.args.to) (sent h c.args.from c.args.to))
