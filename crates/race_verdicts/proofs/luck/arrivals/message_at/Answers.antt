use Rattle.std.proofs.Common.{◌∙◌, sym, ap}
use Rattle.log_chart.specs.Items.{message_of}
use Rattle.race_verdicts.proofs.LuckLemmas.LineLemmas.{there}
use Rattle.race_verdicts.proofs.LuckLemmas.TableLemmas.{some_same}
use Rattle.race_verdicts.proofs.luck.arrivals.message_at.Goals as goal

pub returns : goal.returns
returns c = λ x is.
    let y = c.index-lines-number.result in
    c.message_of.ensures ∙ ap message_of (some_same (sym (there c.args.lines.now c.args.number y c.requires c.index-lines-number.is) ∙ is))
