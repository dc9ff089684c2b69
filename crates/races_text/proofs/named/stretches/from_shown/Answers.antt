use Rattle.shown_races.specs.Kept.{is_kept_after}
use Rattle.races_text.proofs.NamedLemmas.StretchLemmas.{hidden_behind, first_behind}
use Rattle.races_text.proofs.named.stretches.from_shown.Goals as goal

pub returns-clause-same : goal.returns-clause-same
returns-clause-same c =
    hidden_behind (is_kept_after c.args.events.now c.args.only c.args.passed) c.args.range.now c.behind.result c.hidden_first-count.result c.behind.ensures c.hidden_first-count.ensures.hidden

pub returns-clause-first : goal.returns-clause-first
returns-clause-first c =
    first_behind (is_kept_after c.args.events.now c.args.only c.args.passed) c.args.range.now c.behind.result c.hidden_first-count.result c.behind.ensures c.hidden_first-count.ensures.shown
