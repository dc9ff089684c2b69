use Rattle.chart.specs.Ranges.{events_in}
use Rattle.shown_races.specs.Kept.{is_kept_after}
use Rattle.races_text.proofs.NamedLemmas.StretchLemmas.{shown_behind}
use Rattle.races_text.proofs.named.stretches.take_shown.Goals as goal

pub returns-clause-events : goal.returns-clause-events
returns-clause-events c =
    let left = c.args.left.now in
    shown_behind (is_kept_after c.args.events.now c.args.only c.args.passed) left.rest c.behind-left.result c.shown_first-count.result (events_in left.ranges.now) c.behind-left.ensures c.shown_first-count.ensures.shown
