use Rattle.std.proofs.Common.{List, ◌++◌, sym, ap, ◌∙◌}
use Rattle.chart.specs.declared.instance.EventNo.{EventNo}
use Rattle.chart.specs.Ranges.{events_of}
use Rattle.races_text.proofs.judged.parts.has_later.Goals as goal

pub returns-in-None-clause-same : goal.returns-in-None-clause-same
returns-in-None-clause-same c =
    let events = c.in-None.ensures.events in
    ap (λ (es : List EventNo). events_of c.args.left.now.rest ++ es) (events.1 ∙ sym events.0)
