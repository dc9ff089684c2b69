use Rattle.std.proofs.Common.{get_or, ap}
use Rattle.chart_layout.proofs.EndLemmas.{IsSet-from_row}
use Rattle.chart_layout.proofs.ends.put.Goals as goal

pub returns : goal.returns
returns c =
    let row = get_or c.args.lines.now c.place.result c.index-lines-place.result in
    IsSet-from_row c.args.event.now c.args.end.now c.args.lines.now c.place.result row c.set.new.self c.requires c.place.ensures.value (ap (get_or c.args.lines.now c.place.result) c.index-lines-place.is) c.set.ensures
