use Rattle.std.proofs.Common.{map, ap, arith}
use Rattle.diagram_mscgen.specs.Grammar.Arcs.{arc_view}
use Rattle.diagram_mscgen.specs.Reading.Arcs.{RowsView}
use Rattle.diagram_mscgen.proofs.ReadingLemmas.ArcLemmas.{row_stays, ended_most}
use Rattle.diagram_mscgen.proofs.reading.arcs.Rows.add.Goals as goal

pub end_row-requires : goal.end_row-requires
end_row-requires c =
    let stays = row_stays (map (λ w. w.now) c.args.words.now) c.args.last (arc_view c.args.arc.now) c.args.self.now c.add_event.new.self c.in_ok-add_event.ensures in
    let room = c.requires in
    omega arith

pub returns-clause-row : goal.returns-clause-row
returns-clause-row c =
    let stays = row_stays (map (λ w. w.now) c.args.words.now) c.args.last (arc_view c.args.arc.now) c.args.self.now c.add_event.new.self c.in_ok-add_event.ensures in
    let most = ended_most c.args.arc.now.ends_row c.add_event.new.self in
    let is = ap (λ (r : RowsView). r.row) c.end_row.ensures in
    omega arith
