use Rattle.std.proofs.Common.{length, map, ap, arith}
use Rattle.std.proofs.lemmas.List.{length-map}
use Rattle.diagrams.specs.Diagrams.{participant_view}
use Rattle.diagrams.proofs.ChartBuildLemmas.{has_chart}
use Rattle.diagram_import.proofs.margin.notes.all_remarks.Goals as goal

pub own_remarks-requires : goal.own_remarks-requires
own_remarks-requires c =
    omega (arith, (has_chart (length (map participant_view c.args.diagram.now.participants.items)) c.requires).1, length-map c.args.diagram.now.participants.items participant_view, ap length c.deref.ensures.value)
