use Rattle.std.proofs.Common.{sym, ap, ◌∙◌}
use Rattle.std.proofs.lemmas.List.{length-map}
use Rattle.diagrams.specs.Diagrams.{participant_view}
use Rattle.diagrams.specs.Building.{has_no_chart}
use Rattle.diagram_import.proofs.margin.notes.is_without_chart.Goals as goal

pub returns : goal.returns
returns c =
    c.has_no_chart.ensures
    ∙ ap has_no_chart (c.len.ensures ∙ c.args.diagram.now.participants.ok.0 ∙ sym (length-map c.args.diagram.now.participants.items participant_view))
