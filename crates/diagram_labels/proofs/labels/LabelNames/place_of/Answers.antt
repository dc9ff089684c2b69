use Rattle.std.proofs.Common.{◌∙◌, sym, ap}
use Rattle.std.specs.Prelude.{bytes_eq, position}
use Rattle.diagram_labels.proofs.Tables.{position_mapped}
use Rattle.diagram_labels.proofs.labels.LabelNames.place_of.Goals as goal

pub returns-clause-place : goal.returns-clause-place
returns-clause-place c =
    c.get_index_of.ensures.index ∙ sym (position_mapped (λ label. label.items) (bytes_eq c.args.label.now) c.self.inside.labels.keys)
    ∙ ap (λ l. position (bytes_eq c.args.label.now) l.labels) c.self.view_is
