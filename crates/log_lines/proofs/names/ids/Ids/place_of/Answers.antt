use Rattle.std.proofs.Common.{◌∙◌, sym, ap}
use Rattle.std.specs.Prelude.{bytes_eq, position}
use Rattle.diagram_labels.proofs.Tables.{position_mapped}
use Rattle.log_lines.proofs.names.ids.Ids.place_of.Goals as goal

pub returns : goal.returns
returns c =
    c.get_index_of.ensures.index ∙ sym (position_mapped (λ text. text.items) (bytes_eq c.args.text.now) c.self.inside.texts.keys)
    ∙ ap (λ l. position (bytes_eq c.args.text.now) l) c.self.view_is
