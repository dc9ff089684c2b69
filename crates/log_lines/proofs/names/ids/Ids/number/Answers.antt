use Rattle.std.proofs.Common.{◌∙◌, sym}
use Rattle.std.specs.Prelude.{bytes_eq}
use Rattle.diagram_labels.proofs.Tables.{nowhere, placed}
use Rattle.log_lines.proofs.NamesLemmas.IdLemmas.{id_kept}
use Rattle.log_lines.proofs.names.ids.Ids.number.Goals as goal

pub add-requires : goal.add-requires
add-requires c = nowhere (bytes_eq c.args.text.now) c.args.self.now (sym c.place_of.ensures ∙ c.in-None.is)

pub returns-in-Some-clause-kept : goal.returns-in-Some-clause-kept
returns-in-Some-clause-kept c =
    let at = placed (bytes_eq c.args.text.now) c.args.self.now c.in-Some.place (sym c.place_of.ensures ∙ c.in-Some.is) in
    sym (id_kept c.args.self.now c.args.text.now at.1)
