use Rattle.std.proofs.Common.{sym, subst}
use Rattle.cmd_base.specs.Refusals.{Tried}
use Rattle.cmd_import_diagram.specs.Refusals.{diagram_refusal_text}
use Rattle.cmd_import_diagram.proofs.importing.refused_diagram.Goals as goal

pub returns-in-Unfinished-clause-line : goal.returns-in-Unfinished-clause-line
returns-in-Unfinished-clause-line g c =
    subst (λ e. Tried g.V.Out.sink c.args.err.now c.refused_by-in-Unfinished.new.err (diagram_refusal_text e)) (sym c.in-Unfinished.is) c.refused_by-in-Unfinished.ensures.line
