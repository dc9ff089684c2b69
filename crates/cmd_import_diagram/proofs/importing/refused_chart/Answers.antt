use Rattle.std.proofs.Common.{sym, subst}
use Rattle.cmd_base.specs.Refusals.{Tried}
use Rattle.cmd_import_diagram.specs.Refusals.{chart_refusal_text}
use Rattle.cmd_import_diagram.proofs.importing.refused_chart.Goals as goal

pub returns-in-Taken-clause-line : goal.returns-in-Taken-clause-line
returns-in-Taken-clause-line g c =
    subst (λ e. Tried g.V.Out.sink c.args.err.now c.refused_by-in-Taken.new.err (chart_refusal_text e)) (sym c.in-Taken.is) c.refused_by-in-Taken.ensures.line

pub returns-in-LineFull-clause-line : goal.returns-in-LineFull-clause-line
returns-in-LineFull-clause-line g c =
    subst (λ e. Tried g.V.Out.sink c.args.err.now c.refused_by-in-LineFull.new.err (chart_refusal_text e)) (sym c.in-LineFull.is) c.refused_by-in-LineFull.ensures.line

pub returns-in-NotPossible-clause-line : goal.returns-in-NotPossible-clause-line
returns-in-NotPossible-clause-line g c =
    subst (λ e. Tried g.V.Out.sink c.args.err.now c.refused_by-in-NotPossible.new.err (chart_refusal_text e)) (sym c.in-NotPossible.is) c.refused_by-in-NotPossible.ensures.line
