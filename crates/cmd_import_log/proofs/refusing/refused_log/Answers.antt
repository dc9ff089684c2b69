use Rattle.std.proofs.Common.{map, sym, subst}
use Rattle.cmd_base.specs.Refusals.{Tried}
use Rattle.cmd_import_log.specs.Refusals.{log_refusal_text}
use Rattle.cmd_import_log.proofs.refusing.refused_log.Goals as goal

pub returns-in-ToItself-clause-line : goal.returns-in-ToItself-clause-line
returns-in-ToItself-clause-line g c =
    subst (λ e. Tried g.V.Out.sink c.args.err.now c.refused_by-in-ToItself.new.err (log_refusal_text (map (λ file. file.now) c.args.files.now) e)) (sym c.in-ToItself.is) c.refused_by-in-ToItself.ensures.line

pub returns-in-Instances-clause-line : goal.returns-in-Instances-clause-line
returns-in-Instances-clause-line g c =
    subst (λ e. Tried g.V.Out.sink c.args.err.now c.refused_by-in-Instances.new.err (log_refusal_text (map (λ file. file.now) c.args.files.now) e)) (sym c.in-Instances.is) c.refused_by-in-Instances.ensures.line
