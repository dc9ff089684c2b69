use Rattle.std.proofs.Common.{sym, subst}
use Rattle.cmd_base.specs.Refusals.{Tried}
use Rattle.cmd_compare.specs.declared.error.CompareError.{CompareError}
use Rattle.cmd_compare.specs.Answers.{refusal_text}
use Rattle.cmd_compare.proofs.answering.CompareErrorAnswer.print_diagnostics.Goals as goal

pub returns-in-OtherInstances : goal.returns-in-OtherInstances
returns-in-OtherInstances g c =
    subst (λ (e : CompareError). Tried g.V.Out.sink c.args.err.now c.refused_at.new.err (refusal_text e)) (sym c.in-OtherInstances.is) c.refused_at.ensures.line
