use Rattle.std.proofs.Common.{sym, subst}
use Rattle.cmd_base.specs.Refusals.{Tried}
use Rattle.cmd_base.specs.declared.pairs.error.PairError.{PairError}
use Rattle.cmd_base.specs.Pairs.Answers.{refusal_text}
use Rattle.cmd_base.proofs.pairs.answering.refused.Goals as goal

pub returns-in-NotEarlier-clause-line : goal.returns-in-NotEarlier-clause-line
returns-in-NotEarlier-clause-line g c =
    subst (λ (e : PairError). Tried g.V.Out.sink c.args.err.now c.refused_by.new.err (refusal_text e)) (sym c.in-NotEarlier.is) c.refused_by.ensures.line

pub returns-in-NotAReceive-clause-line : goal.returns-in-NotAReceive-clause-line
returns-in-NotAReceive-clause-line g c =
    subst (λ (e : PairError). Tried g.V.Out.sink c.args.err.now c.refused_by-in-NotAReceive.new.err (refusal_text e)) (sym c.in-NotAReceive.is) c.refused_by-in-NotAReceive.ensures.line

pub returns-in-ManySlots-clause-line : goal.returns-in-ManySlots-clause-line
returns-in-ManySlots-clause-line g c =
    subst (λ (e : PairError). Tried g.V.Out.sink c.args.err.now c.refused_by-in-ManySlots.new.err (refusal_text e)) (sym c.in-ManySlots.is) c.refused_by-in-ManySlots.ensures.line
