use Rattle.std.proofs.Common.{arith}
use Rattle.diagram_tool.proofs.DetectionLemmas.GapLoops.{none_yet, all_passed, one_more}
use Rattle.diagram_tool.proofs.detection.gaps.gaps_length.Goals as goal

pub gaps-init : goal.gaps-init
gaps-init c = none_yet c.args.text.now

pub returns-then-gap-eq0-clause-value : goal.returns-then-gap-eq0-clause-value
returns-then-gap-eq0-clause-value c = all_passed c.args.text.now _ _ _ c.gaps.invariant c.split_at.ensures.back c.gap_length-gap.ensures.value c.if-gap-eq0.true

pub gaps-preserved : goal.gaps-preserved
gaps-preserved c = one_more c.args.text.now _ _ _ c.gaps.invariant c.split_at.ensures.back c.gap_length-gap.ensures.value (omega arith) c.gap_length-gap.ensures.within
