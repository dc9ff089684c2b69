use Rattle.std.proofs.Common.{inl}
use Rattle.cmd_explain_file.proofs.judging.judge_cycle.Goals as goal

pub steps_of-requires-clause-sends : goal.steps_of-requires-clause-sends
steps_of-requires-clause-sends c = λ r none. c.requires.refused.1 r (inl none)
