use Rattle.schedule_replay.proofs.reordered_runs.going.Going.make.Goals as goal

pub returns-clause-passed : goal.returns-clause-passed
returns-clause-passed c = λ h passed. (c.next.ensures h passed).1
