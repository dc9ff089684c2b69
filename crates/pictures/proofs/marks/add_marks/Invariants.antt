use Rattle.std.proofs.Common.{take}
use Rattle.std.specs.List.{flat_map}
use Rattle.texts.specs.Writing.{Buffers}
use Rattle.pictures.specs.MarkText.{marks}
use Rattle.pictures.proofs.marks.add_marks.Given as goal

-- the marks so far were added
abbrev pub invariant-loop-report : goal.invariant-loop-report
invariant-loop-report g l = Buffers g.W.Out.sink l.initial.text l.text (flat_map (marks l.picture) (take l.report-index l.reports))
