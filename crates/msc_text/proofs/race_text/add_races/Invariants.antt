use Rattle.std.proofs.Common.{take}
use Rattle.std.specs.List.{flat_map}
use Rattle.msc_text.specs.RaceText.{report_text}
use Rattle.texts.specs.Writing.{Buffers}
use Rattle.msc_text.proofs.race_text.add_races.Given as goal

-- the reports so far were added
abbrev pub invariant-loop-report : goal.invariant-loop-report
invariant-loop-report g l =
    Buffers g.W.Out.sink l.initial.text l.text (flat_map (report_text l.names) (take l.report-index l.reports))
