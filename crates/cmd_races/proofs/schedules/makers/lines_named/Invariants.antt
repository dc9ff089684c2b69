use Rattle.std.proofs.Common.{◌≡◌, map, take}
use Rattle.cmd_races.specs.Schedules.Tables.{named_lines}
use Rattle.cmd_races.proofs.schedules.makers.lines_named.Given as goal

abbrev pub invariant-loop-line : goal.invariant-loop-line
invariant-loop-line l = map (λ table. table.items) l.tables.items ≡ named_lines l.commands l.notes (take l.line-index l.lines)
