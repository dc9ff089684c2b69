use Rattle.std.proofs.Common.{◌≡◌, ◌+◌, drop, map}
use Rattle.cmd_import_log.specs.Counting.{lines_read}
use Rattle.cmd_import_log.proofs.counting.lines_read.Given as goal

abbrev pub invariant-loop-text : goal.invariant-loop-text
invariant-loop-text l = l.lines + lines_read l.range (map (λ text. text.now) (drop l.text-index l.texts)) ≡ lines_read l.range (map (λ text. text.now) l.texts)
