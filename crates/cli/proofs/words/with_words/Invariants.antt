use Rattle.std.proofs.Common.{map, take}
use Rattle.cli.specs.Reading.{AddsRules}
use Rattle.cli.specs.Tables.{rule_by}
use Rattle.cli.proofs.words.with_words.Given as goal

abbrev pub invariant-loop-word : goal.invariant-loop-word
invariant-loop-word l = AddsRules l.initial.command (map rule_by (take l.word-index l.words)) l.command
