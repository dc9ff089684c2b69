use Rattle.std.proofs.Common.{◌<◌, ◌≤◌, ap, arith, length, map, subst, sym}
use Rattle.std.proofs.lemmas.List.{take_all}
use Rattle.cli.specs.Reading.{AddsRules}
use Rattle.cli.specs.Tables.{rule_by}
use Rattle.cli.proofs.TableLemmas.{adds_more, adds_none, map_taken}
use Rattle.cli.proofs.words.with_words.Goals as goal

pub loop-word-init : goal.loop-word-init
loop-word-init c = adds_none c.args.command

pub loop-word-preserved : goal.loop-word-preserved
loop-word-preserved c =
    let within : c.loop-word.word-index < length c.args.words.now = omega arith in
    subst (λ rules. AddsRules c.args.command rules c.in_ok-command.command) (sym (map_taken rule_by c.args.words.now c.loop-word.word-index _ within))
    (adds_more c.args.command c.loop-word.command c.in_ok-command.command c.arg_of.result _ _ c.loop-word.invariant c.in_ok-command.ensures c.arg_of.ensures.rule c.arg_of.ensures.local)

pub returns : goal.returns
returns c =
    let all : length c.args.words.now ≤ c.loop-word.word-index = omega arith in
    subst (λ rules. AddsRules c.args.command rules c.loop-word.command) (ap (map rule_by) (take_all c.loop-word.word-index c.args.words.now all)) c.loop-word.invariant
