use Rattle.std.proofs.Common.{◌<◌, ◌≤◌, ap, arith, length, map, subst, sym}
use Rattle.std.proofs.lemmas.List.{take_all}
use Rattle.cli.specs.Reading.{IsProgram}
use Rattle.cli.specs.Tables.{command, leaf, rule_by, rules_in}
use Rattle.cli.proofs.TableLemmas.{flat_taken, helpless}
use Rattle.cli.proofs.words.command_of.Goals as goal

pub loop-words-init : goal.loop-words-init
loop-words-init c = helpless c.new.result c.disable_help_flag-command.result c.args.name.now c.new.ensures.app c.new.ensures.local c.disable_help_flag-command.ensures

pub loop-words-preserved : goal.loop-words-preserved
loop-words-preserved c =
    let within : c.loop-words.words-index < length c.args.lists.now = omega arith in
    subst (λ rules. IsProgram c.in_ok-command.command (leaf (command c.args.name.now rules))) (sym (flat_taken (λ list. map rule_by list.now) c.args.lists.now c.loop-words.words-index _ within))
    (c.in_ok-command.ensures _ c.loop-words.invariant)

pub returns : goal.returns
returns c =
    let all : length c.args.lists.now ≤ c.loop-words.words-index = omega arith in
    subst (λ rules. IsProgram c.loop-words.command (leaf (command c.args.name.now rules))) (ap rules_in (take_all c.loop-words.words-index c.args.lists.now all)) c.loop-words.invariant
