use Rattle.std.proofs.Common.{◌<◌, ◌≤◌, ap, arith, length, subst, sym}
use Rattle.std.proofs.lemmas.List.{take_all}
use Rattle.cli.specs.Reading.{IsProgram}
use Rattle.cli.specs.Tables.{command_by, commands_by, program}
use Rattle.cli.proofs.TableLemmas.{map_taken, one_more, commanded}
use Rattle.cli.proofs.words.program_of.Goals as goal

pub loop-name-init : goal.loop-name-init
loop-name-init c = commanded c.new.result c.disable_help_flag.result c.disable_help_subcommand.result c.subcommand_required-program.result c.args.name.now c.new.ensures.app c.new.ensures.local
    c.disable_help_flag.ensures c.disable_help_subcommand.ensures c.subcommand_required-program.ensures

pub loop-name-preserved : goal.loop-name-preserved
loop-name-preserved c =
    let within : c.loop-name.name-index < length c.args.commands.now = omega arith in
    subst (λ shapes. IsProgram c.in_ok-program.program (program c.args.name.now shapes)) (sym (map_taken command_by c.args.commands.now c.loop-name.name-index _ within))
    (one_more c.args.name.now _ _ c.loop-name.program _ c.in_ok-program.program c.loop-name.invariant c.in_ok-command_of.ensures c.in_ok-program.ensures)

pub returns : goal.returns
returns c =
    let all : length c.args.commands.now ≤ c.loop-name.name-index = omega arith in
    subst (λ shapes. IsProgram c.loop-name.program (program c.args.name.now shapes)) (ap commands_by (take_all c.loop-name.name-index c.args.commands.now all)) c.loop-name.invariant
