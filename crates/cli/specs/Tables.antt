-- Commands as tables of their words. Each word is a rule for an argument, as `clap` defines it, and so are commands.
use Rattle.std.specs.Prelude.{ℕ, true, List, [], map, Some}
use Rattle.std.specs.List.{flat_map}
use Rattle.std.specs.Borrow.{Bor}
use Rattle.clap.specs.Lexer.{usize_max}
use Rattle.clap.specs.Walk.{is_empty}
use Rattle.clap.specs.Simple.{new_shape}
use Rattle.clap.specs.Words.{App, Rule, Shape, Text, new_rule}
use Rattle.clap.specs.declared.builder.action.ArgAction.TheVariants.{Set, Append, SetTrue}
use Rattle.cli.specs.declared.words.Word.{Word}
use Rattle.cli.specs.declared.words.Word.TheVariants as words

-- a required word
abbrev pub needed : Text → Rule
needed name = record (new_rule name) { required = true; action = Some Set }

-- an optional word
abbrev pub free : Text → Rule
free name = record (new_rule name) { action = Some Set }

-- any number of words, at the end
abbrev pub rest : Text → Rule
rest name = record (new_rule name) {
  range = Some (record { start_inclusive = 0; end_inclusive = usize_max });
  action = Some Append;
}

-- an option with this number of words after it, which is given at most once
abbrev pub option : Text → ℕ → Rule
option name count = record (new_rule name) {
  long = Some name;
  range = Some (record { start_inclusive = count; end_inclusive = count });
  action = Some Set;
}

-- a required option with a word, which is given once
abbrev pub needed_option : Text → Rule
needed_option name = record (new_rule name) { long = Some name; required = true; action = Some Set }

-- an option with a word, which may be given several times
abbrev pub repeated : Text → Rule
repeated name = record (new_rule name) { long = Some name; action = Some Append }

-- an option without a word, which is given at most once
abbrev pub flag : Text → Rule
flag name = record (new_rule name) { long = Some name; action = Some SetTrue }

-- a command of this name with these words; it has no option for help
abbrev pub command : Text → List Rule → Shape
command name rules = record (new_shape name) { rules = rules; disable_help_flag = true }

-- a command without commands of its own
abbrev pub leaf : Shape → App
leaf shape = record { top = shape; subs = [] }

-- a program of this name with these commands, one of which is required; it has no option and no command for help
abbrev pub program : Text → List Shape → App
program name commands = record {
  top = record (new_shape name) {
    is_leaf = is_empty commands;
    disable_help_flag = true;
    disable_help_subcommand = true;
    subcommand_required = true;
  };
  subs = commands;
}

-- the same for the tables of the code

abbrev pub rule_by : Word → Rule
rule_by (words.Needed name) = needed name.now
rule_by (words.Free name) = free name.now
rule_by (words.Rest name) = rest name.now
rule_by (words.Option name count) = option name.now count
rule_by (words.NeededOption name) = needed_option name.now
rule_by (words.Repeated name) = repeated name.now
rule_by (words.Flag name) = flag name.now

-- the rules of all of these lists
abbrev pub rules_in : List (Bor (List Word)) → List Rule
rules_in = flat_map (λ list. map rule_by list.now)

abbrev pub command_by : Bor Text × Bor (List (Bor (List Word))) → Shape
command_by row = command row.0.now (rules_in row.1.now)

abbrev pub commands_by : List (Bor Text × Bor (List (Bor (List Word)))) → List Shape
commands_by = map command_by
