-- The first line of a log's texts with a match of its expression that isn't read.
use Rattle.std.specs.Prelude.{◌≡◌, ℕ, List, Option, None, option_map}
use Rattle.regex.specs.Bytes.{regex_pattern}
use Rattle.log_formats.specs.Patterns.Expressions.{IsExpression}
use Rattle.log_formats.specs.Patterns.Unread.{UnreadLineView, first_unread}
use Rattle.log_formats.specs.declared.patterns.expression.Expression.{Expression}
use Rattle.log_lines.specs.declared.range.LineRange.{LineRange}
use Rattle.log_text.specs.Unread.{shown_line}
use Rattle.cmd_import_log.specs.Options.{FormView, Plain, Pattern, ShiViz}

-- the first line of the texts with a match of the expression with this text that isn't read
abbrev pub IsFirstBy : List ℕ → LineRange → List (List ℕ) → Option UnreadLineView → Type 0
IsFirstBy text range texts line =
    (e : Expression) × IsExpression text e × (line ≡ option_map shown_line (first_unread e.groups e.more (regex_pattern e.regex) range texts))

-- the same for any form; without an expression there is none
abbrev pub IsFirstUnread : FormView → LineRange → List (List ℕ) → Option UnreadLineView → Type 0
IsFirstUnread Plain range texts line = line ≡ None
IsFirstUnread (Pattern text) range texts line = IsFirstBy text range texts line
IsFirstUnread ShiViz range texts line = line ≡ None
