-- The first line that the kept expression matches is that of the texts.
use Rattle.std.proofs.Common.{◌≡◌, ℕ, List, Option, Some, subst, Ok, Err}
use Rattle.std.specs.Prelude.{Result, IfOk, option_map}
use Rattle.regex.specs.Bytes.{regex_pattern}
use Rattle.log_formats.specs.Patterns.Unread.{first_unread}
use Rattle.log_formats.specs.declared.patterns.expression.Expression.{Expression}
use Rattle.log_lines.specs.declared.range.LineRange.{LineRange}
use Rattle.cmd_import_log.specs.Options.{Pattern}
use Rattle.cmd_import_log.specs.Reading.{IsKept}
use Rattle.log_text.specs.Unread.{shown_line, line_of}
use Rattle.log_text.specs.declared.unread.UnreadLine.{UnreadLine}
use Rattle.cmd_import_log.specs.Unread.{IsFirstUnread}

pub first_as : {E : Type 0} (text : List ℕ) (range : LineRange) (texts : List (List ℕ)) (kept : Option Expression) (e : Expression) (result : Result (Option UnreadLine) E) → kept ≡ Some e → IsKept (Pattern text) kept
    → IfOk result (λ line. option_map line_of line ≡ option_map shown_line (first_unread e.groups e.more (regex_pattern e.regex) range texts))
    → IfOk result (λ line. IsFirstUnread (Pattern text) range texts (option_map line_of line))
first_as text range texts kept e (Ok line) is its same = (e, subst (IsKept (Pattern text)) is its, same)
first_as text range texts kept e (Err failed) is its same = tt
