-- Expressions by which the lines of a log are read: what the regex crate reads in a text, with its own options for
-- bytes.
use Rattle.std.specs.Prelude.{◌≡◌, ◌≢◌, ℕ, ◌+◌, false, List, length, Option, None, Some, IsCharBoundary}
use Rattle.regex.specs.Bytes.{regex_source, regex_config, regex_names, IsReadFromSource}
use Rattle.regex.specs.Failures.{IsPattern}
use Rattle.regex.specs.Patterns.{Config, default_config, Refuses}
use Rattle.regex.specs.declared.bytes.regex.Regex.{Regex}
use Rattle.regex_syntax.specs.declared.error.ErrorKind.{ErrorKind}
use Rattle.regex_syntax.specs.declared.error.ErrorKind.TheVariants.{OutOfMemory}
use Rattle.log_formats.specs.Patterns.Feeds.{feeds_from}
use Rattle.log_formats.specs.Patterns.Groups.{groups_in, AreAmong}
use Rattle.log_formats.specs.Patterns.Missing.{lacks, lacks_besides}
use Rattle.log_formats.specs.declared.patterns.expression.Expression.{Expression}
use Rattle.log_formats.specs.declared.patterns.expression.BadExpression.{BadExpression}
use Rattle.log_formats.specs.declared.patterns.expression.BadExpression.TheVariants.{Memory, At}
use Rattle.log_formats.specs.declared.patterns.expression.Fault.{Fault}
use Rattle.log_formats.specs.declared.patterns.expression.Fault.TheVariants.{Unreadable, TooLarge, Lacks}
use Rattle.log_formats.specs.declared.patterns.missing.Group.{Group}
use Rattle.log_formats.specs.declared.patterns.feeds.Behind.TheVariants.{Other}

-- the options with which an expression for bytes is read if none is chosen: it is case-sensitive, `.` matches no line
-- feed, and `^` and `$` match at the ends of all that is searched at once
abbrev pub own_config : Config
own_config = record default_config { utf8 = false }

-- the text, compiled with these options
pub record IsCompiled (text : List ℕ) (r : Regex) : Type 0 where
  pub source : regex_source r ≡ text
  pub config : regex_config r ≡ own_config
  pub read : IsReadFromSource r

-- an expression with this text: what the regex crate reads in it, its groups, and its number of line feeds
pub record IsExpression (text : List ℕ) (e : Expression) : Type 0 where
  pub compiled : IsCompiled text e.regex
  pub groups : Some e.groups ≡ groups_in (regex_names e.regex)
  pub among : AreAmong (length (regex_names e.regex)) e.groups
  pub more : e.more ≡ feeds_from Other 0 text

-- the grammar refuses the text for this fault, which begins at the character at this place, counted in bytes from 1, or
-- after the last one
pub record IsUnreadable (text : List ℕ) (kind : ErrorKind) (place : ℕ) : Type 0 where
  pub refused : Refuses own_config text kind
  pub not_memory : kind ≢ OutOfMemory
  pub start : ℕ
  pub boundary : IsCharBoundary text start
  pub counted : place ≡ start + 1

-- the text is an expression with none of the sets of groups; it lacks this group, and that group of another set that
-- may be meant
pub record LacksGroup (text : List ℕ) (group : Group) (besides : Option Group) : Type 0 where
  pub regex : Regex
  pub compiled : IsCompiled text regex
  pub none : groups_in (regex_names regex) ≡ None
  pub lacked : group ≡ lacks (regex_names regex)
  pub other : besides ≡ lacks_besides (regex_names regex)

-- the place after the text
abbrev pub behind : List ℕ → ℕ
behind text = length text + 1

-- the text isn't an expression by which a log is read, since it has this fault at this place; that an expression is too
-- large is taken from the regex crate
abbrev pub IsFault : List ℕ → ℕ → Fault → Type 0
IsFault text place (Unreadable kind) = IsUnreadable text kind place
IsFault text place TooLarge = IsPattern own_config text × (place ≡ behind text)
IsFault text place (Lacks group besides) = LacksGroup text group besides × (place ≡ behind text)

-- the text is no expression, or memory ran out
abbrev pub IsBad : List ℕ → BadExpression → Type 0
IsBad text Memory = Unit {0}
IsBad text (At place fault) = IsFault text place fault
