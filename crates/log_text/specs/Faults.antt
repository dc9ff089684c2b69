-- The second line after F39: the fault of an expression, in the words of Rust's regex crate, or the group that it
-- lacks.
use Rattle.std.specs.Prelude.{ℕ, ◌++◌, List, None, Some, codes}
use Rattle.log_formats.specs.declared.patterns.expression.Fault.{Fault}
use Rattle.log_formats.specs.declared.patterns.expression.Fault.TheVariants.{Unreadable, TooLarge, Lacks}
use Rattle.log_formats.specs.declared.patterns.missing.Group.{Group}
use Rattle.log_formats.specs.declared.patterns.missing.Group.TheVariants as groups
use Rattle.regex_syntax.specs.declared.error.ErrorKind.{ErrorKind}
use Rattle.regex_syntax.specs.declared.error.ErrorKind.TheVariants.{CaptureLimitExceeded, ClassEscapeInvalid, ClassRangeInvalid, ClassRangeLiteral, ClassUnclosed, DecimalInvalid, EscapeHexEmpty, EscapeHexInvalid, EscapeHexInvalidDigit, EscapeUnexpectedEof, EscapeUnrecognized, FlagDanglingNegation, FlagDuplicate, FlagRepeatedNegation, FlagUnexpectedEof, FlagUnrecognized, GroupNameDuplicate, GroupNameEmpty, GroupNameInvalid, GroupNameUnexpectedEof, GroupUnclosed, GroupUnopened, InvalidUtf8, NestLimitExceeded, OutOfMemory, RepetitionCountDecimalEmpty, RepetitionCountInvalid, RepetitionCountUnclosed, RepetitionMissing, SpecialWordBoundaryUnclosed, SpecialWordBoundaryUnrecognized, SpecialWordOrRepetitionUnexpectedEof, UnicodeClassInvalid, UnicodeNotAllowed, UnicodePropertyNotFound, UnicodePropertyValueNotFound, UnsupportedBackreference}

-- the message for a fault of the later kinds, with that of the last kind for any other
unfoldable pub later_message : ErrorKind → List ℕ
later_message GroupNameUnexpectedEof = codes "unclosed capture group name"
later_message GroupUnclosed = codes "unclosed group"
later_message GroupUnopened = codes "unopened group"
later_message InvalidUtf8 = codes "pattern can match invalid UTF-8"
later_message NestLimitExceeded = codes "groups, classes or repetitions nest deeper than the nesting limit allows"
later_message OutOfMemory = codes "out of memory"
later_message RepetitionCountDecimalEmpty = codes "repetition quantifier expects a valid decimal"
later_message RepetitionCountInvalid = codes "invalid repetition count range, the start must be <= the end"
later_message RepetitionCountUnclosed = codes "unclosed counted repetition"
later_message RepetitionMissing = codes "repetition operator missing expression"
later_message SpecialWordBoundaryUnclosed = codes "special word boundary assertion is either unclosed or contains an invalid character"
later_message SpecialWordBoundaryUnrecognized = codes "unrecognized special word boundary assertion, valid choices are: start, end, start-half or end-half"
later_message SpecialWordOrRepetitionUnexpectedEof = codes "a special word boundary or a bounded repetition on a \\b has no closing brace"
later_message UnicodeClassInvalid = codes "invalid Unicode character class"
later_message UnicodeNotAllowed = codes "Unicode not allowed here"
later_message UnicodePropertyNotFound = codes "Unicode property not found"
later_message UnicodePropertyValueNotFound = codes "Unicode property value not found"
later_message UnsupportedBackreference = codes "backreferences are not supported"
later_message kind = codes "look-around, including look-ahead and look-behind, is not supported"

-- the message for a fault of any kind
unfoldable pub message_of : ErrorKind → List ℕ
message_of CaptureLimitExceeded = codes "exceeded the maximum number of capturing groups"
message_of ClassEscapeInvalid = codes "invalid escape sequence found in character class"
message_of ClassRangeInvalid = codes "invalid character class range, the start must be <= the end"
message_of ClassRangeLiteral = codes "invalid range boundary, must be a literal"
message_of ClassUnclosed = codes "unclosed character class"
message_of DecimalInvalid = codes "decimal literal invalid"
message_of EscapeHexEmpty = codes "hexadecimal literal empty"
message_of EscapeHexInvalid = codes "hexadecimal literal is not a Unicode scalar value"
message_of EscapeHexInvalidDigit = codes "invalid hexadecimal digit"
message_of EscapeUnexpectedEof = codes "incomplete escape sequence, reached end of pattern prematurely"
message_of EscapeUnrecognized = codes "unrecognized escape sequence"
message_of FlagDanglingNegation = codes "dangling flag negation operator"
message_of FlagDuplicate = codes "duplicate flag"
message_of FlagRepeatedNegation = codes "flag negation operator repeated"
message_of FlagUnexpectedEof = codes "expected flag but got end of regex"
message_of FlagUnrecognized = codes "unrecognized flag"
message_of GroupNameDuplicate = codes "duplicate capture group name"
message_of GroupNameEmpty = codes "empty capture group name"
message_of GroupNameInvalid = codes "invalid capture group character"
message_of kind = later_message kind

-- the word that names a group
abbrev pub group_word : Group → List ℕ
group_word groups.Host = codes "host"
group_word groups.Direction = codes "dir"
group_word groups.Peer = codes "peer"
group_word groups.Name = codes "name"
group_word groups.Source = codes "src"
group_word groups.Destination = codes "dst"
group_word groups.Clock = codes "clock"
group_word groups.Event = codes "event"

-- that no group has this name
unfoldable pub lacks_text : List ℕ → List ℕ
lacks_text word = codes "no group is named " ++ (word ++ codes "\n")

-- that no group has one of these two names, each of one set of groups that may be meant
unfoldable pub lacks_either_text : List ℕ → List ℕ → List ℕ
lacks_either_text word besides =
    codes "no group is named " ++ (word ++ (codes " (for src, dst, name) or " ++ (besides ++ codes " (for host, dir, peer, name)\n")))

-- the line about an expression's fault
unfoldable pub fault_text : Fault → List ℕ
fault_text (Unreadable kind) = message_of kind ++ codes "\n"
fault_text TooLarge = codes "the expression is too large\n"
fault_text (Lacks group None) = lacks_text (group_word group)
fault_text (Lacks group (Some besides)) = lacks_either_text (group_word group) (group_word besides)
