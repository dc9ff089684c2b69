-- The lines of a log's refusals.
use Rattle.std.specs.Prelude.{ℕ, ◌==◌, ◌++◌, List, Option, codes, decimal, None, Some, if◌then◌else◌}
use Rattle.std.specs.List.{flat_map}
use Rattle.cmd_base.specs.Refusals.{labelled_text}
use Rattle.log_formats.specs.declared.patterns.expression.Fault.{Fault}
use Rattle.log_lines.specs.declared.read.Others.{Others}
use Rattle.log_text.specs.Counts.{others_of_text}
use Rattle.log_text.specs.Faults.{fault_text}
use Rattle.log_text.specs.Unread.{unread_text}
use Rattle.log_text.specs.declared.unread.UnreadLine.{UnreadLine}
use Rattle.cmd_import_log.specs.Answers.AlikeHosts.{alike_text}
use Rattle.cmd_import_log.specs.Answers.Diagnostics.{one_ended_note}
use Rattle.cmd_import_log.specs.Answers.EventsRead.{lineless_text, lined_text}
use Rattle.cmd_import_log.specs.declared.answers.diagnostics.Diagnostics.{Diagnostics}
use Rattle.cmd_import_log.specs.declared.error.LogImportError.{LogImportError}
use Rattle.cmd_import_log.specs.declared.error.LogImportError.TheVariants as errors

-- the line of F7, with the instance's name
unfoldable pub full_text : List ℕ → List ℕ
full_text name = codes "refused: F7 LineFull " ++ (name ++ codes "\n")

-- the line of F39, with the place
unfoldable pub place_text : ℕ → List ℕ
place_text place = codes "refused: F39 BadPattern " ++ (decimal place ++ codes "\n")

-- the line of F39, and the line about the expression's fault
unfoldable pub bad_pattern_text : ℕ → Fault → List ℕ
bad_pattern_text place fault = place_text place ++ fault_text fault

unfoldable pub no_log_line : List ℕ
no_log_line = codes "refused: F38 NotALog\n"

-- the line of F38, the line about lines that don't match, and the one about the first of these with a match that isn't
-- read. `files` has the names of several files, and is empty for one
unfoldable pub no_log_text : List (List ℕ) → ℕ → Option Others → Option UnreadLine → List ℕ
no_log_text files lines others unread =
    no_log_line ++ (others_of_text files lines (codes "lines doesn't match") (codes "lines don't match") others ++ unread_text files unread)

-- the number of lines with messages, none of which is a receive
unfoldable pub one_send_text : List ℕ
one_send_text = codes "1 line matches, and it isn't a receive\n"

unfoldable pub several_sends_text : ℕ → List ℕ
several_sends_text sends = decimal sends ++ codes " lines match, and none is a receive\n"

abbrev pub sends_text : ℕ → List ℕ
sends_text sends = if sends == 1 then one_send_text else several_sends_text sends

unfoldable pub no_receive_line : List ℕ
no_receive_line = codes "refused: F51 NoReceive\n"

-- the line of F51, the number of lines that match, the line about those that don't, and the one about the first of
-- these with a match that isn't read. `files` has the names of several files, and is empty for one
unfoldable pub no_receive_text : List (List ℕ) → ℕ → ℕ → Option Others → Option UnreadLine → List ℕ
no_receive_text files sends lines others unread =
    no_receive_line
    ++ (sends_text sends
    ++ (others_of_text files lines (codes "lines doesn't match") (codes "lines don't match") others ++ unread_text files unread))

unfoldable pub one_end_line : List ℕ
one_end_line = codes "refused: F52 OneEnd\n"

-- the line of F52, and the reason. Then come the hosts with lines of their own, those without, and those that the log may
-- name by two words
unfoldable pub one_end_text : Diagnostics → List ℕ
one_end_text t =
    one_end_line
    ++ (one_ended_note ++ (flat_map lined_text t.lined.items ++ (flat_map lineless_text t.lineless.items ++ flat_map alike_text t.alike.items)))

-- the text of a log's refusal
abbrev pub log_refusal_text : List (List ℕ) → LogImportError → List ℕ
log_refusal_text files errors.Memory = labelled_text (codes "F6 Memory") None
log_refusal_text files (errors.BadPattern place fault) = bad_pattern_text place fault
log_refusal_text files (errors.NotALog lines others unread) = no_log_text files lines others unread
log_refusal_text files (errors.NoReceive sends lines others unread) = no_receive_text files sends lines others unread
log_refusal_text files errors.Instances = labelled_text (codes "F8 Instances") None
log_refusal_text files (errors.ToItself place) = labelled_text (codes "F13 ToItself") (Some place.line)
log_refusal_text files (errors.LineFull name) = full_text name
