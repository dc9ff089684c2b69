-- The warnings about a chart that was made from a log.
use Rattle.std.specs.Prelude.{ℕ, ◌==◌, List, [], ◌++◌, length, codes, decimal, if◌then◌else◌}
use Rattle.std.specs.List.{flat_map}
use Rattle.chart.specs.declared.instance.EventNo.{EventNo}
use Rattle.diagram_labels.specs.declared.renaming.Renamed.{Renamed}
use Rattle.diagram_labels.specs.Renamed.Reporting.{renamed_line}
use Rattle.log_lines.specs.declared.event.Place.{Place}
use Rattle.log_text.specs.Counts.{others_text, others_of_text}
use Rattle.cmd_import_log.specs.Answers.AlikeHosts.{alike_text}
use Rattle.cmd_import_log.specs.Answers.DiagnosticLines.{lost_text, overtaking_text, freed_text, invented_text}
use Rattle.cmd_import_log.specs.Answers.EventsRead.{read_text}
use Rattle.cmd_import_log.specs.declared.answers.overtaking.Overtaking.{Overtaking}
use Rattle.cmd_import_log.specs.declared.answers.diagnostics.Diagnostics.{Diagnostics}

-- the number of lines that don't match, and of all lines
unfoldable pub unmatched_text : List (List ℕ) → Diagnostics → List ℕ
unmatched_text files t = others_of_text files t.lines (codes "lines doesn't match") (codes "lines don't match") t.others

-- the number of events of messages to oneself
unfoldable pub own_text : List (List ℕ) → Diagnostics → List ℕ
own_text files t =
    others_text files (codes "event of a message to oneself is left out") (codes "events of messages to oneself are left out") t.own

-- the number of receives with misspelled words `takes=`
unfoldable pub misspelled_text : List (List ℕ) → Diagnostics → List ℕ
misspelled_text files t =
    others_text files (codes "receive has a word takes= that isn't PEER:NAMES") (codes "receives have words takes= that aren't PEER:NAMES") t.misspelled

unfoldable pub captured_note : List ℕ
captured_note = codes "only the order at the tap is known\n"

-- the note, if messages were captured
abbrev pub captured_text : Diagnostics → List ℕ
captured_text t = if t.is_captured then captured_note else []

unfoldable pub timed_note : List ℕ
timed_note = codes "a receive at which no entry of the clock grew isn't seen\n"

-- the note, if clocks imply messages
abbrev pub timed_text : Diagnostics → List ℕ
timed_text t = if t.is_timed then timed_note else []

unfoldable pub one_ended_note : List ℕ
one_ended_note = codes "no race is claimed: the log has one end of each message\n"

-- the note, if the log has one end of each message
abbrev pub one_ended_text : Diagnostics → List ℕ
one_ended_text t = if t.is_one_ended then one_ended_note else []

-- the notes about captured messages, about clocks, and about a log with one end of each message
unfoldable pub taps_text : Diagnostics → List ℕ
taps_text t = captured_text t ++ (timed_text t ++ one_ended_text t)

unfoldable pub counts_text : List (List ℕ) → Diagnostics → List ℕ
counts_text files t =
    read_text t.events (length t.names) t.lineless.items
    ++ (flat_map alike_text t.alike.items ++ (unmatched_text files t ++ (own_text files t ++ (misspelled_text files t ++ taps_text t))))

unfoldable pub enforced_note : List ℕ
enforced_note = codes "races may be shown that a message which is left out enforced\n"

-- the note, if messages overtake
abbrev pub overtaking_note : List Overtaking → List ℕ
overtaking_note overtaking = if length overtaking == 0 then [] else enforced_note

-- the note, if messages are lost or overtake
abbrev pub left_out_note : List Place → List Overtaking → List ℕ
left_out_note lost overtaking = if length lost == 0 then overtaking_note overtaking else enforced_note

unfoldable pub one_overtakes_note : List ℕ
one_overtakes_note = codes "1 message overtakes another: it is skipped, and the message that it overtakes stays\n"

unfoldable pub several_overtake_note : ℕ → List ℕ
several_overtake_note count =
    decimal count ++ codes " messages overtake others: each is skipped, and the first message that it overtakes stays\n"

-- the number of messages that overtake, if there are some, and which of two messages is skipped
abbrev pub overtakings_text : ℕ → List ℕ
overtakings_text count = if count == 0 then [] else (if count == 1 then one_overtakes_note else several_overtake_note count)

-- the skipped messages
unfoldable pub left_out_text : List (List ℕ) → List Place → List Overtaking → List ℕ
left_out_text files lost overtaking =
    flat_map (lost_text files) lost
    ++ (flat_map (overtaking_text files) overtaking ++ (overtakings_text (length overtaking) ++ left_out_note lost overtaking))

unfoldable pub unclaimed_note : List ℕ
unclaimed_note = codes "a race whose earlier event is invented, or whose receive comes behind an invented event, isn't claimed\n"

-- the note, if sends are invented
abbrev pub invented_note : List EventNo → List ℕ
invented_note invented = if length invented == 0 then [] else unclaimed_note

-- the freed receives and the invented sends
unfoldable pub made_text : List (List ℕ) → List (List ℕ) → List Place → List EventNo → List ℕ
made_text files names freed invented =
    flat_map (freed_text files) freed ++ (flat_map (invented_text names) invented ++ invented_note invented)

-- the names that differ from the log's words: those of hosts, and then those of messages
unfoldable pub names_text : List Renamed → List Renamed → List ℕ
names_text hosts messages = flat_map renamed_line hosts ++ flat_map renamed_line messages

-- all warnings. `files` has the names of several files, and is empty for one
unfoldable pub diagnostics_text : List (List ℕ) → Diagnostics → List ℕ
diagnostics_text files t =
    counts_text files t
    ++ (left_out_text files t.lost.items t.overtaking.items
    ++ (made_text files t.names t.freed.items t.invented.items ++ names_text t.hosts.items t.messages.items))
