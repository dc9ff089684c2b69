-- The words for faults and notes.
use Rattle.std.specs.Prelude.{ℕ, List, codes}
use Rattle.chart.specs.declared.name.NameError.TheVariants as names
use Rattle.cmd_explain_file.specs.declared.finding.What.{What}
use Rattle.cmd_explain_file.specs.declared.finding.What.TheVariants as whats
use Rattle.cmd_explain_file.specs.declared.kind.Kind.{Kind}
use Rattle.cmd_explain_file.specs.declared.kind.Kind.TheVariants as kinds
use Rattle.fault_places.specs.declared.want.Want.{Want}
use Rattle.fault_places.specs.declared.want.Want.TheVariants as wants
use Rattle.cmd_base.specs.Refusals.{cause_label}
use Rattle.texts.specs.declared.fault.Cause.{Cause}
use Rattle.texts.specs.declared.fault.Cause.TheVariants as causes
use Rattle.schedule.specs.Outcomes.OutcomeText.{word_text}
use Rattle.schedule.specs.declared.command.Word.{Word}
use Rattle.schedule.specs.declared.command.Word.TheVariants as notes
use Rattle.diagram_tool.specs.declared.Tool.TheVariants as tools

-- the kind of the file, and the commands that read it
unfoldable pub kind_words : Kind → List ℕ
kind_words kinds.Schedule = codes "a schedule, for mscrun replay, random and threads, and for mscview\n"
kind_words kinds.Chart = codes "a chart, for mscrun check, and for mscview\n"
kind_words (kinds.Diagram tools.Mscgen) = codes "a diagram of mscgen: mscview import makes a chart of it\n"
kind_words (kinds.Diagram tools.PlantUml) = codes "a diagram of PlantUML: mscview import makes a chart of it\n"
kind_words (kinds.Diagram tools.Mermaid) = codes "a diagram of Mermaid: mscview import makes a chart of it\n"
kind_words kinds.Other = codes "neither a schedule nor a chart, nor a diagram of mscgen, PlantUML or Mermaid\n"

-- the words for a line's fault
unfoldable pub cause_words : Cause → List ℕ
cause_words (causes.Name names.Empty) = codes "a name has a byte at least"
cause_words (causes.Name names.TooLong) = codes "a name has 32 bytes at most"
cause_words (causes.Name (names.BadByte place)) = codes "this byte is no part of a name: a letter, and then letters, digits and _"
cause_words (causes.Name names.Reserved) = codes "this word is kept for the text of charts, and is no name"
cause_words causes.LineFull = codes "an instance has 4096 events at most"
cause_words causes.Instances = codes "there are 2 to 32 instances"
cause_words causes.Capacity = codes "a lane has 1 to 64 slots"
cause_words causes.ToItself = codes "no instance sends to itself or receives from itself"
cause_words causes.Syntax = codes "this can't stand here"
cause_words causes.Duplicate = codes "an instance of this name is there already"
cause_words causes.UnknownInstance = codes "there is no instance of this name"

-- the words for a note
unfoldable pub note_words : Word → List ℕ
note_words notes.Full = codes "the lane has no free slot, so this send did nothing"
note_words notes.Nothing = codes "no message waited here, so this did nothing"
note_words notes.Ended = codes "no message waited here and none can come, so this did nothing"
note_words notes.Closed = codes "the lane was closed before, so this did nothing"
note_words notes.LineFull = codes "the instance has 4096 events already, so this did nothing"
note_words notes.Open = codes "a coregion is open already, so this did nothing"
note_words notes.NotOpen = codes "no coregion is open, so this did nothing"
note_words notes.InCoregion = codes "a coregion has receives alone, so this send did nothing"

-- the number and name of a fault, or the word of a note
unfoldable pub what_label : What → List ℕ
what_label (whats.Line cause) = cause_label cause
what_label whats.Unfinished = codes "F21 Unfinished"
what_label whats.NoSend = codes "F16 ReceiveWithoutSend"
what_label whats.OtherName = codes "F17 NameMismatch"
what_label (whats.Note word) = word_text word
what_label whats.NotRead = codes "F35 NotRead"
what_label whats.NotPossible = codes "F37 NotPossible"
what_label whats.NoSuchName = codes "F34 NoSuchName"
what_label whats.Usage = codes "G1 Usage"
what_label whats.Behind = codes "behind a chart"

-- the words for a fault or note
unfoldable pub what_words : What → List ℕ
what_words (whats.Line cause) = cause_words cause
what_words whats.Unfinished = codes "the text ends too early"
what_words whats.NoSend = codes "nothing was sent for this receive"
what_words whats.OtherName = codes "the message that is received here was sent by another name"
what_words (whats.Note word) = note_words word
what_words whats.NotRead = codes "this can't be read"
what_words whats.NotPossible = codes "with this no chart is possible"
what_words whats.NoSuchName = codes "a line that is joined isn't there"
what_words whats.Usage = codes "a line that is skipped isn't there"
what_words whats.Behind = codes "mscrun check refuses what stands here, and mscview leaves it alone"

-- the start of the heading; a note, and text after a chart, are no faults
unfoldable pub start_of : What → List ℕ
start_of whats.Behind = codes "\nnote: "
start_of (whats.Note word) = codes "\nnote: "
start_of _ = codes "\nerror: "

-- what may stand at a place
unfoldable pub want_words : Want → List ℕ
want_words wants.Begin = codes "`instances`, which begins a schedule, or `msc run;`, which begins a chart"
want_words wants.Instances = codes "`instances`"
want_words wants.FirstName = codes "the name of an instance"
want_words wants.OtherName = codes "the name of another instance"
want_words wants.Capacity = codes "`capacity`"
want_words wants.Slots = codes "a number from 1 to 64"
want_words wants.Actor = codes "the name of an instance"
want_words wants.Action = codes "`send`, `receive`, `any`, `close`, `concurrent` or `endconcurrent`"
want_words wants.SendTo = codes "the name of another instance"
want_words wants.Partner = codes "the name of another instance"
want_words wants.Message = codes "the name of a message"
want_words wants.LineEnd = codes "nothing more"
want_words wants.LineFeed = codes "a line feed"
want_words wants.Msc = codes "`msc run;`"
want_words wants.ChartName = codes "`run;`"
want_words wants.InstanceOrEnd = codes "`instance NAME;` or `endmsc;`"
want_words wants.NextInstance = codes "`instance NAME;`"
want_words wants.End = codes "`endmsc;`"
want_words wants.InstanceName = codes "the name of a new instance and a semicolon"
want_words wants.Event = codes "`out`, `in`, `concurrent;` or `endinstance;`"
want_words wants.OpenedEvent = codes "`in`"
want_words wants.HeldEvent = codes "`in` or `endconcurrent;`"
want_words wants.Sent = codes "the name of a message"
want_words wants.To = codes "`to`"
want_words wants.Receiver = codes "the name of another instance and a semicolon"
want_words wants.Received = codes "the name of a message"
want_words wants.From = codes "`from`"
want_words wants.Sender = codes "the name of another instance and a semicolon"
want_words wants.ChartEnd = codes "nothing more"
