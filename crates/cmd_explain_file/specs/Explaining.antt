-- The answer of `mscview explain` to the bytes of a file.
use Rattle.std.specs.Prelude.{◌≡◌, ◌==◌, ◌+◌, ℕ, Bool, not, List, [], ◌∷◌, ◌++◌, map, length, Option, None, Some, Result, Ok, Err, if◌then◌else◌}
use Rattle.std.specs.List.{flat_map}
use Rattle.cmd_explain_file.specs.Findings.{behind_finding, fault_finding, no_send, other_name, unread_finding}
use Rattle.cmd_explain_file.specs.Kinds.{kind_of, shown}
use Rattle.cmd_explain_file.specs.Sayings.{saying_text}
use Rattle.cmd_explain_file.specs.Verdicts.{IsVerdict, verdict_exit}
use Rattle.cmd_explain_file.specs.declared.kind.Kind.{Kind}
use Rattle.cmd_explain_file.specs.declared.kind.Kind.TheVariants as kinds
use Rattle.cmd_explain_file.specs.declared.saying.Saying.{Saying}
use Rattle.cmd_explain_file.specs.declared.saying.Saying.TheVariants as sayings
use Rattle.cmd_explain_file.specs.declared.verdict.Exactly.{Exactly}
use Rattle.cmd_explain_file.specs.declared.verdict.Exactly.TheVariants as exactly
use Rattle.cmd_explain_file.specs.declared.verdict.Verdict.{Verdict}
use Rattle.cmd_explain_file.specs.declared.verdict.Verdict.TheVariants.{Read, Ran, Built, NotBuilt, Behind, Refused, NoSend, OtherName, Cyclic}
use Rattle.cmd_base.specs.Answers.{Exit, program_exit, exit_of}
use Rattle.cmd_base.specs.Contents.{is_schedule, chart_part}
use Rattle.cmd_base.specs.declared.error.ProgramError.{ProgramError}
use Rattle.cmd_base.specs.declared.error.ProgramError.TheVariants as errors
use Rattle.msc_text.specs.Reader.Reading.{chart_of}
use Rattle.texts.specs.Lines.{lines_of}
use Rattle.texts.specs.Outs.{Sink}
use Rattle.texts.specs.Writing.{Puts, Breaks}
use Rattle.texts.specs.declared.fault.Fault.{Fault}
use Rattle.texts.specs.declared.fault.Fault.TheVariants.{Line, Unfinished}
use Rattle.schedule.specs.Reading.{schedule_of}
use Rattle.cmd_tidy.specs.Tidying.{typed_line}
use Rattle.cmd_tidy.specs.Typing.{exact_text, typed_lines, staying_from, commented_from}

-- the fault that reading returned, if there is one
abbrev pub fault_in : {A : Type 0} → Result A Fault → Option Fault
fault_in (Ok read) = None
fault_in (Err fault) = Some fault

-- the fault of a text that is read as a schedule or as a chart
abbrev pub text_fault : List ℕ → Option Fault
text_fault text = if is_schedule text then fault_in (schedule_of text) else fault_in (chart_of (chart_part text))

-- the result for an exact text by its fault: it has none, or it has this one and lacks the file's comments
abbrev pub exactly_by : Bool → Option Fault → Exactly
exactly_by has_comments None = exactly.Read
exactly_by has_comments (Some fault) = if has_comments then exactly.Refused fault else exactly.Unasked

-- the result for a file's exact text; there is one only if the file is refused as a text
abbrev pub exactly_of : Verdict → Bool → List ℕ → Exactly
exactly_of (Refused fault) has_comments exact = exactly_by has_comments (text_fault exact)
exactly_of _ has_comments exact = exactly.Unasked

-- the number in the typed file of the line with a fault of the exact text
abbrev pub typed_number : List ℕ → List ℕ → Fault → ℕ
typed_number text lines (Line number cause) = typed_line lines number
typed_number text lines Unfinished = length (lines_of text) + 1

-- the first part after the kind, for a schedule that is read; `count` is how many of its commands did nothing
abbrev pub read_schedule : ℕ → Saying
read_schedule count = if count == 0 then sayings.Read else sayings.Undone count

-- the first part after the kind, by the verdict
abbrev pub first_stated : Kind → List ℕ → Verdict → Saying
first_stated kind text Read = sayings.Read
first_stated kind text (Ran notes) = read_schedule (length notes.items)
first_stated kind text (Built left_out overtaking) = sayings.Read
first_stated kind text (NotBuilt why) = sayings.Finding (unread_finding kind text why)
first_stated kind text (Behind fault) = sayings.Finding (behind_finding kind text fault)
first_stated kind text (Refused fault) = sayings.Finding (fault_finding kind text fault)
first_stated kind text (NoSend receive) = sayings.Finding (no_send text receive)
first_stated kind text (OtherName receive) = sayings.Finding (other_name text receive)
first_stated kind text (Cyclic steps) = sayings.Cyclic

-- the same, by the result for the exact text; `lines` has the number of each of its lines in the typed file
abbrev pub first_saying : Kind → List ℕ → List ℕ → List ℕ → Verdict → Exactly → Saying
first_saying kind text exact lines verdict (exactly.Refused fault) =
    sayings.Typed (fault_finding kind exact fault) (typed_number text lines fault)
first_saying kind text exact lines verdict exactly.Read = first_stated kind (shown kind text) verdict
first_saying kind text exact lines verdict exactly.Unasked = first_stated kind (shown kind text) verdict

-- the further parts of a verdict: the notes of a schedule, the constructs that a diagram's chart can't express, or the
-- steps of a cycle
abbrev pub more_sayings : Verdict → List Saying
more_sayings (Ran notes) = map sayings.Note notes.items
more_sayings (Built left_out overtaking) = map sayings.LeftOut left_out.items ++ map sayings.Overtaking overtaking.items
more_sayings (Cyclic steps) = map sayings.Step steps.items
more_sayings _ = []

abbrev pub if_other : Kind → List Saying
if_other kinds.Other = sayings.Log ∷ []
if_other _ = []

-- the parts with help: the file can be tidied, or how to read a log
abbrev pub last_sayings : Kind → Exactly → List Saying
last_sayings kind exactly.Read = sayings.Tidy ∷ []
last_sayings kind exactly.Unasked = if_other kind
last_sayings kind (exactly.Refused fault) = if_other kind

-- all parts of the explanation of a file
abbrev pub sayings_of : Kind → Saying → Verdict → Exactly → List Saying
sayings_of kind first verdict done = sayings.Kind kind ∷ (first ∷ (more_sayings verdict ++ last_sayings kind done))

-- the text whose lines are shown
abbrev pub subject_of : Kind → List ℕ → List ℕ → Exactly → List ℕ
subject_of kind text exact (exactly.Refused fault) = exact
subject_of kind text exact exactly.Read = shown kind text
subject_of kind text exact exactly.Unasked = shown kind text

abbrev pub has_comments : List ℕ → Bool
has_comments text = not (length (commented_from 1 (typed_lines text)) == 0)

abbrev pub exactly_in : List ℕ → Verdict → Exactly
exactly_in text verdict = exactly_of verdict (has_comments text) (exact_text text)

abbrev pub explanation_of : List ℕ → Verdict → List Saying
explanation_of text verdict =
    sayings_of (kind_of text)
    (first_saying (kind_of text) text (exact_text text) (staying_from 1 (typed_lines text)) verdict (exactly_in text verdict))
    verdict (exactly_in text verdict)

abbrev pub explanation_text : List ℕ → Verdict → List ℕ
explanation_text text verdict =
    flat_map (saying_text (subject_of (kind_of text) text (exact_text text) (exactly_in text verdict))) (explanation_of text verdict)

-- the exit status and text of an explanation that was written or refused
abbrev pub explained_exit : Result Verdict ProgramError → Exit
explained_exit = exit_of verdict_exit program_exit

module _ {S : Type 0} (sink : S → Sink) where
  -- the explanation of the file was written; or a beginning of it, if a put failed; or nothing, if memory ran out
  abbrev pub Explains : S → S → List ℕ → Result Verdict ProgramError → Type 0
  Explains old new text (Ok verdict) = IsVerdict (kind_of text) text verdict
      × Puts sink old new (explanation_text text verdict)
  Explains old new text (Err errors.Memory) = new ≡ old
  Explains old new text (Err errors.Write) = (verdict : Verdict) × IsVerdict (kind_of text) text verdict
      × Breaks sink old new (explanation_text text verdict)
  Explains old new text (Err _) = ⊥
