-- The text of a refusal's line.
use Rattle.std.specs.Prelude.{ℕ, List, [], ◌++◌, ◌⊎◌, Option, None, Some, codes, decimal}
use Rattle.chart.specs.declared.name.NameError.{NameError}
use Rattle.chart.specs.declared.name.NameError.TheVariants.{Empty, TooLong, BadByte, Reserved}
use Rattle.texts.specs.Outs.{Sink}
use Rattle.texts.specs.declared.fault.Cause.{Cause}
use Rattle.texts.specs.declared.fault.Cause.TheVariants.{Name, LineFull, Instances, Capacity, ToItself, Syntax, Duplicate, UnknownInstance}
use Rattle.texts.specs.declared.fault.Fault.TheVariants.{Line, Unfinished}
use Rattle.texts.specs.Writing.{Puts, Breaks}
use Rattle.cmd_base.specs.declared.error.ProgramError.{ProgramError}
use Rattle.cmd_base.specs.declared.error.ProgramError.TheVariants.{Usage, File, Memory, Text, ReceiveWithoutSend, NameMismatch, Cyclic, Write}

-- a name's fault, by number and name
unfoldable pub name_label : NameError → List ℕ
name_label Empty = codes "F1 NameEmpty"
name_label TooLong = codes "F2 NameTooLong"
name_label (BadByte place) = codes "F3 NameBadByte"
name_label Reserved = codes "F4 NameReserved"

-- a line's fault, by number and name
unfoldable pub cause_label : Cause → List ℕ
cause_label (Name fault) = name_label fault
cause_label LineFull = codes "F7 LineFull"
cause_label Instances = codes "F8 Instances"
cause_label Capacity = codes "F9 Capacity"
cause_label ToItself = codes "F13 ToItself"
cause_label Syntax = codes "F20 Syntax"
cause_label Duplicate = codes "F22 Duplicate"
cause_label UnknownInstance = codes "F23 UnknownInstance"

-- a refusal, by number and name
unfoldable pub label : ProgramError → List ℕ
label Usage = codes "G1 Usage"
label File = codes "G2 File"
label Memory = codes "F6 Memory"
label (Text (Line n cause)) = cause_label cause
label (Text Unfinished) = codes "F21 Unfinished"
label (ReceiveWithoutSend instance index) = codes "F16 ReceiveWithoutSend"
label (NameMismatch instance index) = codes "F17 NameMismatch"
label Cyclic = codes "F18 Cyclic"
label Write = codes "F24 Write"

-- a number after a space
unfoldable pub behind_space : ℕ → List ℕ
behind_space n = codes " " ++ decimal n

-- the position of a line's fault: its line, and in it the position of an invalid byte; a wrong number of instances or
-- of a lane's slots has no line
unfoldable pub cause_detail : ℕ → Cause → List ℕ
cause_detail n (Name Empty) = behind_space n
cause_detail n (Name TooLong) = behind_space n
cause_detail n (Name (BadByte place)) = behind_space n ++ behind_space place
cause_detail n (Name Reserved) = behind_space n
cause_detail n LineFull = behind_space n
cause_detail n Instances = []
cause_detail n Capacity = []
cause_detail n ToItself = behind_space n
cause_detail n Syntax = behind_space n
cause_detail n Duplicate = behind_space n
cause_detail n UnknownInstance = behind_space n

-- an event after a space: its instance's name and its number
unfoldable pub event_detail : List ℕ → ℕ → List ℕ
event_detail instance index = codes " " ++ (instance ++ behind_space index)

-- the position of a refusal's cause, if it is in a line of the text or at an event of the chart
unfoldable pub detail : ProgramError → List ℕ
detail Usage = []
detail File = []
detail Memory = []
detail (Text (Line n cause)) = cause_detail n cause
detail (Text Unfinished) = []
detail (ReceiveWithoutSend instance index) = event_detail instance index
detail (NameMismatch instance index) = event_detail instance index
detail Cyclic = []
detail Write = []

unfoldable pub start_text : List ℕ
start_text = codes "refused: "

unfoldable pub end_text : List ℕ
end_text = codes "\n"

-- the line
unfoldable pub refusal_text : ProgramError → List ℕ
refusal_text error = start_text ++ (label error ++ (detail error ++ end_text))

-- a number after a space, if there is one
abbrev pub number_detail : Option ℕ → List ℕ
number_detail None = []
number_detail (Some n) = behind_space n

-- the line of a refusal with this number and name, and with a number after them, if there is one
unfoldable pub labelled_text : List ℕ → Option ℕ → List ℕ
labelled_text name number = start_text ++ (name ++ (number_detail number ++ end_text))

-- the text was written, or a beginning of it if a put failed
abbrev pub Tried : {S : Type 0} → (S → Sink) → S → S → List ℕ → Type 0
Tried sink old new text = Puts sink old new text ⊎ Breaks sink old new text
