-- What the caret of a fault in a schedule's first two lines promises, and which line of a schedule's text has its first
-- fault (this project's profile).
use Rattle.std.specs.Prelude.{◌≡◌, ℕ, ◌<◌, ◌⊎◌, Bool, true, false, List, None, Some, Err, Ok}
use Rattle.chart.specs.Events.{ith}
use Rattle.chart.specs.Words.{Name, Text}
use Rattle.fault_places.specs.Carets.{fault_of, schedule_fault, IsCaret}
use Rattle.fault_places.specs.Spots.{spot_of}
use Rattle.fault_places.specs.declared.want.Want.TheVariants as wants
use Rattle.schedule.specs.FirstLines.{instances_by, names_of, capacity_by}
use Rattle.schedule.specs.Reading.{schedule_of}
use Rattle.texts.specs.Lines.{lines_of, words_of}
use Rattle.texts.specs.declared.fault.Cause.{Cause}
use Rattle.texts.specs.declared.fault.Cause.TheVariants as causes
use Rattle.texts.specs.declared.fault.Fault.TheVariants.{Line}

-- a second line with another number of slots than a lane may have
abbrev pub CapacityCaretLaw : Type 0
CapacityCaretLaw = (first : Text) (names : List Name) (line : Text) → fault_of (capacity_by (words_of line)) ≡ Some causes.Capacity
    → IsCaret (λ words. fault_of (capacity_by words)) names causes.Capacity (words_of line)
    (spot_of causes.Capacity first line wants.Capacity)

-- the causes for which a first line with the right form is refused
abbrev pub is_of_first : Cause → Bool
is_of_first (causes.Name fault) = true
is_of_first causes.Duplicate = true
is_of_first causes.Instances = true
is_of_first _ = false

-- a first line with a word that is no name, with a name that it has twice, or with too many instances or too few
abbrev pub FirstLineCaretLaw : Type 0
FirstLineCaretLaw = (first : Text) (names : List Name) (line : Text) (cause : Cause) → is_of_first cause ≡ true
    → fault_of (instances_by (words_of line)) ≡ Some cause
    → IsCaret (λ words. fault_of (instances_by words)) names cause (words_of line) (spot_of cause first line wants.Instances)

-- the fault of a schedule's text is that of its line with this number, by the names of its first line, and no line above it
-- has a fault
pub record IsScheduleFault (bytes : Text) (number : ℕ) (cause : Cause) : Type 0 where
  pub names : List Name
  pub named : (number ≡ 1) ⊎ ((first : Text) × (ith (lines_of bytes) 1 ≡ Some first) × (names_of first ≡ Ok names))
  pub line : Text
  pub there : ith (lines_of bytes) number ≡ Some line
  pub fault : schedule_fault names number (words_of line) ≡ Some cause
  pub above : (i : ℕ) (other : Text) → i < number → ith (lines_of bytes) i ≡ Some other
      → schedule_fault names i (words_of other) ≡ None

-- a schedule's text that is refused for a line is refused for what the readers of its lines find in its first faulty line
abbrev pub ScheduleFaultLaw : Type 0
ScheduleFaultLaw = (bytes : Text) (number : ℕ) (cause : Cause) → schedule_of bytes ≡ Err (Line number cause)
    → IsScheduleFault bytes number cause
