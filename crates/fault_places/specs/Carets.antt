-- What the caret of a fault promises, over the definitions that read a schedule's line (this project's profile).
use Rattle.std.specs.Prelude.{◌≡◌, ◌≢◌, ℕ, ◌+◌, ◌≤◌, Bool, true, false, nat_lt, min, List, [], ◌∷◌, ◌++◌, length, Option, None, Some, Result, Ok, Err, codes, decimal, Contains, ◌==◌, if◌then◌else◌}
use Rattle.std.specs.List.{AllByRecursion}
use Rattle.chart.specs.Names.{IsName}
use Rattle.chart.specs.Words.{Name, Text}
use Rattle.chart.specs.declared.history.TheConstants.{MAX_CAPACITY}
use Rattle.fault_places.specs.Spots.{first_of, behind_first, inner, spot_of}
use Rattle.fault_places.specs.Wants.{next}
use Rattle.fault_places.specs.declared.spot.Spot.{Spot}
use Rattle.fault_places.specs.declared.want.Want.{Want}
use Rattle.fault_places.specs.declared.want.Want.TheVariants as wants
use Rattle.schedule.specs.ActionLines.{action_by}
use Rattle.schedule.specs.FirstLines.{instances_by, names_of, capacity_by}
use Rattle.texts.specs.Lines.{Lacks, words_of}
use Rattle.texts.specs.declared.fault.Cause.{Cause}
use Rattle.texts.specs.declared.fault.Cause.TheVariants as causes

-- Readers of a line, by its words.

-- the fault of a line that is read, if it has one
abbrev pub fault_of : {A : Type 0} → Result A Cause → Option Cause
fault_of (Ok read) = None
fault_of (Err cause) = Some cause

-- the fault of a schedule's line with this number, if the first line gives these names
abbrev pub schedule_fault : List Name → ℕ → List Text → Option Cause
schedule_fault names number words =
    if number == 1 then fault_of (instances_by words) else (
    if number == 2 then fault_of (capacity_by words) else fault_of (action_by names words))

-- what may be at the beginning of this line
abbrev pub schedule_want : ℕ → Want
schedule_want number = if number == 1 then wants.Instances else (if number == 2 then wants.Capacity else wants.Actor)

-- The turn in which a line is checked for a fault of this cause. First its form is checked, then its names from the
-- left, then the instances with these names, and then what these may do. In the first line each name is checked in all
-- turns before the next name.
abbrev pub turn : Cause → ℕ
turn causes.Syntax = 0
turn (causes.Name fault) = 1
turn causes.UnknownInstance = 2
turn causes.ToItself = 3
turn causes.Duplicate = 3
turn causes.Instances = 4
turn causes.Capacity = 4
turn causes.LineFull = 4

-- a line with this fault, or with none, passed the checks up to this turn
abbrev pub is_past : ℕ → Option Cause → Bool
is_past n None = true
is_past n (Some cause) = nat_lt n (turn cause)

-- The form of a line, word by word.

-- a line may end here
abbrev pub is_end : Want → Bool
is_end wants.LineEnd = true
is_end wants.OtherName = true
is_end _ = false

-- what follows a word, if the word may be where it is
abbrev pub behind_word : Option Want → (Want → Bool) → Bool
behind_word None form = false
behind_word (Some behind) form = form behind

-- these words may be the rest of a line, each of them where it is
abbrev pub has_form : Want → List Text → Bool
has_form want [] = is_end want
has_form want (word ∷ words) = behind_word (next want word) (λ behind. has_form behind words)

-- a line of a schedule isn't refused for its form exactly if each of its words may be where it is
abbrev pub FormLaw : Type 0
FormLaw = (names : List Name) (number : ℕ) (words : List Text)
    → is_past 0 (schedule_fault names number words) ≡ has_form (schedule_want number) words

-- The caret.

-- the number of bytes of some words, each with the space after it
abbrev pub width : List Text → ℕ
width [] = 0
width (word ∷ words) = length word + 1 + width words

-- the place of the first word of a line after others, or the line's end if there is no such word
abbrev pub IsPlace : ℕ → List Text → List Text → Type 0
IsPlace place before [] = place + 1 ≡ width before
IsPlace place before (word ∷ words) = place ≡ width before

-- a line that begins with these words passes the checks up to this turn
abbrev pub GoesOn : (List Text → Option Cause) → ℕ → List Text → Type 0
GoesOn read n before = (more : List Text) × AllByRecursion (Lacks 32) more × (is_past n (read (before ++ more)) ≡ true)

-- no line that begins with these words and the next one passes them; or the line itself doesn't, if there is no next
-- word
abbrev pub Stops : (List Text → Option Cause) → ℕ → List Text → List Text → Type 0
Stops read n before [] = is_past n (read before) ≡ false
Stops read n before (word ∷ words) = (more : List Text) → is_past n (read (before ++ word ∷ more)) ≡ false

-- a line that begins with these words and this one passes them
abbrev pub Takes : (List Text → Option Cause) → ℕ → List Text → Text → Type 0
Takes read n before word =
    (more : List Text) × AllByRecursion (Lacks 32) more × (is_past n (read (before ++ word ∷ more)) ≡ true)

-- Each word that may be after these words, by this description, begins a line that passes the checks. Instances have
-- the names in known. For what may be in a chart nothing is claimed.
abbrev pub MayStand : (List Text → Option Cause) → ℕ → List Name → List Text → Want → Type 0
MayStand read n known before wants.Instances = Takes read n before (codes "instances")
MayStand read n known before wants.FirstName = (name : Name) → IsName name → Takes read n before name
MayStand read n known before wants.OtherName = (name : Name) → IsName name → (Contains (behind_first before) name → ⊥)
    → Takes read n before name
MayStand read n known before wants.Capacity = Takes read n before (codes "capacity")
MayStand read n known before wants.Slots = (slots : ℕ) → 1 ≤ slots → slots ≤ MAX_CAPACITY → Takes read n before (decimal slots)
MayStand read n known before wants.Actor = (name : Name) → IsName name → Contains known name → Takes read n before name
MayStand read n known before wants.Action = AllByRecursion (Takes read n before) (
    codes "send" ∷ codes "receive" ∷ codes "any" ∷ codes "close" ∷ codes "concurrent" ∷ codes "endconcurrent" ∷ []
    )
MayStand read n known before wants.SendTo = (name : Name) → IsName name → Contains known name → name ≢ first_of before
    → Takes read n before name
MayStand read n known before wants.Partner = (name : Name) → IsName name → Contains known name → name ≢ first_of before
    → Takes read n before name
MayStand read n known before wants.Message = (name : Name) → IsName name → Takes read n before name
MayStand read n known before wants.LineEnd = is_past n (read before) ≡ true
MayStand read n known before _ = Unit {0}

-- The caret of a fault of this cause is at the first word with which a line can't pass the checks up to its turn. With
-- each word that may be there a line can pass them.
pub record IsCaret (read : List Text → Option Cause) (known : List Name) (cause : Cause) (words : List Text) (spot : Spot) : Type 0 where
  pub before : List Text
  pub from : List Text
  pub are : words ≡ before ++ from
  pub word : ℕ
  pub at_word : IsPlace word before from
  pub place : spot.place ≡ word + min (inner cause) (length (first_of from))
  pub goes_on : GoesOn read (turn cause) before
  pub stops : Stops read (turn cause) before from
  pub may_stand : MayStand read (turn cause) known before spot.want

-- if a line of a schedule is refused for its form, with whatever instances
abbrev pub FormCaretLaw : Type 0
FormCaretLaw = (first : Text) (names : List Name) (number : ℕ) (line : Text)
    → schedule_fault names number (words_of line) ≡ Some causes.Syntax
    → IsCaret (schedule_fault names number) names causes.Syntax (words_of line)
    (spot_of causes.Syntax first line (schedule_want number))

-- the causes for which a command with the right form is refused
abbrev pub is_of_command : Cause → Bool
is_of_command (causes.Name fault) = true
is_of_command causes.UnknownInstance = true
is_of_command causes.ToItself = true
is_of_command _ = false

-- if a command is refused for another cause, in a text whose first line names these instances
abbrev pub CommandCaretLaw : Type 0
CommandCaretLaw = (first : Text) (names : List Name) (line : Text) (cause : Cause) → names_of first ≡ Ok names → is_of_command cause ≡ true
    → fault_of (action_by names (words_of line)) ≡ Some cause
    → IsCaret (λ words. fault_of (action_by names words)) names cause (words_of line) (spot_of cause first line wants.Actor)
