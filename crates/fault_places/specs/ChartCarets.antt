-- What the caret of a fault in a chart's text promises, over the definitions that read its lines (this project's profile of
-- the text of ITU-T Z.120).
use Rattle.std.specs.Prelude.{◌≡◌, ◌≢◌, ℕ, ◌+◌, ◌-◌, Bool, true, false, List, [], ◌∷◌, ◌++◌, length, take, drop, min, Option, Some, Ok, Err, codes, Contains}
use Rattle.std.specs.List.{AllByRecursion}
use Rattle.chart.specs.Names.{IsName}
use Rattle.chart.specs.Words.{Name, Text}
use Rattle.chart.specs.declared.name.NameError.{NameError}
use Rattle.fault_places.specs.Carets.{fault_of, is_past, turn, has_form, IsPlace, GoesOn, Stops, Takes}
use Rattle.fault_places.specs.Spots.{first_of, inner, spot_of}
use Rattle.fault_places.specs.Standings.{line_at, first_or}
use Rattle.fault_places.specs.declared.spot.Spot.{Spot}
use Rattle.fault_places.specs.declared.want.Want.{Want}
use Rattle.fault_places.specs.declared.want.Want.TheVariants as wants
use Rattle.msc_text.specs.Reader.Builders.{BuilderView, blank, built}
use Rattle.msc_text.specs.Reader.LastWords.{semi}
use Rattle.msc_text.specs.Reader.Reading.{names_after, look_from, build_from, names_in, chart_of}
use Rattle.msc_text.specs.Reader.Steps.{step_by}
use Rattle.msc_text.specs.declared.reader.state.State.{State}
use Rattle.msc_text.specs.declared.reader.state.State.TheVariants as states
use Rattle.msc_text.specs.declared.reader.state.Region.TheVariants as regions
use Rattle.texts.specs.Faults.{◌>>=◌}
use Rattle.texts.specs.Lines.{lines_of, end_of, words_of}
use Rattle.texts.specs.declared.fault.Cause.{Cause}
use Rattle.texts.specs.declared.fault.Cause.TheVariants as causes
use Rattle.texts.specs.declared.fault.Fault.TheVariants.{Line}

-- Readers of a line, by its words.

-- what may be at the beginning of a line in this state
abbrev pub want_of : State → Want
want_of states.Start = wants.Msc
want_of states.Outside = wants.InstanceOrEnd
want_of (states.Inside own events regions.Closed) = wants.Event
want_of (states.Inside own events regions.Empty) = wants.OpenedEvent
want_of (states.Inside own events regions.Held) = wants.HeldEvent
want_of states.Done = wants.ChartEnd

-- the fault of a line with these words in this state, after instances with these names, as the first look finds it
abbrev pub line_fault : List Name → State → List Text → Option Cause
line_fault names state words = fault_of (step_by state words >>= λ step. names_after names step.0)

-- a line of a chart isn't refused for its form exactly if each of its words may be where it is
abbrev pub ChartFormLaw : Type 0
ChartFormLaw = (names : List Name) (state : State) (words : List Text)
    → is_past 0 (line_fault names state words) ≡ has_form (want_of state) words

-- The caret.

-- The turn in which a line is checked for a fault of this cause. A partner is looked up last, when the names of all
-- instances are known.
abbrev pub chart_turn : Cause → ℕ
chart_turn causes.UnknownInstance = 4
chart_turn cause = turn cause

-- the instance in which a line is
abbrev pub own_of : State → Name
own_of (states.Inside own events region) = own
own_of _ = []

-- The names that an instance may have in a line, by the cause of the fault. An instance that begins has a new name, and a
-- partner isn't the instance itself. Before these checks it may have any name.
abbrev pub MayName : List Name → State → Cause → Name → Type 0
MayName names state causes.Duplicate name = Contains names name → ⊥
MayName names state causes.ToItself name = name ≢ own_of state
MayName names state _ name = Unit {0}

-- Each word that may be after these words, by this description, begins a line that passes the checks up to this turn. An
-- instance may have these names.
abbrev pub MayBe : (List Text → Option Cause) → ℕ → (Name → Type 0) → List Text → Want → Type 0
MayBe read n may before wants.Msc = Takes read n before (codes "msc")
MayBe read n may before wants.ChartName = Takes read n before (codes "run;")
MayBe read n may before wants.InstanceOrEnd = AllByRecursion (Takes read n before) (codes "instance" ∷ codes "endmsc;" ∷ [])
MayBe read n may before wants.InstanceName = (name : Name) → IsName name → may name → Takes read n before (semi name)
MayBe read n may before wants.Event = AllByRecursion (Takes read n before) (
    codes "out" ∷ codes "in" ∷ codes "concurrent;" ∷ codes "endinstance;" ∷ []
    )
MayBe read n may before wants.OpenedEvent = Takes read n before (codes "in")
MayBe read n may before wants.HeldEvent = AllByRecursion (Takes read n before) (codes "in" ∷ codes "endconcurrent;" ∷ [])
MayBe read n may before wants.Sent = (name : Name) → IsName name → Takes read n before name
MayBe read n may before wants.Received = (name : Name) → IsName name → Takes read n before name
MayBe read n may before wants.To = Takes read n before (codes "to")
MayBe read n may before wants.From = Takes read n before (codes "from")
MayBe read n may before wants.Receiver = (name : Name) → IsName name → may name → Takes read n before (semi name)
MayBe read n may before wants.Sender = (name : Name) → IsName name → may name → Takes read n before (semi name)
MayBe read n may before wants.End = Takes read n before (codes "endmsc;")
MayBe read n may before wants.NextInstance = Takes read n before (codes "instance")
MayBe read n may before wants.LineEnd = is_past n (read before) ≡ true
MayBe read n may before _ = Unit {0}

-- what may be there is shown; for an event too many it isn't
abbrev pub IfShown : Cause → Type 0 → Type 0
IfShown causes.LineFull claim = Unit {0}
IfShown _ claim = claim

-- Some line that passes the check may come in this state. After the end of the chart there is none. Neither is there one if
-- the instance is full and its coregion has no receive yet.
abbrev pub may_go_on : Cause → State → Bool
may_go_on cause states.Done = false
may_go_on causes.LineFull (states.Inside own events regions.Empty) = false
may_go_on cause state = true

-- The caret of a fault of this cause is at the first word with which a line can't pass the checks up to its turn. With
-- each word that may be there a line can pass them. Instances may have these names.
pub record IsChartCaret (read : List Text → Option Cause) (may : Name → Type 0) (state : State) (cause : Cause) (words : List Text) (spot : Spot) : Type 0 where
  pub before : List Text
  pub from : List Text
  pub are : words ≡ before ++ from
  pub word : ℕ
  pub at_word : IsPlace word before from
  pub place : spot.place ≡ word + min (inner cause) (length (first_of from))
  pub goes_on : may_go_on cause state ≡ true → GoesOn read (chart_turn cause) before
  pub stops : Stops read (chart_turn cause) before from
  pub may_be : IfShown cause (MayBe read (chart_turn cause) may before spot.want)

-- The text.

-- the lines above the line with this number, from 1
abbrev pub lines_above : Text → ℕ → List Text
lines_above bytes number = take (number - 1) (lines_of bytes)

-- the line with this number, or the text after the last line feed
abbrev pub line_in : Text → ℕ → Text
line_in bytes number = first_or (end_of bytes) (drop (number - 1) (lines_of bytes))

-- the first look reads these lines from the top, and goes on after them in this state, with these names
pub record AreRead (above : List Text) (names : List Name) (state : State) : Type 0 where
  pub go_on : (lines : List Text) (rest : Text)
      → look_from [] states.Start 1 (above ++ lines) rest ≡ look_from names state (length above + 1) lines rest

-- where the first look finds a fault of this cause
pub record IsFaultAt (first bytes : Text) (number : ℕ) (cause : Cause) : Type 0 where
  pub names : List Name
  pub state : State
  pub read : AreRead (lines_above bytes number) names state
  pub begin : line_at wants.Msc (lines_above bytes number) ≡ want_of state
  pub fault : line_fault names state (words_of (line_in bytes number)) ≡ Some cause
  pub caret : IsChartCaret (line_fault names state) (MayName names state cause) state cause (words_of (line_in bytes number))
      (spot_of cause first (line_in bytes number) (line_at wants.Msc (lines_above bytes number)))

-- a line that is refused for its form, whatever the first line of the text is taken for
abbrev pub ChartFormCaretLaw : Type 0
ChartFormCaretLaw = (first bytes : Text) (number : ℕ) → names_in bytes ≡ Err (Line number causes.Syntax)
    → IsFaultAt first bytes number causes.Syntax

-- a line with a word that is no name
abbrev pub ChartNameCaretLaw : Type 0
ChartNameCaretLaw = (first bytes : Text) (number : ℕ) (fault : NameError) → names_in bytes ≡ Err (Line number (causes.Name fault))
    → IsFaultAt first bytes number (causes.Name fault)

-- the causes for which the line of an event is refused after its names
abbrev pub is_of_event : Cause → Bool
is_of_event causes.ToItself = true
is_of_event causes.LineFull = true
is_of_event _ = false

-- the line of an event whose partner is the instance itself, or that is one too many
abbrev pub ChartEventCaretLaw : Type 0
ChartEventCaretLaw = (first bytes : Text) (number : ℕ) (cause : Cause) → is_of_event cause ≡ true
    → names_in bytes ≡ Err (Line number cause) → IsFaultAt first bytes number cause

-- the causes for which the line that begins an instance, or ends the chart, is refused after its name
abbrev pub is_of_instance : Cause → Bool
is_of_instance causes.Duplicate = true
is_of_instance causes.Instances = true
is_of_instance _ = false

-- the line of an instance whose name was given before, or with which there are too many; or the end of a chart with too few
abbrev pub ChartInstanceCaretLaw : Type 0
ChartInstanceCaretLaw = (first bytes : Text) (number : ℕ) (cause : Cause) → is_of_instance cause ≡ true
    → names_in bytes ≡ Err (Line number cause) → IsFaultAt first bytes number cause

-- An unknown partner, which the second look finds.

-- the fault of a line with these words, as both looks find it: in this state, after instances with these names of which
-- this is built; all instances have the names in known
abbrev pub whole_fault : List Name → List Name → BuilderView → State → List Text → Option Cause
whole_fault known names d state words =
    fault_of (step_by state words >>= λ step. names_after names step.0 >>= λ more. built known d step.0)

-- the names that an unknown partner may have in place of its own: those of the other instances
abbrev pub IsOther : List Name → State → Name → Type 0
IsOther known state name = Contains known name × (name ≢ own_of state)

-- the second look builds this of these lines
pub record AreBuilt (above : List Text) (known : List Name) (state : State) (d : BuilderView) : Type 0 where
  pub go_on : (lines : List Text) → build_from known states.Start blank 1 (above ++ lines) ≡ build_from known state d (length above + 1) lines

-- where the second look finds an unknown partner
pub record IsUnknownAt (first bytes : Text) (number : ℕ) : Type 0 where
  pub known : List Name
  pub all : names_in bytes ≡ Ok known
  pub names : List Name
  pub state : State
  pub d : BuilderView
  pub read : AreRead (lines_above bytes number) names state
  pub built_so : AreBuilt (lines_above bytes number) known state d
  pub begin : line_at wants.Msc (lines_above bytes number) ≡ want_of state
  pub fault : whole_fault known names d state (words_of (line_in bytes number)) ≡ Some causes.UnknownInstance
  pub caret : IsChartCaret (whole_fault known names d state) (IsOther known state) state causes.UnknownInstance (words_of (line_in bytes number))
      (spot_of causes.UnknownInstance first (line_in bytes number) (line_at wants.Msc (lines_above bytes number)))

-- the line of an event whose partner is no instance of the text
abbrev pub ChartPartnerCaretLaw : Type 0
ChartPartnerCaretLaw = (first bytes : Text) (number : ℕ) → chart_of bytes ≡ Err (Line number causes.UnknownInstance)
    → IsUnknownAt first bytes number
