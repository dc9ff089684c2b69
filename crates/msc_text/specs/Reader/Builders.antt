-- The second look at a chart's text: what its lines build. All names are known then (this project's profile).
use Rattle.std.specs.Prelude.{◌≡◌, ℕ, suc, ◌+◌, ◌==◌, List, [], ◌∷◌, ◌++◌, length, Option, None, Some, Result, Ok, Err, nat_le, MatchOption, if◌then◌else◌}
use Rattle.chart.specs.Charts.{LineView, IsNumbered}
use Rattle.chart.specs.Events.{partner_of, region_of, greatest_region, MayHaveRegion}
use Rattle.chart.specs.declared.event.Event.{Event}
use Rattle.chart.specs.declared.event.Event.TheVariants as line_events
use Rattle.chart.specs.declared.instance.TheConstants.{MAX_INSTANCES}
use Rattle.chart.specs.declared.line.TheConstants.{MAX_EVENTS}
use Rattle.texts.specs.Faults.{◌>>=◌}
use Rattle.texts.specs.Instances.{known_of}
use Rattle.texts.specs.declared.fault.Cause.{Cause}
use Rattle.texts.specs.declared.fault.Cause.TheVariants.{Syntax, Instances, ToItself, LineFull, UnknownInstance}
use Rattle.msc_text.specs.declared.reader.state.Saying.{Saying}
use Rattle.msc_text.specs.declared.reader.state.Saying.TheVariants.{Begin, Head, Send, Receive, Open, Shut, Foot, End}

-- the lines that are complete, the line that is being built, if there is one, and its open coregion, or 0 if none is
-- open
pub record BuilderView : Type 0 where
  pub lines : List LineView
  pub line : Option LineView
  pub open_region : ℕ

-- nothing is built
abbrev pub blank : BuilderView
blank = record { lines = []; line = None; open_region = 0 }

-- the line with one more event
unfoldable pub pushed : LineView → Event → Result LineView Cause
pushed line m =
    if partner_of m == line.instance then Err ToItself else (
    if length line.events == MAX_EVENTS then Err LineFull else Ok (record line { events = line.events ++ m ∷ [] }))

-- the number of a line's next coregion
abbrev pub next_region : LineView → ℕ
next_region line = greatest_region line.events + 1

-- the line that is being built gets an event
abbrev pub with_event : BuilderView → Option LineView → Event → Result BuilderView Cause
with_event d None m = Err Syntax
with_event d (Some line) m = do
  more ← pushed line m
  Ok (record { lines = d.lines; line = Some more; open_region = region_of m })

-- the next instance's line begins
abbrev pub with_head : BuilderView → Result BuilderView Cause
with_head d =
    if nat_le MAX_INSTANCES (length d.lines) then Err Instances else Ok
    (record {
      lines = d.lines;
      line = Some (record { instance = suc (length d.lines); events = [] });
      open_region = 0;
    })

-- the line that is being built is complete
abbrev pub with_foot : BuilderView → Option LineView → Result BuilderView Cause
with_foot d None = Err Syntax
with_foot d (Some line) = Ok (record { lines = d.lines ++ line ∷ []; line = None; open_region = 0 })

-- the line that is being built gets its next coregion
abbrev pub with_coregion : BuilderView → Option LineView → Result BuilderView Cause
with_coregion d None = Err Syntax
with_coregion d (Some line) = Ok (record d { open_region = next_region line })

-- a send
unfoldable pub with_send : List (List ℕ) → BuilderView → List ℕ → List ℕ → Result BuilderView Cause
with_send names d to name = do
  partner ← known_of names to
  with_event d d.line (line_events.Send partner name)

-- a receive, in the open coregion
unfoldable pub with_receive : List (List ℕ) → BuilderView → List ℕ → List ℕ → Result BuilderView Cause
with_receive names d from name = do
  partner ← known_of names from
  with_event d d.line (line_events.Receive partner name d.open_region)

-- what is built after one more line with this meaning
abbrev pub built : List (List ℕ) → BuilderView → Saying → Result BuilderView Cause
built names d Begin = Ok d
built names d (Head own) = with_head d
built names d (Send to name) = with_send names d to name
built names d (Receive from name) = with_receive names d from name
built names d Open = with_coregion d d.line
built names d Shut = Ok (record d { open_region = 0 })
built names d Foot = with_foot d d.line
built names d End = Ok d

-- its only fault may be an unknown instance
abbrev pub IsRight : {A : Type 0} → Result A Cause → Type 0
IsRight (Ok x) = Unit {0}
IsRight (Err UnknownInstance) = Unit {0}
IsRight (Err _) = ⊥

-- what holds of the line that is being built after this number of lines, with this open coregion
pub record IsNextLine (lines open_region : ℕ) (line : LineView) : Type 0 where
  pub next : line.instance ≡ suc lines
  pub coregion : MayHaveRegion line.events open_region

-- what holds of each builder
pub record IsBuilder (d : BuilderView) : Type 0 where
  pub numbered : IsNumbered d.lines
  pub line : MatchOption d.line (Unit {0}) (IsNextLine (length d.lines) d.open_region)
