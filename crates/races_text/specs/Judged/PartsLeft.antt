-- The earlier events of a receive that are still to come, in parts that have one verdict (this project's own).
use Rattle.std.specs.Prelude.{◌≡◌, ◌≤◌, List, [], ◌∷◌, ◌++◌, Option, None, Some, All, IfSome}
use Rattle.chart.specs.declared.instance.EventNo.{EventNo}
use Rattle.chart.specs.declared.ranges.EventRange.{EventRange}
use Rattle.chart.specs.Ranges.{events_of}
use Rattle.race_verdicts.specs.declared.verdict.Verdict.{Verdict}
use Rattle.races_text.specs.Named.Stretches.{IsShort}
use Rattle.races_text.specs.Judged.Parts.{events_in, AreApart, IsPart}
use Rattle.races_text.specs.declared.judged.part.Part.{Part}
use Rattle.races_text.specs.declared.judged.parts.PartsLeft.{PartsLeft}

-- some of these neighbouring events, from the first on, with their verdict
pub record IsFirstPart (is : EventNo → Verdict → Type 0) (earlier : EventRange) (part : Part) : Type 0 where
  pub holds : IsPart is part
  pub begins : part.range.first ≡ earlier.first
  pub within : part.range.count ≤ earlier.count

-- the events of a part, if there is one
abbrev pub next_events : Option Part → List EventNo
next_events None = []
next_events (Some p) = events_in p

abbrev pub listed : Option Part → List Part
listed None = []
listed (Some p) = p ∷ []

-- the events whose verdict isn't known yet
abbrev pub later_events : PartsLeft → List EventNo
later_events left = events_of left.rest ++ left.kept

abbrev pub events_left : PartsLeft → List EventNo
events_left left = next_events left.next ++ later_events left

-- all later events are races, and the next part has its verdict; without a next part there are no later events
pub record AreLeft (race : EventNo → Type 0) (is : EventNo → Verdict → Type 0) (left : PartsLeft) : Type 0 where
  pub short : IsShort left.rest
  pub first : IfSome left.next (IsPart is)
  pub races : All race (later_events left)
  pub ended : left.next ≡ None → later_events left ≡ []

-- the next part, which is as long as possible
pub record IsNextPart (is : EventNo → Verdict → Type 0) (old new : PartsLeft) (part : Part) : Type 0 where
  pub holds : IsPart is part
  pub events : events_left old ≡ events_in part ++ events_left new
  pub begun : (p : Part) × (old.next ≡ Some p) × (part.range.first ≡ p.range.first) × (part.verdict ≡ p.verdict)
  pub apart : IfSome new.next (AreApart part)
