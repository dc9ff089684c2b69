-- The earlier events of a receive, as ranges that have one verdict (this project's profile).
use Rattle.std.specs.Prelude.{◌≡◌, ◌+◌, Bool, true, false, List, [], ◌∷◌, ◌++◌, All, filter, if◌then◌else◌, Result, Ok, Err}
use Rattle.std.specs.List.{flat_map}
use Rattle.chart.specs.declared.instance.EventNo.{EventNo}
use Rattle.chart.specs.Ranges.{IsRange, events_of, is_followed_by}
use Rattle.race_verdicts.specs.declared.verdict.Verdict.{Verdict}
use Rattle.races_text.specs.Judged.Words.{may_be_luck}
use Rattle.races_text.specs.declared.judged.part.Part.{Part}

-- the part of a single event
abbrev pub part_of : EventNo → Verdict → Part
part_of e v = record { range = record { first = e; count = 1 }; verdict = v }

-- a part and the one that begins where it ends, joined
abbrev pub joined_part : Part → Part → Part
joined_part p q = record { range = record { first = p.range.first; count = p.range.count + q.range.count }; verdict = p.verdict }

-- the events of a part
abbrev pub events_in : Part → List EventNo
events_in p = events_of p.range

-- two parts, one after the other, that can't be joined: their verdicts differ, or the second doesn't begin where the
-- first ends
abbrev pub AreApart : Part → Part → Type 0
AreApart p q = p.verdict ≡ q.verdict → is_followed_by p.range q.range ≡ false

-- each of the parts is as long as possible
abbrev pub AreLongest : List Part → Type 0
AreLongest [] = Unit {0}
AreLongest (p ∷ []) = Unit {0}
AreLongest (p ∷ (q ∷ parts)) = AreApart p q × AreLongest (q ∷ parts)

-- all events of the part have its verdict; `is` states which verdict an event has
pub record IsPart (is : EventNo → Verdict → Type 0) (p : Part) : Type 0 where
  pub range : IsRange p.range
  pub verdicts : All (λ e. is e p.verdict) (events_in p)

-- these are the parts of the events, by their verdicts
pub record AreParts (is : EventNo → Verdict → Type 0) (events : List EventNo) (parts : List Part) : Type 0 where
  pub each : All (IsPart is) parts
  pub whole : flat_map events_in parts ≡ events
  pub longest : AreLongest parts

-- these are the parts of a beginning of the events: those that were judged before a put failed
pub record HaveBegun (is : EventNo → Verdict → Type 0) (events : List EventNo) (parts : List Part) : Type 0 where
  pub begun : List EventNo
  pub rest : List EventNo
  pub splits : events ≡ begun ++ rest
  pub are : AreParts is begun parts

-- the parts of all events if no put failed, and otherwise of a beginning of them
abbrev pub Judges : {T E : Type 0} → (EventNo → Verdict → Type 0) → List EventNo → Result T E → List Part → Type 0
Judges is events (Ok x) parts = AreParts is events parts
Judges is events (Err e) parts = HaveBegun is events parts

-- a part is shown: any part, or with `luck` only a part that was luck or may have been
abbrev pub is_shown : Bool → Part → Bool
is_shown luck p = if luck then may_be_luck p.verdict else true

abbrev pub shown_parts : Bool → List Part → List Part
shown_parts luck parts = filter (is_shown luck) parts

-- there is a part
abbrev pub has_parts : List Part → Bool
has_parts [] = false
has_parts (p ∷ parts) = true
