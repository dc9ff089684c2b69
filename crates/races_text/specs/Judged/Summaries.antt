-- The summary of the races of a query (this project's profile): whether one is shown, whether there is one, and whether
-- one is claimed.
use Rattle.std.specs.Prelude.{Bool, true, false, ◌||◌, ◌&&◌, not, List}
use Rattle.std.specs.List.{list_any}
use Rattle.race_verdicts.specs.declared.verdict.Verdict.{Verdict}
use Rattle.race_verdicts.specs.declared.verdict.Verdict.TheVariants.{Luck, EarlierIsSend, BegunInTheMiddle, OrderedByLeftOut, WouldNotTake, PassedOver, BehindAnother, Any}
use Rattle.races_text.specs.Judged.Parts.{shown_parts, has_parts}
use Rattle.races_text.specs.declared.judged.part.Part.{Part}
use Rattle.races_text.specs.declared.judged.summary.RaceSummary.{RaceSummary}

-- a race with this verdict is claimed, which means that it isn't begun in the middle
abbrev pub is_claimed : Verdict → Bool
is_claimed Luck = true
is_claimed EarlierIsSend = true
is_claimed BegunInTheMiddle = false
is_claimed OrderedByLeftOut = true
is_claimed WouldNotTake = true
is_claimed PassedOver = true
is_claimed BehindAnother = true
is_claimed Any = true

-- one of these ranges is claimed
abbrev pub claims_parts : List Part → Bool
claims_parts parts = list_any (λ p. is_claimed p.verdict) parts

-- the summary of the ranges of a receive, of which all are shown or only what was luck or may have been
abbrev pub summary_of_parts : Bool → List Part → RaceSummary
summary_of_parts luck parts = record { shown = has_parts (shown_parts luck parts); any = has_parts parts; claimed = claims_parts parts }

-- the summary of no ranges
abbrev pub summary_of_none : RaceSummary
summary_of_none = record { shown = false; any = false; claimed = false }

-- the summary with one more range, which is shown or not
abbrev pub summary_with : RaceSummary → Bool → Verdict → RaceSummary
summary_with summary shows verdict = record { shown = summary.shown || shows; any = true; claimed = summary.claimed || is_claimed verdict }

-- the summary of two receives
abbrev pub summary_of_both : RaceSummary → RaceSummary → RaceSummary
summary_of_both a b = record { shown = a.shown || b.shown; any = a.any || b.any; claimed = a.claimed || b.claimed }

-- there are races, and none of them is claimed: each is begun in the middle
abbrev pub claims_none : RaceSummary → Bool
claims_none summary = summary.any && not summary.claimed
