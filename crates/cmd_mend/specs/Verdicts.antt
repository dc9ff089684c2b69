-- Which verdict on a race is luck.
use Rattle.std.specs.Prelude.{Bool, true, false}
use Rattle.race_verdicts.specs.declared.verdict.Verdict.{Verdict}
use Rattle.race_verdicts.specs.declared.verdict.Verdict.TheVariants.{Luck, EarlierIsSend, BegunInTheMiddle, OrderedByLeftOut, WouldNotTake, PassedOver, BehindAnother, Any}

-- the race was luck
abbrev pub is_luck : Verdict → Bool
is_luck Luck = true
is_luck EarlierIsSend = false
is_luck BegunInTheMiddle = false
is_luck OrderedByLeftOut = false
is_luck WouldNotTake = false
is_luck PassedOver = false
is_luck BehindAnother = false
is_luck Any = false
