-- The words of verdicts (this project's profile).
use Rattle.std.specs.Prelude.{ℕ, Bool, true, false, List, codes}
use Rattle.race_verdicts.specs.declared.verdict.Verdict.{Verdict}
use Rattle.race_verdicts.specs.declared.verdict.Verdict.TheVariants.{Luck, EarlierIsSend, BegunInTheMiddle, OrderedByLeftOut, WouldNotTake, PassedOver, BehindAnother, Any}

unfoldable pub verdict_text : Verdict → List ℕ
verdict_text Luck = codes "luck"
verdict_text EarlierIsSend = codes "the earlier is a send"
verdict_text BegunInTheMiddle = codes "begun in the middle"
verdict_text OrderedByLeftOut = codes "ordered by what is left out"
verdict_text WouldNotTake = codes "it would not take it"
verdict_text PassedOver = codes "passed over"
verdict_text BehindAnother = codes "behind another"
verdict_text Any = codes "any"

-- the race was luck, or may have been: for `any` it isn't decided
abbrev pub may_be_luck : Verdict → Bool
may_be_luck Luck = true
may_be_luck EarlierIsSend = false
may_be_luck BegunInTheMiddle = false
may_be_luck OrderedByLeftOut = false
may_be_luck WouldNotTake = false
may_be_luck PassedOver = false
may_be_luck BehindAnother = false
may_be_luck Any = true
