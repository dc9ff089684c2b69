-- The clocks of a lane's sends as differences (Singhal and Kshemkalyani 1992). Each send carries what changed in its
-- clock since the send before it on the lane, and the first one since zeros.
use Rattle.std.specs.Prelude.{ℕ, List, [], ◌∷◌, replicate}
use Rattle.chart.specs.Words.{Clock}
use Rattle.clock.specs.declared.diff.Change.{Change}
use Rattle.clock.specs.Diffs.{apply_diff, IsDiff}

-- the clock before the first send
abbrev pub zeros : ℕ → Clock
zeros n = replicate n 0

-- these are the differences of these clocks, one for each: from the clock before it, and for the first one from the
-- base
abbrev pub AreDiffs : Clock → List Clock → List (List Change) → Type 0
AreDiffs base [] [] = Unit {0}
AreDiffs base [] (diff ∷ diffs) = ⊥
AreDiffs base (clock ∷ clocks) [] = ⊥
AreDiffs base (clock ∷ clocks) (diff ∷ diffs) = IsDiff base clock diff × AreDiffs clock clocks diffs

-- the clocks that they give, applied in order: each to what the one before it gave, and the first one to the base
abbrev pub restored : Clock → List (List Change) → List Clock
restored base [] = []
restored base (diff ∷ diffs) = apply_diff base diff ∷ restored (apply_diff base diff) diffs
