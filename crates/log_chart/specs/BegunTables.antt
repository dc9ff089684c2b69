-- What tables hold of invented sends: for the crate's own functions.
use Rattle.std.specs.Prelude.{ℕ, ◌<◌, List, [], ◌∷◌, All}
use Rattle.log_chart.specs.Chains.{IsBelow, AreChains}
use Rattle.log_chart.specs.FateTables.{IsWithin}
use Rattle.log_chart.specs.declared.begun.Begun.{Begun}
use Rattle.log_chart.specs.declared.chains.Chains.{Chains}
use Rattle.log_chart.specs.declared.matching.LogLine.{LogLine}

-- the numbers of these lines are below n
abbrev pub AreNumberedBelow : ℕ → List LogLine → Type 0
AreNumberedBelow n lines = All (λ x. x.number < n) lines

-- each number is less than all numbers after it
abbrev pub IsRising : List ℕ → Type 0
IsRising [] = Unit {0}
IsRising (x ∷ xs) = IsBelow x xs × IsRising xs

-- the number is less than those of all these receives
abbrev pub IsBelowAll : ℕ → List Begun → Type 0
IsBelowAll n [] = Unit {0}
IsBelowAll n (b ∷ given) = (n < b.receive) × IsBelowAll n given

-- they are in the order of their receives, in a log of n lines
abbrev pub AreGiven : ℕ → List Begun → Type 0
AreGiven n [] = Unit {0}
AreGiven n (b ∷ given) = (b.receive < n) × IsWithin n b.behind × IsBelowAll b.receive given × AreGiven n given

-- the tables hold lists whose numbers rise
abbrev pub HoldsRising : Chains → Type 0
HoldsRising chains = (lists : ℕ → List ℕ) × AreChains chains.first.items chains.next.items lists × ((c : ℕ) → IsRising (lists c))
