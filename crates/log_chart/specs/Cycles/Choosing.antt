-- How the freed receive is chosen, line by line: for the crate's own functions.
use Rattle.std.specs.Prelude.{◌≡◌, ℕ, Bool, true, List, [], length, Option, None, Some}
use Rattle.log_chart.specs.declared.matching.LogLine.{LogLine}
use Rattle.log_chart.specs.Cycles.Freeing.{IsOnCycle, is_sooner}
use Rattle.log_chart.specs.Cycles.Searching.{IsSeen, IsPast}

-- the line comes sooner than the line that was found, if one was found
abbrev pub is_ahead : LogLine → Option LogLine → Bool
is_ahead x None = true
is_ahead x (Some y) = is_sooner x y

-- the line that was found, if one was found, is a receive that comes before itself
abbrev pub IsFound : List LogLine → Option LogLine → Type 0
IsFound lines None = Unit {0}
IsFound lines (Some x) = (on : IsOnCycle lines x.number) × (on.line ≡ x)

-- each line that comes sooner than the one comes sooner than the other
abbrev pub IsAheadToo : Option LogLine → Option LogLine → Type 0
IsAheadToo one other = (y : LogLine) → is_ahead y one ≡ true → is_ahead y other ≡ true

-- what is found after one more line
pub data HasPassed (tops sends : List (Option ℕ)) (x : LogLine) (own : ℕ) (soonest : Option LogLine) (seen : List Bool) (stack : List ℕ) (seen_after : List Bool) (stack_after : List ℕ) (next : Option LogLine) : Type 0 where
  other : (x.entry.host ≡ own → is_ahead x soonest ≡ true → ⊥) → seen_after ≡ seen → stack_after ≡ stack → next ≡ soonest
      → HasPassed tops sends x own soonest seen stack seen_after stack_after next
  off : x.entry.host ≡ own → length seen_after ≡ length seen → stack_after ≡ [] → IsPast tops sends x.number seen_after
      → ((s : ℕ) → x.send ≡ Some s → IsSeen seen_after x.number → ⊥) → next ≡ soonest
      → HasPassed tops sends x own soonest seen stack seen_after stack_after next
  on : x.entry.host ≡ own → is_ahead x soonest ≡ true → length seen_after ≡ length seen → stack_after ≡ [] → IsPast tops sends x.number seen_after
      → (s : ℕ) → x.send ≡ Some s → IsSeen seen_after x.number → next ≡ Some x
      → HasPassed tops sends x own soonest seen stack seen_after stack_after next
