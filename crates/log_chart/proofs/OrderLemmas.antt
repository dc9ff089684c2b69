-- The lines of a log with the sends that they take: their numbers rise, and all numbers are those of lines.
use Rattle.std.proofs.Common.{◌≡◌, ℕ, suc, ◌+◌, ◌<◌, ◌≤◌, ◌==◌, ◌&&◌, Bool, true, false, cond, List, [], ◌∷◌, ◌++◌, Option, None, Some, length, drop, filter, refl, sym, ap, subst, arith}
use Rattle.std.specs.Prelude.{All}
use Rattle.std.proofs.lemmas.List.Elements.{All-nil, All-cons}
use Rattle.log_chart.specs.Begun.{newer, lasts_after, is_begun, begun_of, begun_from, begun}
use Rattle.log_chart.specs.BegunTables.{IsBelowAll, AreGiven, AreNumberedBelow}
use Rattle.log_chart.specs.Chains.{first_of}
use Rattle.log_chart.specs.Entries.{is_send, takes}
use Rattle.log_chart.specs.Fates.{is_on, fate_of, stays}
use Rattle.log_chart.specs.FateTables.{IsWithin, AreWithin, AreNumbered}
use Rattle.log_chart.specs.HostLines.{kept}
use Rattle.log_chart.specs.LaneTables.{LaneSends}
use Rattle.log_chart.specs.Matching.{sends_from, send_for, left_after, matched_from, matched}
use Rattle.log_chart.specs.declared.entry.Entry.{Entry}
use Rattle.log_chart.specs.declared.matching.LogLine.{LogLine}

-- the number is less than those of all these lines
abbrev pub IsAbove : ℕ → List LogLine → Type 0
IsAbove n [] = Unit {0}
IsAbove n (x ∷ lines) = (n < x.number) × IsAbove n lines

-- their numbers rise
abbrev pub Rises : List LogLine → Type 0
Rises [] = Unit {0}
Rises (x ∷ lines) = IsAbove x.number lines × Rises lines

-- they and their sends are among n lines
abbrev pub Within : ℕ → List LogLine → Type 0
Within n [] = Unit {0}
Within n (x ∷ lines) = (x.number < n) × IsWithin n x.send × Within n lines

-- all these numbers are less than one number
abbrev Below : ℕ → List ℕ → Type 0
Below n [] = Unit {0}
Below n (x ∷ xs) = (x < n) × Below n xs

sends_below : (n k : ℕ) (log : List Entry) (c : ℕ) → k + length log ≤ n → Below n (sends_from k log c)
unfolding sends_from
sends_below n k [] c few = tt
sends_below n k (e ∷ log) c few = go (is_send e.kind && e.stream == c) (sends_below n (k + 1) log c (omega arith))
  where
    go : (its : Bool) → Below n (sends_from (k + 1) log c) → Below n (cond its (k ∷ sends_from (k + 1) log c) (sends_from (k + 1) log c))
    go true rest = (omega arith, rest)
    go false rest = rest

first_below : (n : ℕ) (xs : List ℕ) → Below n xs → IsWithin n (first_of xs)
first_below n [] below = tt
first_below n (x ∷ xs) below = below.0

rest_below : (n : ℕ) (xs : List ℕ) → Below n xs → Below n (drop 1 xs)
rest_below n [] below = tt
rest_below n (x ∷ xs) below = below.1

module _ (n : ℕ) where
  taken_within : (left : ℕ → List ℕ) (e : Entry) → ((c : ℕ) → Below n (left c)) → IsWithin n (send_for left e)
  taken_within left e below = go (takes e.kind)
    where
      go : (its : Bool) → IsWithin n (cond its (first_of (left e.stream)) None)
      go true = first_below n (left e.stream) (below e.stream)
      go false = tt

  left_below : (left : ℕ → List ℕ) (e : Entry) → ((c : ℕ) → Below n (left c)) → (c : ℕ) → Below n (left_after left e c)
  left_below left e below c = go (takes e.kind && e.stream == c)
    where
      go : (its : Bool) → Below n (cond its (drop 1 (left c)) (left c))
      go true = rest_below n (left c) (below c)
      go false = below c

  within_from : (left : ℕ → List ℕ) (k : ℕ) (log : List Entry) → ((c : ℕ) → Below n (left c)) → k + length log ≤ n → Within n (matched_from left k log)
  unfolding matched_from
  within_from left k [] below few = tt
  within_from left k (e ∷ log) below few = (omega arith, taken_within left e below, within_from (left_after left e) (k + 1) log (left_below left e below) (omega arith))

above_from : (n k : ℕ) (left : ℕ → List ℕ) (log : List Entry) → n < k → IsAbove n (matched_from left k log)
unfolding matched_from
above_from n k left [] less = tt
above_from n k left (e ∷ log) less = (less, above_from n (k + 1) (left_after left e) log (omega arith))

rises_from : (left : ℕ → List ℕ) (k : ℕ) (log : List Entry) → Rises (matched_from left k log)
unfolding matched_from
rises_from left k [] = tt
rises_from left k (e ∷ log) = (above_from k (k + 1) (left_after left e) log (omega arith), rises_from (left_after left e) (k + 1) log)

length_from : (left : ℕ → List ℕ) (k : ℕ) (log : List Entry) → length (matched_from left k log) ≡ length log
unfolding matched_from
length_from left k [] = refl
length_from left k (e ∷ log) = ap suc (length_from (left_after left e) (k + 1) log)

pub matched_length : (log : List Entry) → length (matched log) ≡ length log
matched_length log = length_from (sends_from 0 log) 0 log

pub matched_within : (log : List Entry) → Within (length log) (matched log)
matched_within log = within_from (length log) (sends_from 0 log) 0 log (λ c. sends_below (length log) 0 log c (omega arith)) (omega arith)

pub matched_rises : (log : List Entry) → Rises (matched log)
matched_rises log = rises_from (sends_from 0 log) 0 log

-- the same in the words of the contracts
all_within : (n : ℕ) (lines : List LogLine) → Within n lines → All (λ x. IsWithin n x.send) lines
all_within n [] within = All-nil (λ (x : LogLine). IsWithin n x.send)
all_within n (x ∷ lines) within = All-cons (λ (y : LogLine). IsWithin n y.send) x lines within.1 (all_within n lines within.2)

all_numbered : (n : ℕ) (lines : List LogLine) → Within n lines → AreNumberedBelow n lines
all_numbered n [] within = All-nil (λ (x : LogLine). x.number < n)
all_numbered n (x ∷ lines) within = All-cons (λ (y : LogLine). y.number < n) x lines within.0 (all_numbered n lines within.2)

pub are_within : (log : List Entry) → AreWithin (matched log)
are_within log = subst (λ n. All (λ x. IsWithin n x.send) (matched log)) (sym (matched_length log)) (all_within (length log) (matched log) (matched_within log))

pub are_numbered : (log : List Entry) → AreNumbered (matched log)
are_numbered log = subst (λ n. All (λ x. x.number < n) (matched log)) (sym (matched_length log)) (all_numbered (length log) (matched log) (matched_within log))

-- some of the lines
module _ (p : LogLine → Bool) where
  within_some : (n : ℕ) (lines : List LogLine) → Within n lines → Within n (filter p lines)
  within_some n [] within = tt
  within_some n (x ∷ lines) within = go (p x) (within_some n lines within.2)
    where
      go : (its : Bool) → Within n (filter p lines) → Within n (cond its (x ∷ filter p lines) (filter p lines))
      go true rest = (within.0, within.1, rest)
      go false rest = rest

  above_some : (n : ℕ) (lines : List LogLine) → IsAbove n lines → IsAbove n (filter p lines)
  above_some n [] above = tt
  above_some n (x ∷ lines) above = go (p x) (above_some n lines above.1)
    where
      go : (its : Bool) → IsAbove n (filter p lines) → IsAbove n (cond its (x ∷ filter p lines) (filter p lines))
      go true rest = (above.0, rest)
      go false rest = rest

  pub rises_some : (lines : List LogLine) → Rises lines → Rises (filter p lines)
  rises_some [] rises = tt
  rises_some (x ∷ lines) rises = go (p x) (rises_some lines rises.1)
    where
      go : (its : Bool) → Rises (filter p lines) → Rises (cond its (x ∷ filter p lines) (filter p lines))
      go true rest = (above_some x.number lines rises.0, rest)
      go false rest = rest

pub kept_within : (log : List Entry) → Within (length log) (kept log)
kept_within log = within_some (λ x. stays (fate_of (matched log) x)) (length log) (matched log) (matched_within log)

pub kept_rises : (log : List Entry) → Rises (kept log)
kept_rises log = rises_some (λ x. stays (fate_of (matched log) x)) (matched log) (matched_rises log)

pub kept_numbered : (log : List Entry) → AreNumberedBelow (length log) (kept log)
kept_numbered log = all_numbered (length log) (kept log) (kept_within log)

-- invented sends are in the order of their receives
below_begun : (n : ℕ) (lasts : LaneSends) (lines : List LogLine) → IsAbove n lines → IsBelowAll n (begun_from lasts lines)
unfolding begun_from
below_begun n lasts [] above = tt
below_begun n lasts (x ∷ lines) above = go (is_begun x) (below_begun n (lasts_after lasts x) lines above.1)
  where
    go : (its : Bool) → IsBelowAll n (begun_from (lasts_after lasts x) lines) → IsBelowAll n (cond its (begun_of lasts x ∷ []) [] ++ begun_from (lasts_after lasts x) lines)
    go true rest = (above.0, rest)
    go false rest = rest

lasts_within : (n : ℕ) (lasts : LaneSends) (x : LogLine) → IsWithin n x.send → ((q p : ℕ) → IsWithin n (lasts q p)) → (q p : ℕ) → IsWithin n (lasts_after lasts x q p)
lasts_within n lasts x within are q p = go (is_on q p x) x.send within
  where
    go : (its : Bool) (send : Option ℕ) → IsWithin n send → IsWithin n (cond its (newer send (lasts q p)) (lasts q p))
    go true None inside = are q p
    go true (Some s) inside = inside
    go false send inside = are q p

given_from_lines : (n : ℕ) (lasts : LaneSends) (lines : List LogLine) → Within n lines → Rises lines → ((q p : ℕ) → IsWithin n (lasts q p)) → AreGiven n (begun_from lasts lines)
unfolding begun_from
given_from_lines n lasts [] within rises are = tt
given_from_lines n lasts (x ∷ lines) within rises are =
    go (is_begun x) (given_from_lines n (lasts_after lasts x) lines within.2 rises.1 (lasts_within n lasts x within.1 are))
  where
    go : (its : Bool) → AreGiven n (begun_from (lasts_after lasts x) lines) → AreGiven n (cond its (begun_of lasts x ∷ []) [] ++ begun_from (lasts_after lasts x) lines)
    go true rest = (within.0, are x.entry.peer x.entry.host, below_begun x.number (lasts_after lasts x) lines rises.0, rest)
    go false rest = rest

pub are_given : (log : List Entry) → AreGiven (length log) (begun (kept log))
are_given log = given_from_lines (length log) (λ q p. None) (kept log) (kept_within log) (kept_rises log) (λ q p. tt)
