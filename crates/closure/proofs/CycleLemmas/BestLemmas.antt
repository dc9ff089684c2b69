-- The best round so far: through one more event, and through all events.
use Rattle.std.proofs.Common.{◌≡◌, ℕ, suc, ◌+◌, ◌<◌, ◌≤◌, inl, inr, List, length, Option, None, Some, sym, subst, arith}
use Rattle.std.proofs.lemmas.Bool.{cases_eq, cases_lt}
use Rattle.std.specs.Prelude.{MatchOption}
use Rattle.chart.specs.Charts.{Chart, Place, at, LineView, chart_lines}
use Rattle.chart.specs.Order.{IsCyclic}
use Rattle.chart.proofs.Belongs.{same_place}
use Rattle.closure.specs.Faults.{place_of}
use Rattle.closure.proofs.ReadLemmas.{instance_within}
use Rattle.closure.specs.Cycle.Rounds.{IsRound, HasNoRound, IsFoundRound, bound_of, better_of, HasNoneOn, IsShortestRound}
use Rattle.closure.specs.declared.cycle.round.Round.{Round}
use Rattle.closure.proofs.CycleLemmas.LeadLemmas.{round_event}
use Rattle.closure.proofs.CycleLemmas.ShorterRounds.{few_around}
use Rattle.closure.proofs.CycleLemmas.UnderLemmas.{round_from_cyclic}

-- a smaller bound
none_below : (c : Chart) (e : Place) (bound less : ℕ) → less ≤ bound → HasNoRound c e bound → HasNoRound c e less
none_below c e bound less le none many some low leads = none many some (omega (arith, le, low)) leads

pub none_on_below : (c : Chart) (p k bound less : ℕ) → less ≤ bound → HasNoneOn c p k bound → HasNoneOn c p k less
none_on_below c p k bound less le none e line begun within = none_below c e bound less le (none e line begun within)

-- one more event
none_on-next : (c : Chart) (p k bound : ℕ) → HasNoneOn c p k bound → HasNoRound c (at p (suc k)) bound → HasNoneOn c p (k + 1) bound
none_on-next c p k bound none next e line begun within =
    elim (cases_eq e.index (suc k)) [
      | inl here ↦ subst (λ x. HasNoRound c x bound) (sym (same_place e (at p (suc k)) line here)) next
      | inr differs ↦ none e line begun (omega (arith, within, differs))
    ]

-- what is found through an event: no round below this bound, or one such that none has fewer messages
abbrev pub IsThrough : Chart → Place → ℕ → Option Round → Type 0
IsThrough c e most found = MatchOption found (HasNoRound c e (most + 1)) (λ round. IsRound c round.messages (place_of round.send) × (round.messages ≤ most) × HasNoRound c e round.messages)

-- the best round so far, also of the first k events of the line at p
abbrev pub IsBest : Chart → ℕ → ℕ → ℕ → Option Round → Option Round → Type 0
IsBest c n p k before best = IsFoundRound c best × (bound_of n best ≤ bound_of n before) × HasNoneOn c p k (bound_of n best)

pub best_next : (c : Chart) (n p k most : ℕ) (before best found : Option Round) → most + 1 ≡ bound_of n best → IsThrough c (at p (suc k)) most found → IsBest c n p k before best → IsBest c n p (k + 1) before (better_of best found)
best_next c n p k most before best None bound through (is, less, none) = (is, less, none_on-next c p k (bound_of n best) none (subst (HasNoRound c (at p (suc k))) bound through))
best_next c n p k most before best (Some round) bound (around, few, through) (is, less, none) = (
  around,
  omega (arith, few, bound, less),
  none_on-next c p k round.messages (none_on_below c p k (bound_of n best) round.messages (omega (arith, few, bound)) none) through,
)

-- one more line
pub lines_next : (c : Chart) (n k : ℕ) (size : ℕ → ℕ) (before best : Option Round) → bound_of n best ≤ bound_of n before → ((p : ℕ) → p < k → HasNoneOn c (suc p) (size p) (bound_of n before)) → HasNoneOn c (suc k) (size k) (bound_of n best)
    → (p : ℕ) → p < k + 1 → HasNoneOn c (suc p) (size p) (bound_of n best)
lines_next c n k size before best less old new p within =
    elim (cases_eq p k) [
      | inl same ↦ subst (λ q. HasNoneOn c (suc q) (size q) (bound_of n best)) (sym same) new
      | inr differs ↦ none_on_below c (suc p) (size p) (bound_of n before) (bound_of n best) less (old p (omega (arith, within, differs)))
    ]

-- on all lines
module _ (lines : List LineView) (bound : ℕ) (none : (p : ℕ) → p < length lines → HasNoneOn (chart_lines lines) (suc p) (length (chart_lines lines (suc p))) bound) where
  none_anywhere : (many : ℕ) (s : Place) → IsRound (chart_lines lines) many s → many < bound → ⊥
  none_anywhere many s round less =
      let event = round_event (chart_lines lines) many s round in
      let w = instance_within lines s event in
      none w.0 w.2 s w.1 event.0 (subst (λ q. s.index ≤ length (chart_lines lines q)) w.1 event.1) many round.0 less round.1

-- then the best round is a shortest one, and without one no event comes before itself
pub best_of_all : (lines : List LineView) (best : Option Round) → IsFoundRound (chart_lines lines) best → ((p : ℕ) → p < length lines → HasNoneOn (chart_lines lines) (suc p) (length (chart_lines lines (suc p))) (bound_of (length lines) best))
    → MatchOption best (IsCyclic (chart_lines lines) → ⊥) (IsShortestRound (chart_lines lines))
best_of_all lines None is none = λ cyclic.
    let some = round_from_cyclic (chart_lines lines) cyclic in
    let few = few_around lines some.0 some.0 some.1 (omega arith) some.2 in
    none_anywhere lines (length lines + 2) none few.0 few.1 few.2 few.3
best_of_all lines (Some round) is none = (is, λ many s around. elim (cases_lt many round.messages) [ inl less ↦ absurd (none_anywhere lines round.messages none many s around less) | inr enough ↦ enough ])
