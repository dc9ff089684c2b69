-- The best of the first race pairs, when one more was tried; and messages that are added one after another.
use Rattle.std.proofs.Common.{◌≡◌, ℕ, ◌+◌, ◌<◌, ◌≤◌, ◌⊎◌, inl, inr, Bool, true, false, cond, List, length, Option, None, Some, Result, Ok, Err, refl, sym, ap, ◌∙◌, subst, arith}
use Rattle.std.specs.Prelude.{slice_get, nat_lt, MatchOption, IfOk}
use Rattle.std.proofs.lemmas.Bool.{cases_lt, ltb-true, ltb-false}
use Rattle.std.proofs.lemmas.List.{length-map}
use Rattle.std.proofs.lemmas.Option.{same_Some}
use Rattle.chart.specs.Charts.{LineView, chart_lines, IsPossible, IsChart}
use Rattle.repair.specs.Counted.{CountedView, AreCounted}
use Rattle.repair.specs.Growing.{message_of, line_with}
use Rattle.repair.specs.Moves.{moved_counted}
use Rattle.repair.specs.declared.best.Addition.{Addition}
use Rattle.repair.specs.declared.best.Tried.{Tried}
use Rattle.repair.specs.declared.pairs.RacePair.{RacePair}
use Rattle.repair.specs.Repairs.{ArePairs, Leaves, with_message, IsBestOf, HasNoneOf, IsBest, pairs_of, IsRepair}
use Rattle.chart.specs.Reports.{ReportView}
use Rattle.closure.specs.Faults.{place_of}
use Rattle.repair.specs.Mends.{Informs}
use Rattle.repair.specs.declared.message.Message.{Message}
use Rattle.repair.specs.Naming.{IsNewName}
use Rattle.repair.specs.Best.{HasPairs, IsTried, limit_of, better, IsBestSo, IsFound}
use Rattle.repair.proofs.PairLemmas.{one_count}
use Rattle.repair.proofs.RepairLemmas.{repair_of, one_left}

module _ (counted : CountedView) (lines : List LineView) (name : List ℕ) (pairs : List RacePair) (i : ℕ) (pair : RacePair) (here : slice_get pairs i ≡ Some pair) where
  -- one of the first pairs, or the next one
  among : (j : ℕ) (other : RacePair) → j < i + 1 → slice_get pairs j ≡ Some other → (j < i) ⊎ (other ≡ pair)
  among j other less at_j = elim (cases_lt j i) [
    | inl l ↦ inl l
    | inr m ↦ let same : j ≡ i = omega arith in inr (same_Some other pair (sym at_j ∙ ap (slice_get pairs) same ∙ here))
  ]

  -- none of them leaves fewer
  none_next : HasNoneOf counted lines name pairs i → ((k : ℕ) → Leaves counted lines name pair k → length pairs ≤ k) → HasNoneOf counted lines name pairs (i + 1)
  none_next nothing this j other k less at_j leaves = elim (among j other less at_j) [
    | inl l ↦ nothing j other k l at_j leaves
    | inr is ↦ this k (subst (λ (x : RacePair). Leaves counted lines name x k) is leaves)
  ]

  -- the best one stays
  stays : (added : Addition) (left : ℕ) → IsBestOf counted lines name pairs i added left → ((k : ℕ) → Leaves counted lines name pair k → left ≤ k) → IsBestOf counted lines name pairs (i + 1) added left
  stays added left b this =
      let within = b.within in
      record {
        is = b.is;
        fewer = b.fewer;
        place = b.place;
        within = omega arith;
        here = b.here;
        least = λ j other k less at_j leaves. elim (among j other less at_j) [
          | inl l ↦ b.least j other k l at_j leaves
          | inr is ↦ this k (subst (λ (x : RacePair). Leaves counted lines name x k) is leaves)
        ];
        first = b.first;
      }

  -- the next one is it
  is_best : (t : Tried) → IsTried counted lines name pair t → t.left < length pairs → ((j : ℕ) (other : RacePair) (k : ℕ) → j < i → slice_get pairs j ≡ Some other → Leaves counted lines name other k → t.left < k) → IsBestOf counted lines name pairs (i + 1) t.addition t.left
  is_best t tried fewer least = record {
    is = tried.added;
    fewer = fewer;
    place = i;
    within = omega arith;
    here = here ∙ ap (λ (x : RacePair). Some x) (sym tried.pair_is);
    least = λ j other k less at_j leaves. elim (among j other less at_j) [
      | inl l ↦ let more = least j other k l at_j leaves in omega arith
      | inr is ↦ let same = tried.one k (subst (λ (x : RacePair). Leaves counted lines name x k) is leaves) in omega arith
    ];
    first = λ j other k less at_j leaves. least j other k less at_j leaves;
  }

  -- a pair that was mended, and the best before it
  next_tried : (best : Option Tried) (t : Tried) → IsBestSo counted lines name pairs i best → IsTried counted lines name pair t → (fewer : Bool) → nat_lt t.left (limit_of best (length pairs)) ≡ fewer → IsBestSo counted lines name pairs (i + 1) (cond fewer (Some t) best)
  next_tried None t so tried true is =
      let less = ltb-true t.left (length pairs) is in
      (is_best t tried less (λ j other k l at_j leaves. let most = so j other k l at_j leaves in omega arith), (tried.chart, tried.counted_so))
  next_tried None t so tried false is =
      let most = ltb-false t.left (length pairs) is in
      none_next so (λ k leaves. let same = tried.one k leaves in omega arith)
  next_tried (Some b) t so tried true is =
      let less = ltb-true t.left b.left is in
      let fewer = so.0.fewer in
      (is_best t tried (omega arith) (λ j other k l at_j leaves. let most = so.0.least j other k l at_j leaves in omega arith), (tried.chart, tried.counted_so))
  next_tried (Some b) t so tried false is =
      let most = ltb-false t.left b.left is in
      (stays b.addition b.left so.0 (λ k leaves. let same = tried.one k leaves in omega arith), so.1)

  -- a pair that wasn't
  next_untried : (best : Option Tried) → IsBestSo counted lines name pairs i best → ((k : ℕ) → Leaves counted lines name pair k → ⊥) → IsBestSo counted lines name pairs (i + 1) best
  next_untried None so never = none_next so (λ k leaves. absurd (never k leaves))
  next_untried (Some b) so never = (stays b.addition b.left so.0 (λ k leaves. absurd (never k leaves)), so.1)

  pub best_next : (best next : Option Tried) → IsBestSo counted lines name pairs i best → MatchOption next ((k : ℕ) → Leaves counted lines name pair k → ⊥) (IsTried counted lines name pair) → IsBestSo counted lines name pairs (i + 1) (better best next (length pairs))
  best_next best None so never = next_untried best so never
  best_next best (Some t) so tried = next_tried best t so tried (nat_lt t.left (limit_of best (length pairs))) refl

-- before any was tried none leaves fewer
pub best_none : (counted : CountedView) (lines : List LineView) (name : List ℕ) (pairs : List RacePair) → IsBestSo counted lines name pairs 0 None
best_none counted lines name pairs j other k less at_j leaves = absurd (omega arith)

-- what a chart is with the best message: possible, with as many lines, and with fewer race pairs
pub best_possible : (counted : CountedView) (lines chart : List LineView) (added : Addition) (left : ℕ) → IsBest counted lines added left → chart ≡ with_message (message_of added.message) lines → IsPossible (length chart) (chart_lines chart)
best_possible counted lines chart added left (name, pairs, new, are, best) is =
    let long : length (with_message (message_of added.message) lines) ≡ length lines = length-map lines (line_with (message_of added.message)) in
    let possible = subst (λ n. IsPossible n (chart_lines (with_message (message_of added.message) lines))) (sym long) best.is.repair.mended.possible in
    subst (λ (l : List LineView). IsPossible (length l) (chart_lines l)) (sym is) possible

pub best_long : (lines chart : List LineView) (added : Addition) → chart ≡ with_message (message_of added.message) lines → length chart ≡ length lines
best_long lines chart added is = ap (λ (l : List LineView). length l) is ∙ length-map lines (line_with (message_of added.message))

pub best_pairs : (counted next : CountedView) (lines chart : List LineView) (added : Addition) (left : ℕ) → IsBest counted lines added left → chart ≡ with_message (message_of added.message) lines → next ≡ moved_counted (message_of added.message) counted → HasPairs next chart left
best_pairs counted next lines chart added left (name, pairs, new, are, best) is so =
    subst (λ (k : CountedView). HasPairs k chart left) (sym so)
    (subst (λ (l : List LineView). HasPairs (moved_counted (message_of added.message) counted) l left) (sym is) (best.is.pairs, best.is.are, best.is.left_is))

pub best_fewer : (counted : CountedView) (lines : List LineView) (added : Addition) (left many : ℕ) → IsBest counted lines added left → HasPairs counted lines many → left < many
best_fewer counted lines added left many (name, pairs, new, are, best) has =
    let same = one_count counted lines (length pairs) many (pairs, are, refl) has in
    let fewer = best.fewer in
    omega arith

-- a pair that was mended, with the number of race pairs of its chart
pub tried_is : (counted next : CountedView) (lines chart : List LineView) (pair : RacePair) (name : List ℕ) (m : Message) (left : ℕ) → IsChart chart → Informs (length lines) (chart_lines lines) (place_of pair.earlier) (place_of pair.receive) name m chart → chart ≡ with_message (message_of m) lines → next ≡ moved_counted (message_of m) counted → HasPairs next chart left
    → IsTried counted lines name pair (record { addition = record { pair = pair; message = m }; chart = chart; counted = next; left = left })
tried_is counted next lines chart pair name m left is_chart informs is so has =
    let repair : IsRepair lines pair name (message_of m) = repair_of lines chart pair name m is_chart informs is in
    let moved : HasPairs (moved_counted (message_of m) counted) chart left = subst (λ (k : CountedView). HasPairs k chart left) so has in
    let left_so : HasPairs (moved_counted (message_of m) counted) (with_message (message_of m) lines) left = subst (λ (l : List LineView). HasPairs (moved_counted (message_of m) counted) l left) is moved in
    record {
      pair_is = refl;
      added = record { repair = repair; pairs = left_so.0; are = left_so.1; left_is = left_so.2 };
      chart = is;
      counted_so = so;
      one = one_left counted lines pair name (message_of m) left repair left_so;
    }

-- the best of all race pairs of a chart
found_of : (counted : CountedView) (lines : List LineView) (name : List ℕ) (pairs : List RacePair) (best : Option Tried) → IsNewName lines name → ArePairs counted lines pairs → IsBestSo counted lines name pairs (length pairs) best → IsFound counted lines best
found_of counted lines name pairs None new are so = (name, pairs, new, are, so)
found_of counted lines name pairs (Some t) new are so = ((name, pairs, new, are, so.0), so.1)

pub found_ok : (counted : CountedView) {E : Type 0} (lines closure given : List LineView) (name : List ℕ) (shown rs : List ReportView) (pairs ps : List RacePair) (r : Result (Option Tried) E) → closure ≡ lines → given ≡ lines → IsNewName given name → AreCounted counted lines shown → rs ≡ shown → pairs ≡ pairs_of rs → ps ≡ pairs
    → IfOk r (IsBestSo counted closure name ps (length ps)) → IfOk r (IsFound counted lines)
found_ok counted lines closure given name shown rs pairs ps (Err e) one two new are same is copied so = so
found_ok counted lines closure given name shown rs pairs ps (Ok best) one two new are same is copied so =
    found_of counted lines name ps best (subst (λ (l : List LineView). IsNewName l name) two new)
    (shown, are, copied ∙ is ∙ ap pairs_of same)
    (subst (λ (l : List LineView). IsBestSo counted l name ps (length ps) best) one so)
