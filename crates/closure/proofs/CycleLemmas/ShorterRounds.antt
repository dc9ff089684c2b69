-- A round with more messages than there are lines passes a line twice, so there is a shorter one.
use Rattle.std.proofs.Common.{◌≡◌, ℕ, zero, suc, ◌+◌, ◌<◌, ◌≤◌, ◌⊎◌, inl, inr, true, false, ◌||◌, List, [], ◌∷◌, length, refl, sym, subst, arith, eqb, eqb-true}
use Rattle.std.proofs.lemmas.Bool.{cases_Bool, cases_lt, false≢true}
use Rattle.std.proofs.lemmas.Map.Steps.{length-le_from_distinct_below}
use Rattle.std.specs.List.{AllByRecursion, IsDistinct, list_any}
use Rattle.chart.specs.Charts.{Chart, Place, LineView, chart_lines}
use Rattle.closure.specs.Cycle.Rounds.{IsReceivedAbove, Leads, IsRound}
use Rattle.closure.proofs.CycleLemmas.LeadLemmas.{leads_later, leads_then, last_heard, heard_within}

-- the lines of the messages, up to the event's own
abbrev lines_by : (c : Chart) (e : Place) (many : ℕ) (s : Place) → Leads c e many s → List ℕ
lines_by c e zero s leads = []
lines_by c e (suc many) s (t, leads, heard) = t.instance ∷ lines_by c e many t leads

length_by : (c : Chart) (e : Place) (many : ℕ) (s : Place) (leads : Leads c e many s) → length (lines_by c e many s leads) ≡ many
length_by c e zero s leads = refl
length_by c e (suc many) s (t, leads, heard) = let n = length_by c e many t leads in omega (arith, n)

-- an event of the line of q on the way
abbrev IsStop : Chart → Place → ℕ → Place → ℕ → Type 0
IsStop c e many s q = (t : Place) × (a : ℕ) × (b : ℕ) × Leads c e a t × Leads c t (suc b) s × (t.instance ≡ q) × (a + b + 1 ≡ many)

-- one more message
stop_more : (c : Chart) (e : Place) (many : ℕ) (s t : Place) (q : ℕ) → IsReceivedAbove c t s → IsStop c e many t q → IsStop c e (suc many) s q
stop_more c e many s t q heard (u, a, b, on, back, same, sum) = (u, a, suc b, on, (t, back, heard), same, omega (arith, sum))

-- the last one on the way
stop_here : (c : Chart) (e : Place) (many : ℕ) (s t : Place) (q : ℕ) → Leads c e many t → IsReceivedAbove c t s → eqb q t.instance ≡ true → IsStop c e (suc many) s q
stop_here c e many s t q leads heard same = (t, many, 0, leads, (t, refl, heard), sym (eqb-true q t.instance same), omega arith)

-- no line is q, or one is
apart : (c : Chart) (e : Place) (many : ℕ) (s : Place) (leads : Leads c e many s) (q : ℕ) → AllByRecursion (λ p. eqb q p ≡ false) (lines_by c e many s leads) ⊎ IsStop c e many s q
apart c e zero s leads q = inl tt
apart c e (suc many) s (t, leads, heard) q =
    elim (cases_Bool (eqb q t.instance)) [
      | inl same ↦ inr (stop_here c e many s t q leads heard same)
      | inr differs ↦ elim (apart c e many t leads q) [ inl rest ↦ inl (differs, rest) | inr stop ↦ inr (stop_more c e many s t q heard stop) ]
    ]

-- each line that is passed has an event on the way
stop_at : (c : Chart) (e : Place) (many : ℕ) (s : Place) (leads : Leads c e many s) (q : ℕ) → list_any (eqb q) (lines_by c e many s leads) ≡ true → IsStop c e many s q
stop_at c e zero s leads q among = absurd (false≢true among)
stop_at c e (suc many) s (t, leads, heard) q among =
    elim (cases_Bool (eqb q t.instance)) [
      | inl same ↦ stop_here c e many s t q leads heard same
      | inr differs ↦ stop_more c e many s t q heard (stop_at c e many t leads q (subst (λ b. (b || list_any (eqb q) (lines_by c e many t leads)) ≡ true) differs among))
    ]

-- a line that is passed twice
abbrev IsAgain : Chart → Place → ℕ → Place → Type 0
IsAgain c e many s = (t u : Place) × (a b k : ℕ) × Leads c e a t × Leads c t (suc b) u × Leads c u (suc k) s × (t.instance ≡ u.instance) × (a + b + k + 2 ≡ many)

-- no line is passed twice, or one is
distinct_or_again : (c : Chart) (e : Place) (many : ℕ) (s : Place) (leads : Leads c e many s) → IsDistinct eqb (lines_by c e many s leads) ⊎ IsAgain c e many s
unfolding IsDistinct
distinct_or_again c e zero s leads = inl tt
distinct_or_again c e (suc many) s (t, leads, heard) =
    elim (distinct_or_again c e many t leads) [
      | inr (v, u, a, b, k, x, y, z, same, sum) ↦ inr (v, u, a, b, suc k, x, y, (t, z, heard), same, omega (arith, sum))
      | inl distinct ↦
          elim (apart c e many t leads t.instance) [
            | inl others ↦ inl (others, distinct)
            | inr (v, a, b, x, y, same, sum) ↦ inr (v, t, a, b, 0, x, y, (t, refl, heard), same, omega (arith, sum))
          ]
    ]

-- then there is a round of fewer messages
shorter : (c : Chart) (s : Place) (many : ℕ) → IsAgain c s many s → (few : ℕ) × (t : Place) × IsRound c few t × (few < many)
shorter c s many (t, u, a, b, k, x, y, z, same, sum) =
    elim (cases_lt u.index t.index) [
      | inr le ↦ (suc b, u, (omega arith, leads_later c t u u b same le y), omega (arith, sum))
      | inl less ↦
          let over = leads_later c u t s k (sym same) (omega arith) z in
          (a + suc k, s, (omega arith, leads_then c s t s a (suc k) x over), omega (arith, sum))
    ]

-- if no line is passed twice, there is at most one message more than there are lines
few_lines : (lines : List LineView) (e : Place) (many : ℕ) (s : Place) (leads : Leads (chart_lines lines) e many s) → IsDistinct eqb (lines_by (chart_lines lines) e many s leads) → many ≤ length lines + 1
few_lines lines e many s leads distinct =
    let n = length_by (chart_lines lines) e many s leads in
    let most = length-le_from_distinct_below (lines_by (chart_lines lines) e many s leads) (length lines + 1) distinct (λ q among. within q (stop_at (chart_lines lines) e many s leads q among)) in
    omega (arith, n, most)
  where
    within : (q : ℕ) → IsStop (chart_lines lines) e many s q → q < length lines + 1
    within q (t, a, b, on, back, same, sum) =
        let u = last_heard (chart_lines lines) t s b back in
        let w = heard_within lines t u.0 u.1 in
        omega (arith, same, w.1, w.2)

-- if messages lead around, few enough do
pub few_around : (lines : List LineView) (fuel many : ℕ) (s : Place) → many ≤ fuel → IsRound (chart_lines lines) many s → (few : ℕ) × (t : Place) × IsRound (chart_lines lines) few t × (few < length lines + 2)
few_around lines zero many s le (some, leads) = absurd (omega arith)
few_around lines (suc fuel) many s le (some, leads) =
    elim (distinct_or_again (chart_lines lines) s many s leads) [
      | inl distinct ↦ let most = few_lines lines s many s leads distinct in (many, s, (some, leads), omega (arith, most))
      | inr again ↦
          let w = shorter (chart_lines lines) s many again in
          few_around lines fuel w.0 w.1 (omega (arith, w.3)) w.2
    ]
