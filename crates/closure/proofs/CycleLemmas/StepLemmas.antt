-- One more message: for each line the last send from which one leads on, line by line.
use Rattle.std.proofs.Common.{◌≡◌, ℕ, suc, ◌+◌, ◌<◌, ◌≤◌, ◌⊎◌, inl, inr, max, List, length, replicate, ap, ◌∙◌, arith}
use Rattle.std.proofs.lemmas.Bool.{cases_eq}
use Rattle.chart.specs.Charts.{Chart, Place, at, LineView, chart_lines}
use Rattle.closure.specs.Cycle.Fronts.{IsFront, IsLead, IsHeard}
use Rattle.closure.specs.Cycle.Rounds.{IsReceivedAbove, Leads}
use Rattle.closure.proofs.CycleLemmas.FrontLemmas.{IsFront-same, IsFront-none, IsFront-raised}
use Rattle.closure.proofs.CycleLemmas.LeadLemmas.{heard_later, heard_within}
use Rattle.closure.specs.Rows.{entry}

-- messages lead by a send of the first lines
abbrev pub LeadsVia : Chart → Place → ℕ → ℕ → Place → Type 0
LeadsVia c e many line s = (t : Place) × Leads c e many t × (t.instance ≤ line) × IsReceivedAbove c t s

-- for each line the last send that does so
abbrev pub IsVia : List LineView → Place → ℕ → ℕ → List ℕ → Type 0
IsVia lines e many line front = IsFront (length lines) (LeadsVia (chart_lines lines) e many line) front

module _ (lines : List LineView) (e : Place) (many : ℕ) where
  abbrev c : Chart
  c = chart_lines lines

  -- by no lines none does
  pub via-none : IsVia lines e many 0 (replicate (length lines) 0)
  via-none = IsFront-none (length lines) (LeadsVia c e many 0) (λ s via. let w = heard_within lines via.0 s via.3 in omega (arith, via.2, w.1))

  -- by a line without a send that leads on none does
  pub via-skip : (line : ℕ) (front next : List ℕ) → IsLead lines e many front → entry front (suc line) ≡ 0 → IsVia lines e many line next → IsVia lines e many (line + 1) next
  via-skip line front next lead none via =
      IsFront-same (length lines) (LeadsVia c e many line) (LeadsVia c e many (line + 1)) next
      (λ s old. (old.0, old.1, omega (arith, old.2), old.3))
      (λ s new. elim (cases_eq new.0.instance (suc line)) [
        | inl same ↦
            let most = lead.most new.0 new.1 in
            let zero_there = ap (entry front) same ∙ none in
            absurd (omega (arith, most, zero_there, new.3.2.less))
        | inr differs ↦ (new.0, new.1, omega (arith, new.2, differs), new.3)
      ])
      via

  -- by another line, the sends whose messages are received above its last one do
  pub via-raised : (line : ℕ) (front row next after : List ℕ) → IsLead lines e many front → 0 < entry front (suc line) → IsHeard lines (at (suc line) (entry front (suc line))) row → length after ≡ length next
      → ((p : ℕ) → entry after p ≡ max (entry next p) (entry row p)) → IsVia lines e many line next → IsVia lines e many (line + 1) after
  via-raised line front row next after lead some heard whole greater via =
      let f : Place = at (suc line) (entry front (suc line)) in
      IsFront-same (length lines) (λ s. LeadsVia c e many line s ⊎ IsReceivedAbove c f s) (LeadsVia c e many (line + 1)) after
      (λ s has. elim has [
        | inl old ↦ (old.0, old.1, omega (arith, old.2), old.3)
        | inr above ↦ (f, elim (lead.sound (suc line)) [ inl none ↦ absurd (omega arith) | inr leads ↦ leads ], omega arith, above)
      ])
      (λ s new. elim (cases_eq new.0.instance (suc line)) [
        | inl same ↦ inr (heard_later c new.0 f s same (let most = lead.most new.0 new.1 in let there = ap (entry front) same in omega (arith, most, there)) new.3)
        | inr differs ↦ inl (new.0, new.1, omega (arith, new.2, differs), new.3)
      ])
      (IsFront-raised (length lines) (LeadsVia c e many line) (IsReceivedAbove c f) next row after whole greater via heard)

  -- by all lines, all sends that lead on do
  pub via-all : (line : ℕ) (next : List ℕ) → length lines ≤ line → IsVia lines e many line next → IsLead lines e (suc many) next
  via-all line next all via =
      IsFront-same (length lines) (LeadsVia c e many line) (Leads c e (suc many)) next
      (λ s old. (old.0, old.1, old.3))
      (λ s new. (new.0, new.1, (let w = heard_within lines new.0 s new.2 in omega (arith, w.1, w.2)), new.2))
      via
