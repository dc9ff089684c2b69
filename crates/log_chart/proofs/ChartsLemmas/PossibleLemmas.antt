-- A chart is possible if each receive has its send, with its name, and no event is before itself. The chart is run
-- event by event, and if no further event can be made, all are made.
use Rattle.std.proofs.Common.{◌≡◌, ℕ, zero, suc, ◌+◌, ◌<◌, ◌≤◌, ◌⊎◌, inl, inr, List, Some, length, replicate, set, count_by, refl, sym, ◌∙◌, subst, arith, eq-eqb}
use Rattle.std.specs.Prelude.{slice_index}
use Rattle.std.proofs.lemmas.Bool.{cases_lt, cases_eq}
use Rattle.std.proofs.lemmas.List.{length-replicate, length-set}
use Rattle.chart.specs.Charts.{Place, at, chart_event, LineView, IsChart, IsReceiveFrom, BelongsTo, HasNoSend, IsPossible, chart_lines}
use Rattle.chart.specs.Events.{tally, is_send_to, is_receive_from, partner_of}
use Rattle.chart.specs.Order.{IsCyclic}
use Rattle.chart.specs.declared.event.Event.{Event}
use Rattle.chart.specs.declared.event.Event.TheVariants.{Send, Receive}
use Rattle.chart.proofs.Tally.{ith_at, tally_reached, tally_all}
use Rattle.closure.specs.Links.{HasSameName}
use Rattle.closure.specs.Runs.{next_of, IsReady, IsStopped, AreStopped}
use Rattle.closure.proofs.LinkLemmas.{tally_pass}
use Rattle.closure.proofs.ReadLemmas.{partner_within}
use Rattle.closure.proofs.RunLemmas.{left, left-less, IsMade, IsMade-none, IsMade-next, IsPossible-from_made, IsCyclic-from_stopped}

module _ (lines : List LineView) (chart : IsChart lines) (sent : (r : Place) → HasNoSend (chart_lines lines) r → ⊥)
    (named : (s r : Place) → BelongsTo (chart_lines lines) s r → HasSameName (chart_lines lines) s r)
    (partners : (e : Place) (m : Event) → chart_event (chart_lines lines) e ≡ Some m → 1 ≤ partner_of m) (acyclic : IsCyclic (chart_lines lines) → ⊥) where
  abbrev Ready : List ℕ → ℕ → Type 0
  Ready made p = IsReady (chart_lines lines) (length lines) made p

  abbrev Stopped : List ℕ → ℕ → Type 0
  Stopped made p = IsStopped (chart_lines lines) (length lines) made p

  -- the next event of a line
  next : (made : List ℕ) (p : ℕ) → p < length lines → Ready made p ⊎ Stopped made p
  next made p p_in =
      elim (cases_lt (slice_index made p) (length (chart_lines lines (suc p)))) [
        | inr past ↦ inr (inl past)
        | inl within ↦
            let found = ith_at (chart_lines lines (suc p)) (suc (slice_index made p)) (omega arith) (omega (arith, within)) in
            by_event found.0 found.1 within (partners (next_of made p) found.0 found.1) (partner_within lines p (slice_index made p) found.0 chart p_in found.1)
      ]
    where
      by_event : (m : Event) → chart_event (chart_lines lines) (next_of made p) ≡ Some m → slice_index made p < length (chart_lines lines (suc p)) → 1 ≤ partner_of m → partner_of m ≤ length lines
          → Ready made p ⊎ Stopped made p
      by_event (Send zero name) is within low high = absurd (omega (arith, low))
      by_event (Send (suc q) name) is within low high =
          inl (record { within = within; partner = inl (q, omega (arith, high), (Send (suc q) name, is, eq-eqb (suc q) (suc q) refl)) })
      by_event (Receive zero name region) is within low high = absurd (omega (arith, low))
      by_event (Receive (suc q) name region) is within low high = by_count (cases_lt (count_by (is_send_to (suc p)) (chart_lines lines (suc q))) (tally (is_receive_from (suc q)) (chart_lines lines (suc p)) (suc (slice_index made p))))
        where
          received : IsReceiveFrom (chart_lines lines) (suc q) (next_of made p)
          received = (Receive (suc q) name region, is, eq-eqb (suc q) (suc q) refl)

          some : 1 ≤ tally (is_receive_from (suc q)) (chart_lines lines (suc p)) (suc (slice_index made p))
          some = let more = tally_pass (is_receive_from (suc q)) (chart_lines lines (suc p)) (slice_index made p) received in omega (arith, more)

          by_send : (j : ℕ) → BelongsTo (chart_lines lines) (at (suc q) j) (next_of made p) → Ready made p ⊎ Stopped made p
          by_send j belongs =
              elim (cases_lt (slice_index made q) j) [
                | inl later ↦ inr (inr (q, j, omega (arith, high), belongs, later))
                | inr was_made ↦ inl (record { within = within; partner = inr (q, j, omega (arith, high), belongs, named (at (suc q) j) (next_of made p) belongs, was_made) })
              ]

          by_count : (count_by (is_send_to (suc p)) (chart_lines lines (suc q)) < tally (is_receive_from (suc q)) (chart_lines lines (suc p)) (suc (slice_index made p)))
              ⊎ (tally (is_receive_from (suc q)) (chart_lines lines (suc p)) (suc (slice_index made p)) ≤ count_by (is_send_to (suc p)) (chart_lines lines (suc q))) → Ready made p ⊎ Stopped made p
          by_count (inl fewer) = absurd (sent (next_of made p) (suc q, received, fewer))
          by_count (inr enough) =
              let all = tally_all (is_send_to (suc p)) (chart_lines lines (suc q)) (length (chart_lines lines (suc q))) (omega arith) in
              let found = tally_reached (is_send_to (suc p)) (chart_lines lines (suc q)) (tally (is_receive_from (suc q)) (chart_lines lines (suc p)) (suc (slice_index made p))) (length (chart_lines lines (suc q))) some (omega (arith, enough, all)) in
              by_send found.0 (record { sent = found.2; received = received; turn = found.3 })

  -- a line whose next event can be made, or there is none among the first k
  ready_one : (made : List ℕ) (k : ℕ) → k ≤ length lines → ((p : ℕ) × (p < length lines) × Ready made p) ⊎ ((p : ℕ) → p < k → Stopped made p)
  ready_one made zero few = inr (λ p less. absurd (omega (arith, less)))
  ready_one made (suc k) few =
      elim (ready_one made k (omega (arith, few))) [
        | inl found ↦ inl found
        | inr stopped ↦
            elim (next made k (omega (arith, few))) [
              | inl ready ↦ inl (k, omega (arith, few), ready)
              | inr stop ↦ inr (λ p less. elim (cases_eq p k) [ inl e ↦ subst (Stopped made) (sym e) stop | inr differs ↦ stopped p (grind (arith, less, differs)) ])
            ]
      ]

  -- a line that isn't done, or there is none among the first k
  undone_one : (made : List ℕ) (k : ℕ) → ((p : ℕ) × (p < k) × (slice_index made p < length (chart_lines lines (suc p)))) ⊎ ((p : ℕ) → p < k → length (chart_lines lines (suc p)) ≤ slice_index made p)
  undone_one made zero = inr (λ p less. absurd (omega (arith, less)))
  undone_one made (suc k) =
      elim (undone_one made k) [
        | inl found ↦ inl (found.0, omega (arith, found.1), found.2)
        | inr done ↦
            elim (cases_lt (slice_index made k) (length (chart_lines lines (suc k)))) [
              | inl more ↦ inl (k, omega arith, more)
              | inr past ↦
                  inr (λ p less. elim (cases_eq p k) [
                    | inl e ↦ subst (λ x. length (chart_lines lines (suc x)) ≤ slice_index made x) (sym e) past
                    | inr differs ↦ done p (grind (arith, less, differs))
                  ])
            ]
      ]

  -- if no event can be made, all are made
  stopped_is : (made : List ℕ) → IsMade (length lines) (chart_lines lines) made → AreStopped (chart_lines lines) (length lines) made → IsPossible (length lines) (chart_lines lines)
  stopped_is made is stopped =
      elim (undone_one made (length lines)) [
        | inl more ↦ absurd (acyclic (IsCyclic-from_stopped (chart_lines lines) (length lines) made stopped more.0 more.1 more.2))
        | inr all ↦ IsPossible-from_made lines made is all
      ]

  run : (few : ℕ) (made : List ℕ) → length made ≡ length lines → left (chart_lines lines) (length lines) made ≤ few → IsMade (length lines) (chart_lines lines) made → IsPossible (length lines) (chart_lines lines)
  run zero made whole less is =
      elim (ready_one made (length lines) (omega arith)) [
        | inl w ↦
            let fewer = left-less (chart_lines lines) (length lines) w.0 made w.1 (omega (arith, w.1, whole)) w.2.within in
            absurd (omega (arith, fewer, less))
        | inr stopped ↦ stopped_is made is stopped
      ]
  run (suc few) made whole less is =
      elim (ready_one made (length lines) (omega arith)) [
        | inl w ↦
            let fewer = left-less (chart_lines lines) (length lines) w.0 made w.1 (omega (arith, w.1, whole)) w.2.within in
            run few (set made w.0 (slice_index made w.0 + 1)) (length-set made w.0 (slice_index made w.0 + 1) ∙ whole) (omega (arith, fewer, less)) (IsMade-next lines made w.0 chart whole is w.1 w.2)
        | inr stopped ↦ stopped_is made is stopped
      ]

  pub possible : IsPossible (length lines) (chart_lines lines)
  possible =
      run (left (chart_lines lines) (length lines) (replicate (length lines) 0)) (replicate (length lines) 0) (length-replicate (length lines) 0) (omega arith)
      (IsMade-none (length lines) (length lines) (chart_lines lines))
