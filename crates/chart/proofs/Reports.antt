-- What is before a receive on its own line: earlier receives from the sender, and what the send knows.
use Rattle.std.proofs.Common.{◌≡◌, ℕ, ◌+◌, ◌<◌, ◌≤◌, ◌↔◌, ◌⊎◌, inl, inr, true, false, List, take, Some, refl, sym, ◌∙◌, subst, arith}
use Rattle.std.proofs.lemmas.Bool.{cases_lt, false_from_ne_true, false≢true}
use Rattle.std.proofs.lemmas.Option.{same_Some}
use Rattle.chart.specs.declared.event.Event.{Event}
use Rattle.chart.specs.Events.{ith, is_receive_from, is_in}
use Rattle.chart.specs.Charts.{Chart, Place, at, chart_event, IsReceiveFrom, BelongsTo}
use Rattle.chart.specs.Order.{Before, IsReport, AreLineRaces, region_of_event}
use Rattle.chart.specs.Order.Direct.{same_sender}
use Rattle.chart.specs.Order.Before.{direct}
use Rattle.chart.specs.Knowing.{IsKnown}
use Rattle.chart.proofs.Tally.{ith_within, ith-take, ith_from_take}
use Rattle.chart.proofs.Chains.{chain_of, before_receive, before_its_receive}
use Rattle.chart.proofs.Knowledge.{known_front}

-- an earlier event of a receive's line is before it exactly if it is a receive from the same sender or the send knows
-- it
pub before_in_line : (c : Chart) (s : Place) (p i j k : ℕ) → BelongsTo c s (at p i) → IsKnown c s p k → 1 ≤ j → j < i → Before c (at p j) (at p i) ↔ (IsReceiveFrom c s.instance (at p j) ⊎ (j ≤ k))
before_in_line c s p i j k b known low less =
    let front = known_front c p s p k b.sent known j low in (
      λ before. elim (before_receive (chain_of before) s b) [
        | inl w ↦ inl w.1
        | inr w ↦ inr (front.0 w)
      ],
      λ h. elim h [
        | inl from ↦ direct (same_sender s.instance (record { line = refl; begun = low; less = less }) from b.received)
        | inr le ↦ before_its_receive c (at p j) s (at p i) (front.1 le) b
      ],
    )

-- which events are in the report of a receive
abbrev pub IsReported : Chart → Place → ℕ → Type 0
IsReported c r j = (j < r.index) × ((m : Event) × (chart_event c (at r.instance j) ≡ Some m) × (is_in (region_of_event (chart_event c r)) m ≡ false)) × (Before c (at r.instance j) r → ⊥)

-- which events are races of a line
abbrev pub IsLineRace : List Event → ℕ → ℕ → ℕ → ℕ → Type 0
IsLineRace line entry q region j = (entry < j) × ((m : Event) × (ith line j ≡ Some m) × (is_receive_from q m ≡ false) × (is_in region m ≡ false))

-- the races of the line before the receive, above what its send knows, are its report
pub report_from_races : (c : Chart) (s : Place) (p i k region : ℕ) (xs : List ℕ) → BelongsTo c s (at p (i + 1)) → region_of_event (chart_event c (at p (i + 1))) ≡ region → IsKnown c s p k → AreLineRaces (take i (c p)) k s.instance region xs → IsReport c (at p (i + 1)) xs
report_from_races c s p i k region xs b of_region known races = record {
  rising = races.rising;
  exact = λ j. (λ here. to_report j ((races.exact j).0 here), λ w. (races.exact j).1 (to_races j w));
}
  where
    to_report : (j : ℕ) → IsLineRace (take i (c p)) k s.instance region j → IsReported c (at p (i + 1)) j
    to_report j (above, (m, at_j, other, outside)) =
        let w = ith_from_take i (c p) j m at_j in
        let less : j < i + 1 = omega (arith, w.0) in
        let splits = before_in_line c s p (i + 1) j k b known (ith_within (c p) j m w.1).0 less in (
          less,
          (m, w.1, subst (λ x. is_in x m ≡ false) (sym of_region) outside),
          λ before. elim (splits.0 before) [
            | inl from ↦ false≢true (sym other ∙ subst (λ x. is_receive_from s.instance x ≡ true) (same_Some from.0 m (sym from.1 ∙ w.1)) from.2)
            | inr le ↦ omega arith
          ],
        )

    to_races : (j : ℕ) → IsReported c (at p (i + 1)) j → IsLineRace (take i (c p)) k s.instance region j
    to_races j (less, (m, at_j, outside), apart) =
        let splits = before_in_line c s p (i + 1) j k b known (ith_within (c p) j m at_j).0 less in
        let above : k < j = elim (cases_lt k j) [ inl w ↦ w | inr w ↦ absurd (apart (splits.1 (inr w))) ] in
        (above, (m, ith-take i (c p) j (omega arith) ∙ at_j, false_from_ne_true (is_receive_from s.instance m) (λ from. apart (splits.1 (inl (m, at_j, from)))), subst (λ x. is_in x m ≡ false) of_region outside))
