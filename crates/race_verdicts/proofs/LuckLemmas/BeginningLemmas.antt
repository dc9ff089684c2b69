-- Receives that come after invented sends, by the sends that are known to do so.
use Rattle.std.proofs.Common.{◌≡◌, ℕ, zero, suc, ◌+◌, ◌<◌, ◌≤◌, ◌↔◌, inl, inr, Bool, List, [], Option, None, Some, length, get_or, set, refl, sym, ap, ◌∙◌, subst, arith}
use Rattle.std.specs.Prelude.{IsTrue}
use Rattle.std.proofs.lemmas.Bool.{cases_eq, cases_lt}
use Rattle.std.proofs.lemmas.List.{get_or-set_same, get_or-set_other, get_or_past}
use Rattle.std.proofs.lemmas.Option.{slice_get_within}
use Rattle.chart.specs.Charts.{Chart, Place, at, LineView, chart_lines, BelongsTo, IsSendTo}
use Rattle.chart.specs.Knowing.{IsUpTo}
use Rattle.chart.specs.Order.{Before}
use Rattle.chart.specs.Places.{IsEvent}
use Rattle.chart.proofs.Belongs.{not_both, same_place, IsEvent-from_event}
use Rattle.chart.proofs.Chains.{before_its_receive, before_from_above}
use Rattle.closure.proofs.BeforeLemmas.{before_received}
use Rattle.closure.proofs.ReadLemmas.{line_within}
use Rattle.closure.specs.Searches.{IsSend}
use Rattle.log_chart.specs.declared.item.Item.{Item}
use Rattle.race_verdicts.specs.Luck.Invention.{IsUnlogged, AreInvented, IsUpToFirst, AreNumbered, IsKnownSend, IsKnownFrom, AreBeginnings}
use Rattle.race_verdicts.specs.Luck.Places.{IsInvented}
use Rattle.race_verdicts.specs.Luck.Tables.{IsFirst}
use Rattle.race_verdicts.proofs.LuckLemmas.ItemLemmas.{IsOnHost, on_host, of_log}
use Rattle.race_verdicts.specs.Recordings.{RecordingView}

-- the numbers of events are at least 1
unlogged_begun : (items : List Item) (i : ℕ) → IsUnlogged items i → 1 ≤ i
unlogged_begun items zero its = absurd (let is = its.is in cc is)
unlogged_begun items (suc i) its = omega arith

unlogged_within : (items : List Item) (i : ℕ) → IsUnlogged items i → i < length items + 1
unlogged_within items zero its = omega arith
unlogged_within items (suc i) its = let within = slice_get_within items i its.item its.is in omega arith

module _ (hosts : List (List Item)) (invented : List (Option ℕ)) (are : AreInvented hosts invented) where
  entry_within : (p i : ℕ) → get_or invented p None ≡ Some i → p < length hosts
  entry_within p i is =
      elim (cases_lt p (length hosts)) [
        | inl less ↦ less
        | inr past ↦ absurd (let none : get_or invented p None ≡ None = get_or_past invented p None (omega (arith, are.whole)) in cc (none, is))
      ]

  first_at : (p i : ℕ) → get_or invented p None ≡ Some i → IsFirst (IsUnlogged (get_or hosts p [])) (length (get_or hosts p []) + 1) (Some i)
  first_at p i is = subst (IsFirst (IsUnlogged (get_or hosts p [])) (length (get_or hosts p []) + 1)) is (are.each p (entry_within p i is))

  pub are_numbered : AreNumbered invented
  are_numbered p i is = let first = first_at p i is in unlogged_begun (get_or hosts p []) i first.1

-- an invented event is a send, and the first invented event of its line is at most this one
module _ (lines : List LineView) (rec : RecordingView) (known : List (Option ℕ)) (are : AreBeginnings lines rec known) where
  invented_send : (e : Place) → IsInvented rec e → (q : ℕ) × IsSendTo (chart_lines lines) q e
  invented_send e its = let log = of_log lines rec are.recording e its.item its.is in are.recording.same e its.item its.is (log.unlogged its.unlogged)

  invented_first : (s e : Place) → IsInvented rec e → IsSend (chart_lines lines) s → IsUpTo (chart_lines lines) s e → IsKnownSend (chart_lines lines) are.invented s.instance s.index
  invented_first s e its send up =
      let on = on_host rec e its.item its.is in
      let unlogged : IsUnlogged (get_or rec.hosts on.host []) e.index = record { item = its.item; is = on.is; unlogged = its.unlogged } in
      go on unlogged (get_or are.invented on.host None) refl (are.are.each on.host on.within)
    where
      go : (on : IsOnHost rec e its.item) → IsUnlogged (get_or rec.hosts on.host []) e.index → (first : Option ℕ) → get_or are.invented on.host None ≡ first
          → IsFirst (IsUnlogged (get_or rec.hosts on.host [])) (length (get_or rec.hosts on.host []) + 1) first → IsKnownSend (chart_lines lines) are.invented s.instance s.index
      go on unlogged None is none = absurd (none e.index (unlogged_within (get_or rec.hosts on.host []) e.index unlogged) unlogged)
      go on unlogged (Some i) is first =
          record {
            send = send;
            line = on.host;
            index = i;
            is = is;
            up =
                elim (cases_eq i e.index) [
                  | inl same ↦ subst (IsUpTo (chart_lines lines) s) (same_place e (at (suc on.host) i) on.instance (sym same)) up
                  | inr other ↦
                      let low : i ≤ e.index =
                      elim (cases_lt e.index i) [
                        | inl less ↦ absurd (first.2 e.index less unlogged)
                        | inr past ↦ past
                      ] in
                      inr
                      (before_from_above (chart_lines lines) send.0 s (at (suc on.host) i) e send.1
                      (record { line = sym on.instance; begun = unlogged_begun (get_or rec.hosts on.host []) i first.1; less = omega (arith, low, other) }) up)
                ];
          }

  known_invented : (s : Place) → IsKnownSend (chart_lines lines) are.invented s.instance s.index → (e : Place) × IsInvented rec e × IsUpTo (chart_lines lines) s e
  known_invented s its =
      let first = first_at rec.hosts are.invented are.are its.line its.index its.is in
      let one = first.1 in
      (at (suc its.line) its.index, record { item = one.item; is = one.is; unlogged = one.unlogged }, its.up)

  -- a receive comes after an invented send if its send is known to
  pub known_before : (s r : Place) (place : ℕ) (first : Option ℕ) (stated : Bool) → BelongsTo (chart_lines lines) s r → s.instance ≡ suc place → place < length lines → first ≡ get_or known place None
      → (IsTrue stated ↔ IsUpToFirst first s.index) → IsTrue stated ↔ ((e : Place) × IsInvented rec e × Before (chart_lines lines) e r)
  known_before s r place first stated belongs at_place within is states = (
    λ yes.
        let w = known_invented s (both.1 (states.0 yes)) in
        (w.0, w.1, before_its_receive (chart_lines lines) w.0 s r w.2 belongs),
    λ w.
        elim ((before_received (chart_lines lines) w.0 s r belongs).0 w.2) [
          | inl received ↦ let sent = invented_send w.0 w.1 in absurd (not_both (chart_lines lines) sent.0 s.instance w.0 sent.1 received.1)
          | inr up ↦ states.1 (both.0 (invented_first s w.0 w.1 send up))
        ],
  )
    where
      send : IsSend (chart_lines lines) s
      send = (r.instance, belongs.sent)

      both : IsKnownSend (chart_lines lines) are.invented s.instance s.index ↔ IsUpToFirst first s.index
      both =
          let from : IsKnownFrom (chart_lines lines) are.invented s.instance first =
          subst (λ q. IsKnownFrom (chart_lines lines) are.invented q first) (sym at_place)
          (subst (IsKnownFrom (chart_lines lines) are.invented (suc place)) (sym is) (are.sends.each place within)) in
          from s.index send

-- one more line
pub known_more : (c : Chart) (invented : List (Option ℕ)) (place : ℕ) (old new : List (Option ℕ)) (first : Option ℕ) → place < length old → new ≡ set old place first → IsKnownFrom c invented (suc place) first
    → ((p : ℕ) → p < place → IsKnownFrom c invented (suc p) (get_or old p None)) → (p : ℕ) → p < place + 1 → IsKnownFrom c invented (suc p) (get_or new p None)
known_more c invented place old new first within is found each p less =
    elim (cases_eq p place) [
      | inr other ↦ subst (IsKnownFrom c invented (suc p)) (sym (ap (λ t. get_or t p None) is ∙ get_or-set_other old place p first None other)) (each p (omega arith))
      | inl same ↦
          subst (λ k. IsKnownFrom c invented (suc k) (get_or new k None)) (sym same)
          (subst (IsKnownFrom c invented (suc place)) (sym (ap (λ t. get_or t place None) is ∙ get_or-set_same old place first None within)) found)
    ]

-- the line of a send is a line of the chart
pub send_within : (lines : List LineView) (s r : Place) (place : ℕ) → BelongsTo (chart_lines lines) s r → s.instance ≡ suc place → place < length lines
send_within lines s r place belongs at_place =
    let here : IsEvent (chart_lines lines) s = IsEvent-from_event (chart_lines lines) s belongs.sent.0 belongs.sent.1 in
    line_within lines place s.index (subst (λ q. IsEvent (chart_lines lines) (at q s.index)) at_place here)
