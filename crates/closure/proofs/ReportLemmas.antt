-- The reports of the receives, one after another.
use Rattle.std.specs.List.{flat_map}
use Rattle.std.proofs.Common.{◌≡◌, ℕ, suc, ◌+◌, ◌<◌, true, List, [], ◌∷◌, ◌++◌, length, take, map, All, Some, get_or, sym, ap, ap₂, ◌∙◌, subst, arith, add-one, append_assoc, append-nil}
use Rattle.std.proofs.lemmas.Bool.{false≢true}
use Rattle.std.proofs.lemmas.Option.{slice_get-get_or, slice_get_within}
use Rattle.std.proofs.lemmas.List.{map-append, take_more, take_all, length-take-le, flat_map_more}
use Rattle.std.proofs.lemmas.List.Elements.{All-push}
use Rattle.chart.specs.declared.event.Event.{Event}
use Rattle.chart.specs.declared.event.Event.TheVariants.{Send, Receive}
use Rattle.chart.specs.declared.instance.EventNo.{EventNo}
use Rattle.chart.specs.Events.{is_send_to, is_receive_from, region_of}
use Rattle.chart.specs.Charts.{Chart, Place, at, chart_event, LineView, BelongsTo, IsNumbered, chart_lines}
use Rattle.chart.specs.Order.{AreLineRaces, region_of_event}
use Rattle.chart.specs.Knowing.{IsKnown}
use Rattle.chart.specs.Reports.{ReportView, IsReportIn, AreReports, receives_from, receives_of}
use Rattle.chart.proofs.ReportLists.{receives-send, receives-receive}
use Rattle.chart.proofs.Reports.{report_from_races}
use Rattle.closure.proofs.ReadLemmas.{front_next}
use Rattle.closure.specs.Searches.{IsSend}
use Rattle.closure.specs.Reported.{HaveReported, IsReportAt, line_front}

-- the races later than what the send knows are the report
pub IsReportIn-from_races : (c : Chart) (s : Place) (p k entry region : ℕ) (m : Event) (earlier : List EventNo) → BelongsTo c s (at p (suc k)) → chart_event c (at p (suc k)) ≡ Some m → region ≡ region_of m → IsKnown c s p entry
    → AreLineRaces (take k (c p)) entry s.instance region (map (λ e. e.index) earlier) → All (λ e. e.instance ≡ p) earlier → IsReportIn c (record { receive = record { instance = p; index = k + 1 }; earlier = earlier })
IsReportIn-from_races c s p k entry region m earlier belongs is of_region known races own = record {
  exact = report_from_races c s p k entry region (map (λ e. e.index) earlier) (subst (λ i. BelongsTo c s (at p i)) (sym (add-one k)) belongs) (ap (λ i. region_of_event (chart_event c (at p i))) (add-one k) ∙ ap region_of_event is ∙ sym of_region) known races;
  line = own;
}

module _ (lines : List LineView) where
  abbrev c : Chart
  c = chart_lines lines

  -- the receives of the first lines, and of one more
  receives_with : (p : ℕ) (l : LineView) → flat_map receives_of (take p lines ++ l ∷ []) ≡ flat_map receives_of (take p lines) ++ receives_of l
  receives_with p l = sym (flat_map_more receives_of [] (take p lines) l)

  -- a send adds no report
  pub HaveReported-send : (p k : ℕ) (reports : List ReportView) → HaveReported lines p k reports → IsSend c (at (suc p) (suc k)) → HaveReported lines p (k + 1) reports
  HaveReported-send p k reports old (q, (m, is, sends)) = record {
    are = record {
      receives = old.are.receives ∙ receives_with p (line_front c (suc p) k) ∙ ap (λ xs. flat_map receives_of (take p lines) ++ xs) (sym (same m is sends)) ∙ sym (receives_with p (line_front c (suc p) (k + 1)));
      each = old.are.each;
    };
  }
    where
      same : (m : Event) → chart_event c (at (suc p) (suc k)) ≡ Some m → is_send_to q m ≡ true → receives_of (line_front c (suc p) (k + 1)) ≡ receives_of (line_front c (suc p) k)
      same (Receive from name region) is fails = absurd (false≢true fails)
      same (Send to name) is passes = ap (receives_from (suc p) 1) (front_next (c (suc p)) k (Send to name) is) ∙ receives-send (suc p) 1 (take k (c (suc p))) to name

  -- a receive adds its own
  pub HaveReported-receive : (p k : ℕ) (reports : List ReportView) (report : ReportView) → HaveReported lines p k reports → IsReportAt c (at (suc p) (suc k)) report → HaveReported lines p (k + 1) (reports ++ report ∷ [])
  HaveReported-receive p k reports report old ((q, (m, is, from)), here, exact) = record {
    are = record {
      receives =
          map-append (λ r. r.receive) reports (report ∷ []) ∙ ap (λ xs. xs ++ report.receive ∷ []) (old.are.receives ∙ receives_with p (line_front c (suc p) k))
          ∙ append_assoc (flat_map receives_of (take p lines)) (receives_of (line_front c (suc p) k)) (report.receive ∷ []) ∙ ap (λ xs. flat_map receives_of (take p lines) ++ xs) (sym (more m is from)) ∙ sym (receives_with p (line_front c (suc p) (k + 1)));
      each = All-push (IsReportIn c) reports report old.are.each exact;
    };
  }
    where
      more : (m : Event) → chart_event c (at (suc p) (suc k)) ≡ Some m → is_receive_from q m ≡ true → receives_of (line_front c (suc p) (k + 1)) ≡ receives_of (line_front c (suc p) k) ++ report.receive ∷ []
      more (Send to name) is fails = absurd (false≢true fails)
      more (Receive from name region) is passes =
          let within = slice_get_within (c (suc p)) k (Receive from name region) is in
          let place : length (take k (c (suc p))) + 1 ≡ suc k = omega (arith, length-take-le k (c (suc p)) (omega (arith, within))) in
          ap (receives_from (suc p) 1) (front_next (c (suc p)) k (Receive from name region) is) ∙ receives-receive (suc p) 1 (take k (c (suc p))) from name region
          ∙ ap (λ i. receives_of (line_front c (suc p) k) ++ record { instance = suc p; index = i } ∷ []) place ∙ ap (λ e. receives_of (line_front c (suc p) k) ++ e ∷ []) (sym here)

  -- after the last event of a line the next one begins
  pub HaveReported-line : (p k : ℕ) (reports : List ReportView) → IsNumbered lines → p < length lines → k ≡ length (c (suc p)) → HaveReported lines p k reports → HaveReported lines (suc p) 0 reports
  HaveReported-line p k reports numbered within e old = record {
    are = record {
      receives =
          old.are.receives ∙ ap (flat_map receives_of) (ap (λ l. take p lines ++ l ∷ []) whole ∙ sym (take_more lines p none within) ∙ ap (λ i. take i lines) (add-one p))
          ∙ sym (append-nil (flat_map receives_of (take (suc p) lines))) ∙ sym (receives_with (suc p) (line_front c (suc (suc p)) 0));
      each = old.are.each;
    };
  }
    where
      none : LineView
      none = record { instance = suc p; events = [] }

      whole : line_front c (suc p) k ≡ get_or lines p none
      whole = ap₂ (λ (i : ℕ) (xs : List Event). record { instance = i; events = xs }) (sym (numbered p (get_or lines p none) (slice_get-get_or lines p none within))) (take_all k (c (suc p)) (omega (arith, e)))

  -- after the last line there are all reports
  pub AreReports-from_lines : (p : ℕ) (reports : List ReportView) → p ≡ length lines → HaveReported lines p 0 reports → AreReports lines reports
  AreReports-from_lines p reports e old = record {
    are = record {
      receives = old.are.receives ∙ receives_with p (line_front c (suc p) 0) ∙ append-nil (flat_map receives_of (take p lines)) ∙ ap (flat_map receives_of) (take_all p lines (omega (arith, e)));
      each = old.are.each;
    };
  }
