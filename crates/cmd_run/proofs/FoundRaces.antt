-- Races that are written while they are found: those so far, and one more receive.
use Rattle.std.proofs.Common.{◌≡◌, ℕ, zero, suc, ◌==◌, not, All, ap, arith, lt-ltb, List, [], ◌∷◌, ◌++◌, length, Option, Result, Ok, Err, Bool, true, false, ◌||◌, nat_lt, refl, subst, sym, ap₂, ◌∙◌}
use Rattle.std.proofs.lemmas.Bool.{eqb-true, false_from_ne_true}
use Rattle.chart.specs.declared.ranges.EventRange.{EventRange}
use Rattle.chart.specs.Ranges.{IsRange, events_in}
use Rattle.chart.proofs.RangeLists.{none_of}
use Rattle.std.specs.Result.{is_err}
use Rattle.std.specs.Prelude.{IfOk}
use Rattle.std.specs.List.{flat_map}
use Rattle.std.proofs.lemmas.List.{flat_map_more}
use Rattle.std.proofs.lemmas.List.Folds.{list_any-append}
use Rattle.std.proofs.lemmas.List.Concat.{flat_map-append}
use Rattle.chart.specs.Reports.{ReportView, has_races}
use Rattle.texts.specs.Outs.{Sink}
use Rattle.msc_text.specs.RaceText.{report_text, races_text}
use Rattle.texts.specs.Writing.{Buffers, Breaks, Stops, Adds, Wrote}
use Rattle.texts.specs.declared.text_buffer.TextBuffer.{TextBuffer}
use Rattle.texts.proofs.Writes.{buffers_then, stops_then, stops_early, adds_early, wrote_then}

-- an error promises nothing about a value
pub vacuous : {T E : Type 0} (P : T → Type 0) (r : Result T E) → is_err r ≡ true → IfOk r P
vacuous P (Ok x) failed = cc
vacuous P (Err e) failed = tt

or_no_more : (a b : Bool) → (a || (b || false)) ≡ (a || b)
or_no_more true b = refl
or_no_more false true = refl
or_no_more false false = refl

-- whether there is a race, by the reports so far and one more
pub has_one_more : (reports : List ReportView) (report : ReportView) (a b : Bool) → a ≡ has_races reports → b ≡ nat_lt 0 (length report.earlier) → (a || b) ≡ has_races (reports ++ report ∷ [])
has_one_more reports report a b was is =
    ap₂ (λ x y. x || y) was is ∙ sym (or_no_more (has_races reports) (nat_lt 0 (length report.earlier))) ∙ sym (list_any-append (λ (r : ReportView). nat_lt 0 (length r.earlier)) reports (report ∷ []))

one_more_text : (names : List (List ℕ)) (reports : List ReportView) (report : ReportView) → races_text names reports ++ report_text names report ≡ races_text names (reports ++ report ∷ [])
one_more_text names reports report = flat_map_more (report_text names) [] reports report

not_none : (n : ℕ) → not (n == 0) ≡ nat_lt 0 n
not_none zero = refl
not_none (suc n) = ap not (false_from_ne_true (suc n == 0) (λ none. let same : suc n ≡ 0 = eqb-true (suc n) 0 none in absurd (omega (arith, same)))) ∙ sym (lt-ltb 0 (suc n) (omega arith))

-- if there is a range, there is an event
pub has_events_is : (ranges : List EventRange) → All IsRange ranges → not (length ranges == 0) ≡ nat_lt 0 (length (events_in ranges))
has_events_is ranges each = ap not (none_of ranges each) ∙ not_none (length (events_in ranges))

module _ {S : Type 0} {sink : S → Sink} (names : List (List ℕ)) where
  -- the lines of one more receive were added
  pub adds_one : {a b c : TextBuffer S} (reports : List ReportView) (report : ReportView) → Buffers sink a b (races_text names reports) → Buffers sink b c (report_text names report)
      → Buffers sink a c (races_text names (reports ++ report ∷ []))
  adds_one {a} {b} {c} reports report p q = subst (Buffers sink a c) (one_more_text names reports report) (buffers_then p q)

  -- if these lines stop, the whole text stops, whatever comes later
  pub stops_at_one : {T E : Type 0} {a b c : TextBuffer S} (r : Result T E) (reports : List ReportView) (report : ReportView) (more : List ReportView) → is_err r ≡ true → Buffers sink a b (races_text names reports)
      → Stops sink b c (report_text names report) → Adds sink a c r (races_text names ((reports ++ report ∷ []) ++ more))
  stops_at_one {a = a} {b} {c} r reports report more failed p q =
      let stopped = subst (Stops sink a c) (one_more_text names reports report) (stops_then p q) in
      subst (Adds sink a c r) (sym (flat_map-append (report_text names) (reports ++ report ∷ []) more)) (adds_early r (races_text names more) failed stopped)

module _ {S : Type 0} {sink : S → Sink} where
  -- if the end of a text can't be put, the text is written up to there
  pub wrote_failed : {T E : Type 0} {a b : TextBuffer S} {s : List ℕ} (start c : S) (r : Result T E) → is_err r ≡ true → a.out.now ≡ start → a.held ≡ [] → Buffers sink a b s → Breaks sink b.out.now c b.held → Wrote sink start c r s
  wrote_failed start c (Ok x) failed begun none p q = cc
  wrote_failed {T} {E} start c (Err e) failed begun none p q = wrote_then {T = T} {E = E} start c (Err e) begun none p q
