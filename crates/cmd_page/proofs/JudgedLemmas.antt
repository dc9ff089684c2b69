-- The races of reports by their verdicts, with one more report at a time.
use Rattle.std.proofs.Common.{◌≡◌, ℕ, ◌+◌, ◌<◌, List, [], ◌∷◌, ◌++◌, length, get_or, map, take, sym, ap, ◌∙◌, subst, append_assoc, append-nil}
use Rattle.std.proofs.lemmas.List.{take_more}
use Rattle.chart.specs.declared.instance.EventNo.{EventNo}
use Rattle.chart.specs.Reports.{ReportView}
use Rattle.race_verdicts.specs.declared.verdict.Verdict.{Verdict}
use Rattle.races_text.specs.Judged.Parts.{AreParts}
use Rattle.races_text.specs.declared.judged.part.Part.{Part}
use Rattle.cmd_page.specs.declared.marks.pairs.RaceRange.{RaceRange}
use Rattle.cmd_page.specs.Marks.Judging.{judged_pair, AreJudged}
use Rattle.cmd_page.specs.Marks.Judging.AreJudged.{none, more}

module _ (is : EventNo → EventNo → Verdict → Type 0) where
  -- with one more report
  judged_push : {reports : List ReportView} {races : List RaceRange} (report : ReportView) (parts : List Part) → AreJudged is reports races → AreParts (is report.receive) report.earlier parts
      → AreJudged is (reports ++ report ∷ []) (races ++ map (judged_pair report.receive) parts)
  judged_push report parts none last = subst (AreJudged is (report ∷ [])) (append-nil (map (judged_pair report.receive) parts)) (more last none)
  judged_push report parts (more {report = r} {parts = ps} {reports = rs} {races = xs} first rest) last =
      subst (AreJudged is (r ∷ (rs ++ report ∷ []))) (sym (append_assoc (map (judged_pair r.receive) ps) xs (map (judged_pair report.receive) parts))) (more first (judged_push report parts rest last))

  -- the next of a list
  pub judged_more : {races : List RaceRange} (reports : List ReportView) (k : ℕ) (report : ReportView) (parts : List Part) → k < length reports → report ≡ get_or reports k report
      → AreJudged is (take k reports) races → AreParts (is report.receive) report.earlier parts → AreJudged is (take (k + 1) reports) (races ++ map (judged_pair report.receive) parts)
  judged_more {races} reports k report parts less here so_far last =
      subst (λ (rs : List ReportView). AreJudged is rs (races ++ map (judged_pair report.receive) parts))
      (ap (λ (x : ReportView). take k reports ++ x ∷ []) here ∙ sym (take_more reports k report less)) (judged_push report parts so_far last)
