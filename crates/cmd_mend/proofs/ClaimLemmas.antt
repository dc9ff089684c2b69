-- Verdicts one by one, and the summary of their races.
use Rattle.std.proofs.Common.{◌≡◌, Bool, true, false, ◌||◌, ◌&&◌, not, List, [], ◌∷◌, ◌++◌, refl, sym, ap, ◌∙◌, subst}
use Rattle.std.specs.List.{list_any}
use Rattle.std.proofs.lemmas.List.{append-nil, append_assoc}
use Rattle.chart.specs.declared.instance.EventNo.{EventNo}
use Rattle.chart.specs.Reports.{ReportView}
use Rattle.race_verdicts.specs.declared.verdict.Verdict.{Verdict}
use Rattle.races_text.specs.Judged.Summaries.{is_claimed, summary_of_none, claims_none}
use Rattle.races_text.specs.declared.judged.summary.RaceSummary.{RaceSummary}
use Rattle.cmd_mend.specs.Claims.{AreVerdicts, AreAllVerdicts, is_unclaimed, summary_after, summary_after_all}
use Rattle.cmd_mend.specs.Claims.AreVerdicts.{none, more}
use Rattle.cmd_mend.specs.Claims.AreAllVerdicts.{nothing, report}

-- one more

pub verdict_push : {is : EventNo → Verdict → Type 0} {events : List EventNo} {verdicts : List Verdict} (e : EventNo) (verdict : Verdict) → is e verdict
    → AreVerdicts is events verdicts → AreVerdicts is (events ++ e ∷ []) (verdicts ++ verdict ∷ [])
verdict_push e verdict its none = more its none
verdict_push e verdict its (more first rest) = more first (verdict_push e verdict its rest)

pub report_push : {is : EventNo → EventNo → Verdict → Type 0} {reports : List ReportView} {verdicts : List Verdict} (r : ReportView) (of : List Verdict)
    → AreVerdicts (is r.receive) r.earlier of → AreAllVerdicts is reports verdicts → AreAllVerdicts is (reports ++ r ∷ []) (verdicts ++ of)
report_push {is = is} r of its nothing = subst (λ (vs : List Verdict). AreAllVerdicts is (r ∷ []) vs) (append-nil of) (report its nothing)
report_push {is = is} r of its (report {r = first} {reports = rest} {verdicts = vs} {others = others} has more_of) =
    subst (λ (all : List Verdict). AreAllVerdicts is (first ∷ (rest ++ r ∷ [])) all) (sym (append_assoc vs others of)) (report has (report_push r of its more_of))

pub after_push : (sum : RaceSummary) (verdicts : List Verdict) (verdict : Verdict) → summary_after_all sum (verdicts ++ verdict ∷ []) ≡ summary_after (summary_after_all sum verdicts) verdict
after_push sum [] verdict = refl
after_push sum (v ∷ vs) verdict = after_push (summary_after sum v) vs verdict

pub after_both : (sum : RaceSummary) (verdicts others : List Verdict) → summary_after_all sum (verdicts ++ others) ≡ summary_after_all (summary_after_all sum verdicts) others
after_both sum [] others = refl
after_both sum (v ∷ vs) others = after_both (summary_after sum v) vs others

-- what the summary of all says

any_stays : (sum : RaceSummary) (verdicts : List Verdict) → sum.any ≡ true → (summary_after_all sum verdicts).any ≡ true
any_stays sum [] is = is
any_stays sum (v ∷ vs) is = any_stays (summary_after sum v) vs refl

or_false : (b : Bool) → b ≡ (b || false)
or_false true = refl
or_false false = refl

or_assoc : (a b c : Bool) → ((a || b) || c) ≡ (a || (b || c))
or_assoc true b c = refl
or_assoc false b c = refl

claimed_of : (sum : RaceSummary) (verdicts : List Verdict) → (summary_after_all sum verdicts).claimed ≡ (sum.claimed || list_any is_claimed verdicts)
claimed_of sum [] = or_false sum.claimed
claimed_of sum (v ∷ vs) = claimed_of (summary_after sum v) vs ∙ or_assoc sum.claimed (is_claimed v) (list_any is_claimed vs)

pub none_claimed : (verdicts : List Verdict) → claims_none (summary_after_all summary_of_none verdicts) ≡ is_unclaimed verdicts
none_claimed [] = refl
none_claimed (v ∷ vs) =
    let sum = summary_after summary_of_none v in
    ap (λ (b : Bool). b && not (summary_after_all sum vs).claimed) (any_stays sum vs refl)
    ∙ ap (λ (b : Bool). not b) (claimed_of sum vs)
