use Rattle.std.proofs.Common.{List, sym, ◌∙◌, subst}
use Rattle.chart.specs.Charts.{LineView}
use Rattle.closure.specs.declared.error.AuditError.TheVariants.{WrongReport}
use Rattle.chart.specs.Reports.{ReportView, AreReports}
use Rattle.closure.specs.Audits.{IsFirstWrong}
use Rattle.closure.proofs.OneList.{refused_rightly}
use Rattle.closure.proofs.checking.audit.Goals as goal

pub returns-clause-rightly : goal.returns-clause-rightly
returns-clause-rightly c =
    let right = c.in-Ok-races.right.items in
    let are = subst (λ (x : List LineView). AreReports x right) c.in-Ok.ensures.ok c.in-Ok-races.ensures in
    let wrong = subst (λ (xs : List ReportView). IsFirstWrong xs c.args.reports.now c.in-Some.receive) c.as_slice.ensures.value c.in-Some.ensures in
    refused_rightly c.args.chart.now c.args.reports.now (WrongReport c.in-Some.receive) (c.in-Ok.ensures.possible, (right, are, wrong))

pub returns-in-None-clause-right : goal.returns-in-None-clause-right
returns-in-None-clause-right c =
    let right = c.in-Ok-races.right.items in
    let are = subst (λ (x : List LineView). AreReports x right) c.in-Ok.ensures.ok c.in-Ok-races.ensures in
    subst (λ (xs : List ReportView). AreReports c.args.chart.now xs) (sym c.as_slice.ensures.value ∙ sym c.in-None.ensures) are

pub returns-clause-refused : goal.returns-clause-refused
returns-clause-refused c =
    let right = c.in-Ok-races.right.items in
    let are = subst (λ (x : List LineView). AreReports x right) c.in-Ok.ensures.ok c.in-Ok-races.ensures in
    let wrong = subst (λ (xs : List ReportView). IsFirstWrong xs c.args.reports.now c.in-Some.receive) c.as_slice.ensures.value c.in-Some.ensures in
    (c.in-Ok.ensures.possible, (right, are, wrong))
