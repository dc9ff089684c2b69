use Rattle.std.proofs.lemmas.Result.{err_from_is_err_and}
use Rattle.msc_text.proofs.ReaderLemmas.OneLook.{chart_is, chart_unknown, chart_fails}
use Rattle.msc_text.proofs.reader.reading.parts_in.Goals as goal

pub returns-in-Ok-clause-parts : goal.returns-in-Ok-clause-parts
returns-in-Ok-clause-parts c = chart_is _ _ c.in_ok-known.ensures _ _ c.in-Ok.ensures.looks.0 c.in-Ok.ensures.looks.1

pub returns-in_err-names_in-in-Err-Fault-clause-parts :
    goal.returns-in_err-names_in-in-Err-Fault-clause-parts
returns-in_err-names_in-in-Err-Fault-clause-parts c =
    let p = err_from_is_err_and c.from_residual-in_err-names_in-in-Err-Fault.result c.from_residual-in_err-names_in-in-Err-Fault.ensures.1 in
    rw (p.1, p.2) (chart_fails _ _ c.in_err-names_in-in-Err-Fault.ensures)

pub returns-clause-parts : goal.returns-clause-parts
returns-clause-parts c =
    let looks = rw c.in-Err-Fault.field-0-is at c.in-Err-Fault.ensures.looks in
    chart_unknown _ _ c.in_ok-known.ensures _ _ c.in_ok-names_in-in-Err-Fault.ensures looks
