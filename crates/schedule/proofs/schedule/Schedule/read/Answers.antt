use Rattle.std.proofs.Common.{ap, sym, ◌∙◌}
use Rattle.std.proofs.lemmas.Result.{err_from_is_err_and}
use Rattle.schedule.specs.Reading.{schedule_of}
use Rattle.schedule.proofs.Read.{read_spelled, spelled_read, no_fault}
use Rattle.schedule.proofs.schedule.Schedule.read.Goals as goal

pub new-requires : goal.new-requires
new-requires c = (read_spelled c.args.bytes.now _ c.in_ok-names.ensures).0.keeps

pub returns-in_err-names-clause-only : goal.returns-in_err-names-clause-only
returns-in_err-names-clause-only c plan text is =
    let p = err_from_is_err_and c.from_residual.result c.from_residual.ensures.1 in
    rw (p.1, p.2) (no_fault c.in_err-names.field-0.0 c.args.bytes.now plan text is c.in_err-names.ensures)

pub returns-clause-found : goal.returns-clause-found
returns-clause-found c = rw c.new.ensures (read_spelled c.args.bytes.now _ c.in_ok-names.ensures)

pub returns-clause-only : goal.returns-clause-only
returns-clause-only c plan text is = rw c.new.ensures (sym (ap schedule_of is ∙ spelled_read plan text) ∙ c.in_ok-names.ensures)
