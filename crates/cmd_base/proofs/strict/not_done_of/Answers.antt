use Rattle.std.proofs.Common.{◌≡◌, Ok, refl}
use Rattle.std.proofs.lemmas.Result.{err_from_is_err_and}
use Rattle.cmd_base.proofs.TextLemmas.{not_read, not_replayed, was_done}
use Rattle.cmd_base.specs.NotDone.{not_done_of}
use Rattle.cmd_base.proofs.strict.not_done_of.Goals as goal

pub returns-in_err-text : goal.returns-in_err-text
returns-in_err-text c =
    let p = err_from_is_err_and c.from_residual.result c.from_residual.ensures.1 in
    rw (p.1, p.2) (not_read (λ error. error) (λ source done. done ≡ Ok (not_done_of source)) (tt {0}) c.args.bytes.now c.in_err-text.field-0.0 c.in_err-text.ensures)

pub returns-in_err-source : goal.returns-in_err-source
returns-in_err-source c =
    let p = err_from_is_err_and c.from_residual-in_err-source.result c.from_residual-in_err-source.ensures.1 in
    rw (p.1, p.2) (not_replayed (λ error. error) (λ source done. done ≡ Ok (not_done_of source)) (tt {0}) c.args.bytes.now c.in_err-source.field-0.0 c.in_err-source.ensures.memory)

pub returns : goal.returns
returns c =
    was_done (λ error. error) (λ source done. done ≡ Ok (not_done_of source)) (tt {0}) c.args.bytes.now (tt {0}) c.in_ok-text.text c.in_ok-source.source _ c.in_ok-text.ensures c.in_ok-source.ensures.source (rw c.not_done.ensures refl)
