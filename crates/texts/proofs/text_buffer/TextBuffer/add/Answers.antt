use Rattle.std.proofs.Common.{refl}
use Rattle.std.proofs.lemmas.Result.{err_from_is_err_and}
use Rattle.texts.proofs.Writes.{breaks_early, adds_put}
use Rattle.texts.proofs.text_buffer.TextBuffer.add.Goals as goal

pub returns-in_err-finish : goal.returns-in_err-finish
returns-in_err-finish g c =
    let ensured = c.in_err-finish.ensures in
    let p = err_from_is_err_and c.from_residual.result c.from_residual.ensures.1 in
    rw p.1 (record { breaks = breaks_early c.args.piece.now ensured.wrote; empty = ensured.empty; same_out = ensured.same_out })

pub returns : goal.returns
returns g c =
    let ensured = c.in_ok-finish.ensures in
    adds_put c.args.self.now c.finish.new.self _ _ _ ensured.wrote ensured.same_out c.put_all.ensures ensured.empty refl
