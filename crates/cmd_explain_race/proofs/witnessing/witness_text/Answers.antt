use Rattle.std.proofs.lemmas.Result.{err_from_is_err_and}
use Rattle.cmd_base.proofs.TextLemmas.{not_read, not_replayed, was_done}
use Rattle.cmd_base.specs.declared.pairs.error.PairError.TheVariants.{Program}
use Rattle.cmd_explain_race.specs.Witnessing.{FindsIn}
use Rattle.cmd_explain_race.proofs.witnessing.witness_text.Goals as goal

pub returns-in_err-text : goal.returns-in_err-text
returns-in_err-text g c =
    let p = err_from_is_err_and c.from_residual.result c.from_residual.ensures.1 in
    rw (p.1, p.2) (not_read Program (FindsIn g.W.Out.sink c.args.out.now c.args.out.now c.args.asked.now) c.args.out.now c.args.bytes.now c.in_err-text.field-0.0 c.in_err-text.ensures)

pub returns-in_err-source : goal.returns-in_err-source
returns-in_err-source g c =
    let p = err_from_is_err_and c.from_residual-in_err-source.result c.from_residual-in_err-source.ensures.1 in
    rw (p.1, p.2) (not_replayed Program (FindsIn g.W.Out.sink c.args.out.now c.args.out.now c.args.asked.now) c.args.out.now c.args.bytes.now c.in_err-source.field-0.0 c.in_err-source.ensures.memory)

pub returns : goal.returns
returns g c =
    was_done Program (FindsIn g.W.Out.sink c.args.out.now c.witness_of.new.out c.args.asked.now) c.args.out.now c.args.bytes.now c.witness_of.new.out c.in_ok-text.text c.in_ok-source.source c.witness_of.result c.in_ok-text.ensures c.in_ok-source.ensures.source c.witness_of.ensures
