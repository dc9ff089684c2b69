use Rattle.std.proofs.lemmas.Result.{err_from_is_err_and}
use Rattle.cmd_base.specs.Texts.{named_of}
use Rattle.cmd_explain_race.specs.Finding.{origin_of}
use Rattle.cmd_base.proofs.PairsLemmas.PairLemmas.{IsPair-from_words}
use Rattle.cmd_explain_race.proofs.ReorderingLemmas.{finds_so, finds_broken, finds_none, not_found}
use Rattle.cmd_explain_race.proofs.witnessing.witness_of.Goals as goal

pub returns-in_err-found : goal.returns-in_err-found
returns-in_err-found g c =
    let p = err_from_is_err_and c.from_residual.result c.from_residual.ensures.1 in
    rw (p.1, p.2) (not_found g.W.Out.sink c.args.out.now (named_of c.args.source.now) (origin_of c.args.source.now) c.args.asked.now c.in_err-found.field-0.0 c.in_err-found.ensures)

pub judged-requires : goal.judged-requires
judged-requires g c =
    let named = named_of c.args.source.now in
    IsPair-from_words named.0 named.1 c.args.asked.now c.in_ok-found.found.pair c.in_ok-found.ensures.0

pub returns-in_err-witnessed : goal.returns-in_err-witnessed
returns-in_err-witnessed g c =
    let p = err_from_is_err_and c.from_residual-in_err-witnessed.result c.from_residual-in_err-witnessed.ensures.1 in
    let found = c.in_ok-found.found in
    let is = c.in_ok-found.ensures in
    rw (p.1, p.2) (finds_none g.W.Out.sink c.args.out.now c.args.out.now c.args.asked.now c.args.source.now found.pair is.0 is.1 found.shown c.in_err-witnessed.field-0.0 is.2 c.in_err-witnessed.ensures)

pub returns-in_err-write_shown : goal.returns-in_err-write_shown
returns-in_err-write_shown g c =
    let p = err_from_is_err_and c.from_residual-in_err-write_shown.result c.from_residual-in_err-write_shown.ensures.1 in
    let found = c.in_ok-found.found in
    let is = c.in_ok-found.ensures in
    rw (p.1, p.2) (finds_broken g.W.Out.sink c.args.out.now c.write_shown.new.out c.args.asked.now c.args.source.now found.pair is.0 is.1 found.shown c.in_err-write_shown.field-0.0 is.2 c.in_err-write_shown.ensures)

pub returns : goal.returns
returns g c =
    let found = c.in_ok-found.found in
    let is = c.in_ok-found.ensures in
    finds_so g.W.Out.sink c.args.out.now c.write_shown.new.out c.args.asked.now c.args.source.now found.pair is.0 is.1 found.shown c.in_ok-witnessed.witnessed is.2 c.in_ok-witnessed.ensures c.in_ok-write_shown.ensures
