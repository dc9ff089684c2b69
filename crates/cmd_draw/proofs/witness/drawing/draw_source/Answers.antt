use Rattle.std.proofs.Common.{ℕ, List, sym, subst, subst₂}
use Rattle.std.proofs.lemmas.Result.{err_from_is_err_and}
use Rattle.cmd_base.specs.Texts.{named_of}
use Rattle.cmd_base.specs.Columns.Columns.{AreColumns, RefusesColumns, only_of}
use Rattle.cmd_base.proofs.PairsLemmas.PairLemmas.{IsPair-from_words}
use Rattle.cmd_draw.proofs.WitnessLemmas.PicturedLemmas.{no_columns, not_found, too_many, not_pictured}
use Rattle.cmd_draw.proofs.witness.drawing.draw_source.Goals as goal

pub judged-requires : goal.judged-requires
judged-requires g c =
    let named = named_of c.args.source.now in
    IsPair-from_words named.0 named.1 c.args.asked.now c.in_ok-found.found.pair c.in_ok-found.ensures.0

pub returns-in-Err : goal.returns-in-Err
returns-in-Err g c =
    no_columns g.W.Out.sink c.args.out.now c.args.asked.now c.args.wanted.now c.args.source.now c.in-Err.error
    (subst (λ (ns : List (List ℕ)). RefusesColumns ns (only_of c.args.wanted.now.only) c.in-Err.error) c.names.ensures c.in-Err.ensures.err)

pub returns-in_err-found : goal.returns-in_err-found
returns-in_err-found g c =
    let p = err_from_is_err_and c.from_residual.result c.from_residual.ensures.1 in
    let are = subst (λ (ns : List (List ℕ)). AreColumns ns (only_of c.args.wanted.now.only) c.in-Ok.columns.items) c.names.ensures c.in-Ok.ensures.ok in
    rw (p.1, p.2) (not_found g.W.Out.sink c.args.out.now c.args.asked.now c.args.wanted.now c.args.source.now c.in-Ok.columns.items c.in_err-found.field-0.0 are c.in_err-found.ensures)

pub returns-in_err-witnessed : goal.returns-in_err-witnessed
returns-in_err-witnessed g c =
    let p = err_from_is_err_and c.from_residual-in_err-witnessed.result c.from_residual-in_err-witnessed.ensures.1 in
    let are = subst (λ (ns : List (List ℕ)). AreColumns ns (only_of c.args.wanted.now.only) c.in-Ok.columns.items) c.names.ensures c.in-Ok.ensures.ok in
    rw (p.1, p.2) (too_many g.W.Out.sink c.args.out.now c.args.asked.now c.args.wanted.now c.args.source.now c.in-Ok.columns.items c.in_ok-found.found c.in_err-witnessed.field-0.0 are c.in_ok-found.ensures c.in_err-witnessed.ensures)

pub draw_shown-requires-clause-subject : goal.draw_shown-requires-clause-subject
draw_shown-requires-clause-subject g c = record {
  comes = c.requires;
  possible = c.in_ok-found.ensures.1;
  columns = subst₂ (λ (ns : List (List ℕ)) (cs : List ℕ). AreColumns ns (only_of c.args.wanted.now.only) cs) c.names.ensures (sym c.as_slice.ensures.value) c.in-Ok.ensures.ok;
}

pub draw_shown-requires-clause-shown : goal.draw_shown-requires-clause-shown
draw_shown-requires-clause-shown g c = c.in_ok-found.ensures.2

pub returns-in_err-draw_shown : goal.returns-in_err-draw_shown
returns-in_err-draw_shown g c =
    let p = err_from_is_err_and c.from_residual-in_err-draw_shown.result c.from_residual-in_err-draw_shown.ensures.1 in
    let are = subst (λ (ns : List (List ℕ)). AreColumns ns (only_of c.args.wanted.now.only) c.in-Ok.columns.items) c.names.ensures c.in-Ok.ensures.ok in
    rw (p.1, p.2) (not_pictured g.W.Out.sink c.args.out.now c.draw_shown.new.out c.args.asked.now c.args.wanted.now c.args.source.now c.in-Ok.columns.items c.in_ok-found.found c.in_ok-witnessed.witnessed c.in_err-draw_shown.field-0.0 are c.in_ok-found.ensures c.in_ok-witnessed.ensures c.in_err-draw_shown.ensures)

pub returns : goal.returns
returns g c = record {
  columns = c.in-Ok.columns.items;
  found = c.in_ok-found.found;
  are = subst (λ (ns : List (List ℕ)). AreColumns ns (only_of c.args.wanted.now.only) c.in-Ok.columns.items) c.names.ensures c.in-Ok.ensures.ok;
  is_found = c.in_ok-found.ensures;
  judges = c.in_ok-witnessed.ensures;
  draws = c.in_ok-draw_shown.ensures;
}
