use Rattle.std.proofs.Common.{◌<◌, ◌∙◌, length, get_or, sym, ap, arith}
use Rattle.std.specs.Prelude.{Some}
use Rattle.std.proofs.lemmas.Option.{slice_get-get_or}
use Rattle.c_board.specs.declared.chair.Chair.{Chair}
use Rattle.c_board.proofs.Lists.{some_within}
use Rattle.c_board.proofs.ChairLemmas.{number_next}
use Rattle.c_board.proofs.taking.have_one_number.Goals as goal

pub returns-then-not-is-clause-no : goal.returns-then-not-is-clause-no
returns-then-not-is-clause-no c = λ _.
    let chairs = c.args.chairs.now in
    let first = get_or chairs 0 c.index-chairs-0.result in
    let chair = c.chair-item.result in
    let some : 0 < length chairs = omega (arith, c.loop-chair-test.true) in (
      c.loop-chair.chair-index,
      first,
      chair,
      slice_get-get_or chairs 0 c.index-chairs-0.result some,
      slice_get-get_or chairs c.loop-chair.chair-index chair c.loop-chair-test.true ∙ ap (λ (it : Chair). Some it) (sym c.chair-item.is),
      c.is.ensures.no c.if-not-is.true,
    )

pub loop-chair-preserved : goal.loop-chair-preserved
loop-chair-preserved c =
    let chairs = c.args.chairs.now in
    let first = get_or chairs 0 c.index-chairs-0.result in
    let chair = c.chair-item.result in
    let some : 0 < length chairs = omega (arith, c.loop-chair-test.true) in
    number_next chairs c.loop-chair.chair-index first chair (slice_get-get_or chairs 0 c.index-chairs-0.result some)
    (slice_get-get_or chairs c.loop-chair.chair-index chair c.loop-chair-test.true ∙ ap (λ (it : Chair). Some it) (sym c.chair-item.is)) (c.is.ensures.yes c.if-not-is.false) c.loop-chair.invariant

pub returns-clause-yes : goal.returns-clause-yes
returns-clause-yes c = λ _ i first chair at_first at_i. c.loop-chair.invariant i first chair (omega (arith, some_within c.args.chairs.now i chair at_i, c.loop-chair-test.false)) at_first at_i
