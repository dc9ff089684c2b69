use Rattle.std.proofs.Common.{◌+◌, ◌≤◌, ◌∷◌, [], ℕ, List, length, drop, refl, sym, ap, subst, arith, length-append}
use Rattle.c_board.proofs.WordLemmas.{start_more}
use Rattle.c_board.specs.Boards.Naming.{words_in}
use Rattle.c_board.proofs.BoardsLemmas.NameLemmas.{word_here, word_refused, words_more, names_next, names_on}
use Rattle.c_board.proofs.boards.naming.names_in.Goals as goal

pub loop-many-preserved : goal.loop-many-preserved
loop-many-preserved c =
    let its = c.loop-many.invariant in
    let word = c.word_at-word.result.now in
    record {
      splits = words_more c.args.bytes.now c.args.lengths.now c.loop-many.names c.add_name.new.names word c.loop-many.start _ c.loop-many.many-index its.splits c.loop-many-test.true refl c.word_at-word.ensures c.in_ok-add_name.ensures.0;
      within = subst (λ (w : List ℕ). c.loop-many.start + length w ≤ length c.args.bytes.now) (sym c.word_at-word.ensures) (start_more c.args.bytes.now c.loop-many.start _ its.within);
      names = names_next c.loop-many.names c.add_name.new.names word its.names c.in_ok-add_name.ensures.1 c.in_ok-add_name.ensures.0;
      count = omega (arith, ap length c.in_ok-add_name.ensures.0, length-append c.loop-many.names (word ∷ []), its.count);
    }

pub returns-in_err-add_name : goal.returns-in_err-add_name
returns-in_err-add_name c =
    let its = c.loop-many.invariant in
    let bytes = c.args.bytes.now in
    let lengths = c.args.lengths.now in
    let word = c.word_at-word.result.now in
    let rest = words_in (drop (c.loop-many.start + length word) bytes) (drop (c.loop-many.many-index + 1) lengths) in
    let error = c.in_err-add_name.field-0.0 in
    names_on (words_in bytes lengths) c.from_residual.result error c.from_residual.ensures.1
    (word_refused (words_in bytes lengths) c.loop-many.names rest c.add_name.new.names word error
    (word_here bytes lengths c.loop-many.names word c.loop-many.start _ c.loop-many.many-index its.splits c.loop-many-test.true refl c.word_at-word.ensures)
    its.names c.in_err-add_name.ensures)
