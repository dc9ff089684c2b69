use Rattle.std.proofs.Common.{map, arith, ap}
use Rattle.diagram_mscgen.specs.Grammar.Tokens.{seen}
use Rattle.diagram_mscgen.proofs.GrammarLemmas.TokenLoops.{none_yet, one_more, all_tokens}
use Rattle.diagram_mscgen.proofs.grammar.lexer.tokens_of.Goals as goal

pub pieces-init : goal.pieces-init
pieces-init c =
    none_yet c.args.text.now _ _ _ _ _ (ap (map seen) c.new-tokens.ensures.items) c.mark_length.ensures.value c.mark_length.ensures.within c.split_at.ensures.front c.split_at.ensures.back
    c.behind-place.ensures.place c.behind-place.ensures.line c.behind-place.ensures.column

pub pieces-preserved : goal.pieces-preserved
pieces-preserved c =
    one_more c.args.text.now _ _ _ _ _ _ _ c.piece_at-piece.result c.pieces.invariant (omega arith) c.in_ok-add_first.ensures c.piece_at-piece.ensures.piece (c.piece_at-piece.ensures.some (omega arith)) c.piece_at-piece.ensures.within
    c.split_at-in-len1-up.ensures.front c.split_at-in-len1-up.ensures.back c.behind-place-in-len1-up.ensures.place c.behind-place-in-len1-up.ensures.line c.behind-place-in-len1-up.ensures.column

pub returns : goal.returns
returns c = all_tokens c.args.text.now _ _ _ c.pieces.invariant (omega arith)
