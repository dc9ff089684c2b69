use Rattle.std.proofs.Common.{◌<◌, IfSome, Option, sym, subst}
use Rattle.diagram_mscgen.specs.declared.grammar.piece.Piece.{Piece}
use Rattle.diagram_mscgen.proofs.GrammarLemmas.SignLemmas.{sign_some}
use Rattle.diagram_mscgen.proofs.grammar.piece.piece_at.Goals as goal

pub returns-in-Some-clause-some : goal.returns-in-Some-clause-some
returns-in-Some-clause-some c = λ _. subst (λ (o : Option Piece). IfSome o (λ p. 0 < p.length)) (sym c.in-Some.ensures.value) (sign_some c.args.bytes.now)
