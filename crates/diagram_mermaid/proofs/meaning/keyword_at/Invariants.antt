use Rattle.std.proofs.Common.{◌≡◌, map, drop}
use Rattle.diagram_statements.specs.Statements.{element_view}
use Rattle.diagram_mermaid.specs.Meanings.{keyword_at}
use Rattle.diagram_mermaid.proofs.meaning.keyword_at.Given as goal

abbrev pub invariant-loop-known : goal.invariant-loop-known
invariant-loop-known l =
    keyword_at (map (λ k. (k.0.now, element_view k.1)) (drop l.known-index l.keywords)) l.words ≡ keyword_at (map (λ k. (k.0.now, element_view k.1)) l.keywords) l.words
