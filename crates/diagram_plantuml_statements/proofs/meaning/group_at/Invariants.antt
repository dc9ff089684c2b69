use Rattle.std.proofs.Common.{◌≡◌, map, drop}
use Rattle.diagram_plantuml_statements.specs.Meanings.{group_at}
use Rattle.diagram_plantuml_statements.proofs.meaning.group_at.Given as goal

abbrev pub invariant-loop-word : goal.invariant-loop-word
invariant-loop-word l =
    group_at (map (λ g. (g.0.now, g.1)) (drop l.word-index l.groups)) l.words ≡ group_at (map (λ g. (g.0.now, g.1)) l.groups) l.words
