-- Participants whose labels change.
use Rattle.std.proofs.Common.{◌≡◌, ℕ, zero, suc, ◌<◌, List, [], ◌∷◌, length, map, ap, arith}
use Rattle.std.specs.Prelude.{slice_set, slice_index_or}
use Rattle.diagram_statements.specs.ToDiagram.Participants.{NamedView, named_view, relabelled, with_label}
use Rattle.diagram_statements.specs.declared.to_diagram.participants.Named.{Named}

pub labelled : (ps : List Named) (place : ℕ) (label : List ℕ) (p : Named) → place < length ps → named_view p ≡ relabelled label (named_view (slice_index_or ps place p))
    → map named_view (slice_set ps place p) ≡ with_label label place (map named_view ps)
labelled [] place label p within is = absurd (omega arith)
labelled (q ∷ qs) zero label p within is = ap (λ v. v ∷ map named_view qs) is
labelled (q ∷ qs) (suc place) label p within is = ap (λ l. named_view q ∷ l) (labelled qs place label p (omega arith) is)
