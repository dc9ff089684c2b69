use Rattle.std.proofs.Common.{◌≡◌, ◌++◌, ◌∷◌, [], false, map, length, ◌∙◌, ap, refl, arith, length-append}
use Rattle.std.specs.Prelude.{bytes_eq}
use Rattle.std.proofs.lemmas.List.{map-append}
use Rattle.std.specs.List.{list_any}
use Rattle.diagram_labels.specs.Giving.{called}
use Rattle.diagram_labels.specs.Spelling.{spelled}
use Rattle.diagram_labels.specs.Labels.{has_label}
use Rattle.diagram_labels.proofs.Tables.{inserted}
use Rattle.diagram_labels.proofs.labels.LabelNames.add.Goals as goal

pub invariant_of-self-2 : goal.invariant_of-self-2
invariant_of-self-2 c =
    let new : list_any (bytes_eq c.in_ok-bytes.bytes.items) (map (λ label. label.items) c.self.inside.labels.keys) ≡ false =
    ap (λ b. list_any (bytes_eq b) (map (λ label. label.items) c.self.inside.labels.keys)) c.in_ok-bytes.ensures.items ∙ ap (λ l. has_label l.labels c.args.label.now) c.self.view_is ∙ c.requires in
    let keys : c.insert.new.self.keys ≡ c.self.inside.labels.keys ++ c.in_ok-bytes.bytes ∷ [] =
    let put = rw c.unwrap.ensures at c.insert.ensures.keys in put ∙ rw c.reserve.ensures.keys (inserted (λ label. label.items) c.self.inside.labels.keys c.in_ok-bytes.bytes new) in
    omega (arith, ap length keys, ap length c.in_ok-name.ensures.given, length-append c.self.inside.labels.keys (c.in_ok-bytes.bytes ∷ []), length-append c.self.inside.names (c.in_ok-name.name ∷ []), c.self.invariant)

pub returns-clause-added : goal.returns-clause-added
returns-clause-added c =
    let new : list_any (bytes_eq c.in_ok-bytes.bytes.items) (map (λ label. label.items) c.self.inside.labels.keys) ≡ false =
    ap (λ b. list_any (bytes_eq b) (map (λ label. label.items) c.self.inside.labels.keys)) c.in_ok-bytes.ensures.items ∙ ap (λ l. has_label l.labels c.args.label.now) c.self.view_is ∙ c.requires in
    let keys : c.insert.new.self.keys ≡ c.self.inside.labels.keys ++ c.in_ok-bytes.bytes ∷ [] =
    let put = rw c.unwrap.ensures at c.insert.ensures.keys in put ∙ rw c.reserve.ensures.keys (inserted (λ label. label.items) c.self.inside.labels.keys c.in_ok-bytes.bytes new) in
    let named : c.in_ok-name.name ≡ called c.self.inside.names (spelled c.args.label.now) = c.in_ok-name.ensures.value ∙ ap (called c.self.inside.names) c.in_ok-word.ensures in
    rw (keys, map-append (λ label. label.items) c.self.inside.labels.keys (c.in_ok-bytes.bytes ∷ []), c.in_ok-bytes.ensures.items, c.in_ok-name.ensures.given, named, ← c.self.view_is) refl
