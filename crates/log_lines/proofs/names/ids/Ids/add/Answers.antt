use Rattle.std.proofs.Common.{◌≡◌, ◌++◌, ◌∷◌, [], false, map, length, ◌∙◌, sym, ap, refl}
use Rattle.std.specs.Prelude.{bytes_eq}
use Rattle.std.specs.List.{list_any, position_or_len}
use Rattle.std.proofs.lemmas.List.{map-append, length-map}
use Rattle.diagram_labels.proofs.Labellings.{new_place}
use Rattle.diagram_labels.proofs.Tables.{inserted}
use Rattle.log_lines.specs.Names.Ids.{has_id}
use Rattle.log_lines.proofs.NamesLemmas.IdLemmas.{id_added}
use Rattle.log_lines.proofs.names.ids.Ids.add.Goals as goal

pub returns-clause-place : goal.returns-clause-place
returns-clause-place c =
    let new : list_any (bytes_eq c.in_ok-bytes.bytes.items) (map (λ text. text.items) c.self.inside.texts.keys) ≡ false =
    ap (λ b. list_any (bytes_eq b) (map (λ text. text.items) c.self.inside.texts.keys)) c.in_ok-bytes.ensures.items ∙ ap (λ l. has_id l c.args.text.now) c.self.view_is ∙ c.requires in
    let keys : c.insert.new.self.keys ≡ c.self.inside.texts.keys ++ c.in_ok-bytes.bytes ∷ [] =
    c.in_ok-insert.ensures.keys ∙ inserted (λ text. text.items) c.self.inside.texts.keys c.in_ok-bytes.bytes new in
    let is : map (λ text. text.items) c.insert.new.self.keys ≡ c.args.self.now ++ c.args.text.now ∷ [] =
    rw (keys, map-append (λ text. text.items) c.self.inside.texts.keys (c.in_ok-bytes.bytes ∷ []), c.in_ok-bytes.ensures.items, ← c.self.view_is) refl in
    c.len-place.ensures.len ∙ sym (length-map c.self.inside.texts.keys (λ text. text.items)) ∙ ap length c.self.view_is
    ∙ sym (new_place c.args.self.now c.args.text.now c.requires) ∙ sym (ap (position_or_len (bytes_eq c.args.text.now)) is)

pub returns-clause-added : goal.returns-clause-added
returns-clause-added c =
    let new : list_any (bytes_eq c.in_ok-bytes.bytes.items) (map (λ text. text.items) c.self.inside.texts.keys) ≡ false =
    ap (λ b. list_any (bytes_eq b) (map (λ text. text.items) c.self.inside.texts.keys)) c.in_ok-bytes.ensures.items ∙ ap (λ l. has_id l c.args.text.now) c.self.view_is ∙ c.requires in
    let keys : c.insert.new.self.keys ≡ c.self.inside.texts.keys ++ c.in_ok-bytes.bytes ∷ [] =
    c.in_ok-insert.ensures.keys ∙ inserted (λ text. text.items) c.self.inside.texts.keys c.in_ok-bytes.bytes new in
    let is : map (λ text. text.items) c.insert.new.self.keys ≡ c.args.self.now ++ c.args.text.now ∷ [] =
    rw (keys, map-append (λ text. text.items) c.self.inside.texts.keys (c.in_ok-bytes.bytes ∷ []), c.in_ok-bytes.ensures.items, ← c.self.view_is) refl in
    is ∙ sym (id_added c.args.self.now c.args.text.now c.requires)
