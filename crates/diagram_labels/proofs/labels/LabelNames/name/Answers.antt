use Rattle.std.proofs.Common.{◌≡◌, ◌<◌, length, get_or, [], ◌∙◌, sym, ap, subst}
use Rattle.std.specs.Prelude.{bytes_eq}
use Rattle.std.proofs.lemmas.List.{length-map, get_or_default}
use Rattle.std.specs.List.{position_or_len}
use Rattle.diagram_labels.specs.Labels.{name_of}
use Rattle.diagram_labels.proofs.Tables.{nowhere, placed}
use Rattle.diagram_labels.proofs.Labellings.{label_kept, answers_name, answers_added}
use Rattle.diagram_labels.proofs.labels.LabelNames.name.Goals as goal

pub add-requires : goal.add-requires
add-requires c = nowhere (bytes_eq c.args.label.now) c.args.self.now.labels (sym c.place_of.ensures.place ∙ c.in-None.is)

pub returns-in-Some-clause-named : goal.returns-in-Some-clause-named
unfolding name_of
returns-in-Some-clause-named c =
    let at = placed (bytes_eq c.args.label.now) c.args.self.now.labels c.in-Some.place (sym c.in-Some.ensures.place) in
    let place = position_or_len (bytes_eq c.args.label.now) c.args.self.now.labels in
    c.index-as_slice-place.is ∙ ap (λ place. get_or c.as_slice.result.now place c.index-as_slice-place.result) (sym at.0) ∙ ap (λ names. get_or names place c.index-as_slice-place.result) (c.as_slice.ensures ∙ ap (λ l. l.names) c.self.view_is)
    ∙ get_or_default c.args.self.now.names place c.index-as_slice-place.result [] (subst (λ k. k < length c.args.self.now.names) (sym at.0) c.in-Some.ensures.within)

pub returns-in-Some-clause-kept : goal.returns-in-Some-clause-kept
returns-in-Some-clause-kept c =
    let at = placed (bytes_eq c.args.label.now) c.args.self.now.labels c.in-Some.place (sym c.in-Some.ensures.place) in
    sym (label_kept c.args.self.now c.args.label.now at.1)

pub returns-in-None-clause-named : goal.returns-in-None-clause-named
returns-in-None-clause-named c =
    let many : length c.args.self.now.labels ≡ length c.args.self.now.names =
    sym (ap (λ l. length l.labels) c.self.view_is) ∙ length-map c.self.inside.labels.keys (λ label. label.items) ∙ c.self.invariant ∙ ap (λ l. length l.names) c.self.view_is in
    let new = nowhere (bytes_eq c.args.label.now) c.args.self.now.labels (sym c.place_of.ensures.place ∙ c.in-None.is) in
    answers_name c.args.self.now c.add.new.self c.args.label.now c.add.result many new c.add.ensures.name c.add.ensures.added

pub returns-in-None-clause-kept : goal.returns-in-None-clause-kept
returns-in-None-clause-kept c =
    let new = nowhere (bytes_eq c.args.label.now) c.args.self.now.labels (sym c.place_of.ensures.place ∙ c.in-None.is) in
    answers_added c.args.self.now c.add.new.self c.args.label.now c.add.result new c.add.ensures.added
