use Rattle.std.proofs.Common.{◌≡◌, not, ℕ, List, ◌∷◌, [], ◌++◌, Bor, sym, ◌∙◌, map, ap, length, subst, rules, ◌<◌}
use Rattle.std.specs.List.{join_with_byte}
use Rattle.std.proofs.lemmas.List.{map-append, append_assoc, nil_from_length}
use Rattle.std.proofs.lemmas.Iterator.Splits.{YieldsList-from_slice_split}
use Rattle.std.proofs.lemmas.Iterator.Consumers.{YieldsList-end}
use Rattle.chart.specs.Names.{is_name_byte}
use Rattle.diagram_labels.specs.Spelling.{joined}
use Rattle.diagram_labels.proofs.Joins.{filled, join_first, join_later}
use Rattle.diagram_labels.proofs.spelling.joined.Goals as goal
use Rattle.diagram_labels.proofs.spelling.joined.Goals.{then-not-is_empty+in_ok-push, else-not-is_empty}

pub loop-word-preserved : goal.loop-word-preserved
loop-word-preserved c =
    let parts : List (List ℕ) = map (λ (w : Bor (List ℕ)). w.now) c.loop-word.yielded in
    let word = c.in-Some.word in
    let full : 0 < length word.now = search rules in
    rw (map-append (λ (w : Bor (List ℕ)). w.now) c.loop-word.yielded (word ∷ []))
    (elim c.if-not-is_empty.branch [
      | then-not-is_empty+in_ok-push w ↦
          c.in_ok-extend_from_slice.ensures.items ∙ ap (λ v. v.items ++ word.now) w.joined-is ∙ ap (λ l. l ++ word.now) w.in_ok-push.ensures.items
          ∙ append_assoc c.loop-word.joined.items (95 ∷ []) word.now ∙ ap (λ l. l ++ 95 ∷ word.now) c.loop-word.invariant
          ∙ sym (join_later 95 parts word.now full (subst (λ l. 0 < length l) c.loop-word.invariant (search rules)))
      | else-not-is_empty w ↦
          let none : length c.loop-word.joined.items ≡ 0 = search rules in
          c.in_ok-extend_from_slice.ensures.items ∙ ap (λ v. v.items ++ word.now) w.joined-is ∙ ap (λ l. l ++ word.now) (nil_from_length c.loop-word.joined.items none)
          ∙ sym (join_first 95 parts word.now full (ap length (sym c.loop-word.invariant) ∙ none))
    ])

pub returns : goal.returns
unfolding joined
returns c =
    let parts = YieldsList-from_slice_split _ (λ b. not (is_name_byte b)) c.args.label.now (search rules) (search rules) (search rules) (λ x b q k. search rules) in
    let t = YieldsList-end parts c.loop-word.yielded _ c.loop-word.yielded_by _ _ c.in-None.is c.next.ensures.steps in
    c.loop-word.invariant ∙ ap (λ l. join_with_byte 95 (filled l)) t.0
