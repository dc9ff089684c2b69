use Rattle.std.proofs.Common.{◌≡◌, ◌++◌, [], ◌∷◌, cond, not, length, take, take_all, refl, sym, ap, ap₂, ◌∙◌, subst, arith}
use Rattle.std.proofs.lemmas.Option.{slice_get_read, same_Some}
use Rattle.std.proofs.lemmas.List.Elements.{All-append, All-push}
use Rattle.reordering.specs.OtherRuns.Walks.{inner, outer}
use Rattle.reordering.specs.Witness.Orders.{picked}
use Rattle.reordering.specs.Witness.Steps.{comes}
use Rattle.chart.specs.RunSteps.Steps.{occurrence_of, history_of, outside_regions, IsOutside}
use Rattle.reordering.proofs.WitnessLemmas.PickLemmas.{picked-taken, picked-left, comes-is}
use Rattle.chart.proofs.RunStepsLemmas.StepLemmas.{after-append, after-onto, outside_regions-outside}
use Rattle.reordering.proofs.WitnessLemmas.WalkLemmas.{inner-next, outer-next}
use Rattle.reordering.proofs.witness.parting.part.Goals as goal
use Rattle.reordering.proofs.witness.parting.part.Goals.{then-has+in_ok-push, else-has+in_ok-push-2}

pub loop-place-preserved : goal.loop-place-preserved
loop-place-preserved c =
    let y = c.outside_regions-step.result in
    let outside : IsOutside y = subst IsOutside (sym c.outside_regions-step.ensures) (outside_regions-outside c.index-steps-place.result) in
    record {
      walked = λ w stand.
          let steps = c.args.steps.now in
          let j = c.loop-place.place in
          let h = history_of (take j steps) in
          let old = c.loop-place.invariant.walked w stand in
          let t = c.index-numbered-place.result in
          let x = c.index-steps-place.result in
          let y = c.outside_regions-step.result in
          let is = slice_get_read steps (length steps) j x refl (omega (arith, c.loop-place-test.true)) c.index-steps-place.is in
          let its = c.requires.each j t (slice_get_read c.args.numbered.now (length c.args.numbered.now) j t refl (omega (arith, c.requires.whole, c.loop-place-test.true)) c.index-numbered-place.is) in
          let one = same_Some t.step x (sym its.0 ∙ is) in
          let stated : y ≡ outside_regions t.step = c.outside_regions-step.ensures ∙ ap outside_regions (sym one) in
          let first = inner-next w steps j t.step t.turn its.0 its.1 c.has.result (c.has.ensures w stand) in
          let others = outer-next w steps j t.step t.turn its.0 its.1 c.has.result (c.has.ensures w stand) in
          elim c.if-has.branch [
            | then-has+in_ok-push b ↦ (
              rw b.first-is (ap history_of b.in_ok-push.ensures.items ∙ after-append [] c.loop-place.first.items (y ∷ []) ∙ ap₂ (λ a f. occurrence_of a ∷ f) stated old.0 ∙ sym (first ∙ ap (λ has. cond has (occurrence_of (outside_regions t.step) ∷ inner w.sends w.receives h) (inner w.sends w.receives h)) b.if-has.true)),
              rw b.others-is (old.1 ∙ sym (others ∙ ap (λ has. cond has (outer w.sends w.receives h) (occurrence_of (outside_regions t.step) ∷ outer w.sends w.receives h)) b.if-has.true)),
            )
            | else-has+in_ok-push-2 b ↦ (
              rw b.first-is (old.0 ∙ sym (first ∙ ap (λ has. cond has (occurrence_of (outside_regions t.step) ∷ inner w.sends w.receives h) (inner w.sends w.receives h)) b.if-has.false)),
              rw b.others-is (ap history_of b.in_ok-push-2.ensures.items ∙ after-append [] c.loop-place.others.items (y ∷ []) ∙ ap₂ (λ a f. occurrence_of a ∷ f) stated old.1 ∙ sym (others ∙ ap (λ has. cond has (outer w.sends w.receives h) (occurrence_of (outside_regions t.step) ∷ outer w.sends w.receives h)) b.if-has.false)),
            )
          ];
      picked = λ w stand.
          let steps = c.args.steps.now in
          let j = c.loop-place.place in
          let old = c.loop-place.invariant.picked w stand in
          let t = c.index-numbered-place.result in
          let y = c.outside_regions-step.result in
          let its = c.requires.each j t (slice_get_read c.args.numbered.now (length c.args.numbered.now) j t refl (omega (arith, c.requires.whole, c.loop-place-test.true)) c.index-numbered-place.is) in
          let is = slice_get_read steps (length steps) j c.index-steps-place.result refl (omega (arith, c.loop-place-test.true)) c.index-steps-place.is in
          let stated : y ≡ outside_regions t.step = c.outside_regions-step.ensures ∙ ap outside_regions (sym (same_Some t.step c.index-steps-place.result (sym its.0 ∙ is))) in
          let has = comes-is w steps j t.step t.turn its.0 its.1 c.has.result (c.has.ensures w stand) in
          elim c.if-has.branch [
            | then-has+in_ok-push b ↦ (
              rw (b.first-is, b.in_ok-push.ensures.items) (picked-taken (comes w steps) steps c.loop-place.first.items j t.step y its.0 stated (has ∙ b.if-has.true) old.0),
              rw b.others-is (picked-left (λ i. not (comes w steps i)) steps c.loop-place.others.items j (ap not (has ∙ b.if-has.true)) old.1),
            )
            | else-has+in_ok-push-2 b ↦ (
              rw b.first-is (picked-left (comes w steps) steps c.loop-place.first.items j (has ∙ b.if-has.false) old.0),
              rw (b.others-is, b.in_ok-push-2.ensures.items) (picked-taken (λ i. not (comes w steps i)) steps c.loop-place.others.items j t.step y its.0 stated (ap not (has ∙ b.if-has.false)) old.1),
            )
          ];
      first = elim c.if-has.branch [
        | then-has+in_ok-push b ↦ rw (b.first-is, b.in_ok-push.ensures.items) (All-push IsOutside c.loop-place.first.items y c.loop-place.invariant.first outside)
        | else-has+in_ok-push-2 b ↦ rw b.first-is c.loop-place.invariant.first
      ];
      others = elim c.if-has.branch [
        | then-has+in_ok-push b ↦ rw b.others-is c.loop-place.invariant.others
        | else-has+in_ok-push-2 b ↦ rw (b.others-is, b.in_ok-push-2.ensures.items) (All-push IsOutside c.loop-place.others.items y c.loop-place.invariant.others outside)
      ];
    }

pub returns-clause-history : goal.returns-clause-history
returns-clause-history c = λ w stand.
    let steps = c.args.steps.now in
    let last = c.loop-place.invariant.walked w stand in
    let all : take c.loop-place.place steps ≡ steps = take_all c.loop-place.place steps (omega (arith, c.loop-place-test.false)) in
    ap history_of (c.in_ok-extend_from_slice.ensures.items ∙ ap (λ ys. c.loop-place.first.items ++ ys) c.as_slice.ensures.value) ∙ after-append [] c.loop-place.first.items c.loop-place.others.items ∙ after-onto (history_of c.loop-place.first.items) c.loop-place.others.items ∙ ap₂ (λ xs ys. xs ++ ys) (last.1 ∙ ap (λ s. outer w.sends w.receives (history_of s)) all) (last.0 ∙ ap (λ s. inner w.sends w.receives (history_of s)) all)

pub returns-clause-outside : goal.returns-clause-outside
returns-clause-outside c =
    rw (c.in_ok-extend_from_slice.ensures.items, c.as_slice.ensures.value)
    (All-append IsOutside c.loop-place.first.items c.loop-place.others.items c.loop-place.invariant.first c.loop-place.invariant.others)

pub returns-clause-order : goal.returns-clause-order
returns-clause-order c = λ w stand.
    let steps = c.args.steps.now in
    let last = c.loop-place.invariant.picked w stand in
    let many : c.loop-place.place ≡ length steps = omega (arith, c.loop-place-test.false, c.loop-place.auto.place-end) in
    c.in_ok-extend_from_slice.ensures.items ∙ ap (λ ys. c.loop-place.first.items ++ ys) c.as_slice.ensures.value
    ∙ ap₂ (λ xs ys. xs ++ ys) (last.0 ∙ ap (picked (comes w steps) steps) many) (last.1 ∙ ap (picked (λ i. not (comes w steps i)) steps) many)
