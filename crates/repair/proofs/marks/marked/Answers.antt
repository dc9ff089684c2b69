use Rattle.std.proofs.Common.{◌≡◌, ◌+◌, Bool, false, List, [], ◌∷◌, ◌++◌, length, take, sym, ap, ◌∙◌, subst, arith}
use Rattle.std.proofs.lemmas.List.{length-replicate, take_all, take_more}
use Rattle.chart.specs.declared.instance.EventNo.{EventNo}
use Rattle.repair.specs.Marks.{AreMarks}
use Rattle.repair.proofs.MarkLemmas.{marks_with, none_marked, with_mark_long}
use Rattle.repair.proofs.marks.marked.Goals as goal

pub loop-event-init : goal.loop-event-init
loop-event-init c =
    subst (λ (l : List Bool). AreMarks c.args.instance [] l × (length l ≡ 4098)) (sym c.in_ok-marks.ensures) (none_marked c.args.instance 4098, length-replicate 4098 false)

pub loop-event-preserved : goal.loop-event-preserved
loop-event-preserved c =
    let i = c.loop-event.event-index in
    let events = c.args.events.now in
    let e = c.event-item.result in
    let p = c.args.instance in
    let one : take (i + 1) events ≡ take i events ++ e ∷ [] = take_more events i e (omega arith) ∙ ap (λ x. take i events ++ x ∷ []) (sym c.event-item.is) in (
      subst (λ (l : List EventNo). AreMarks p l c.mark.new.marks.items) (sym one)
          (subst (AreMarks p (take i events ++ e ∷ [])) (sym c.mark.ensures) (marks_with p (take i events) e c.loop-event.marks.items c.loop-event.invariant.0)),
      ap (λ (l : List Bool). length l) c.mark.ensures ∙ with_mark_long c.loop-event.marks.items p e ∙ c.loop-event.invariant.1,
    )

pub returns-clause-marks : goal.returns-clause-marks
returns-clause-marks c =
    subst (λ (l : List EventNo). AreMarks c.args.instance l c.loop-event.marks.items) (take_all c.loop-event.event-index c.args.events.now (omega arith)) c.loop-event.invariant.0

pub returns-clause-places : goal.returns-clause-places
returns-clause-places c = c.loop-event.invariant.1
