use Rattle.std.proofs.Common.{◌≡◌, ◌≢◌, ◌∙◌, sym, arith}
use Rattle.std.proofs.lemmas.Bool.{eqb-true, eqb-false}
use Rattle.clock.proofs.EntryLemmas.{entry-changed, entry-kept}
use Rattle.clock.proofs.entries.entry_after.Goals as goal
use Rattle.clock.proofs.entries.entry_after.Goals.{then-eq, else-eq}

pub loop-change-preserved : goal.loop-change-preserved
loop-change-preserved c = elim c.if-eq.branch [
  | then-eq w ↦
      let its : c.change-item.result.instance ≡ c.args.p = eqb-true _ _ (sym c.eq.ensures ∙ w.if-eq.true) in
      w.entry-is ∙ entry-changed c.args.entries.now c.args.changes.now c.loop-change.change-index c.args.p c.change-item.result c.change-item.result c.loop-change-test.true c.change-item.is (omega (arith, c.place.ensures.value)) c.requires.entry its
  | else-eq w ↦
      let other : c.change-item.result.instance ≢ c.args.p = eqb-false _ _ (sym c.eq.ensures ∙ w.if-eq.false) in
      w.entry-is ∙ c.loop-change.invariant ∙ entry-kept c.args.entries.now c.args.changes.now c.loop-change.change-index c.args.p c.change-item.result c.change-item.result c.loop-change-test.true c.change-item.is other
]
