use Rattle.std.proofs.Common.{List, sym, subst}
use Rattle.instances.specs.declared.turn.Turn.{Turn}
use Rattle.schedule_threads.specs.Passing.{Passes}
use Rattle.schedule_threads.proofs.Passing.{passes-then, replicate-more}
use Rattle.schedule_threads.proofs.notes.add_stretch.Goals as goal

pub loop-preserved : goal.loop-preserved
loop-preserved c =
    let turn = c.args.stretch.now.turn in
    subst (λ (turns : List Turn). Passes c.args.lines.now c.args.notes.now.items c.args.place turns c.add_turn.new.notes.items c.in_ok-next.next) (sym (replicate-more c.loop.counter turn))
    (passes-then _ _ _ _ _ _ _ _ _ c.loop.invariant c.in_ok-next.ensures)
