use Rattle.std.proofs.Common.{◌≡◌, ◌+◌, ◌++◌, List, take, get_or, replicate, sym, ap, ◌∙◌, subst, take_all, arith}
use Rattle.std.proofs.lemmas.List.{take_more}
use Rattle.instances.specs.declared.trace.Stretch.{Stretch}
use Rattle.instances.specs.declared.turn.Turn.{Turn}
use Rattle.instances.specs.Traces.{turns_of}
use Rattle.instances.proofs.Stretches.{turns_of-push}
use Rattle.schedule_threads.specs.Passing.{Passes}
use Rattle.schedule_threads.proofs.Passing.{passes-then, passes-all}
use Rattle.schedule_threads.proofs.notes.add_trace.Goals as goal

pub loop-stretch-preserved : goal.loop-stretch-preserved
loop-stretch-preserved c =
    let stretches = c.stretches-stretches.result.now in
    let i = c.loop-stretch.stretch-index in
    let stretch = c.stretch-item.result in
    let more : turns_of (take (i + 1) stretches) ≡ turns_of (take i stretches) ++ replicate stretch.count stretch.turn =
    ap turns_of (take_more stretches i stretch c.loop-stretch-test.true)
    ∙ turns_of-push (take i stretches) (get_or stretches i stretch)
    ∙ ap (λ (s : Stretch). turns_of (take i stretches) ++ replicate s.count s.turn) (sym c.stretch-item.is) in
    subst (λ (turns : List Turn). Passes c.args.lines.now c.args.notes.now.items 0 turns c.add_stretch.new.notes.items c.in_ok-next.next) (sym more)
    (passes-then _ _ _ _ _ _ _ _ _ c.loop-stretch.invariant c.in_ok-next.ensures)

pub returns-clause-notes : goal.returns-clause-notes
returns-clause-notes c =
    let stretches = c.stretches-stretches.result.now in
    let all = take_all c.loop-stretch.stretch-index stretches (omega arith) in
    let turns = ap turns_of all ∙ c.stretches-stretches.ensures in
    (passes-all _ _ _ _ _ (subst (λ (t : List Turn). Passes c.args.lines.now c.args.notes.now.items 0 t c.loop-stretch.notes.items c.loop-stretch.next) turns c.loop-stretch.invariant)).0

pub returns-clause-memory : goal.returns-clause-memory
returns-clause-memory c =
    let stretches = c.stretches-stretches.result.now in
    let all = take_all c.loop-stretch.stretch-index stretches (omega arith) in
    let turns = ap turns_of all ∙ c.stretches-stretches.ensures in
    (passes-all _ _ _ _ _ (subst (λ (t : List Turn). Passes c.args.lines.now c.args.notes.now.items 0 t c.loop-stretch.notes.items c.loop-stretch.next) turns c.loop-stretch.invariant)).1
