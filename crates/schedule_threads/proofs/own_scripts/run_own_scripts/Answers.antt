use Rattle.std.proofs.Common.{◌≡◌, List, [], ◌∷◌, ◌++◌, length, refl, sym, ap, ◌∙◌, subst, append_assoc, append-nil, arith}
use Rattle.std.specs.Vec.Iter.{into_iter_items}
use Rattle.behaviour.specs.Scripts.{ScriptView}
use Rattle.behaviour.specs.contracts.script.Script.{the_row}
use Rattle.instances.specs.Driving.{meaning}
use Rattle.schedule_threads.specs.Scripts.InstanceScripts.{scripts_of}
use Rattle.schedule_threads.specs.Laws.{script_meaning}
use Rattle.schedule_threads.proofs.Boards.{fit_alone, length-scripts}
use Rattle.schedule_threads.proofs.Boxes.{AreHeld, AreHeld-push, AreHeld-none, AreHeld-many, held, held-made, own-runs}
use Rattle.schedule_threads.proofs.own_scripts.run_own_scripts.OwnLists.{own-1}
use Rattle.schedule_threads.proofs.own_scripts.run_own_scripts.Goals as goal

-- a list without elements
nothing_left : {X : Type 0} (xs : List X) → length xs ≡ 0 → xs ≡ []
nothing_left [] e = refl
nothing_left (x ∷ xs) e = absurd (omega arith)

pub loop-script-init : goal.loop-script-init
loop-script-init g c = record {
  all = refl;
  left = c.into_iter-script-iterator.ensures.into_iter_gives.1 ∙ c.in_ok-own_scripts.own_scripts.ok.0 ∙ ap length (sym c.into_iter-script-iterator.ensures.into_iter_gives.0);
  held = AreHeld-none _ c.new-behaviours.ensures.items;
}

pub loop-script-preserved : goal.loop-script-preserved
loop-script-preserved g c =
    let at = c.loop-script in
    let script = c.in-Some.script in
    let steps : into_iter_items at.script-iterator ≡ script ∷ into_iter_items c.next.new.self = c.in-Some.ensures.steps.0 in
    let is : held c.into_dyn_box.result ≡ c.in_ok-new.field-0.value = held-made c.into_dyn_box.result _ the_row.coded.inj _ _ c.into_dyn_box.ensures.1 in
    record {
      all = append_assoc at.yielded (script ∷ []) _ ∙ rw (← steps) at.invariant.all;
      left =
          let was = at.invariant.left in
          let gone = c.in-Some.ensures.steps.1 in
          let short = ap length steps in
          omega arith;
      held = AreHeld-push at.behaviours.items at.yielded c.push.new.self.items c.into_dyn_box.result script at.invariant.held (is ∙ c.in_ok-new.ensures.ok) c.in_ok-push.ensures.items;
    }

pub returns-in-Ok-clause-runs : goal.returns-in-Ok-clause-runs
returns-in-Ok-clause-runs g c =
    let at = c.loop-script in
    let empty : into_iter_items at.script-iterator ≡ [] = nothing_left _ (sym at.invariant.left ∙ c.in-None.ensures.steps.0) in
    let all : at.yielded ≡ scripts_of c.args.schedule.now = sym (append-nil at.yielded) ∙ rw empty at at.invariant.all ∙ c.into_iter-script-iterator.ensures.into_iter_gives.0 ∙ c.in_ok-own_scripts.ensures in
    let hold : AreHeld at.behaviours.items (scripts_of c.args.schedule.now) = subst (λ (scripts : List ScriptView). AreHeld at.behaviours.items scripts) all at.invariant.held in
    own-runs c.args.schedule.now c.in-Ok.run' c.args.turns at.behaviours.items
    (λ box. meaning (own-1.entry box.vtable).1.act (own-1.entry box.vtable).1.after) c.in-Ok.ensures.runs
    c.in-Ok.ensures.fit.one_of_each (scripts_of c.args.schedule.now) hold script_meaning (λ box it. refl)

pub unreachable-requires : goal.unreachable-requires
unreachable-requires g c =
    let at = c.loop-script in
    let empty : into_iter_items at.script-iterator ≡ [] = nothing_left _ (sym at.invariant.left ∙ c.in-None.ensures.steps.0) in
    let all : at.yielded ≡ scripts_of c.args.schedule.now = sym (append-nil at.yielded) ∙ rw empty at at.invariant.all ∙ c.into_iter-script-iterator.ensures.into_iter_gives.0 ∙ c.in_ok-own_scripts.ensures in
    let hold : AreHeld at.behaviours.items (scripts_of c.args.schedule.now) = subst (λ (scripts : List ScriptView). AreHeld at.behaviours.items scripts) all at.invariant.held in
    let unrun = rw c.in-Err-InvalidInput.field-0-is at c.in-Err-InvalidInput.ensures.err in
    fit_alone c.args.schedule.now (length at.behaviours.items) c.args.turns (AreHeld-many at.behaviours.items _ hold ∙ length-scripts c.args.schedule.now) c.requires unrun.2
