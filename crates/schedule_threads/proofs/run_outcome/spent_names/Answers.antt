use Rattle.std.proofs.Common.{rules, ◌≡◌, ◌++◌, ◌∷◌, [], slice_index_or, refl, ◌+◌}
use Rattle.instances.specs.declared.end.End.TheVariants.{Stopped, TurnsSpent}
use Rattle.texts.specs.Instances.{name_at}
use Rattle.schedule_threads.proofs.SpentNames.{spent_on, stopped_on, memory_on}
use Rattle.schedule_threads.proofs.run_outcome.spent_names.Goals as goal
use Rattle.schedule_threads.proofs.run_outcome.spent_names.Goals.{in-TurnsSpent+in_ok-push-in-TurnsSpent, in-Stopped}

-- src/run_outcome.rt:43:5
pub loop-place-preserved : goal.loop-place-preserved
loop-place-preserved c = elim c.match-end.branch [
  | in-TurnsSpent+in_ok-push-in-TurnsSpent w ↦
      let is : slice_index_or c.args.ends.now c.loop-place.place Stopped ≡ TurnsSpent = search rules in
      let grown : c.match-end.spent.items ≡ c.loop-place.spent.items ++ w.named.result ∷ [] = search rules in
      let named : w.named.result ≡ name_at c.args.names.now (c.loop-place.place + 1) = search rules in
      record {
        spent = spent_on c.args.names.now c.args.ends.now c.loop-place.place c.loop-place.spent.items c.match-end.spent.items w.named.result
            c.loop-place-test.true is grown named c.loop-place.invariant.spent;
        memory = memory_on c.args.ends.now c.loop-place.place c.loop-place-test.true is refl c.loop-place.invariant.memory;
      }
  | in-Stopped w ↦
      let is : slice_index_or c.args.ends.now c.loop-place.place Stopped ≡ Stopped = search rules in
      record {
        spent = rw w.spent-is (stopped_on c.args.names.now c.args.ends.now c.loop-place.place c.loop-place.spent.items c.loop-place-test.true is c.loop-place.invariant.spent);
        memory = memory_on c.args.ends.now c.loop-place.place c.loop-place-test.true is refl c.loop-place.invariant.memory;
      }
]
