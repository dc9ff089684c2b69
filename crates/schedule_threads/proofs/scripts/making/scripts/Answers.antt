use Rattle.std.proofs.Common.{sym, arith}
use Rattle.std.proofs.lemmas.List.FromFn.{map-range_with_len_more}
use Rattle.schedule_threads.specs.Scripts.InstanceScripts.{script_of}
use Rattle.schedule_threads.proofs.scripts.making.scripts.Goals as goal

pub loop-place-preserved : goal.loop-place-preserved
loop-place-preserved c =
    let one_more = map-range_with_len_more (script_of c.args.schedule.now.commands) 1 c.loop-place.place c.at_place.result (omega (arith, c.at_place.ensures)) in
    rw (c.in_ok-push.ensures.items, c.new.ensures, c.in_ok-acts.ensures, c.commands.ensures.value, c.loop-place.invariant) (sym one_more)
