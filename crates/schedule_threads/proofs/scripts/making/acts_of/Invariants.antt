use Rattle.std.proofs.Common.{◌≡◌, take}
use Rattle.schedule_threads.specs.Scripts.InstanceScripts.{acts_of}
use Rattle.schedule_threads.proofs.scripts.making.acts_of.Given as goal

abbrev pub invariant-loop-command : goal.invariant-loop-command
invariant-loop-command l = l.acts.items ≡ acts_of (take l.command-index l.commands) l.actor
