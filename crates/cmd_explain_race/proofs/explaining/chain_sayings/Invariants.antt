use Rattle.std.proofs.Common.{◌≡◌, take}
use Rattle.cmd_base.specs.Pairs.Sayings.{chain_sayings}
use Rattle.cmd_explain_race.proofs.explaining.chain_sayings.Given as goal

abbrev pub invariant-loop-place : goal.invariant-loop-place
invariant-loop-place l = l.sayings.items ≡ chain_sayings (take l.place l.links)
