use Rattle.std.proofs.Common.{◌≡◌, [], drop}
use Rattle.picture_parts.specs.Columns.Placing.{columns_from}
use Rattle.picture_parts.proofs.columns.placing.columns_for.Given as goal

-- the columns so far were placed, and with the remaining ones they are all
abbrev pub invariant-loop-instance : goal.invariant-loop-instance
invariant-loop-instance l = columns_from l.plan l.columns.items (drop l.instance-index l.instances) ≡ columns_from l.plan [] l.instances
