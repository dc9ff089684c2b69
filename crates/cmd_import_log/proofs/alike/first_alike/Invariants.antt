use Rattle.std.proofs.Common.{◌≡◌, drop}
use Rattle.cmd_import_log.specs.Alike.{first_alike}
use Rattle.cmd_import_log.proofs.alike.first_alike.Given as goal

abbrev pub invariant-loop-host : goal.invariant-loop-host
invariant-loop-host l = first_alike l.lines l.peer (drop l.host-index l.hosts) ≡ first_alike l.lines l.peer l.hosts
