use Rattle.std.proofs.Common.{◌≡◌, [], drop}
use Rattle.cmd_import_log.specs.Alike.{with_alike}
use Rattle.cmd_import_log.proofs.alike.alike_hosts.Given as goal

abbrev pub invariant-loop-peer : goal.invariant-loop-peer
invariant-loop-peer l = with_alike l.lines l.hosts l.alike.items (drop l.peer-index l.lineless) ≡ with_alike l.lines l.hosts [] l.lineless
