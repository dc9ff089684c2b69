use Rattle.std.proofs.Common.{◌≡◌, [], drop}
use Rattle.cmd_import_log.specs.Imported.{with_lineless}
use Rattle.cmd_import_log.proofs.diagnostics.lineless_hosts.Given as goal

abbrev pub invariant-loop-name : goal.invariant-loop-name
invariant-loop-name l = with_lineless l.lines l.lineless.items (drop l.name-index l.hosts) ≡ with_lineless l.lines [] l.hosts
