use Rattle.std.proofs.Common.{◌≡◌, [], drop}
use Rattle.cmd_import_log.specs.Imported.{with_lined}
use Rattle.cmd_import_log.proofs.diagnostics.lined_hosts.Given as goal

abbrev pub invariant-loop-name : goal.invariant-loop-name
invariant-loop-name l = with_lined l.lines l.lined.items (drop l.name-index l.hosts) ≡ with_lined l.lines [] l.hosts
