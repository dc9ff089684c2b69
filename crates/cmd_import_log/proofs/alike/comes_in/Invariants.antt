use Rattle.std.proofs.Common.{◌≡◌, drop}
use Rattle.cmd_import_log.specs.Alike.{comes_in}
use Rattle.cmd_import_log.proofs.alike.comes_in.Given as goal

abbrev pub invariant-loop-byte : goal.invariant-loop-byte
invariant-loop-byte l = comes_in l.left (drop l.byte-index l.word) ≡ comes_in l.short l.word
