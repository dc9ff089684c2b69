use Rattle.std.proofs.Common.{◌≡◌, map, drop}
use Rattle.log_lines.specs.Names.Hosts.{peer_view, host_of}
use Rattle.log_lines.proofs.names.hosts.host_of.Given as goal

abbrev pub invariant-loop-peer : goal.invariant-loop-peer
invariant-loop-peer l = host_of (map peer_view (drop l.peer-index l.peers)) l.word ≡ host_of (map peer_view l.peers) l.word
