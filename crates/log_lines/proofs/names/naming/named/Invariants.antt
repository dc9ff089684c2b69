use Rattle.std.proofs.Common.{◌≡◌, [], None, drop, map}
use Rattle.std.specs.Prelude.{fold}
use Rattle.diagram_labels.specs.Labels.{none, with_label}
use Rattle.log_lines.specs.Events.{logged_event_view}
use Rattle.log_lines.specs.Names.Hosts.{peer_view}
use Rattle.log_lines.specs.Names.Naming.{named_view, with_all}
use Rattle.log_lines.proofs.names.naming.named.Given as goal

abbrev pub invariant-loop-host : goal.invariant-loop-host
invariant-loop-host l = record {
  hosts : fold with_label l.log.hosts (map (λ w. w.now) (drop l.host-index l.hosts)) ≡ fold with_label none (map (λ w. w.now) l.hosts);
  others : named_view l.log ≡ record { hosts = l.log.hosts; messages = none; ids = []; lines = []; own = None };
}

abbrev pub invariant-loop-event : goal.invariant-loop-event
invariant-loop-event l =
    with_all (map peer_view l.peers) (map logged_event_view (drop l.event-index l.logged)) (named_view l.log)
    ≡ with_all (map peer_view l.peers) (map logged_event_view l.logged) (named_view l.initial.log)
