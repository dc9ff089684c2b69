use Rattle.std.proofs.Common.{◌≡◌, ◌≤◌, map, subst, sym, Ok, Err}
use Rattle.std.specs.Prelude.{Result, AllPairs, IfOk}
use Rattle.regex.specs.Bytes.{regex_pattern}
use Rattle.log_lines.specs.Names.Hosts.{peer_view}
use Rattle.log_lines.specs.Takes.Observations.{ObservationsView, observations_view}
use Rattle.log_lines.specs.declared.takes.observations.Observations.{Observations}
use Rattle.log_formats.proofs.PatternsLemmas.ObservingLemmas.{observed_pairs}
use Rattle.log_formats.proofs.patterns.observing.observed_by.Goals as goal

abbrev AreRising : ObservationsView → Type 0
AreRising t = AllPairs (λ a b. a.line ≤ b.line) t.taken

rises_as : {E : Type 0} (result : Result Observations E) (t : ObservationsView) → IfOk result (λ observed. observations_view observed ≡ t) → AreRising t → IfOk result (λ observed. AreRising (observations_view observed))
rises_as (Ok observed) t same rising = subst AreRising (sym same) rising
rises_as (Err e) t same rising = tt

pub returns-clause-rising : goal.returns-clause-rising
returns-clause-rising c =
    let e = c.args.expression.now in
    rises_as c.observed_in.result _ c.observed_in.ensures
    (observed_pairs e.groups e.more (regex_pattern e.regex) (map peer_view c.args.peers.now) c.args.range (map (λ text. text.now) c.args.texts.now))
