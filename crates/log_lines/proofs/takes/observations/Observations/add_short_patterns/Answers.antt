use Rattle.std.proofs.Common.{map, take, sym, ap, ◌∙◌}
use Rattle.log_lines.specs.Names.Hosts.{peer_view}
use Rattle.log_lines.specs.Takes.Patterns.{short_pattern, short_patterns}
use Rattle.log_lines.specs.Takes.Observations.{observations_view, with_patterns}
use Rattle.log_lines.proofs.TakesLemmas.ListLemmas.{picked_more, patterns_more}
use Rattle.log_lines.proofs.takes.observations.Observations.add_short_patterns.Goals as goal

pub loop-word-preserved : goal.loop-word-preserved
loop-word-preserved c =
    let peers = map peer_view c.args.peers.now in
    let before = observations_view c.args.self.now in
    let some = short_patterns peers (map (λ w. w.now) (take c.loop-word.word-index c.args.words.now)) in
    c.in_ok-add_short_pattern.ensures ∙ ap (with_patterns _) c.loop-word.invariant ∙ patterns_more before some _
    ∙ ap (λ l. with_patterns l before) (sym (picked_more (short_pattern peers) (λ w. w.now) c.args.words.now c.loop-word.word-index _ c.loop-word-test.true))
