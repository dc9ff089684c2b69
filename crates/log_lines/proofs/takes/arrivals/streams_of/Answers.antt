use Rattle.std.proofs.Common.{◌≡◌, length, map, drop, min, arith, sym, ap, ◌∙◌}
use Rattle.std.specs.Map.{lookup}
use Rattle.std.proofs.lemmas.List.{length-map, length-drop}
use Rattle.log_lines.specs.Takes.Arrivals.{same_as}
use Rattle.log_lines.specs.Takes.Messages.{key_view}
use Rattle.log_lines.proofs.TakesLemmas.ListLemmas.{no_stream}
use Rattle.log_lines.proofs.takes.arrivals.streams_of.Goals as goal

pub lines-init : goal.lines-init
lines-init c =
    let n = c.min-count.result in
    let least = c.min-count.ensures in
    let keys = map key_view (drop n c.args.keys.now) in
    let streams = map (λ e. e.stream) (drop n c.args.entries.now) in
    let none : min (length keys) (length streams) ≡ 0 = simp (length-map, length-drop) (omega (arith, least)) in
    record {
      found = λ q. ap (lookup (same_as q)) c.new-streams.ensures.empty ∙ sym (no_stream keys streams (key_view q) none);
      keys = omega (arith, least);
      entries = omega (arith, least);
    }
