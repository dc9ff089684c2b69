use Rattle.std.proofs.Common.{◌≡◌, ◌≤◌, length, take}
use Rattle.std.specs.Prelude.{map, fold}
use Rattle.diagram_import.specs.Margin.Sources.{least}
use Rattle.diagram_import.proofs.margin.source.up_to.Given as goal

abbrev pub invariant-loop-known : goal.invariant-loop-known
invariant-loop-known l = record {
  shortest : l.length ≡ fold (least l.text) (length l.text) (map (λ known. known.now) (take l.known-index l.ends));
  within : l.length ≤ length l.text;
}
