use Rattle.std.proofs.Common.{length, ap, arith}
use Rattle.std.specs.Prelude.{map}
use Rattle.std.proofs.lemmas.List.{length-map}
use Rattle.diagram_join.specs.Joins.{join_view, process_of}
use Rattle.diagram_join.proofs.joined.join_lines.Goals as goal

pub joined_of-requires : goal.joined_of-requires
joined_of-requires c =
    omega (
      arith,
      c.listed.ensures.few,
      ap length c.in_ok-lines.ensures.value,
      ap length c.deref-3.ensures.value,
      ap length c.in_ok-processes.ensures,
      length-map c.deref-3.result.now (process_of (map join_view c.args.joins.now)),
      ap length c.deref-4.ensures.value,
    )
