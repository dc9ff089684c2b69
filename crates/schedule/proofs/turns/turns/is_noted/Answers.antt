use Rattle.std.proofs.Common.{rules, ltb}
use Rattle.std.proofs.lemmas.List.Sorted.{IsPartitionPoint-from_clause, IsPartitionedBy-ltb}
use Rattle.schedule.specs.declared.command.Note.{Note}
use Rattle.schedule.proofs.TurnsLemmas.NoteLemmas.{rises, noted_at, noted_past}
use Rattle.schedule.proofs.turns.turns.is_noted.Goals as goal

pub returns-in-Some : goal.returns-in-Some
returns-in-Some c =
    let notes = c.args.notes.now in
    let line = c.args.line in
    let parted = IsPartitionedBy-ltb (λ (n : Note). n.line) notes line (rises notes c.requires) in
    let point = IsPartitionPoint-from_clause (λ (n : Note). ltb n.line line) _ _ c.partition_point-place.ensures.partitioned parted (λ a r q k. search rules) in
    noted_at notes c.requires line c.partition_point-place.result point c.in-Some.note.now c.in-Some.ensures.lookup.3.0 c.in-Some.ensures.lookup.3.1

pub returns-in-None : goal.returns-in-None
returns-in-None c =
    let notes = c.args.notes.now in
    let line = c.args.line in
    let parted = IsPartitionedBy-ltb (λ (n : Note). n.line) notes line (rises notes c.requires) in
    let point = IsPartitionPoint-from_clause (λ (n : Note). ltb n.line line) _ _ c.partition_point-place.ensures.partitioned parted (λ a r q k. search rules) in
    noted_past notes c.requires line c.partition_point-place.result point c.in-None.ensures.lookup.3
