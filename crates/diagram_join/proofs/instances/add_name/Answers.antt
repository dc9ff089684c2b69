use Rattle.std.proofs.Common.{ℕ, List, ◌++◌, ◌∷◌, [], length, Err, ap, ◌∙◌, arith}
use Rattle.std.proofs.lemmas.List.{length-append}
use Rattle.chart.specs.declared.names.NamesError.{NamesError}
use Rattle.diagram_join.proofs.InstanceLemmas.{named_if, unnamed_if}
use Rattle.diagram_join.proofs.instances.add_name.Goals as goal

pub returns-in-Ok-clause-value : goal.returns-in-Ok-clause-value
returns-in-Ok-clause-value c = rw (unnamed_if c.args.names.now c.args.process (λ there. absurd (cc (c.in-Ok.is, c.add.ensures.duplicate.1 there)))) c.in-Ok.ensures.ok.1

pub returns-in-Ok-clause-count : goal.returns-in-Ok-clause-count
returns-in-Ok-clause-count c = omega (arith, ap (λ (ns : List (List ℕ)). length ns) c.in-Ok.ensures.ok.1, length-append c.args.names.now (c.args.process ∷ []))

pub returns-in-Err-Duplicate-clause-value : goal.returns-in-Err-Duplicate-clause-value
returns-in-Err-Duplicate-clause-value c =
    rw (named_if c.args.names.now c.args.process (c.add.ensures.duplicate.0 (c.in-Err-Duplicate.is ∙ ap (λ (e : NamesError). Err e) c.in-Err-Duplicate.field-0-is))) c.in-Err-Duplicate.ensures.err
