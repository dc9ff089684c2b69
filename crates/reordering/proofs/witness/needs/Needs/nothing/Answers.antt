use Rattle.std.proofs.Common.{◌-◌, false, arith}
use Rattle.std.proofs.lemmas.List.{get_or-replicate}
use Rattle.chart.specs.declared.instance.TheConstants.{MAX_INSTANCES}
use Rattle.reordering.proofs.witness.needs.Needs.nothing.Goals as goal

pub returns : goal.returns
returns c = record {
  sent = c.in_ok-zeros.ensures;
  received = c.in_ok-zeros-2.ensures;
  all = λ p is. get_or-replicate MAX_INSTANCES (p - 1) false false (omega (arith, is.0, is.1));
}
