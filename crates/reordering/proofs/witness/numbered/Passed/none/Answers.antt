use Rattle.reordering.proofs.witness.numbered.Passed.none.Goals as goal

pub returns : goal.returns
returns c = record { sent = c.in_ok-zeros.ensures; received = c.in_ok-zeros-2.ensures }
