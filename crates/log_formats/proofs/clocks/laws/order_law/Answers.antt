use Rattle.log_formats.proofs.ClocksLemmas.OrderLemmas as lemmas
use Rattle.log_formats.proofs.clocks.laws.order_law.Goals as goal

pub returns : goal.returns
returns c = lemmas.order_law
