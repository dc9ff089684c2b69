use Rattle.log_formats.proofs.ClocksLemmas.ReadLemmas as lemmas
use Rattle.log_formats.proofs.clocks.laws.read_law.Goals as goal

pub returns : goal.returns
returns c = lemmas.read_law
