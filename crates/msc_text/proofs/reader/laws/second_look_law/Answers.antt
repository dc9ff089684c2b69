use Rattle.msc_text.proofs.ReaderLemmas.Found.{second_fault}
use Rattle.msc_text.proofs.reader.laws.second_look_law.Goals as goal

pub returns : goal.returns
returns c = second_fault
