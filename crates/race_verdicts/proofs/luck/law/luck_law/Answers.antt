use Rattle.race_verdicts.proofs.LuckLemmas.LawLemmas.{could_come_next}
use Rattle.race_verdicts.proofs.luck.law.luck_law.Goals as goal

pub returns : goal.returns
returns c = λ hosts from to log lanes possible rec of keeps s r e belongs earlier apart v. could_come_next hosts from to log lanes rec of keeps s r e belongs earlier apart v possible
