use Rattle.reordering.proofs.CompletionLemmas.LeftRaces.{left_of}
use Rattle.reordering.proofs.CompletionLemmas.Possible.{is_sound}
use Rattle.reordering.proofs.completion.laws.completed_report_law.Goals as goal

pub returns : goal.returns
returns c = λ n d possible r report is k up_to. left_of d (is_sound n d possible) r.instance r.index k report is up_to
