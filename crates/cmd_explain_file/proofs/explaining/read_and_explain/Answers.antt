use Rattle.cmd_explain_file.proofs.KindLemmas.{no_schedule}
use Rattle.cmd_explain_file.proofs.explaining.read_and_explain.Goals as goal

pub judge-requires : goal.judge-requires
judge-requires c = λ h. no_schedule c.args.text.now _ (rw c.kind_by-kind.ensures at h)
