use Rattle.cli.proofs.FormLemmas.{forms, mistakes}
use Rattle.cli.proofs.laws.form_law.Goals as goal

pub returns : goal.returns
returns c = record { form = forms; mistake = mistakes }
