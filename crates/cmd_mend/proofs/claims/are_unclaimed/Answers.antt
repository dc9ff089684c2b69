use Rattle.std.proofs.Common.{ap, ◌∙◌}
use Rattle.races_text.specs.Judged.Summaries.{claims_none}
use Rattle.cmd_mend.proofs.ClaimLemmas.{none_claimed}
use Rattle.cmd_mend.proofs.claims.are_unclaimed.Goals as goal

pub returns : goal.returns
returns c =
    let sum = c.in_ok-sum.ensures in
    (sum.0, sum.1, c.claims_none.ensures ∙ ap claims_none sum.2 ∙ none_claimed sum.0)
