use Rattle.cli.proofs.ReadingLemmas.{reads, refuses}
use Rattle.cli.proofs.words.matches_in.Goals as goal

pub returns-in-Err : goal.returns-in-Err
returns-in-Err g c = tt

pub returns-in-Ok-try_get_matches_from : goal.returns-in-Ok-try_get_matches_from
returns-in-Ok-try_get_matches_from g c =
    reads _ _ _ _ c.in-Ok.ensures c.requires c.in-Ok-try_get_matches_from.ensures.kinds c.in-Ok-try_get_matches_from.ensures.matches

pub returns-in-Err-try_get_matches_from : goal.returns-in-Err-try_get_matches_from
returns-in-Err-try_get_matches_from g c = refuses _ _ _ c.in-Err-try_get_matches_from.error _ c.in-Ok.ensures c.requires c.in-Err-try_get_matches_from.ensures.kinds c.fault.ensures
