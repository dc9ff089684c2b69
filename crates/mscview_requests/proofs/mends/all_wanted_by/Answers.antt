use Rattle.std.specs.Prelude.{option_map}
use Rattle.mscview_requests.proofs.WordsLemmas.ReadLemmas.{says_so}
use Rattle.mscview_requests.specs.Wanted.{IsMendAll}
use Rattle.mscview_requests.proofs.mends.all_wanted_by.Goals as goal

pub returns-in_err-limit : goal.returns-in_err-limit
returns-in_err-limit c = says_so c.from_residual.result (IsMendAll c.args.receives c.args.run_to_completion (option_map (λ w. w.now) c.args.limit)) _ c.from_residual.ensures.1
    (c.in_err-limit.ensures.0, λ wanted its. c.in_err-limit.ensures.1 wanted.limit its.limit_so)
