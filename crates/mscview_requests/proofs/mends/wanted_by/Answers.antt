use Rattle.std.specs.Prelude.{option_map}
use Rattle.mscview_requests.proofs.WordsLemmas.ReadLemmas.{says_so}
use Rattle.mscview_requests.specs.Wanted.{IsMend}
use Rattle.mscview_requests.proofs.mends.wanted_by.Goals as goal

pub returns-in_err-asked_by : goal.returns-in_err-asked_by
returns-in_err-asked_by c = says_so c.from_residual.result (IsMend (option_map (λ w. w.now) c.args.name) c.args.verbose c.args.instance.now c.args.earlier.now c.args.receive.now) _ c.from_residual.ensures.1
    (c.in_err-asked_by.ensures.0, λ wanted its. c.in_err-asked_by.ensures.1 wanted.asked its.asked)
