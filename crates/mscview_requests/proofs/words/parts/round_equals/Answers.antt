use Rattle.std.proofs.Common.{sym, ap}
use Rattle.std.proofs.lemmas.List.{take_rest}
use Rattle.mscview_requests.specs.Words.Words.{round_at}
use Rattle.mscview_requests.proofs.words.parts.round_equals.Goals as goal

pub returns-in-None : goal.returns-in-None
returns-in-None c = ap (round_at c.args.word.now) (sym c.in-None.ensures)

pub returns-in-Some : goal.returns-in-Some
returns-in-Some c = rw take_rest (ap (round_at c.args.word.now) (sym c.in-Some.ensures))
