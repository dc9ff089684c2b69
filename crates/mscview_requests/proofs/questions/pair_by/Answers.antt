use Rattle.cli.specs.declared.view.request.Pair.{Pair}
use Rattle.cmd_base.specs.declared.pairs.pair.Asked.{Asked}
use Rattle.mscview_requests.specs.Questions.{IsPairQuestion}
use Rattle.mscview_requests.specs.Wanted.{IsAsked}
use Rattle.mscview_requests.specs.declared.questions.ReadQuestion.{ReadQuestion}
use Rattle.mscview_requests.specs.declared.questions.ReadQuestion.TheVariants as questions
use Rattle.mscview_requests.proofs.WordsLemmas.ReadLemmas.{says_so}
use Rattle.mscview_requests.proofs.questions.pair_by.Goals as goal

-- no two events, no question
none : (pair : Pair) → ((asked : Asked) → IsAsked pair.instance.now pair.earlier.now pair.receive.now asked → ⊥) → (question : ReadQuestion) → IsPairQuestion pair question → ⊥
none pair lacks (questions.Pair question asked) its = lacks asked its.1
none pair lacks (questions.Mend wanted) its = its
none pair lacks (questions.MendAll wanted) its = its

pub returns-in_err-asked : goal.returns-in_err-asked
returns-in_err-asked c = says_so c.from_residual.result (IsPairQuestion c.args.pair.now) _ c.from_residual.ensures.1 (c.in_err-asked.ensures.0, none c.args.pair.now c.in_err-asked.ensures.1)
