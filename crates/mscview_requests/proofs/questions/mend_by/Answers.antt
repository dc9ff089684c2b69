use Rattle.cli.specs.declared.view.request.Mend.TheVariants.{One, All}
use Rattle.cmd_mend.specs.declared.showing.Wanted as mends
use Rattle.cmd_mend.specs.declared.showing_all.WantedAll.{WantedAll}
use Rattle.std.proofs.Common.{Bool, List, ℕ, Bor}
use Rattle.std.specs.Prelude.{Option, option_map}
use Rattle.mscview_requests.specs.Questions.{IsMendQuestion}
use Rattle.mscview_requests.specs.Wanted.{IsMend, IsMendAll}
use Rattle.mscview_requests.specs.declared.questions.ReadQuestion.{ReadQuestion}
use Rattle.mscview_requests.specs.declared.questions.ReadQuestion.TheVariants as questions
use Rattle.mscview_requests.proofs.WordsLemmas.ReadLemmas.{says_so}
use Rattle.mscview_requests.proofs.questions.mend_by.Goals as goal

-- no race, no question
none : (name : Option (Bor (List ℕ))) (verbose : Bool) (file instance earlier receive : Bor (List ℕ))
    → ((wanted : mends.Wanted) → IsMend (option_map (λ word. word.now) name) verbose instance.now earlier.now receive.now wanted → ⊥)
    → (question : ReadQuestion) → IsMendQuestion (One name verbose file instance earlier receive) question → ⊥
none name verbose file instance earlier receive lacks (questions.Pair question asked) its = its
none name verbose file instance earlier receive lacks (questions.Mend wanted) its = lacks wanted its
none name verbose file instance earlier receive lacks (questions.MendAll wanted) its = its

-- no valid limit, no question
none_of_all : (receives completed : Bool) (limit file : Option (Bor (List ℕ)))
    → ((wanted : WantedAll) → IsMendAll receives completed (option_map (λ word. word.now) limit) wanted → ⊥)
    → (question : ReadQuestion) → IsMendQuestion (All receives completed limit file) question → ⊥
none_of_all receives completed limit file lacks (questions.Pair question asked) its = its
none_of_all receives completed limit file lacks (questions.Mend wanted) its = its
none_of_all receives completed limit file lacks (questions.MendAll wanted) its = lacks wanted its

pub returns-in_err-wanted-in-One : goal.returns-in_err-wanted-in-One
returns-in_err-wanted-in-One c =
    rw c.in-One.is (says_so c.from_residual.result (IsMendQuestion (One c.in-One.name c.in-One.verbose c.in-One.file c.in-One.instance c.in-One.earlier c.in-One.receive)) _ c.from_residual.ensures.1
    (c.in_err-wanted-in-One.ensures.0, none c.in-One.name c.in-One.verbose c.in-One.file c.in-One.instance c.in-One.earlier c.in-One.receive c.in_err-wanted-in-One.ensures.1))

pub returns-in_err-wanted-in-All : goal.returns-in_err-wanted-in-All
returns-in_err-wanted-in-All c =
    rw c.in-All.is (says_so c.from_residual-in_err-wanted-in-All.result (IsMendQuestion (All c.in-All.receives c.in-All.run_to_completion c.in-All.limit c.in-All.file)) _ c.from_residual-in_err-wanted-in-All.ensures.1
    (c.in_err-wanted-in-All.ensures.0, none_of_all c.in-All.receives c.in-All.run_to_completion c.in-All.limit c.in-All.file c.in_err-wanted-in-All.ensures.1))
