use Rattle.std.proofs.Common.{◌≡◌, ◌∙◌, List, subst}
use Rattle.std.specs.Prelude.{slice_get, Some}
use Rattle.board.specs.Views.{PostView}
use Rattle.c_board.proofs.bearing.bear.Goals as goal

pub carry_over-answer-requires-clause-may : goal.carry_over-answer-requires-clause-may
carry_over-answer-requires-clause-may c = λ i post at. c.requires.may i post (subst (λ (ps : List PostView). slice_get ps i ≡ Some post) (c.deref_mut.ensures.value ∙ c.in-Ok-wake_all.ensures.ok) at)
