use Rattle.std.proofs.Common.{ℕ, List, ◌∙◌, subst}
use Rattle.std.specs.Prelude.{IfOk}
use Rattle.cmd_draw.specs.Preparing.{IsPrepared}
use Rattle.cmd_draw.proofs.preparing.prepare.Goals as goal

pub returns : goal.returns
returns c = subst (λ (turns : List ℕ). IfOk c.prepare_by.result (λ p. IsPrepared c.args.closure.now turns p.layout p.ends)) (c.as_slice.ensures.value ∙ c.in_ok-turns.ensures) c.prepare_by.ensures
