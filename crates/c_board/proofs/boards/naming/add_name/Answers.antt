use Rattle.std.proofs.Common.{◌≡◌, ℕ, List, ◌++◌, ◌∷◌, [], ◌∙◌, sym, ap, subst, Err}
use Rattle.std.specs.Prelude.{Contains, Result}
use Rattle.chart.specs.declared.names.NamesError.{NamesError}
use Rattle.chart.specs.declared.names.NamesError.TheVariants.{Duplicate, Memory}
use Rattle.c_board.proofs.Names.{named_same, is_name}
use Rattle.c_board.proofs.boards.naming.add_name.Goals as goal

pub returns-in-Ok-add : goal.returns-in-Ok-add
returns-in-Ok-add c = (
  c.in-Ok-add.ensures.ok.1 ∙ ap (λ (w : List ℕ). c.args.names.now ++ w ∷ []) (named_same _ _ (sym c.new.ensures ∙ c.in-Ok.is)),
  is_name _ _ (sym c.new.ensures ∙ c.in-Ok.is),
)

pub returns-in-Err-Duplicate : goal.returns-in-Err-Duplicate
returns-in-Err-Duplicate c = (
  is_name _ _ (sym c.new.ensures ∙ c.in-Ok.is),
  subst (λ (w : List ℕ). Contains c.args.names.now w) (named_same _ _ (sym c.new.ensures ∙ c.in-Ok.is))
      (c.add.ensures.duplicate.0 (c.in-Err-Duplicate.is ∙ ap (λ (e : NamesError). Err e) c.in-Err-Duplicate.field-0-is)),
)

never_both : {A : Type 0} (result : Result A NamesError) → result ≡ Err Duplicate → result ≡ Err Memory → ⊥
never_both result first second = cc

pub returns-in-Err-Memory : goal.returns-in-Err-Memory
returns-in-Err-Memory c =
    let same = named_same _ _ (sym c.new.ensures ∙ c.in-Ok.is) in (
      is_name _ _ (sym c.new.ensures ∙ c.in-Ok.is),
      λ has. never_both c.add.result (c.add.ensures.duplicate.1 (subst (λ (w : List ℕ). Contains c.args.names.now w) (sym same) has))
          (c.in-Err-Memory.is ∙ ap (λ (e : NamesError). Err e) c.in-Err-Memory.field-0-is),
    )
