use Rattle.std.proofs.Common.{ℕ, ◌<◌, List, [], ◌∷◌, ◌++◌, length, sym, ap, subst, ◌∙◌, arith, Contains}
use Rattle.chart.specs.declared.instance.TheConstants.{MAX_INSTANCES}
use Rattle.chart.proofs.NameLists.{insert_key-new, absent_by, AreNames-push}
use Rattle.chart.proofs.names.Names.add.Goals as goal

pub invariant_of-self-2 : goal.invariant_of-self-2
invariant_of-self-2 c =
    let names = c.self.inside.names.keys in
    let absent : Contains names c.args.name → ⊥ = subst (λ (ks : List (List ℕ)). Contains ks c.args.name → ⊥) (sym c.self.view_is) (absent_by c.args.self.now c.args.name c.contains.result c.contains.ensures c.if-contains.false) in
    let room : length names < MAX_INSTANCES = omega arith in
    rw (c.in_ok-insert.ensures.keys, insert_key-new names c.args.name absent) (AreNames-push names c.args.name c.self.invariant room absent)

pub returns-clause-ok : goal.returns-clause-ok
returns-clause-ok c =
    let names = c.self.inside.names.keys in
    let absent : Contains names c.args.name → ⊥ = subst (λ (ks : List (List ℕ)). Contains ks c.args.name → ⊥) (sym c.self.view_is) (absent_by c.args.self.now c.args.name c.contains.result c.contains.ensures c.if-contains.false) in
    (rw (← c.self.view_is) (omega arith), c.in_ok-insert.ensures.keys ∙ insert_key-new names c.args.name absent ∙ ap (λ ks. ks ++ c.args.name ∷ []) c.self.view_is)
