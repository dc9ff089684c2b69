use Rattle.std.proofs.Common.{ℕ, List, [], subst}
use Rattle.std.proofs.lemmas.Result.{err_from_is_err_and}
use Rattle.texts.specs.Lines.{parts}
use Rattle.cmd_base.proofs.ColumnsLemmas.ColumnLemmas.{AreSoFar, none_passed, one_more, all_passed, refuses, cut_off, few}
use Rattle.cmd_base.proofs.columns.columns.named_columns.Goals as goal

pub names-init : goal.names-init
names-init c =
    let words : List (List ℕ) = parts 44 c.args.only.now in
    rw c.new-columns.ensures.items (none_passed c.args.names.now words)

pub returns-in_err-add_column-clause-err : goal.returns-in_err-add_column-clause-err
returns-in_err-add_column-clause-err c =
    let words : List (List ℕ) = parts 44 c.args.only.now in
    let cut = cut_off (λ rest. parts 44 rest.now) (parts 44 c.names.rest.now) c.next_name.result.0.now c.next_name.result.1 c.next_name.ensures.cut in
    let so_far = subst (λ ws. AreSoFar c.args.names.now words ws c.names.columns.items) cut.1 c.names.invariant in
    let p = err_from_is_err_and c.from_residual.result c.from_residual.ensures.1 in
    rw (p.1, p.2) (refuses c.args.names.now words c.next_name.result.0.now cut.0 c.names.columns.items so_far c.in_err-add_column.field-0.0 c.in_err-add_column.ensures.err)

pub returns-in-None-clause-ok : goal.returns-in-None-clause-ok
returns-in-None-clause-ok c =
    let names = c.args.names.now in
    let words : List (List ℕ) = parts 44 c.args.only.now in
    let cut = rw c.in-None.is at c.next_name.ensures.cut in
    let so_far = subst (λ ws. AreSoFar names words ws c.names.columns.items) cut c.names.invariant in
    all_passed names words c.add_column.new.columns.items (one_more names words c.next_name.result.0.now [] c.names.columns.items c.add_column.new.columns.items so_far c.in_ok-add_column.ensures.ok)

pub returns-in-None-clause-limit : goal.returns-in-None-clause-limit
returns-in-None-clause-limit c =
    few c.args.names.now (parts 44 c.args.only.now) c.add_column.new.columns.items (returns-in-None-clause-ok c)

pub names-preserved : goal.names-preserved
names-preserved c =
    let names = c.args.names.now in
    let words : List (List ℕ) = parts 44 c.args.only.now in
    let cut = rw c.in-Some.is at c.next_name.ensures.cut in
    let so_far = subst (λ ws. AreSoFar names words ws c.names.columns.items) cut c.names.invariant in
    one_more names words c.next_name.result.0.now (parts 44 c.in-Some.more.now) c.names.columns.items c.add_column.new.columns.items so_far c.in_ok-add_column.ensures.ok
