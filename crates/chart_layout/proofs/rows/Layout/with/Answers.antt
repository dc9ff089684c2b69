use Rattle.std.proofs.Common.{◌++◌, ◌∷◌, [], ℕ, List, sym, subst, arith}
use Rattle.std.specs.Vec.{with_items}
use Rattle.std.proofs.lemmas.List.{with_items_is}
use Rattle.chart_layout.specs.declared.row.Row.{Row}
use Rattle.chart_layout.specs.Indexes.{IsIndex, ArePut, AreNext}
use Rattle.chart_layout.proofs.IndexLemmas.{IsIndex-row, ArePut-whole}
use Rattle.chart_layout.proofs.rows.Layout.with.Goals as goal

pub invariant_of-result : goal.invariant_of-result
invariant_of-result c =
    let rows = c.self.inside.rows.items in
    let next : AreNext rows c.args.row = subst (λ (xs : List Row). AreNext xs c.args.row) (sym c.self.view_is) c.requires in
    let added : ArePut c.args.row c.len.result c.self.inside.lines.items c.put_row.new.lines = subst (λ (xs : List (List ℕ)). ArePut c.args.row c.len.result xs c.put_row.new.lines) c.as_mut_slice.ensures.value c.in_ok-put_row.ensures in
    let whole = ArePut-whole c.self.inside.lines.items c.put_row.new.lines c.args.row c.len.result c.self.invariant.whole added in
    let back = with_items_is c.self.inside.lines c.put_row.new.lines (omega (arith, whole, c.self.invariant.whole, c.self.inside.lines.ok.0)) in
    let index = IsIndex-row rows c.self.inside.lines.items c.put_row.new.lines c.args.row c.len.result c.self.invariant next (omega (arith, c.len.ensures, c.self.inside.rows.ok.0)) added in
    subst (λ (xs : List Row). IsIndex xs (with_items c.self.inside.lines c.put_row.new.lines).items) (sym c.in_ok-push.ensures.items) (subst (IsIndex (rows ++ c.args.row ∷ [])) (sym back) index)
