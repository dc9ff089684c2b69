-- Each event of a chart has a row in its layout.
use Rattle.std.proofs.Common.{◌≡◌, ℕ, ◌≤◌, Bool, true, false, cond, List, length, Option, None, Some, Result, Ok, Err, refl, sym, ap, ◌∙◌, subst, arith}
use Rattle.std.specs.Prelude.{nat_le}
use Rattle.std.specs.List.{range_with_len}
use Rattle.std.proofs.lemmas.Bool.{leb-true, and_parts}
use Rattle.std.proofs.lemmas.List.FromFn.{length-range_with_len}
use Rattle.std.proofs.lemmas.Option.{none-some}
use Rattle.chart.specs.declared.instance.EventNo.{EventNo}
use Rattle.chart.specs.Charts.{at, chart_lines}
use Rattle.closure.specs.Faults.{place_of}
use Rattle.cmd_base.specs.Contents.{Named}
use Rattle.cmd_draw.specs.declared.windows.Around.{Around}
use Rattle.cmd_base.specs.Named.Asked.{instance_named, has_event}
use Rattle.cmd_draw.specs.Windows.{event_at, event_named}
use Rattle.chart_layout.specs.declared.row.Row.{Row}
use Rattle.chart_layout.specs.Layouts.{laid_out, row_of, AreInOrder, IsDrawing}
use Rattle.chart_layout.proofs.BegunLemmas.{row_of_laid_out}
use Rattle.cmd_base.specs.declared.named.missing.Missing.{Missing}
use Rattle.cmd_base.specs.Named.NamedRefusals.{missing_on}

-- a test that was passed
passed : (b : Bool) (e event : EventNo) (missing : Missing) → cond b (Ok e) (Err missing) ≡ Ok event → (b ≡ true) × (e ≡ event)
passed true e event missing is = (refl, cc)
passed false e event missing is = cc

-- an event that is named, and that the chart has, has a row
pub has_row : (named : Named) (layout : List Row) (around : Around) (event : EventNo) → IsDrawing named.1 layout → event_named named around ≡ Ok event → row_of layout (place_of event) ≡ None → ⊥
has_row named layout around event drawing known none = on_line (instance_named named.0 around.instance.now) known
  where
    on_line : (p : Option ℕ) → event_at named.0 p named.1 around.event ≡ Ok event → ⊥
    on_line None is = cc
    on_line (Some p) is =
        let events = chart_lines named.1 p in
        let n = around.event in
        let a = passed (has_event events n) (record { instance = p; index = n }) event (missing_on named.0 p events) is in
        let parts = and_parts (nat_le 1 n) (nat_le n (length events)) a.0 in
        let begun : 1 ≤ n = leb-true 1 n parts.0 in
        let within : n ≤ length events = leb-true n (length events) parts.1 in
        let whole : length (laid_out layout p) ≡ length events = ap length (drawing.order p) ∙ length-range_with_len 1 (length events) in
        let order : AreInOrder layout = λ q. drawing.order q ∙ ap (λ k. range_with_len 1 k) (sym (ap length (drawing.order q) ∙ length-range_with_len 1 (length (chart_lines named.1 q)))) in
        let row = row_of_laid_out layout order (at p n) begun (omega (arith, within, whole)) in
        none-some row.0 (sym (subst (λ (e : EventNo). row_of layout (place_of e) ≡ None) (sym a.1) none) ∙ row.1)
