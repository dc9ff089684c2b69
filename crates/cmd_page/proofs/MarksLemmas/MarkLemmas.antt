-- The other events that must come before a receive.
use Rattle.std.proofs.Common.{◌≡◌, ℕ, ◌-◌, List, sym, ap, ◌∙◌}
use Rattle.chart.specs.declared.event.Event.{Event}
use Rattle.closure.specs.Rows.{entry}
use Rattle.cmd_base.specs.Pairs.Sayings.{passing, comes_too}

-- they are those of the line, which has this number among all lines
pub also_is : (events line : List Event) (count p q above index : ℕ) (also counts before : List ℕ) → also ≡ passing (comes_too events count q) above → events ≡ line → count ≡ entry counts p → before ≡ counts
    → above ≡ index - 1 → also ≡ passing (comes_too line (entry before p) q) (index - 1)
also_is events line count p q above index also counts before is same number listed s =
    is ∙ ap (λ (x : List Event). passing (comes_too x count q) above) same ∙ ap (λ k. passing (comes_too line k q) above) (number ∙ ap (λ l. entry l p) (sym listed)) ∙ ap (passing (comes_too line (entry before p) q)) s
