-- Which events are in a coregion.
use Rattle.std.proofs.Common.{◌≡◌, ℕ, true, not, ◌==◌, sym, ap, ◌∙◌}
use Rattle.std.specs.Cmp.{first_so, second_so}
use Rattle.std.proofs.lemmas.Bool.{eqb-true, eq-eqb, false≢true}
use Rattle.chart.specs.declared.event.Event.{Event}
use Rattle.chart.specs.Events.{region_of, is_in}

-- an event in c has this coregion
pub region_of-in : (c : ℕ) (m : Event) → is_in c m ≡ true → region_of m ≡ c
region_of-in c m h = eqb-true (region_of m) c (first_so (region_of m == c) (not (c == 0)) h)

-- an event outside of coregions is in none
pub none_in : (c : ℕ) (m : Event) → region_of m ≡ 0 → is_in c m ≡ true → ⊥
none_in c m outside h =
    let zero_c : c ≡ 0 = sym (region_of-in c m h) ∙ outside in
    let inside : not (c == 0) ≡ true = second_so (region_of m == c) (not (c == 0)) h in
    false≢true (sym (ap not (eq-eqb c 0 zero_c)) ∙ inside)
