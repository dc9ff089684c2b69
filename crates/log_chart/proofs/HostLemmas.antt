-- Lines of hosts, one by one.
use Rattle.std.proofs.Common.{◌≡◌, ℕ, zero, suc, ◌+◌, ◌-◌, ◌<◌, ◌≤◌, List, [], ◌∷◌, ◌++◌, arith, append_assoc}
use Rattle.std.proofs.lemmas.List.{append-nil}
use Rattle.log_chart.specs.HostLines.{lines_from}
use Rattle.log_chart.specs.Items.{items_of}
use Rattle.log_chart.specs.declared.begun.Begun.{Begun}
use Rattle.log_chart.specs.declared.item.Item.{Item}
use Rattle.log_chart.specs.declared.matching.LogLine.{LogLine}
use Rattle.log_chart.specs.declared.name_order.HostName.{HostName}

module _ (hosts : List HostName) (n : ℕ) (lines : List LogLine) (given : List Begun) (made : List (List Item)) where
  pub lines_more : (more : List (List Item)) (place : ℕ) → place < n → more ≡ made ++ items_of hosts lines given (suc place) ∷ []
      → more ++ lines_from hosts lines given (suc (place + 1)) (n - (place + 1)) ≡ made ++ lines_from hosts lines given (suc place) (n - place)
  unfolding lines_from
  lines_more more place less grown =
      let next : n - place ≡ suc (n - (place + 1)) = omega arith in
      let after : suc (place + 1) ≡ suc (suc place) = omega arith in
      rw (grown, next, after) (append_assoc made (items_of hosts lines given (suc place) ∷ []) (lines_from hosts lines given (suc (suc place)) (n - (place + 1))))

  pub lines_end : (p place : ℕ) → n ≤ place → made ++ lines_from hosts lines given p (n - place) ≡ made
  unfolding lines_from
  lines_end p place past =
      let none : n - place ≡ zero = omega arith in
      rw none (append-nil made)
