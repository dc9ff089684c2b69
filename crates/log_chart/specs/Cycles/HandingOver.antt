-- The lines of a log in another order, in which each host has its lines in its own order.
use Rattle.std.specs.Prelude.{◌≡◌, ℕ, ◌<◌, List, Contains, option_map}
use Rattle.log_chart.specs.declared.matching.LogLine.{LogLine}
use Rattle.log_chart.specs.Cycles.Freeing.{IsFirst, HasNone}

-- the same line of the same host, at another place and with another number of the host: it takes the same send
pub record IsMoved (place_of host_of : ℕ → ℕ) (x y : LogLine) : Type 0 where
  pub number : y.number ≡ place_of x.number
  pub host : y.entry.host ≡ host_of x.entry.host
  pub name : y.entry.host_name ≡ x.entry.host_name
  pub send : y.send ≡ option_map place_of x.send

-- each line has a place there, and there are no other lines. Different hosts have different names, and the lines of
-- each host are in the same order
pub record AreHandedOver (place_of host_of : ℕ → ℕ) (lines others : List LogLine) : Type 0 where
  pub there : (x : LogLine) → Contains lines x → (y : LogLine) × Contains others y × IsMoved place_of host_of x y
  pub back : (y : LogLine) → Contains others y → (x : LogLine) × Contains lines x × IsMoved place_of host_of x y
  pub places : (a b : ℕ) → place_of a ≡ place_of b → a ≡ b
  pub hosts : (p q : ℕ) → host_of p ≡ host_of q → p ≡ q
  pub names : (x y : LogLine) → Contains lines x → Contains lines y → x.entry.host_name ≡ y.entry.host_name → x.entry.host ≡ y.entry.host
  pub order : (x y : LogLine) → Contains lines x → Contains lines y → x.entry.host ≡ y.entry.host → x.number < y.number → place_of x.number < place_of y.number

-- which receive is freed doesn't depend on the order between the lines of several hosts: it is the same line, and if
-- there is none in the one order, there is none in the other
abbrev pub FreeingLaw : Type 0
FreeingLaw = (place_of host_of : ℕ → ℕ) (lines others : List LogLine) → AreHandedOver place_of host_of lines others
    → ((k j : ℕ) → IsFirst lines k → IsFirst others j → j ≡ place_of k) × (HasNone lines → HasNone others) × (HasNone others → HasNone lines)
