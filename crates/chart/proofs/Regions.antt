-- The coregions of a line that grows by an event.
use Rattle.std.proofs.Common.{◌≡◌, ℕ, ◌+◌, ◌≤◌, inl, inr, max, List, [], ◌∷◌, ◌++◌, refl, sym, arith}
use Rattle.chart.specs.declared.event.Event.{Event}
use Rattle.chart.specs.Events.{region_of, greatest_region, last_region, MayHaveRegion}

-- the greatest coregion of the longer line
pub greatest_region-push : (line : List Event) (m : Event) → greatest_region (line ++ m ∷ []) ≡ max (greatest_region line) (region_of m)
greatest_region-push [] m = omega arith
greatest_region-push (x ∷ line) m = omega (arith, greatest_region-push line m)

-- the coregion of its last event
pub last_region-push : (line : List Event) (m : Event) → last_region (line ++ m ∷ []) ≡ region_of m
last_region-push [] m = refl
last_region-push (x ∷ []) m = refl
last_region-push (x ∷ y ∷ line) m = last_region-push (y ∷ line) m

-- a coregion that may come next is at most one above the greatest
pub may_be-small : (line : List Event) (c : ℕ) → MayHaveRegion line c → c ≤ greatest_region line + 1
may_be-small line c (inl none) = omega arith
may_be-small line c (inr (inl next)) = omega arith
may_be-small line c (inr (inr same)) = omega (arith, same.1)

-- the coregion of an event is one that the next event may have too
pub may-again : (line : List Event) (m : Event) → MayHaveRegion line (region_of m) → MayHaveRegion (line ++ m ∷ []) (region_of m)
may-again line m may = by may (greatest_region-push line m) (last_region-push line m)
  where
    by : MayHaveRegion line (region_of m) → greatest_region (line ++ m ∷ []) ≡ max (greatest_region line) (region_of m) → last_region (line ++ m ∷ []) ≡ region_of m → MayHaveRegion (line ++ m ∷ []) (region_of m)
    by (inl none) greatest last = inl none
    by (inr (inl next)) greatest last = inr (inr (omega arith, omega arith, sym last))
    by (inr (inr same)) greatest last = inr (inr (same.0, omega (arith, same.1), sym last))
