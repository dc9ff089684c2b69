-- A line that grows by an event, with what it keeps.
use Rattle.std.proofs.Common.{◌≡◌, ◌≢◌, ℕ, ◌+◌, ◌<◌, max, List, [], ◌∷◌, ◌++◌, length, take, Some, sym, ap, ◌∙◌, subst, arith}
use Rattle.std.specs.Prelude.{slice_get}
use Rattle.std.proofs.lemmas.Option.{slice_get_within}
use Rattle.std.proofs.lemmas.List.{length-append, take-append-le}
use Rattle.std.proofs.Math.Seq.{take-append_seam}
use Rattle.chart.specs.declared.event.Event.{Event}
use Rattle.chart.specs.declared.growing_line.Starts.{Starts}
use Rattle.chart.specs.declared.line.TheConstants.{MAX_EVENTS}
use Rattle.chart.specs.Events.{partner_of, region_of, MayHaveRegion, HasRegionsInOrder}
use Rattle.chart.specs.Charts.{IsLine}
use Rattle.chart.specs.LineLayout.{AreStartsAt, IsLaidOut}
use Rattle.chart.proofs.Places.{each-push}
use Rattle.chart.proofs.Regions.{greatest_region-push, may_be-small}
use Rattle.chart.proofs.Runs.{AreStarts-push}

-- coregions stay in order if the new event may have its coregion
pub HasRegionsInOrder-push : (line : List Event) (m : Event) → HasRegionsInOrder line → MayHaveRegion line (region_of m) → HasRegionsInOrder (line ++ m ∷ [])
HasRegionsInOrder-push line m old may = each-push (λ i n. MayHaveRegion (take i (line ++ m ∷ [])) (region_of n)) line m earlier newest
  where
    earlier : (i : ℕ) (n : Event) → slice_get line i ≡ Some n → MayHaveRegion (take i (line ++ m ∷ [])) (region_of n)
    earlier i n e =
        let inside = slice_get_within line i n e in
        let front : take i (line ++ m ∷ []) ≡ take i line = take-append-le i line (m ∷ []) (omega arith) in
        subst (λ xs. MayHaveRegion xs (region_of n)) (sym front) (old i n e)

    newest : MayHaveRegion (take (length line) (line ++ m ∷ [])) (region_of m)
    newest = subst (λ xs. MayHaveRegion xs (region_of m)) (sym (take-append_seam line (m ∷ []))) may

-- a line with a new event is a line
pub IsLine-push : (p : ℕ) (line : List Event) (m : Event) → IsLine (record { instance = p; events = line }) → partner_of m ≢ p → length line < MAX_EVENTS → MayHaveRegion line (region_of m)
    → IsLine (record { instance = p; events = line ++ m ∷ [] })
IsLine-push p line m old other short may = record {
  short = omega (arith, length-append line (m ∷ []));
  partners = each-push (λ i n. partner_of n ≢ p) line m old.partners other;
  regions = HasRegionsInOrder-push line m old.regions may;
}

-- what it keeps stays right
pub IsLaidOut-push : (p : ℕ) (line : List Event) (kept : List Starts) (greatest : ℕ) (m : Event) (b : Starts) → IsLaidOut p line kept greatest → partner_of m ≢ p → length line < MAX_EVENTS → MayHaveRegion line (region_of m)
    → AreStartsAt (line ++ m ∷ []) (length line + 1) b → IsLaidOut p (line ++ m ∷ []) (kept ++ b ∷ []) (max greatest (region_of m))
IsLaidOut-push p line kept greatest m b old other short may next = record {
  line = IsLine-push p line m old.line other short may;
  same = omega (arith, length-append line (m ∷ []), length-append kept (b ∷ []), old.same);
  right = AreStarts-push line kept m b old.same old.right next;
  greatest_is = ap (λ g. max g (region_of m)) old.greatest_is ∙ sym (greatest_region-push line m);
  few_regions = omega (arith, length-append line (m ∷ []), old.greatest_is, old.few_regions, may_be-small line (region_of m) may);
}
