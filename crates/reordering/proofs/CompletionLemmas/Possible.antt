-- What holds of a possible chart, as the lemmas on its order need it.
use Rattle.std.proofs.Common.{◌≡◌, ℕ, ◌==◌, inl, Bool, true, false, cond, List, [], ◌∷◌, ◌++◌, refl, sym, subst, append-nil, eqb-true}
use Rattle.std.proofs.lemmas.Option.{none-some}
use Rattle.std.proofs.Math.Path.{fun_ext}
use Rattle.chart.specs.declared.history.Occurrence.{Occurrence}
use Rattle.chart.specs.declared.history.Occurrence.TheVariants.{Send, Receive, Close}
use Rattle.chart.specs.Messages.{Content}
use Rattle.chart.specs.Events.{send_event, receive_event, MayHaveRegion, HasRegionsInOrder}
use Rattle.chart.specs.Histories.{waiting, receive_of, chart_of, IsLegal}
use Rattle.chart.specs.Charts.{Chart, Place, IsReceiveFrom, BelongsTo, IsPossible}
use Rattle.chart.specs.Order.{IsCyclic}
use Rattle.chart.specs.Knowing.{IsKnown}
use Rattle.chart.proofs.Layouts.{HasRegionsInOrder-push}
use Rattle.chart.proofs.Cycles.{acyclic}
use Rattle.chart.proofs.Sends.{sends_of}
use Rattle.chart.proofs.Existence.{known_exists}

-- its order has no cycle, its coregions are in order, and each receive has a send, which knows a number of its line
pub record IsSound (c : Chart) : Type 0 where
  pub no_cycle : IsCyclic c → ⊥
  pub regions : (p : ℕ) → HasRegionsInOrder (c p)
  pub knows : (q : ℕ) (r : Place) → IsReceiveFrom c q r → (s : Place) × BelongsTo c s r × ((k : ℕ) × IsKnown c s r.instance k)

regions_of : (n k : ℕ) (h : List Occurrence) → IsLegal n k h → (p : ℕ) → HasRegionsInOrder (chart_of h p)
regions_of n k [] legal p = λ i m at_i. absurd (none-some m at_i)
regions_of n k (Send a b m ∷ h) legal p = go (a == p) (regions_of n k h legal.1 p)
  where
    go : (mine : Bool) → HasRegionsInOrder (chart_of h p) → HasRegionsInOrder (chart_of h p ++ cond mine (send_event b m.name ∷ []) [])
    go true old = HasRegionsInOrder-push (chart_of h p) (send_event b m.name) old (inl refl)
    go false old = subst HasRegionsInOrder (sym (append-nil (chart_of h p))) old
regions_of n k (Receive a b c ∷ h) legal p = go (waiting h b a) (a == p) refl (regions_of n k h legal.1 p)
  where
    go : (ms : List Content) (mine : Bool) → (a == p) ≡ mine → HasRegionsInOrder (chart_of h p) → HasRegionsInOrder (chart_of h p ++ cond mine (receive_of ms b c) [])
    go [] true is old = subst HasRegionsInOrder (sym (append-nil (chart_of h p))) old
    go (m ∷ ms) true is old = HasRegionsInOrder-push (chart_of h p) (receive_event b m.name c) old (subst (λ x. MayHaveRegion (chart_of h x) c) (eqb-true a p is) legal.0.3)
    go ms false is old = subst HasRegionsInOrder (sym (append-nil (chart_of h p))) old
regions_of n k (Close a b ∷ h) legal p = subst HasRegionsInOrder (sym (append-nil (chart_of h p))) (regions_of n k h legal.1 p)

pub is_sound : (n : ℕ) (c : Chart) → IsPossible n c → IsSound c
is_sound n c (h, k, legal, same) = subst IsSound (fun_ext same) (record {
  no_cycle = acyclic n k h legal;
  regions = regions_of n k h legal;
  knows = λ q r from.
      let s = sends_of n k h legal q r from in
      (s.0, s.1, known_exists n k h legal r.instance s.0 s.1.sent r.instance);
})
