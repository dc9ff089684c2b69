-- What a possible chart has.
use Rattle.std.proofs.Common.{◌≡◌, ℕ, ◌==◌, inl, Bool, true, false, cond, List, [], ◌∷◌, ◌++◌, refl, sym, subst, eqb-true, append-nil}
use Rattle.std.proofs.Math.Path.{fun_ext}
use Rattle.std.proofs.lemmas.Option.{none-some}
use Rattle.chart.specs.declared.history.Occurrence.{Occurrence}
use Rattle.chart.specs.declared.history.Occurrence.TheVariants.{Send, Receive, Close}
use Rattle.chart.specs.Messages.{Content}
use Rattle.chart.specs.Events.{send_event, receive_event, MayHaveRegion, HasRegionsInOrder}
use Rattle.chart.specs.Histories.{waiting, receive_of, chart_of, IsLegal}
use Rattle.chart.specs.Charts.{Chart, Place, HasOtherName, IsPossible}
use Rattle.chart.specs.Order.{IsCyclic}
use Rattle.chart.proofs.Growing.{HasSends}
use Rattle.chart.proofs.Sends.{sends_of, none_of_other_name}
use Rattle.chart.proofs.Cycles.{acyclic}
use Rattle.chart.proofs.Layouts.{HasRegionsInOrder-push}

-- the coregions of each line of a history
regions_of : (n k : ℕ) (h : List Occurrence) → IsLegal n k h → (p : ℕ) → HasRegionsInOrder (chart_of h p)
regions_of n k [] legal p = λ i m here. absurd (none-some m here)
regions_of n k (Send a b x ∷ h) legal p = go (a == p) (regions_of n k h legal.1 p)
  where
    go : (mine : Bool) → HasRegionsInOrder (chart_of h p) → HasRegionsInOrder (chart_of h p ++ cond mine (send_event b x.name ∷ []) [])
    go true old = HasRegionsInOrder-push (chart_of h p) (send_event b x.name) old (inl refl)
    go false old = subst HasRegionsInOrder (sym (append-nil (chart_of h p))) old
regions_of n k (Receive a b c ∷ h) legal p = go (a == p) refl (waiting h b a) (regions_of n k h legal.1 p)
  where
    go : (mine : Bool) → (a == p) ≡ mine → (ms : List Content) → HasRegionsInOrder (chart_of h p) → HasRegionsInOrder (chart_of h p ++ cond mine (receive_of ms b c) [])
    go true its (m ∷ rest) old = HasRegionsInOrder-push (chart_of h p) (receive_event b m.name c) old (subst (λ q. MayHaveRegion (chart_of h q) c) (eqb-true a p its) legal.0.3)
    go true its [] old = subst HasRegionsInOrder (sym (append-nil (chart_of h p))) old
    go false its ms old = subst HasRegionsInOrder (sym (append-nil (chart_of h p))) old
regions_of n k (Close a b ∷ h) legal p = subst HasRegionsInOrder (sym (append-nil (chart_of h p))) (regions_of n k h legal.1 p)

module _ (n : ℕ) (c : Chart) (possible : IsPossible n c) where
  pub has_regions : (p : ℕ) → HasRegionsInOrder (c p)
  has_regions p = subst HasRegionsInOrder (possible.3 p) (regions_of n possible.1 possible.0 possible.2 p)

  pub no_cycle : IsCyclic c → ⊥
  no_cycle cyclic = acyclic n possible.1 possible.0 possible.2 (subst IsCyclic (sym (fun_ext possible.3)) cyclic)

  pub has_sends : HasSends c
  has_sends = subst HasSends (fun_ext possible.3) (sends_of n possible.1 possible.0 possible.2)

  pub has_names : (r : Place) → HasOtherName c r → ⊥
  has_names r other = none_of_other_name n possible.1 possible.0 possible.2 r (subst (λ d. HasOtherName d r) (sym (fun_ext possible.3)) other)
