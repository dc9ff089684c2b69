-- What lanes carry in a history, and what an instance's next send carries.
use Rattle.std.proofs.Common.{◌≡◌, ℕ, ◌+◌, ◌≤◌, ◌==◌, Bool, true, false, cond, List, [], ◌∷◌, ◌++◌, length, drop, map, refl, sym, ap, ap₂, ◌∙◌, subst, arith, append-nil, append_assoc}
use Rattle.std.proofs.lemmas.Bool.{eqb-true, eqb-false, and_parts}
use Rattle.std.proofs.lemmas.List.{length-map, map-append, drop-map}
use Rattle.chart.specs.declared.history.Occurrence.{Occurrence}
use Rattle.chart.specs.declared.history.Occurrence.TheVariants.{Send, Receive, Close}
use Rattle.chart.specs.Histories.{by, own, is_lane, sent, received, waiting, chart_of}
use Rattle.chart.specs.Charts.{at}
use Rattle.chart.proofs.Begun.{known_begun, report_begun}
use Rattle.chart.proofs.Steps.{line_of_other}
use Rattle.clock.specs.Clocks.{entry_of, with_entry}
use Rattle.line_recorder.specs.Carried.{knowledge_of, clocks_of, waiting_clocks}
use Rattle.line_recorder.proofs.Recording.{knowledge_of-other}
use Rattle.board_core.specs.Parcels.{Parcel, next_clock, goods}
use Rattle.board_core.specs.Laws.{GoodsLaw, GoodsGrowthLaw, OthersLaw, ClockGrowthLaw, ReportGrowthLaw}

-- the messages of the goods are those that were sent
pub goods_messages : (n : ℕ) (h : List Occurrence) (q p : ℕ) → map (λ (x : Parcel). x.message) (goods n h q p) ≡ sent h q p
goods_messages n [] q p = refl
goods_messages n (Send a b m ∷ h) q p = go (is_lane a b q p) (goods_messages n h q p)
  where
    go : (its : Bool) → map (λ (x : Parcel). x.message) (goods n h q p) ≡ sent h q p → map (λ (x : Parcel). x.message) (cond its (goods n h q p ++ record { message = m; clock = next_clock n h a } ∷ []) (goods n h q p)) ≡ cond its (sent h q p ++ m ∷ []) (sent h q p)
    go true before = map-append (λ (x : Parcel). x.message) (goods n h q p) (record { message = m; clock = next_clock n h a } ∷ []) ∙ ap (λ ms. ms ++ m ∷ []) before
    go false before = before
goods_messages n (Receive a b c ∷ h) q p = goods_messages n h q p
goods_messages n (Close a b ∷ h) q p = goods_messages n h q p

-- there are as many goods as sent messages
pub goods_many : (n : ℕ) (h : List Occurrence) (q p : ℕ) → length (goods n h q p) ≡ length (sent h q p)
goods_many n h q p = sym (length-map (goods n h q p) (λ (x : Parcel). x.message)) ∙ ap length (goods_messages n h q p)

-- the clocks of the goods are those of the sends
pub goods_clocks : (n : ℕ) (h : List Occurrence) (q p : ℕ) → map (λ (x : Parcel). x.clock) (goods n h q p) ≡ clocks_of n h q p
goods_clocks n [] q p = refl
goods_clocks n (Send a b m ∷ h) q p = go (is_lane a b q p) refl (goods_clocks n h q p)
  where
    clock : ℕ → List ℕ
    clock = λ x. with_entry (knowledge_of n h x) x (length (chart_of h a) + 1)

    go : (its : Bool) → is_lane a b q p ≡ its → map (λ (x : Parcel). x.clock) (goods n h q p) ≡ clocks_of n h q p → map (λ (x : Parcel). x.clock) (cond its (goods n h q p ++ record { message = m; clock = next_clock n h a } ∷ []) (goods n h q p)) ≡ cond its (clocks_of n h q p ++ clock q ∷ []) (clocks_of n h q p)
    go true e before = map-append (λ (x : Parcel). x.clock) (goods n h q p) (record { message = m; clock = next_clock n h a } ∷ []) ∙ ap₂ (λ xs x. xs ++ clock x ∷ []) before (eqb-true a q (and_parts (a == q) (b == p) e).0)
    go false e before = before
goods_clocks n (Receive a b c ∷ h) q p = goods_clocks n h q p
goods_clocks n (Close a b ∷ h) q p = goods_clocks n h q p

pub goods_law : GoodsLaw
goods_law n h q p = (goods_messages n h q p, goods_clocks n h q p)

-- the waiting messages are those of the waiting parcels
pub waiting_goods : (n : ℕ) (h : List Occurrence) (q p : ℕ) (xs : List Parcel) → drop (received h q p) (goods n h q p) ≡ xs → waiting h q p ≡ map (λ (x : Parcel). x.message) xs
waiting_goods n h q p xs e = ap (drop (received h q p)) (sym (goods_messages n h q p)) ∙ drop-map (λ (x : Parcel). x.message) (received h q p) (goods n h q p) ∙ ap (map (λ (x : Parcel). x.message)) e

-- the waiting clocks are those of the waiting parcels
pub waiting_goods_clocks : (n : ℕ) (h : List Occurrence) (q p : ℕ) (xs : List Parcel) → drop (received h q p) (goods n h q p) ≡ xs → waiting_clocks n h q p ≡ map (λ (x : Parcel). x.clock) xs
waiting_goods_clocks n h q p xs e = ap (drop (received h q p)) (sym (goods_clocks n h q p)) ∙ drop-map (λ (x : Parcel). x.clock) (received h q p) (goods n h q p) ∙ ap (map (λ (x : Parcel). x.clock)) e

-- an event adds to the goods, or leaves them as they were
pub goods_more : (n : ℕ) (h : List Occurrence) (e : Occurrence) (q p : ℕ) → (more : List Parcel) × (goods n (e ∷ h) q p ≡ goods n h q p ++ more)
goods_more n h (Send a b m) q p = go (is_lane a b q p)
  where
    x : Parcel
    x = record { message = m; clock = next_clock n h a }

    go : (its : Bool) → (more : List Parcel) × (cond its (goods n h q p ++ x ∷ []) (goods n h q p) ≡ goods n h q p ++ more)
    go true = (x ∷ [], refl)
    go false = ([], sym (append-nil (goods n h q p)))
goods_more n h (Receive a b c) q p = ([], sym (append-nil (goods n h q p)))
goods_more n h (Close a b) q p = ([], sym (append-nil (goods n h q p)))

-- several events add to the goods, or leave them as they were
pub goods_several : (n : ℕ) (more h : List Occurrence) (q p : ℕ) → (rest : List Parcel) × (goods n (more ++ h) q p ≡ goods n h q p ++ rest)
goods_several n [] h q p = ([], sym (append-nil (goods n h q p)))
goods_several n (e ∷ more) h q p =
    let before = goods_several n more h q p in
    let last = goods_more n (more ++ h) e q p in
    (before.0 ++ last.0, last.1 ∙ ap (λ xs. xs ++ last.0) before.1 ∙ append_assoc (goods n h q p) before.0 last.0)

pub goods_grow : GoodsGrowthLaw
goods_grow n h g (more, e) q p = subst (λ x. (rest : List Parcel) × (goods n x q p ≡ goods n h q p ++ rest)) (sym e) (goods_several n more h q p)

-- an instance's own events only grow
pub own_grows : (more h : List Occurrence) (p : ℕ) → length (own h p) ≤ length (own (more ++ h) p)
own_grows [] h p = omega arith
own_grows (e ∷ more) h p = go (by e == p) (own_grows more h p)
  where
    go : (its : Bool) → length (own h p) ≤ length (own (more ++ h) p) → length (own h p) ≤ length (cond its (e ∷ own (more ++ h) p) (own (more ++ h) p))
    go true before = omega arith
    go false before = before

-- events of others leave an instance's line, and what it knows, as they were
pub others_leave : (n : ℕ) (more h : List Occurrence) (p : ℕ) → own (more ++ h) p ≡ own h p → (chart_of (more ++ h) p ≡ chart_of h p) × (knowledge_of n (more ++ h) p ≡ knowledge_of n h p)
others_leave n [] h p same = (refl, refl)
others_leave n (e ∷ more) h p same = go (by e == p) refl same (λ i. others_leave n more h p i)
  where
    go : (its : Bool) → (by e == p) ≡ its → cond its (e ∷ own (more ++ h) p) (own (more ++ h) p) ≡ own h p → (own (more ++ h) p ≡ own h p → (chart_of (more ++ h) p ≡ chart_of h p) × (knowledge_of n (more ++ h) p ≡ knowledge_of n h p)) → (chart_of (e ∷ more ++ h) p ≡ chart_of h p) × (knowledge_of n (e ∷ more ++ h) p ≡ knowledge_of n h p)
    go true i same rest = absurd (omega (arith, ap length same, own_grows more h p))
    go false i same rest =
        let ne = eqb-false (by e) p i in
        let before = rest same in
        (line_of_other (more ++ h) e p ne ∙ before.0, knowledge_of-other n (more ++ h) e p (λ c. ne (sym c)) ∙ before.1)

pub others_law : OthersLaw
others_law n h g (more, e) p same =
    let left = others_leave n more h p (ap (λ x. own x p) (sym e) ∙ same) in
    let line = ap (λ x. chart_of x p) e ∙ left.0 in
    (line, ap₂ (λ known (n : ℕ). with_entry known p (n + 1)) (ap (λ x. knowledge_of n x p) e ∙ left.1) (ap length line))

pub clock_growth : ClockGrowthLaw
clock_growth n k h g legal begins q j clock event its r low high = known_begun n k h g legal begins (at q j) r (entry_of clock r) event (its r low high)

pub report_growth : ReportGrowthLaw
report_growth n k h g legal begins report event its = record {
  exact = report_begun n k h g legal begins (at report.receive.instance report.receive.index) (map (λ race. race.index) report.earlier) event its.exact;
  line = its.line;
}
