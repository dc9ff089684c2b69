-- Runs in which instances finish keep the order for finishing instances.
use Rattle.std.proofs.Common.{◌≡◌, ℕ, ◌+◌, ◌<◌, ◌≤◌, ◌⊎◌, ◌==◌, inl, inr, Bool, true, false, cond, List, [], ◌∷◌, refl, sym, ◌∙◌, subst, arith}
use Rattle.std.proofs.lemmas.Bool.{cases_lt, cases_eq, and_parts, eqb-true}
use Rattle.chart.specs.declared.history.Occurrence.{Occurrence}
use Rattle.chart.specs.declared.history.Occurrence.TheVariants.{Send, Receive, Close}
use Rattle.chart.specs.Events.{is_receive_from, tally}
use Rattle.chart.specs.Histories.{is_lane, received, chart_of, IsLegal, Begins}
use Rattle.chart.specs.Charts.{Chart, Place, at, IsReceiveFrom}
use Rattle.chart.proofs.Tally.{tally-lt}
use Rattle.chart.proofs.Belongs.{not_both, one_sender}
use Rattle.chart.proofs.Lanes.{received_count}
use Rattle.chart.proofs.Histories.{begins_same, begins_onward}
use Rattle.reordering.specs.OtherRuns.OtherRuns.{HasCome, IsRunOf, KeepsCauses}
use Rattle.reordering.specs.OtherRuns.OtherRuns.HasCome.{was_sent, was_received}
use Rattle.reordering.proofs.OtherRunsLemmas.Counted.{names_sent}
use Rattle.reordering.proofs.OtherRunsLemmas.Causes.{come_there, there_come, keeps_causes}
use Rattle.reordering.specs.Completion.Handling.{IsHandled}
use Rattle.reordering.specs.Completion.Orders.{Completed}
use Rattle.reordering.specs.Completion.Orders.Completed.{direct as stepped, through as chained, finished as finishing}
use Rattle.reordering.specs.Completion.Runs.{Finishes}

-- a receive that has come is counted, however it came
come_count : (c : Chart) (h : List Occurrence) (q : ℕ) (r : Place) → IsReceiveFrom c q r → HasCome c h r → tally (is_receive_from q) (c r.instance) r.index ≤ received h q r.instance
come_count c h q r from (was_sent to is le) = absurd (not_both c to q r is from)
come_count c h q r from (was_received other is le) = let same = one_sender c other q r is from in subst (λ x. tally (is_receive_from x) (c r.instance) r.index ≤ received h x r.instance) same le

-- one more event is a receive of this lane, or leaves the lane as it is
one_more : (x : Occurrence) (h : List Occurrence) (q p : ℕ) → (received (x ∷ h) q p ≡ received h q p) ⊎ ((received (x ∷ h) q p ≡ received h q p + 1) × ((a : ℕ) → (a ≡ q → ⊥) → received (x ∷ h) a p ≡ received h a p))
one_more (Send a b m) h q p = inl refl
one_more (Close a b) h q p = inl refl
one_more (Receive a b i) h q p = go (is_lane b a q p) refl
  where
    other : is_lane b a q p ≡ true → (x : ℕ) → (x ≡ q → ⊥) → (l : Bool) → is_lane b a x p ≡ l → cond l (received h x p + 1) (received h x p) ≡ received h x p
    other mine x differs false is = refl
    other mine x differs true is = absurd (differs (sym (eqb-true b x (and_parts (b == x) (a == p) is).0) ∙ eqb-true b q (and_parts (b == q) (a == p) mine).0))

    go : (l : Bool) → is_lane b a q p ≡ l → (cond l (received h q p + 1) (received h q p) ≡ received h q p) ⊎ ((cond l (received h q p + 1) (received h q p) ≡ received h q p + 1) × ((x : ℕ) → (x ≡ q → ⊥) → received (Receive a b i ∷ h) x p ≡ received h x p))
    go false is = inl refl
    go true is = inr (refl, λ x differs. other is x differs (is_lane b a x p) refl)

-- the last beginning in which a receive hasn't come, and the next event, with which it has
pub record IsComing (c : Chart) (f : List Occurrence) (r : Place) : Type 0 where
  pub next : Occurrence
  pub past : List Occurrence
  pub begins : Begins (next ∷ past) f
  pub not_yet : HasCome c past r → ⊥
  pub now : HasCome c (next ∷ past) r

pub coming : (c : Chart) (q : ℕ) (r : Place) → IsReceiveFrom c q r → 1 ≤ r.index → (f : List Occurrence) → HasCome c f r → IsComing c f r
coming c q r from begun [] come = let none = come_count c [] q r from come in let some = tally-lt (is_receive_from q) (c r.instance) 0 r.index begun from in absurd (omega arith)
coming c q r from begun (x ∷ f) come = elim (cases_lt (received f q r.instance) (tally (is_receive_from q) (c r.instance) r.index)) [
  | inl short ↦ record { next = x; past = f; begins = begins_same (x ∷ f); not_yet = λ there. omega (arith, short, come_count c f q r from there); now = come }
  | inr there ↦
      let w = coming c q r from begun f (was_received q from there) in
      record { next = w.next; past = w.past; begins = begins_onward (w.next ∷ w.past) f (x ∷ f) w.begins (x ∷ [], refl); not_yet = w.not_yet; now = w.now }
]

-- an earlier receive of the line that has come at that moment had come before
pub had_come : (c : Chart) (q : ℕ) (r : Place) → IsReceiveFrom c q r → (f : List Occurrence) → (w : IsComing c f r) → (a d : ℕ) → IsReceiveFrom c a (at r.instance d) → d < r.index → HasCome c (w.next ∷ w.past) (at r.instance d) → HasCome c w.past (at r.instance d)
had_come c q r from f w a d there less come =
    let short : received w.past q r.instance < tally (is_receive_from q) (c r.instance) r.index = elim (cases_lt (received w.past q r.instance) (tally (is_receive_from q) (c r.instance) r.index)) [ inl l ↦ l | inr le ↦ absurd (w.not_yet (was_received q from le)) ] in
    let mine = come_count c (w.next ∷ w.past) a (at r.instance d) there come in
    let full = come_count c (w.next ∷ w.past) q r from w.now in
    elim (one_more w.next w.past q r.instance) [
      | inl same ↦ absurd (omega (arith, same, full, short))
      | inr more ↦
          elim (cases_eq a q) [
            | inr differs ↦ was_received a there (omega (arith, mine, more.1 a differs))
            | inl same ↦
                let from_q : IsReceiveFrom c q (at r.instance d) = subst (λ x. IsReceiveFrom c x (at r.instance d)) same there in
                let count : tally (is_receive_from q) (c r.instance) d ≤ received w.past q r.instance = omega (arith, more.0, full, tally-lt (is_receive_from q) (c r.instance) d r.index less from) in
                was_received q from_q count
          ]
    ]

-- the same for an equal line
had_come_on : (c : Chart) (q : ℕ) (r : Place) → IsReceiveFrom c q r → (f : List Occurrence) → (w : IsComing c f r) → (p a d : ℕ) → p ≡ r.instance → IsReceiveFrom c a (at p d) → d < r.index → HasCome c (w.next ∷ w.past) (at p d) → HasCome c w.past (at p d)
had_come_on c q r from f w p a d line there less come =
    subst (λ x. HasCome c w.past (at x d)) (sym line) (had_come c q r from f w a d (subst (λ x. IsReceiveFrom c a (at x d)) line there) less (subst (λ x. HasCome c (w.next ∷ w.past) (at x d)) line come))

-- if direct causes are kept and instances finish, the order is kept
pub completed_kept : (c : Chart) (g : List Occurrence) → KeepsCauses c g → Finishes c g → {e f : Place} → Completed c e f → (h : List Occurrence) → Begins h g → HasCome c h f → HasCome c h e
completed_kept c g causes finishes (stepped {e = e} {f = f} step) h begins come = causes h begins e f step come
completed_kept c g causes finishes (chained x y) h begins come = completed_kept c g causes finishes x h begins (completed_kept c g causes finishes y h begins come)
completed_kept c g causes finishes (finishing {s = s} {r = r} q d earlier receive handled all) h begins come =
    let begun : 1 ≤ r.index = let l = earlier.less in omega arith in
    let w = coming c q r receive begun h come in
    let later = begins_onward (w.next ∷ w.past) h g w.begins begins in
    let sooner = begins_onward w.past (w.next ∷ w.past) g (w.next ∷ [], refl) later in
    let have : (i : ℕ) → IsHandled (c s.instance) i s.index → HasCome c w.past (at s.instance i) = λ i its.
    let from = its.received in
    let less : i < r.index = let l = its.less in let m = earlier.less in omega arith in
    had_come_on c q r receive h w s.instance from.0 i earlier.line (from.1, from.2, from.3) less (completed_kept c g causes finishes (all i its) (w.next ∷ w.past) later w.now) in
    finishes s r q d earlier receive handled w.past sooner have w.not_yet h begins come

-- a legal history is a run of its own chart's events in which instances finish
pub own_run : (n k : ℕ) (h : List Occurrence) → IsLegal n k h → IsRunOf n (chart_of h) h × Finishes (chart_of h) h
own_run n k h legal = (
  (
    k,
    record {
      legal = legal;
      events = record { messages = λ q p. names_sent h q p; receives = λ q p. omega (arith, received_count n k h legal q p) };
      causes = keeps_causes n k h legal;
    },
  ),
  λ s r q d earlier receive handled f _ have not_yet g begins come.
      let here = come_there n k h legal g begins r come in
      there_come n k h legal g begins s (earlier.begun, rw earlier.line (let l = earlier.less in omega (arith, here.1))),
)
