-- One step of the walks, in terms of its turn.
use Rattle.std.proofs.Common.{◌≡◌, ℕ, ◌+◌, ◌||◌, inl, inr, nat_lt, Bool, cond, List, ◌∷◌, length, take, Some, sym, ap, ◌∙◌, subst, arith, lt-ltb}
use Rattle.std.specs.Prelude.{slice_get, nat_le}
use Rattle.std.proofs.lemmas.Bool.{cases_lt, le-leb, lt-leb, le-ltb}
use Rattle.chart.specs.declared.history.Occurrence.{Occurrence}
use Rattle.chart.specs.Histories.{sent, received}
use Rattle.reordering.specs.OtherRuns.Walks.{Wanted, with_send, with_receive, step, wanted, inner, outer}
use Rattle.chart.specs.declared.run_steps.step.Step.{Step}
use Rattle.chart.specs.declared.run_steps.step.Step.TheVariants.{Send, Receive}
use Rattle.reordering.specs.Witness.Steps.{is_within, is_wanted, with_step}
use Rattle.chart.specs.RunSteps.Steps.{occurrence_of, history_of, turn_of, outside_regions}
use Rattle.chart.proofs.RunStepsLemmas.StepLemmas.{history-next}

-- fewer than n came before a turn that is at most n
lt-is : (i n : ℕ) → nat_lt i n ≡ nat_le (i + 1) n
lt-is i n = elim (cases_lt i n) [
  | inl less ↦ lt-ltb i n less ∙ sym (le-leb (i + 1) n (omega (arith, less)))
  | inr past ↦ le-ltb i n past ∙ sym (lt-leb (i + 1) n (omega (arith, past)))
]

walk-step : (k : ℕ) (h : List Occurrence) (x : Step) (w : Wanted) → step k h (occurrence_of x) w ≡ cond (is_wanted w x (turn_of h x)) (with_step k w x (turn_of h x)) w
walk-step k h (Send a b name) w = ap (λ few. cond (w.all a || few) (with_send k h a b w) w) (lt-is (length (sent h a b)) (w.sends a b))
walk-step k h (Receive a b region) w = ap (λ few. cond (w.all a || few) (with_receive h a b w) w) (lt-is (received h b a) (w.receives b a))

-- the walk over one more step
pub walk-next : (k : ℕ) (steps : List Step) (j : ℕ) (x : Step) (t : ℕ) (v : Wanted) → slice_get steps j ≡ Some x → t ≡ turn_of (history_of (take j steps)) x → (wants : Bool) → wants ≡ is_wanted v x t → wanted k (history_of (take (j + 1) steps)) v ≡ wanted k (history_of (take j steps)) (cond wants (with_step k v x t) v)
walk-next k steps j x t v is turn wants answer =
    let h : List Occurrence = history_of (take j steps) in
    let one : step k h (occurrence_of x) v ≡ cond (is_wanted v x t) (with_step k v x t) v = subst (λ u. step k h (occurrence_of x) v ≡ cond (is_wanted v x u) (with_step k v x u) v) (sym turn) (walk-step k h x v) in
    ap (λ f. wanted k f v) (history-next steps j x is) ∙ ap (wanted k h) (one ∙ ap (λ b. cond b (with_step k v x t) v) (sym answer))

inner-step : (w : Wanted) (h : List Occurrence) (x : Step) → inner w.sends w.receives (occurrence_of x ∷ h) ≡ cond (is_within w x (turn_of h x)) (occurrence_of (outside_regions x) ∷ inner w.sends w.receives h) (inner w.sends w.receives h)
inner-step w h (Send a b name) = ap (λ few. cond few (occurrence_of (Send a b name) ∷ inner w.sends w.receives h) (inner w.sends w.receives h)) (lt-is (length (sent h a b)) (w.sends a b))
inner-step w h (Receive a b region) = ap (λ few. cond few (occurrence_of (Receive a b 0) ∷ inner w.sends w.receives h) (inner w.sends w.receives h)) (lt-is (received h b a) (w.receives b a))

outer-step : (w : Wanted) (h : List Occurrence) (x : Step) → outer w.sends w.receives (occurrence_of x ∷ h) ≡ cond (is_within w x (turn_of h x)) (outer w.sends w.receives h) (occurrence_of (outside_regions x) ∷ outer w.sends w.receives h)
outer-step w h (Send a b name) = ap (λ few. cond few (outer w.sends w.receives h) (occurrence_of (Send a b name) ∷ outer w.sends w.receives h)) (lt-is (length (sent h a b)) (w.sends a b))
outer-step w h (Receive a b region) = ap (λ few. cond few (outer w.sends w.receives h) (occurrence_of (Receive a b 0) ∷ outer w.sends w.receives h)) (lt-is (received h b a) (w.receives b a))

-- the steps that are put first, with one more step
pub inner-next : (w : Wanted) (steps : List Step) (j : ℕ) (x : Step) (t : ℕ) → slice_get steps j ≡ Some x → t ≡ turn_of (history_of (take j steps)) x → (has : Bool) → has ≡ is_within w x t
    → inner w.sends w.receives (history_of (take (j + 1) steps)) ≡ cond has (occurrence_of (outside_regions x) ∷ inner w.sends w.receives (history_of (take j steps))) (inner w.sends w.receives (history_of (take j steps)))
inner-next w steps j x t is turn has answer =
    let h : List Occurrence = history_of (take j steps) in
    ap (inner w.sends w.receives) (history-next steps j x is) ∙ inner-step w h x ∙ ap (λ b. cond b (occurrence_of (outside_regions x) ∷ inner w.sends w.receives h) (inner w.sends w.receives h)) (ap (is_within w x) (sym turn) ∙ sym answer)

-- the other steps, with one more step
pub outer-next : (w : Wanted) (steps : List Step) (j : ℕ) (x : Step) (t : ℕ) → slice_get steps j ≡ Some x → t ≡ turn_of (history_of (take j steps)) x → (has : Bool) → has ≡ is_within w x t
    → outer w.sends w.receives (history_of (take (j + 1) steps)) ≡ cond has (outer w.sends w.receives (history_of (take j steps))) (occurrence_of (outside_regions x) ∷ outer w.sends w.receives (history_of (take j steps)))
outer-next w steps j x t is turn has answer =
    let h : List Occurrence = history_of (take j steps) in
    ap (outer w.sends w.receives) (history-next steps j x is) ∙ outer-step w h x ∙ ap (λ b. cond b (outer w.sends w.receives h) (occurrence_of (outside_regions x) ∷ outer w.sends w.receives h)) (ap (is_within w x) (sym turn) ∙ sym answer)
