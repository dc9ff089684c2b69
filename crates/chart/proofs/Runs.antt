-- Runs of neighbouring events, when the line grows.
use Rattle.std.proofs.Common.{◌≡◌, ℕ, suc, ◌+◌, ◌<◌, ◌≤◌, Bool, true, List, [], ◌∷◌, ◌++◌, length, Some, sym, ap, ◌∙◌, subst, arith, inl, inr}
use Rattle.std.specs.Prelude.{slice_get}
use Rattle.std.proofs.lemmas.Option.{slice_get_within}
use Rattle.std.proofs.lemmas.Bool.{cases_lt}
use Rattle.chart.proofs.Places.{ith-append, ith-append_last, each-push}
use Rattle.chart.specs.declared.event.Event.{Event}
use Rattle.chart.specs.declared.growing_line.Starts.{Starts}
use Rattle.chart.specs.Events.{ith}
use Rattle.chart.specs.Runs.{IsRun, EndsWithRun, IsStartOfRun}
use Rattle.chart.specs.LineLayout.{AreStartsAt, AreStarts}

-- a run stays one when the line grows
pub IsRun-append : {test : Event → Bool} {line : List Event} {start last : ℕ} → (m : Event) → IsRun test line start last → last ≤ length line → IsRun test (line ++ m ∷ []) start last
IsRun-append {test} {line} {start} {last} m run within = record {
  begun = run.begun;
  passes = λ i n low high e. run.passes i n low high (sym (ith-append line (m ∷ []) i (omega (arith, high, within))) ∙ e);
  whole = λ n e. run.whole n (sym (ith-append line (m ∷ []) start (omega (arith, run.begun, within))) ∙ e);
}

-- a run at the end is continued by an event that passes
pub IsRun-ended : {test : Event → Bool} {line : List Event} {start : ℕ} → (m : Event) → EndsWithRun test line start → test m ≡ true → IsRun test (line ++ m ∷ []) start (length line + 1)
IsRun-ended {test} {line} {start} m run pass = record {
  begun = omega (arith, run.within);
  passes = λ i n low high e. elim (cases_lt (length line) i) [
    | inl past ↦ is_last i n past high e
    | inr within ↦ run.passes i n low (sym (ith-append line (m ∷ []) i within) ∙ e)
  ];
  whole = λ n e. run.whole n (sym (ith-append line (m ∷ []) start run.within) ∙ e);
}
  where
    is_last : (i : ℕ) (n : Event) → length line < i → i ≤ length line + 1 → ith (line ++ m ∷ []) i ≡ Some n → test n ≡ true
    is_last i n past high e =
        let at_end : i ≡ suc (length line) = omega arith in
        let there : Some m ≡ Some n = sym (ith-append_last line m) ∙ ap (ith (line ++ m ∷ [])) (sym at_end) ∙ e in
        let same : m ≡ n = cc in
        subst (λ x. test x ≡ true) same pass

-- the event at the end of a line that grew by it
pub last_is : (line : List Event) (m n : Event) → ith (line ++ m ∷ []) (length line + 1) ≡ Some n → m ≡ n
last_is line m n e =
    let at_end : length line + 1 ≡ suc (length line) = omega arith in
    let there : Some m ≡ Some n = sym (ith-append_last line m) ∙ ap (ith (line ++ m ∷ [])) (sym at_end) ∙ e in
    cc

-- the start of an added event's run, if the event continues the run at the end: the start of this run
pub IsStartOfRun-push : (test : ℕ → Event → Bool) (line : List Event) (m : Event) (start : ℕ) → start ≤ length line → ((x : ℕ) → test x m ≡ true → EndsWithRun (test x) line start)
    → IsStartOfRun test (line ++ m ∷ []) (length line + 1) start
IsStartOfRun-push test line m start within ends = record {
  less = omega arith;
  run = λ x n e pass.
      let passes : test x m ≡ true = subst (λ y. test x y ≡ true) (sym (last_is line m n e)) pass in
      IsRun-ended m (ends x passes) passes;
}

-- the starts of the runs of the earlier events stay right
IsStartOfRun-append : (test : ℕ → Event → Bool) (line : List Event) (m : Event) (index start : ℕ) → index ≤ length line → IsStartOfRun test line index start → IsStartOfRun test (line ++ m ∷ []) index start
IsStartOfRun-append test line m index start within old = record {
  less = old.less;
  run = λ x n e pass. IsRun-append m (old.run x n (sym (ith-append line (m ∷ []) index within) ∙ e) pass) within;
}

-- what is kept stays right when a line and what is kept for it grow by one
pub AreStarts-push : (line : List Event) (kept : List Starts) (m : Event) (b : Starts) → length kept ≡ length line → AreStarts line kept → AreStartsAt (line ++ m ∷ []) (length line + 1) b
    → AreStarts (line ++ m ∷ []) (kept ++ b ∷ [])
AreStarts-push line kept m b same old next = each-push (λ i c. AreStartsAt (line ++ m ∷ []) (suc i) c) kept b earlier newest
  where
    earlier : (i : ℕ) (c : Starts) → slice_get kept i ≡ Some c → AreStartsAt (line ++ m ∷ []) (suc i) c
    earlier i c e =
        let was = old i c e in
        let inside = slice_get_within kept i c e in
        let within : suc i ≤ length line = omega arith in
        record { run = IsStartOfRun-append _ line m (suc i) c.run within was.run; region = IsStartOfRun-append _ line m (suc i) c.region within was.region }

    newest : AreStartsAt (line ++ m ∷ []) (suc (length kept)) b
    newest =
        let place : length line + 1 ≡ suc (length kept) = omega arith in
        subst (λ k. AreStartsAt (line ++ m ∷ []) k b) place next
