-- The run at the end of a line, by its last event.
use Rattle.std.proofs.Common.{◌≡◌, ℕ, suc, ◌-◌, ◌≤◌, Bool, true, false, List, [], length, get_or, Some, refl, sym, ap, ◌∙◌, subst, arith}
use Rattle.std.proofs.lemmas.Option.{slice_get_read, same_Some}
use Rattle.chart.specs.declared.event.Event.{Event}
use Rattle.std.proofs.lemmas.List.{get_or_default}
use Rattle.chart.specs.Events.{ith, send_event}
use Rattle.chart.specs.Runs.{EndsWithRun, IsStartOfRun}
use Rattle.chart.proofs.Tally.{ith_within}

last_read : (line : List Event) (m : Event) → 1 ≤ length line → m ≡ get_or line (length line - 1) m → ith line (length line) ≡ Some m
last_read line m begun read =
    let place : suc (length line - 1) ≡ length line = omega (arith, begun) in
    subst (λ i. ith line i ≡ Some m) place (slice_get_read line (length line) (length line - 1) m refl (omega (arith, begun)) read)

-- if the last event passes, the run at the end is that of this event
pub ends_with_it : (test : ℕ → Event → Bool) (x : ℕ) (line : List Event) (start : ℕ) (m : Event) → 1 ≤ length line → m ≡ get_or line (length line - 1) m → test x m ≡ true → IsStartOfRun test line (length line) start → EndsWithRun (test x) line start
ends_with_it test x line start m begun read pass starts =
    let run = starts.run x m (last_read line m begun read) pass in
    record {
      within = omega (arith, run.begun);
      passes = λ i n low e. let there = ith_within line i n e in run.passes i n low there.1 e;
      whole = run.whole;
    }

-- if it doesn't pass, there is no run at the end
pub ends_without : (test : Event → Bool) (line : List Event) (m : Event) → 1 ≤ length line → m ≡ get_or line (length line - 1) m → test m ≡ false → EndsWithRun test line (length line)
ends_without test line m begun read fails = record {
  within = omega arith;
  passes = λ i n low e. let there = ith_within line i n e in absurd (omega (arith, low, there.1));
  whole = λ n e. let same : m ≡ n = same_Some m n (sym (last_read line m begun read) ∙ e) in subst (λ y. test y ≡ false) same fails;
}

-- the same, from the answer whether the last event passes
pub ends_asked : (test : ℕ → Event → Bool) (x : ℕ) (line : List Event) (n start : ℕ) (b : Bool) → n ≡ length line → 1 ≤ n → ((m : Event) → m ≡ get_or line (n - 1) m → b ≡ test x m) → b ≡ true → IsStartOfRun test line n start → EndsWithRun (test x) line start
ends_asked test x line n start b long begun asked passing starts =
    let m : Event = get_or line (n - 1) (send_event 0 []) in
    let read : m ≡ get_or line (n - 1) m = get_or_default line (n - 1) (send_event 0 []) m (omega (arith, long, begun)) in
    let there : m ≡ get_or line (length line - 1) m = read ∙ ap (λ k. get_or line (k - 1) m) long in
    ends_with_it test x line start m (omega (arith, long, begun)) there (sym (asked m read) ∙ passing) (subst (λ k. IsStartOfRun test line k start) long starts)

pub ends_asked_not : (test : ℕ → Event → Bool) (x : ℕ) (line : List Event) (n : ℕ) (b : Bool) → n ≡ length line → 1 ≤ n → ((m : Event) → m ≡ get_or line (n - 1) m → b ≡ test x m) → b ≡ false → EndsWithRun (test x) line n
ends_asked_not test x line n b long begun asked failing =
    let m : Event = get_or line (n - 1) (send_event 0 []) in
    let read : m ≡ get_or line (n - 1) m = get_or_default line (n - 1) (send_event 0 []) m (omega (arith, long, begun)) in
    let there : m ≡ get_or line (length line - 1) m = read ∙ ap (λ k. get_or line (k - 1) m) long in
    subst (λ k. EndsWithRun (test x) line k) (sym long) (ends_without (test x) line m (omega (arith, long, begun)) there (sym (asked m read) ∙ failing))

-- without events there is no run
pub ends_empty : (test : Event → Bool) (line : List Event) → length line ≡ 0 → EndsWithRun test line (length line)
ends_empty test line none = record {
  within = omega arith;
  passes = λ i n low e. let there = ith_within line i n e in absurd (omega (arith, low, there.1));
  whole = λ n e. let there = ith_within line (length line) n e in absurd (omega (arith, none, there.0));
}
