-- The send that a line of a log takes is a send of the line's stream.
use Rattle.std.proofs.Common.{◌≡◌, ℕ, zero, suc, ◌+◌, ◌&&◌, ◌==◌, Bool, true, false, cond, List, [], ◌∷◌, Some, None, drop, refl, subst, arith, eqb-true, Contains}
use Rattle.std.specs.Prelude.{All, slice_get}
use Rattle.std.proofs.lemmas.Bool.{and_parts}
use Rattle.std.proofs.lemmas.List.Elements.{All-nil, All-cons, All-head, All-tail, All-filter, All-contains}
use Rattle.std.proofs.lemmas.Option.{none-some}
use Rattle.log_chart.specs.Chains.{first_of}
use Rattle.log_chart.specs.Entries.{is_send, takes}
use Rattle.log_chart.specs.Fates.{fate_of, stays}
use Rattle.log_chart.specs.HostLines.{kept}
use Rattle.log_chart.specs.Matching.{sends_from, send_for, left_after, matched_from, matched}
use Rattle.log_chart.specs.declared.entry.Entry.{Entry}
use Rattle.log_chart.specs.declared.matching.LogLine.{LogLine}

-- the entry with this number is a send of this stream
abbrev pub IsSendOf : List Entry → ℕ → ℕ → Type 0
IsSendOf log c s = (e : Entry) × (slice_get log s ≡ Some e) × (is_send e.kind ≡ true) × (e.stream ≡ c)

module _ (whole : List Entry) where
  sends_are : (k : ℕ) (log : List Entry) (c : ℕ) → ((n : ℕ) (e : Entry) → slice_get log n ≡ Some e → slice_get whole (k + n) ≡ Some e) → All (IsSendOf whole c) (sends_from k log c)
  unfolding sends_from
  sends_are k [] c within = All-nil (IsSendOf whole c)
  sends_are k (y ∷ log) c within = go (is_send y.kind && y.stream == c) refl (sends_are (k + 1) log c later)
    where
      later : (n : ℕ) (e : Entry) → slice_get log n ≡ Some e → slice_get whole (k + 1 + n) ≡ Some e
      later n e is = let same : k + suc n ≡ k + 1 + n = omega arith in subst (λ i. slice_get whole i ≡ Some e) same (within (suc n) e is)

      here : slice_get whole k ≡ Some y
      here = let same : k + zero ≡ k = omega arith in subst (λ i. slice_get whole i ≡ Some y) same (within zero y refl)

      go : (its : Bool) → (is_send y.kind && y.stream == c) ≡ its → All (IsSendOf whole c) (sends_from (k + 1) log c)
          → All (IsSendOf whole c) (cond its (k ∷ sends_from (k + 1) log c) (sends_from (k + 1) log c))
      go true is rest =
          let both = and_parts (is_send y.kind) (y.stream == c) is in
          All-cons (IsSendOf whole c) k (sends_from (k + 1) log c) (y, here, both.0, eqb-true y.stream c both.1) rest
      go false is rest = rest

  first_is : (c : ℕ) (xs : List ℕ) (s : ℕ) → All (IsSendOf whole c) xs → first_of xs ≡ Some s → IsSendOf whole c s
  first_is c [] s all is = absurd (none-some s is)
  first_is c (x ∷ xs) s all is = let same : x ≡ s = cc is in subst (IsSendOf whole c) same (All-head (IsSendOf whole c) x xs all)

  rest_are : (c : ℕ) (xs : List ℕ) → All (IsSendOf whole c) xs → All (IsSendOf whole c) (drop 1 xs)
  rest_are c [] all = All-nil (IsSendOf whole c)
  rest_are c (x ∷ xs) all = All-tail (IsSendOf whole c) x xs all

  taken_is : (left : ℕ → List ℕ) (e : Entry) (s : ℕ) → ((c : ℕ) → All (IsSendOf whole c) (left c)) → send_for left e ≡ Some s → IsSendOf whole e.stream s
  taken_is left e s all is = go (takes e.kind) is
    where
      go : (its : Bool) → cond its (first_of (left e.stream)) None ≡ Some s → IsSendOf whole e.stream s
      go true found = first_is e.stream (left e.stream) s (all e.stream) found
      go false none = absurd (none-some s none)

  left_are : (left : ℕ → List ℕ) (e : Entry) → ((c : ℕ) → All (IsSendOf whole c) (left c)) → (c : ℕ) → All (IsSendOf whole c) (left_after left e c)
  left_are left e all c = go (takes e.kind && e.stream == c)
    where
      go : (its : Bool) → All (IsSendOf whole c) (cond its (drop 1 (left c)) (left c))
      go true = rest_are c (left c) (all c)
      go false = all c

  -- a line takes a send of its stream, if it takes one
  abbrev TakesOwn : LogLine → Type 0
  TakesOwn x = (s : ℕ) → x.send ≡ Some s → IsSendOf whole x.entry.stream s

  lines_take : (left : ℕ → List ℕ) (k : ℕ) (log : List Entry) → ((c : ℕ) → All (IsSendOf whole c) (left c)) → All TakesOwn (matched_from left k log)
  unfolding matched_from
  lines_take left k [] all = All-nil TakesOwn
  lines_take left k (y ∷ log) all =
      All-cons TakesOwn (record { number = k; entry = y; send = send_for left y }) (matched_from (left_after left y) (k + 1) log) (λ s is. taken_is left y s all is)
      (lines_take (left_after left y) (k + 1) log (left_are left y all))

matched_take : (log : List Entry) → All (TakesOwn log) (matched log)
matched_take log = lines_take log (sends_from 0 log) 0 log (λ c. sends_are log 0 log c (λ n e is. let same : n ≡ 0 + n = omega arith in subst (λ i. slice_get log i ≡ Some e) same is))

pub kept_taken : (log : List Entry) (x : LogLine) (s : ℕ) → Contains (kept log) x → x.send ≡ Some s → IsSendOf log x.entry.stream s
kept_taken log x s x_in is = All-contains (TakesOwn log) (kept log) x (All-filter (λ (y : LogLine). stays (fate_of (matched log) y)) (TakesOwn log) (matched log) (matched_take log)) x_in s is
