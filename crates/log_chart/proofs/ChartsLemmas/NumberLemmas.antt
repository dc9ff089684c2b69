-- The lines of a log with the sends that they take, by their numbers.
use Rattle.std.proofs.Common.{◌≡◌, ℕ, zero, suc, ◌+◌, ◌<◌, ◌&&◌, ◌==◌, Bool, true, false, cond, List, [], ◌∷◌, None, Some, length, drop, get_or, refl, sym, ap, ◌∙◌, subst, arith}
use Rattle.std.specs.Prelude.{All, slice_get}
use Rattle.std.specs.Cmp.{first_so}
use Rattle.std.proofs.lemmas.List.Elements.{All-nil, All-cons, All-head, All-tail}
use Rattle.std.proofs.lemmas.Option.{none-some, slice_get_within, slice_get-get_or, get_or_from_slice_get}
use Rattle.log_chart.specs.Chains.{first_of}
use Rattle.log_chart.specs.Entries.{is_send, takes, HaveStreams}
use Rattle.log_chart.specs.Matching.{sends_from, send_for, left_after, matched_from, matched}
use Rattle.log_chart.specs.declared.entry.Entry.{Entry}
use Rattle.log_chart.specs.declared.matching.LogLine.{LogLine}
use Rattle.log_chart.proofs.OrderLemmas.{matched_length}

-- the line with this number has this entry
abbrev IsLineAt : List LogLine → ℕ → ℕ → Entry → LogLine → Type 0
IsLineAt lines n number e x = (slice_get lines n ≡ Some x) × (x.entry ≡ e) × (x.number ≡ number)

line_at : (left : ℕ → List ℕ) (k : ℕ) (log : List Entry) (n : ℕ) (e : Entry) → slice_get log n ≡ Some e → (x : LogLine) × IsLineAt (matched_from left k log) n (k + n) e x
unfolding matched_from
line_at left k [] n e is = absurd (none-some e is)
line_at left k (y ∷ log) zero e is = let x : LogLine = record { number = k; entry = y; send = send_for left y } in (x, (refl, cc is, omega arith))
line_at left k (y ∷ log) (suc n) e is = let w = line_at (left_after left y) (k + 1) log n e is in (w.0, (w.1.0, w.1.1, omega (arith, w.1.2)))

entry_at : (left : ℕ → List ℕ) (k : ℕ) (log : List Entry) (n : ℕ) (x : LogLine) → slice_get (matched_from left k log) n ≡ Some x → (slice_get log n ≡ Some x.entry) × (x.number ≡ k + n)
unfolding matched_from
entry_at left k [] n x is = absurd (none-some x is)
entry_at left k (y ∷ log) zero x is =
    let first : LogLine = record { number = k; entry = y; send = send_for left y } in
    let same : first ≡ x = cc is in
    (ap (λ (l : LogLine). Some l.entry) same, let number = ap (λ (l : LogLine). l.number) same in omega (arith, number))
entry_at left k (y ∷ log) (suc n) x is = let w = entry_at (left_after left y) (k + 1) log n x is in (w.0, omega (arith, w.1))

pub numbered : (log : List Entry) (n : ℕ) (x : LogLine) → slice_get (matched log) n ≡ Some x → x.number ≡ n
numbered log n x is = let w = entry_at (sends_from 0 log) 0 log n x is in omega (arith, w.1)

-- what holds of all entries
pub of_entries : (P : Entry → Type 0) (log : List Entry) → All P log → All (λ x. P x.entry) (matched log)
of_entries P log all k d less =
    let x = get_or (matched log) k d in
    let e = (entry_at (sends_from 0 log) 0 log k x (slice_get-get_or (matched log) k d less)).0 in
    subst P (get_or_from_slice_get log k x.entry x.entry e) (all k x.entry (slice_get_within log k x.entry e))

pub streams : (log : List Entry) → HaveStreams log → All (λ x. x.entry.stream < length (matched log)) (matched log)
streams log have = subst (λ n. All (λ (x : LogLine). x.entry.stream < n) (matched log)) (sym (matched_length log)) (of_entries (λ (e : Entry). e.stream < length log) log have)

-- the entry with this number is a send
abbrev IsSendAt : List Entry → ℕ → Type 0
IsSendAt log s = (e : Entry) × (slice_get log s ≡ Some e) × (is_send e.kind ≡ true)

module _ (whole : List Entry) where
  sends_at : (k : ℕ) (log : List Entry) (c : ℕ) → ((n : ℕ) (e : Entry) → slice_get log n ≡ Some e → slice_get whole (k + n) ≡ Some e) → All (IsSendAt whole) (sends_from k log c)
  unfolding sends_from
  sends_at k [] c within = All-nil (IsSendAt whole)
  sends_at k (y ∷ log) c within = go (is_send y.kind && y.stream == c) refl (sends_at (k + 1) log c later)
    where
      later : (n : ℕ) (e : Entry) → slice_get log n ≡ Some e → slice_get whole (k + 1 + n) ≡ Some e
      later n e is = let same : k + suc n ≡ k + 1 + n = omega arith in subst (λ i. slice_get whole i ≡ Some e) same (within (suc n) e is)

      here : slice_get whole k ≡ Some y
      here = let same : k + zero ≡ k = omega arith in subst (λ i. slice_get whole i ≡ Some y) same (within zero y refl)

      go : (its : Bool) → (is_send y.kind && y.stream == c) ≡ its → All (IsSendAt whole) (sends_from (k + 1) log c)
          → All (IsSendAt whole) (cond its (k ∷ sends_from (k + 1) log c) (sends_from (k + 1) log c))
      go true is rest = All-cons (IsSendAt whole) k (sends_from (k + 1) log c) (y, here, first_so (is_send y.kind) (y.stream == c) is) rest
      go false is rest = rest

  first_is : (xs : List ℕ) (s : ℕ) → All (IsSendAt whole) xs → first_of xs ≡ Some s → IsSendAt whole s
  first_is [] s all is = absurd (none-some s is)
  first_is (x ∷ xs) s all is = let same : x ≡ s = cc is in subst (IsSendAt whole) same (All-head (IsSendAt whole) x xs all)

  rest_are : (xs : List ℕ) → All (IsSendAt whole) xs → All (IsSendAt whole) (drop 1 xs)
  rest_are [] all = All-nil (IsSendAt whole)
  rest_are (x ∷ xs) all = All-tail (IsSendAt whole) x xs all

  taken_at : (left : ℕ → List ℕ) (e : Entry) (s : ℕ) → ((c : ℕ) → All (IsSendAt whole) (left c)) → send_for left e ≡ Some s → IsSendAt whole s
  taken_at left e s all is = go (takes e.kind) is
    where
      go : (its : Bool) → cond its (first_of (left e.stream)) None ≡ Some s → IsSendAt whole s
      go true found = first_is (left e.stream) s (all e.stream) found
      go false none = absurd (none-some s none)

  left_are : (left : ℕ → List ℕ) (e : Entry) → ((c : ℕ) → All (IsSendAt whole) (left c)) → (c : ℕ) → All (IsSendAt whole) (left_after left e c)
  left_are left e all c = go (takes e.kind && e.stream == c)
    where
      go : (its : Bool) → All (IsSendAt whole) (cond its (drop 1 (left c)) (left c))
      go true = rest_are (left c) (all c)
      go false = all c

  sends_in : (left : ℕ → List ℕ) (k : ℕ) (log : List Entry) → ((c : ℕ) → All (IsSendAt whole) (left c)) → (n : ℕ) (x : LogLine) (s : ℕ) → slice_get (matched_from left k log) n ≡ Some x
      → x.send ≡ Some s → IsSendAt whole s
  unfolding matched_from
  sends_in left k [] all n x s is takes_it = absurd (none-some x is)
  sends_in left k (y ∷ log) all zero x s is takes_it =
      let first : LogLine = record { number = k; entry = y; send = send_for left y } in
      let same : first ≡ x = cc is in
      taken_at left y s all (ap (λ (l : LogLine). l.send) same ∙ takes_it)
  sends_in left k (y ∷ log) all (suc n) x s is takes_it = sends_in (left_after left y) (k + 1) log (left_are left y all) n x s is takes_it

-- a line sends what a line takes
pub sent_by : (log : List Entry) (n : ℕ) (x : LogLine) (s : ℕ) → slice_get (matched log) n ≡ Some x → x.send ≡ Some s → (y : LogLine) × (slice_get (matched log) s ≡ Some y) × (is_send y.entry.kind ≡ true)
sent_by log n x s is takes_it =
    let at = sends_in log (sends_from 0 log) 0 log (λ c. sends_at log 0 log c (λ m e here. let same : m ≡ 0 + m = omega arith in subst (λ i. slice_get log i ≡ Some e) same here)) n x s is takes_it in
    let w = line_at (sends_from 0 log) 0 log s at.0 at.1 in
    (w.0, w.1.0, ap (λ (e : Entry). is_send e.kind) w.1.1 ∙ at.2)
