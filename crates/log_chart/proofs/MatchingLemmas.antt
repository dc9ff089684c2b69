-- The sends of streams, from the last line to the first, and the lines with the sends that they take, one by one.
use Rattle.std.proofs.Common.{◌≡◌, ℕ, ◌+◌, ◌<◌, ◌≤◌, ◌==◌, ◌&&◌, Bool, true, false, cond, List, [], ◌∷◌, ◌++◌, Option, length, take, drop, get_or, refl, sym, ap, ◌∙◌, subst, arith, append_assoc}
use Rattle.std.specs.Prelude.{fold}
use Rattle.std.proofs.lemmas.List.{drop_more, drop_all, append-nil}
use Rattle.std.proofs.lemmas.List.Elements.{All-get_or}
use Rattle.std.proofs.lemmas.List.Sums.{fold_more}
use Rattle.log_chart.specs.Chains.{IsBelow, with_first, without_first}
use Rattle.log_chart.specs.Entries.{is_send, takes, HaveStreams}
use Rattle.log_chart.specs.Matching.{sends_from, send_for, left_after, matched_from}
use Rattle.log_chart.specs.declared.entry.Entry.{Entry}
use Rattle.log_chart.specs.declared.matching.LogLine.{LogLine}

-- the rest of a list from an element on
pub from_here : {X : Type 0} (xs : List X) (n : ℕ) (x : X) → n < length xs → x ≡ get_or xs n x → drop n xs ≡ x ∷ drop (n + 1) xs
from_here xs n x within is = drop_more xs n x within ∙ ap (λ y. y ∷ drop (n + 1) xs) (sym is)

-- there are at most as many streams as lines
pub stream_within : (log : List Entry) (n : ℕ) (e : Entry) → HaveStreams log → n < length log → e ≡ get_or log n e → e.stream < length log
stream_within log n e have within is = subst (λ x. x.stream < length log) (sym is) (All-get_or (λ x. x.stream < length log) log n e within have)

-- the sends of these lines are numbered from the first of them on
pub sends_above : (n k : ℕ) (log : List Entry) (c : ℕ) → n < k → IsBelow n (sends_from k log c)
unfolding sends_from
sends_above n k [] c less = tt
sends_above n k (e ∷ log) c less = go (is_send e.kind && e.stream == c) (sends_above n (k + 1) log c (omega arith))
  where
    go : (its : Bool) → IsBelow n (sends_from (k + 1) log c) → IsBelow n (cond its (k ∷ sends_from (k + 1) log c) (sends_from (k + 1) log c))
    go true rest = (less, rest)
    go false rest = rest

pub no_sends : (n : ℕ) (log : List Entry) (c : ℕ) → length log ≤ n → [] ≡ sends_from n (drop n log) c
unfolding sends_from
no_sends n log c past = rw (drop_all n log past) refl

-- one more line, which is a send or isn't
module _ (log : List Entry) (n m : ℕ) (e : Entry) (more : n + 1 ≡ m) (within : n < length log) (is : e ≡ get_or log n e) where
  here : drop n log ≡ e ∷ drop m log
  here = from_here log n e within is ∙ ap (λ k. e ∷ drop k log) more

  pub sends_put : is_send e.kind ≡ true → (c : ℕ) → with_first (sends_from m (drop m log)) e.stream n c ≡ sends_from n (drop n log) c
  unfolding sends_from
  sends_put sends c = rw (here, sends, more) refl

  pub sends_kept : is_send e.kind ≡ false → (c : ℕ) → sends_from m (drop m log) c ≡ sends_from n (drop n log) c
  unfolding sends_from
  sends_kept other c = rw (here, other, more) refl

-- a line that takes a send leaves its stream without the first send
pub taken_same : (left : ℕ → List ℕ) (e : Entry) → takes e.kind ≡ true → (c : ℕ) → without_first left e.stream c ≡ left_after left e c
taken_same left e takes_one c = rw takes_one refl

-- the remaining sends of each stream after this number of lines
abbrev pub left_at : List Entry → ℕ → ℕ → List ℕ
left_at log n = fold left_after (sends_from 0 log) (take n log)

pub left_more : (log : List Entry) (n : ℕ) (e : Entry) → n < length log → e ≡ get_or log n e → left_after (left_at log n) e ≡ left_at log (n + 1)
left_more log n e within is = ap (left_after (left_at log n)) is ∙ sym (fold_more left_after (sends_from 0 log) log n e within)

pub matched_more : (log : List Entry) (lines more : List LogLine) (n : ℕ) (e : Entry) (send : Option ℕ) → n < length log → e ≡ get_or log n e
    → send ≡ send_for (left_at log n) e → more ≡ lines ++ record { number = n; entry = e; send = send } ∷ []
    → more ++ matched_from (left_at log (n + 1)) (n + 1) (drop (n + 1) log) ≡ lines ++ matched_from (left_at log n) n (drop n log)
unfolding matched_from
matched_more log lines more n e send within is takes_it grown =
    rw (grown, takes_it) (append_assoc lines _ _ ∙ rw (from_here log n e within is) (ap (λ left. lines ++ record { number = n; entry = e; send = send_for (left_at log n) e } ∷ matched_from left (n + 1) (drop (n + 1) log)) (sym (left_more log n e within is))))

pub matched_end : (left : ℕ → List ℕ) (log : List Entry) (lines : List LogLine) (n : ℕ) → length log ≤ n → lines ++ matched_from left n (drop n log) ≡ lines
unfolding matched_from
matched_end left log lines n past = rw (drop_all n log past) (append-nil lines)
