-- The number of lines of a log's chart. The warnings and refusals name no other instance.
use Rattle.std.proofs.Common.{◌≡◌, ℕ, suc, ◌+◌, ◌≤◌, Bool, true, false, cond, List, [], ◌∷◌, None, Some, length, refl, ap, ◌∙◌, arith}
use Rattle.std.specs.Prelude.{All, is_none, nat_lt}
use Rattle.std.proofs.lemmas.List.Elements.{All-nil, All-cons, All-append}
use Rattle.chart.specs.declared.instance.EventNo.{EventNo}
use Rattle.chart.specs.declared.line.TheConstants.{MAX_EVENTS}
use Rattle.log_chart.specs.HostLines.{host_lines}
use Rattle.log_chart.specs.declared.entry.Entry.{Entry}
use Rattle.log_chart.specs.declared.item.Item.{Item}
use Rattle.log_chart.proofs.ChartsLemmas.ItemLemmas.{hosts_count}
use Rattle.log_chart.specs.Charts.ChartLines.{chart_from, first_full}
use Rattle.log_chart.specs.Charts.Listing.{invented_from, all_invented}

-- the chart has a line for each host
lines_whole : (log : List Entry) (p : ℕ) (lines : List (List Item)) → length (chart_from log p lines) ≡ length lines
unfolding chart_from
lines_whole log p [] = refl
lines_whole log p (items ∷ lines) = ap suc (lines_whole log (suc p) lines)

pub chart_whole : (hosts : ℕ) (log : List Entry) → length (chart_from log 1 (host_lines hosts log)) ≡ hosts
chart_whole hosts log = lines_whole log 1 (host_lines hosts log) ∙ hosts_count hosts log

-- the invented events are of those lines
abbrev IsUpTo : ℕ → EventNo → Type 0
IsUpTo n e = e.instance ≤ n

line_up_to : (n p k : ℕ) (items : List Item) → p ≤ n → All (IsUpTo n) (invented_from p k items)
unfolding invented_from
line_up_to n p k [] up = All-nil (IsUpTo n)
line_up_to n p k (i ∷ items) up = All-append (IsUpTo n) _ (invented_from p (k + 1) items) (go (is_none i.line)) (line_up_to n p (k + 1) items up)
  where
    go : (its : Bool) → All (IsUpTo n) (cond its (record { instance = p; index = k } ∷ []) [])
    go true = All-cons (IsUpTo n) (record { instance = p; index = k }) [] up (All-nil (IsUpTo n))
    go false = All-nil (IsUpTo n)

lines_up_to : (n p : ℕ) (lines : List (List Item)) → p + length lines ≤ suc n → All (IsUpTo n) (all_invented p lines)
unfolding all_invented
lines_up_to n p [] up = All-nil (IsUpTo n)
lines_up_to n p (items ∷ lines) up =
    All-append (IsUpTo n) (invented_from p 1 items) (all_invented (suc p) lines) (line_up_to n p 1 items (omega (arith, up))) (lines_up_to n (suc p) lines (omega (arith, up)))

pub invented_up_to : (hosts : ℕ) (log : List Entry) → All (IsUpTo hosts) (all_invented 1 (host_lines hosts log))
invented_up_to hosts log = let whole = hosts_count hosts log in lines_up_to hosts 1 (host_lines hosts log) (omega (arith, whole))

-- the first line that is full is one of them
some_same : {m k : ℕ} → Some m ≡ Some k → m ≡ k
some_same e = cc e

none_some : (k : ℕ) → None ≡ Some k → ⊥
none_some k e = absurd (cc e)

full_up_to : (n p q : ℕ) (lines : List (List Item)) → p + length lines ≤ suc n → first_full p lines ≡ Some q → q ≤ n
unfolding first_full
full_up_to n p q [] up is = absurd (none_some q is)
full_up_to n p q (items ∷ lines) up is = go (nat_lt MAX_EVENTS (length items)) is (λ e. full_up_to n (suc p) q lines (omega (arith, up)) e)
  where
    go : (its : Bool) → cond its (Some p) (first_full (suc p) lines) ≡ Some q → (first_full (suc p) lines ≡ Some q → q ≤ n) → q ≤ n
    go true e later = let same = some_same e in omega (arith, up, same)
    go false e later = later e

pub first_up_to : (hosts : ℕ) (log : List Entry) (q : ℕ) → first_full 1 (host_lines hosts log) ≡ Some q → q ≤ hosts
first_up_to hosts log q is = let whole = hosts_count hosts log in full_up_to hosts 1 q (host_lines hosts log) (omega (arith, whole)) is
