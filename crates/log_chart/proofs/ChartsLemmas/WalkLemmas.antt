-- Lists that loops make, with one more element at a time.
use Rattle.std.proofs.Common.{◌≡◌, ℕ, zero, suc, ◌+◌, ◌<◌, ◌≤◌, Bool, true, false, cond, List, [], ◌∷◌, ◌++◌, None, Some, length, drop, get_or, map, refl, sym, ap, ◌∙◌, arith, append_assoc, add-one}
use Rattle.std.specs.Prelude.{is_none, nat_lt, slice_get, All}
use Rattle.std.proofs.lemmas.List.Elements.{All-nil, All-cons}
use Rattle.std.proofs.lemmas.Bool.{lt-ltb, le-ltb, ltb-false}
use Rattle.std.proofs.lemmas.List.{drop_all, append-nil, length-append, length-map, length-drop}
use Rattle.chart.specs.Charts.{LineView, IsNumbered}
use Rattle.chart.specs.declared.instance.EventNo.{EventNo}
use Rattle.chart.specs.declared.line.TheConstants.{MAX_EVENTS}
use Rattle.log_chart.proofs.MatchingLemmas.{from_here}
use Rattle.log_chart.specs.declared.entry.Entry.{Entry}
use Rattle.log_chart.specs.declared.entry.Place.{Place}
use Rattle.log_chart.specs.declared.fate.Fate.{Fate}
use Rattle.log_chart.specs.declared.item.Item.{Item}
use Rattle.log_chart.specs.declared.matching.LogLine.{LogLine}
use Rattle.log_chart.specs.Charts.ChartLines.{name_at, event_of, chart_from, first_full}
use Rattle.log_chart.specs.Charts.Listing.{is_lost, lost_of, place_at, overtaking_of, overtakings_of, invented_from, all_invented}
use Rattle.log_chart.specs.declared.charts.listing.Overtaking.{Overtaking}

-- a line of the log
pub name_here : (log : List Entry) (n : ℕ) (e : Entry) → n < length log → (get_or log n e).name ≡ name_at log n
name_here [] n e within = absurd (omega arith)
name_here (x ∷ log) zero e within = refl
name_here (x ∷ log) (suc n) e within = name_here log n e (omega (arith, within))

pub place_here : (log : List Entry) (n : ℕ) (e : Entry) → n < length log → Some (get_or log n e).place ≡ place_at log n
place_here [] n e within = absurd (omega arith)
place_here (x ∷ log) zero e within = refl
place_here (x ∷ log) (suc n) e within = place_here log n e (omega (arith, within))

pub place_past : (log : List Entry) (n : ℕ) → length log ≤ n → None ≡ place_at log n
place_past [] n past = refl
place_past (x ∷ log) zero past = absurd (omega (arith, past))
place_past (x ∷ log) (suc n) past = place_past log n (omega (arith, past))

-- hosts' lines
module _ (lines : List (List Item)) (n : ℕ) (x : List Item) (within : n < length lines) (is : x ≡ get_or lines n x) where
  pub full_here : MAX_EVENTS < length x → first_full (suc n) (drop n lines) ≡ Some (suc n)
  unfolding first_full
  full_here full = rw (from_here lines n x within is, lt-ltb MAX_EVENTS (length x) full) refl

  pub full_later : length x ≤ MAX_EVENTS → first_full (suc (n + 1)) (drop (n + 1) lines) ≡ first_full (suc n) (drop n lines)
  unfolding first_full
  full_later short = rw (from_here lines n x within is, le-ltb MAX_EVENTS (length x) short) (ap (λ k. first_full (suc k) (drop (n + 1) lines)) (add-one n))

  pub chart_more : (log : List Entry) (made more : List LineView) → more ≡ made ++ record { instance = suc n; events = map (event_of log) x } ∷ []
      → more ++ chart_from log (suc (n + 1)) (drop (n + 1) lines) ≡ made ++ chart_from log (suc n) (drop n lines)
  unfolding chart_from
  chart_more log made more grown =
      rw (grown, from_here lines n x within is)
      (append_assoc made _ _ ∙ ap (λ k. made ++ record { instance = suc n; events = map (event_of log) x } ∷ chart_from log (suc k) (drop (n + 1) lines)) (add-one n))

  pub invented_lines_more : (listed more : List EventNo) → more ≡ listed ++ invented_from (suc n) 1 x
      → more ++ all_invented (suc (n + 1)) (drop (n + 1) lines) ≡ listed ++ all_invented (suc n) (drop n lines)
  unfolding all_invented
  invented_lines_more listed more grown =
      rw (grown, from_here lines n x within is)
      (append_assoc listed _ _ ∙ ap (λ k. listed ++ (invented_from (suc n) 1 x ++ all_invented (suc k) (drop (n + 1) lines))) (add-one n))

pub full_none : (lines : List (List Item)) (n p : ℕ) → length lines ≤ n → None ≡ first_full p (drop n lines)
unfolding first_full
full_none lines n p past = rw (drop_all n lines past) refl

pub chart_end : (log : List Entry) (made : List LineView) (lines : List (List Item)) (n p : ℕ) → length lines ≤ n → made ++ chart_from log p (drop n lines) ≡ made
unfolding chart_from
chart_end log made lines n p past = rw (drop_all n lines past) (append-nil made)

pub invented_lines_end : (listed : List EventNo) (lines : List (List Item)) (n p : ℕ) → length lines ≤ n → listed ++ all_invented p (drop n lines) ≡ listed
unfolding all_invented
invented_lines_end listed lines n p past = rw (drop_all n lines past) (append-nil listed)

-- the events of a host
pub events_more : {E : Type 0} (f : Item → E) (events more : List E) (items : List Item) (n : ℕ) (x : Item) → n < length items → x ≡ get_or items n x → more ≡ events ++ f x ∷ []
    → more ++ map f (drop (n + 1) items) ≡ events ++ map f (drop n items)
events_more f events more items n x within is grown = rw (grown, from_here items n x within is) (append_assoc events _ _)

pub events_end : {E : Type 0} (f : Item → E) (events : List E) (items : List Item) (n : ℕ) → length items ≤ n → events ++ map f (drop n items) ≡ events
events_end f events items n past = rw (drop_all n items past) (append-nil events)

-- the next event, and the number of events so far
pub event_here : {E : Type 0} (f : Item → E) (items : List Item) (n : ℕ) (x : Item) → n < length items → x ≡ get_or items n x → slice_get (map f items) n ≡ Some (f x)
event_here f [] n x within is = absurd (omega (arith, within))
event_here f (i ∷ items) zero x within is = ap (λ y. Some (f y)) (sym is)
event_here f (i ∷ items) (suc n) x within is = event_here f items n x (omega (arith, within)) is

pub events_so_far : {E : Type 0} (f : Item → E) (events : List E) (items : List Item) (n : ℕ) → n < length items → events ++ map f (drop n items) ≡ map f items → length events ≡ n
events_so_far f events items n within is =
    let all = ap length is in
    let joined = length-append events (map f (drop n items)) in
    let left = length-map (drop n items) f in
    let whole = length-map items f in
    let rest = length-drop n items in
    omega (arith, all, joined, left, whole, rest, within)

-- the invented events
module _ (p : ℕ) (items : List Item) (n : ℕ) (x : Item) (within : n < length items) (is : x ≡ get_or items n x) (listed : List EventNo) where
  pub invented_more : (more : List EventNo) → is_none x.line ≡ true → more ≡ listed ++ record { instance = p; index = n + 1 } ∷ []
      → more ++ invented_from p (n + 1 + 1) (drop (n + 1) items) ≡ listed ++ invented_from p (n + 1) (drop n items)
  unfolding invented_from
  invented_more more its grown = rw (grown, from_here items n x within is, its) (append_assoc listed _ _)

  pub invented_same : is_none x.line ≡ false → listed ++ invented_from p (n + 1 + 1) (drop (n + 1) items) ≡ listed ++ invented_from p (n + 1) (drop n items)
  unfolding invented_from
  invented_same other = rw (from_here items n x within is, other) refl

pub invented_end : (p k : ℕ) (listed : List EventNo) (items : List Item) (n : ℕ) → length items ≤ n → listed ++ invented_from p k (drop n items) ≡ listed
unfolding invented_from
invented_end p k listed items n past = rw (drop_all n items past) (append-nil listed)

-- lines with their fates
module _ (lines : List LogLine) (fates : List Fate) (n : ℕ) (x : LogLine) (f : Fate) (within : n < length lines) (whole : length fates ≡ length lines) (is : x ≡ get_or lines n x)
    (f_is : f ≡ get_or fates n f) where
  fate_here : drop n fates ≡ f ∷ drop (n + 1) fates
  fate_here = from_here fates n f (omega (arith, within, whole)) f_is

  pub lost_more : (places more : List Place) → is_lost f ≡ true → more ≡ places ++ x.entry.place ∷ []
      → more ++ lost_of (drop (n + 1) lines) (drop (n + 1) fates) ≡ places ++ lost_of (drop n lines) (drop n fates)
  unfolding lost_of
  lost_more places more its grown = rw (grown, from_here lines n x within is, fate_here, its) (append_assoc places _ _)

  pub lost_same : (places : List Place) → is_lost f ≡ false → places ++ lost_of (drop (n + 1) lines) (drop (n + 1) fates) ≡ places ++ lost_of (drop n lines) (drop n fates)
  unfolding lost_of
  lost_same places other = rw (from_here lines n x within is, fate_here, other) refl

  pub overtakings_more : (log : List Entry) (listed more : List Overtaking) → more ≡ listed ++ overtaking_of log x f
      → more ++ overtakings_of log (drop (n + 1) lines) (drop (n + 1) fates) ≡ listed ++ overtakings_of log (drop n lines) (drop n fates)
  unfolding overtakings_of
  overtakings_more log listed more grown = rw (grown, from_here lines n x within is, fate_here) (append_assoc listed _ _)

pub lost_end : (places : List Place) (lines : List LogLine) (fates : List Fate) (n : ℕ) → length lines ≤ n → places ++ lost_of (drop n lines) (drop n fates) ≡ places
unfolding lost_of
lost_end places lines fates n past = rw (drop_all n lines past) (append-nil places)

pub overtakings_end : (log : List Entry) (listed : List Overtaking) (lines : List LogLine) (fates : List Fate) (n : ℕ) → length lines ≤ n
    → listed ++ overtakings_of log (drop n lines) (drop n fates) ≡ listed
unfolding overtakings_of
overtakings_end log listed lines fates n past = rw (drop_all n lines past) (append-nil listed)

-- the lines are numbered
chart_numbered : (log : List Entry) (p : ℕ) (lines : List (List Item)) (i : ℕ) (l : LineView) → slice_get (chart_from log p lines) i ≡ Some l → l.instance ≡ p + i
unfolding chart_from
chart_numbered log p [] i l is = absurd (cc is)
chart_numbered log p (items ∷ lines) zero l is = omega (arith, ap (λ (x : LineView). x.instance) (same_of l is))
  where
    same_of : (l : LineView) → Some (record { instance = p; events = map (event_of log) items }) ≡ Some l → l ≡ record { instance = p; events = map (event_of log) items }
    same_of l e = cc e
chart_numbered log p (items ∷ lines) (suc i) l is = let rest = chart_numbered log (suc p) lines i l is in omega (arith, rest)

pub chart_is_numbered : (log : List Entry) (lines : List (List Item)) → IsNumbered (chart_from log 1 lines)
chart_is_numbered log lines i l is = let rest = chart_numbered log 1 lines i l is in omega (arith, rest)

-- no line is full
pub short_all : (p : ℕ) (lines : List (List Item)) → first_full p lines ≡ None → All (λ items. length items ≤ MAX_EVENTS) lines
unfolding first_full
short_all p [] none = All-nil (λ (items : List Item). length items ≤ MAX_EVENTS)
short_all p (items ∷ lines) none = go (nat_lt MAX_EVENTS (length items)) refl none (λ rest. short_all (suc p) lines rest)
  where
    some_none : (k : ℕ) → Some k ≡ None → ⊥
    some_none k e = absurd (cc e)

    go : (its : Bool) → nat_lt MAX_EVENTS (length items) ≡ its → cond its (Some p) (first_full (suc p) lines) ≡ None
        → (first_full (suc p) lines ≡ None → All (λ items. length items ≤ MAX_EVENTS) lines) → All (λ items. length items ≤ MAX_EVENTS) (items ∷ lines)
    go true e is rest = absurd (some_none p is)
    go false e is rest = All-cons (λ (items : List Item). length items ≤ MAX_EVENTS) items lines (ltb-false MAX_EVENTS (length items) e) (rest is)
