-- The receives of a chart's reports are its receives.
use Rattle.std.proofs.Common.{◌≡◌, ℕ, zero, suc, ◌+◌, inl, inr, true, List, [], ◌∷◌, get_or, Some, refl, sym, ap, ◌∙◌, subst, arith}
use Rattle.std.specs.Prelude.{Contains, slice_get}
use Rattle.std.specs.List.{flat_map}
use Rattle.std.proofs.lemmas.Bool.{eq-eqb, false≢true}
use Rattle.std.proofs.lemmas.List.Elements.{Contains-append_left, Contains-append_right, Contains-append_cases, Contains-push}
use Rattle.std.proofs.lemmas.Option.{none-some, same_Some, slice_get-get_or, get_or_from_slice_get}
use Rattle.chart.specs.declared.event.Event.{Event}
use Rattle.chart.specs.declared.event.Event.TheVariants.{Send, Receive}
use Rattle.chart.specs.declared.instance.EventNo.{EventNo}
use Rattle.chart.specs.Events.{is_receive_from}
use Rattle.chart.specs.Charts.{at, chart_event, LineView, IsReceiveFrom, IsNumbered, chart_lines}
use Rattle.chart.specs.Reports.{receives_from, receives_of}
use Rattle.chart.proofs.Belongs.{IsEvent-from_event}
use Rattle.closure.proofs.ReadLemmas.{instance_within}
use Rattle.cmd_compare.proofs.PairLemmas.{has_none, has_one}

abbrev event : ℕ → ℕ → EventNo
event p i = record { instance = p; index = i }

-- a receive of a line whose first event is the i-th
abbrev IsReceiveOn : ℕ → ℕ → List Event → EventNo → Type 0
IsReceiveOn p i line e = (j : ℕ) × (e ≡ event p (i + j)) × (q : ℕ) × (m : Event) × (slice_get line j ≡ Some m) × (is_receive_from q m ≡ true)

one_on : (p i : ℕ) (m : Event) (line : List Event) (e : EventNo) → IsReceiveOn p (i + 1) line e → IsReceiveOn p i (m ∷ line) e
one_on p i m line e w = let same : i + 1 + w.0 ≡ i + suc w.0 = omega arith in (suc w.0, w.1 ∙ ap (event p) same, w.2, w.3, w.4, w.5)

on_line : (p i : ℕ) (line : List Event) (e : EventNo) → Contains (receives_from p i line) e → IsReceiveOn p i line e
on_line p i [] e has = absurd (has_none e has)
on_line p i (Send to name ∷ line) e has = one_on p i (Send to name) line e (on_line p (i + 1) line e has)
on_line p i (Receive from name region ∷ line) e has =
    elim (Contains-append_cases (event p i ∷ []) (receives_from p (i + 1) line) e has) [
      | inl first ↦ let same : i ≡ i + 0 = omega arith in (0, sym (has_one (event p i) e first) ∙ ap (event p) same, from, Receive from name region, refl, eq-eqb from from refl)
      | inr rest ↦ one_on p i (Receive from name region) line e (on_line p (i + 1) line e rest)
    ]

line_has : (p i j q : ℕ) (m : Event) (line : List Event) → slice_get line j ≡ Some m → is_receive_from q m ≡ true → Contains (receives_from p i line) (event p (i + j))
line_has p i j q m [] is from = absurd (none-some m is)
line_has p i zero q m (Send to name ∷ line) is from = absurd (false≢true (subst (λ x. is_receive_from q x ≡ true) (sym (same_Some (Send to name) m is)) from))
line_has p i zero q m (Receive a name region ∷ line) is from =
    let same : i ≡ i + 0 = omega arith in
    Contains-append_left (event p i ∷ []) (receives_from p (i + 1) line) (event p (i + 0)) (subst (λ k. Contains (event p i ∷ []) (event p k)) same (Contains-push [] (event p i)))
line_has p i (suc j) q m (Send to name ∷ line) is from =
    let same : i + 1 + j ≡ i + suc j = omega arith in
    subst (λ k. Contains (receives_from p (i + 1) line) (event p k)) same (line_has p (i + 1) j q m line is from)
line_has p i (suc j) q m (Receive a name region ∷ line) is from =
    let same : i + 1 + j ≡ i + suc j = omega arith in
    Contains-append_right (event p i ∷ []) (receives_from p (i + 1) line) (event p (i + suc j))
    (subst (λ k. Contains (receives_from p (i + 1) line) (event p k)) same (line_has p (i + 1) j q m line is from))

-- lists of elements, one after the other
module _ {X Y : Type 0} (f : X → List Y) where
  in_lists : (xs : List X) (y : Y) → Contains (flat_map f xs) y → (k : ℕ) × (x : X) × (slice_get xs k ≡ Some x) × Contains (f x) y
  in_lists [] y has = absurd (has_none y has)
  in_lists (x ∷ xs) y has = elim (Contains-append_cases (f x) (flat_map f xs) y has) [
    | inl first ↦ (0, x, refl, first)
    | inr rest ↦ let w = in_lists xs y rest in (suc w.0, w.1, w.2, w.3)
  ]

  lists_in : (xs : List X) (k : ℕ) (x : X) (y : Y) → slice_get xs k ≡ Some x → Contains (f x) y → Contains (flat_map f xs) y
  lists_in [] k x y is has = absurd (none-some x is)
  lists_in (z ∷ xs) zero x y is has = Contains-append_left (f z) (flat_map f xs) y (subst (λ (w : X). Contains (f w) y) (sym (same_Some z x is)) has)
  lists_in (z ∷ xs) (suc k) x y is has = Contains-append_right (f z) (flat_map f xs) y (lists_in xs k x y is has)

module _ (lines : List LineView) (numbered : IsNumbered lines) where
  line_of : (k : ℕ) (l : LineView) → slice_get lines k ≡ Some l → (l.instance ≡ suc k) × (chart_lines lines (suc k) ≡ l.events)
  line_of k l is = (numbered k l is, ap (λ (x : LineView). x.events) (get_or_from_slice_get lines k l (record { instance = suc k; events = [] }) is))

  -- an element of the lines' receives is a receive
  pub is_receive : (e : EventNo) → Contains (flat_map receives_of lines) e → (q : ℕ) × IsReceiveFrom (chart_lines lines) q (at e.instance e.index)
  is_receive e has =
      let w = in_lists receives_of lines e has in
      let l = w.1 in
      let its = on_line l.instance 1 l.events e w.3 in
      let line = line_of w.0 l w.2 in
      (its.2, (its.3, event_at w.0 l line.0 line.1 its.0 e its.1 its.3 its.4, its.5))
    where
      event_at : (k : ℕ) (l : LineView) → l.instance ≡ suc k → chart_lines lines (suc k) ≡ l.events → (j : ℕ) (x : EventNo) → x ≡ event l.instance (1 + j) → (m : Event) → slice_get l.events j ≡ Some m → chart_event (chart_lines lines) (at x.instance x.index) ≡ Some m
      event_at k l own line j x is m here =
          let same : 1 + j ≡ suc j = omega arith in
          ap (λ (y : EventNo). chart_event (chart_lines lines) (at y.instance y.index)) (is ∙ ap (λ p. event p (1 + j)) own ∙ ap (event (suc k)) same) ∙ ap (λ (es : List Event). slice_get es j) line ∙ here

  -- and each receive is among them
  pub receive_is : (q p i : ℕ) → IsReceiveFrom (chart_lines lines) q (at p i) → Contains (flat_map receives_of lines) (event p i)
  receive_is q p zero (m, is, from) = absurd (none-some m is)
  receive_is q p (suc j) (m, is, from) =
      let w = instance_within lines (at p (suc j)) (IsEvent-from_event (chart_lines lines) (at p (suc j)) m is) in
      let k = w.0 in
      let d : LineView = record { instance = suc k; events = [] } in
      let l = get_or lines k d in
      let here : slice_get l.events j ≡ Some m = ap (λ x. chart_event (chart_lines lines) (at x (suc j))) (sym w.1) ∙ is in
      let has = lists_in receives_of lines k l (event l.instance (1 + j)) (slice_get-get_or lines k d w.2) (line_has l.instance 1 j q m l.events here from) in
      let same : 1 + j ≡ suc j = omega arith in
      subst (λ (x : EventNo). Contains (flat_map receives_of lines) x) (ap (λ x. event x (1 + j)) (numbered k l (slice_get-get_or lines k d w.2) ∙ sym w.1) ∙ ap (event p) same) has
