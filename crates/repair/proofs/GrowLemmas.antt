-- Lines and charts with an event or a message more: that each event may stand where it does, and what the charts are.
use Rattle.std.proofs.Common.{◌≡◌, ◌≢◌, ℕ, zero, suc, ◌+◌, ◌-◌, ◌<◌, ◌≤◌, ◌==◌, inl, inr, max, not, ◌&&◌, Bool, true, false, cond, List, [], ◌∷◌, ◌++◌, length, take, drop, map, get_or, Some, refl, sym, ap, ap₂, ◌∙◌, subst, subst₂, arith, take_all, append_assoc, append-nil, eq-eqb}
use Rattle.std.specs.Prelude.{slice_get, option_map, All}
use Rattle.std.proofs.lemmas.List.{length-drop}
use Rattle.std.specs.List.{insert}
use Rattle.std.proofs.lemmas.Bool.{false≢true}
use Rattle.std.proofs.lemmas.Bool.Decides.{eqb_tells}
use Rattle.std.proofs.lemmas.Option.{none-some, same_Some, slice_get_cases, slice_get-map}
use Rattle.std.proofs.lemmas.List.Elements.{All-append, All-cons, All-take, All-drop, All-map}
use Rattle.chart.specs.declared.event.Event.{Event}
use Rattle.chart.specs.Events.{ith, is_in, region_of, partner_of, greatest_region, last_region, MayHaveRegion, HasRegionsInOrder, send_event, receive_event}
use Rattle.chart.specs.Charts.{LineView, IsNumbered, HasPartners}
use Rattle.chart.proofs.Tally.{ith_from_take, ith_at}
use Rattle.chart.proofs.Regions.{greatest_region-push}
use Rattle.repair.specs.Messages.{NewMessage}
use Rattle.repair.specs.Growing.{line_with, CanInsert}

-- The elements of a list in two parts.

take-take : (n k : ℕ) (xs : List Event) → n ≤ k → take n (take k xs) ≡ take n xs
take-take zero k xs le = refl
take-take (suc n) zero xs le = absurd (omega arith)
take-take (suc n) (suc k) [] le = refl
take-take (suc n) (suc k) (x ∷ xs) le = ap (λ l. x ∷ l) (take-take n k xs (omega arith))

pub slice_get-drop : (k : ℕ) (xs : List Event) (i : ℕ) → slice_get (drop k xs) i ≡ slice_get xs (k + i)
slice_get-drop zero xs i = ap (slice_get xs) (let e : i ≡ 0 + i = omega arith in e)
slice_get-drop (suc k) [] i = past i (suc k + i)
  where
    past : (a b : ℕ) → slice_get {X = Event} [] a ≡ slice_get {X = Event} [] b
    past zero zero = refl
    past zero (suc b) = refl
    past (suc a) zero = refl
    past (suc a) (suc b) = refl
slice_get-drop (suc k) (x ∷ xs) i = slice_get-drop k xs i ∙ ap (slice_get (x ∷ xs)) (let e : suc (k + i) ≡ suc k + i = omega arith in e)

take-take-drop : (k i : ℕ) (xs : List Event) → take k xs ++ take i (drop k xs) ≡ take (k + i) xs
take-take-drop zero i xs = ap (λ n. take n xs) (let e : i ≡ 0 + i = omega arith in e)
take-take-drop (suc k) i [] = nothing i (suc k + i)
  where
    nothing : (a b : ℕ) → take a [] ≡ take {A = Event} b []
    nothing zero zero = refl
    nothing zero (suc b) = refl
    nothing (suc a) zero = refl
    nothing (suc a) (suc b) = refl
take-take-drop (suc k) i (x ∷ xs) = ap (λ l. x ∷ l) (take-take-drop k i xs) ∙ ap (λ n. take n (x ∷ xs)) (let e : suc (k + i) ≡ suc k + i = omega arith in e)

-- Coregions of lines in two parts.

greatest_region-append : (a b : List Event) → greatest_region (a ++ b) ≡ max (greatest_region a) (greatest_region b)
greatest_region-append [] b = omega arith
greatest_region-append (x ∷ a) b = let e = greatest_region-append a b in omega (arith, e)

last_region-append : (a : List Event) (y : Event) (b : List Event) → last_region (a ++ y ∷ b) ≡ last_region (y ∷ b)
last_region-append [] y b = refl
last_region-append (x ∷ []) y b = refl
last_region-append (x ∷ z ∷ a) y b = last_region-append (z ∷ a) y b

last_region-take : (xs : List Event) (k : ℕ) (x : Event) → ith xs (suc k) ≡ Some x → last_region (take (suc k) xs) ≡ region_of x
last_region-take [] k x here = absurd (none-some x here)
last_region-take (y ∷ xs) zero x here = ap region_of (same_Some y x here)
last_region-take (y ∷ []) (suc k) x here = absurd (none-some x here)
last_region-take (y ∷ z ∷ xs) (suc k) x here = last_region-take (z ∷ xs) k x here

in_self : (c : ℕ) (m : Event) → region_of m ≡ c → 0 < c → is_in c m ≡ true
in_self c m same some = elim (eqb_tells c 0) [
  | inl w ↦ absurd (omega (arith, w.1, some))
  | inr w ↦ ap₂ (λ a b. a && not b) (eq-eqb (region_of m) c same) w.0
]

-- an event outside of coregions, put before others where none goes on, leaves each its coregion
may_behind : (a l : List Event) (e : Event) (i : ℕ) (m : Event) → region_of e ≡ 0 → slice_get l i ≡ Some m → (i ≡ 0 → 0 < region_of m → region_of m ≡ last_region a → ⊥) → MayHaveRegion (a ++ take i l) (region_of m) → MayHaveRegion ((a ++ e ∷ []) ++ take i l) (region_of m)
may_behind a [] e i m outside here uncut may = absurd (none-some m here)
may_behind a (y ∷ l) e zero m outside here uncut may =
    subst (λ x. MayHaveRegion x (region_of m)) (sym (append-nil (a ++ e ∷ []))) (by (subst (λ x. MayHaveRegion x (region_of m)) (append-nil a) may))
  where
    by : MayHaveRegion a (region_of m) → MayHaveRegion (a ++ e ∷ []) (region_of m)
    by (inl none) = inl none
    by (inr (inl next)) = inr (inl (omega (arith, next, greatest_region-push a e, outside)))
    by (inr (inr again)) = absurd (uncut refl again.0 again.2)
may_behind a (y ∷ l) e (suc i) m outside here uncut may = by may
  where
    b : List Event
    b = y ∷ take i l

    great : greatest_region ((a ++ e ∷ []) ++ y ∷ take i l) ≡ greatest_region (a ++ y ∷ take i l)
    great = omega (arith, greatest_region-append (a ++ e ∷ []) (y ∷ take i l), greatest_region-append a (y ∷ take i l), greatest_region-push a e, outside)

    last : last_region ((a ++ e ∷ []) ++ y ∷ take i l) ≡ last_region (a ++ y ∷ take i l)
    last = last_region-append (a ++ e ∷ []) y (take i l) ∙ sym (last_region-append a y (take i l))

    by : MayHaveRegion (a ++ y ∷ take i l) (region_of m) → MayHaveRegion ((a ++ e ∷ []) ++ y ∷ take i l) (region_of m)
    by (inl none) = inl none
    by (inr (inl next)) = inr (inl (next ∙ ap (λ n. n + 1) (sym great)))
    by (inr (inr again)) = inr (inr (again.0, again.1 ∙ sym great, again.2 ∙ sym last))

-- what may stand in front of the new event, and behind it
pub may_front : (xs : List Event) (k i : ℕ) (m : Event) → HasRegionsInOrder xs → slice_get (take k xs) i ≡ Some m → MayHaveRegion ([] ++ take i (take k xs)) (region_of m)
may_front xs k i m regions here =
    let w = ith_from_take k xs (suc i) m here in
    subst (λ x. MayHaveRegion x (region_of m)) (sym (take-take i k xs (omega (arith, w.0)))) (regions i m w.1)

pub may_back : (l : LineView) (k : ℕ) (e : Event) (i : ℕ) (m : Event) → HasRegionsInOrder l.events → CanInsert l k e → slice_get (drop k l.events) i ≡ Some m → MayHaveRegion ((([] ++ take k l.events) ++ e ∷ []) ++ take i (drop k l.events)) (region_of m)
may_back l k e i m regions can here =
    let xs = l.events in
    let at_m = sym (slice_get-drop k xs i) ∙ here in
    may_behind (take k xs) (drop k xs) e i m can.outside here (uncut k refl) (subst (λ x. MayHaveRegion x (region_of m)) (sym (take-take-drop k i xs)) (regions (k + i) m at_m))
  where
    uncut : (j : ℕ) → j ≡ k → i ≡ 0 → 0 < region_of m → region_of m ≡ last_region (take k l.events) → ⊥
    uncut zero is first some last = let e = subst (λ n. last_region (take n l.events) ≡ 0) is refl in omega (arith, e, some, last)
    uncut (suc j) is first some last =
        let x = ith_at l.events k (omega (arith, is)) can.within in
        let end = subst (λ n. ith l.events n ≡ Some x.0 → last_region (take n l.events) ≡ region_of x.0) is (last_region-take l.events j x.0) x.1 in
        let at_m : ith l.events (k + 1) ≡ Some m = ap (ith l.events) (let e : k + 1 ≡ suc (k + i) = omega (arith, first) in e) ∙ sym (slice_get-drop k l.events i) ∙ here in
        let inside = in_self (region_of x.0) m (last ∙ end) (subst (λ n. 0 < n) (last ∙ end) some) in
        false≢true (sym (can.uncut x.0 m x.1 at_m) ∙ inside)

-- who the partners are
pub partner_front : (xs : List Event) (p k : ℕ) → ((i : ℕ) (m : Event) → slice_get xs i ≡ Some m → partner_of m ≢ p) → (i : ℕ) (m : Event) → slice_get (take k xs) i ≡ Some m → partner_of m ≢ p
partner_front xs p k others i m here = others i m (ith_from_take k xs (suc i) m here).1

pub partner_back : (xs : List Event) (p k : ℕ) → ((i : ℕ) (m : Event) → slice_get xs i ≡ Some m → partner_of m ≢ p) → (i : ℕ) (m : Event) → slice_get (drop k xs) i ≡ Some m → partner_of m ≢ p
partner_back xs p k others i m here = others (k + i) m (sym (slice_get-drop k xs i) ∙ here)

-- the parts make the longer line
pub parts_insert : (xs : List Event) (k : ℕ) (e : Event) → (([] ++ take k xs) ++ e ∷ []) ++ drop k xs ≡ insert xs k e
parts_insert xs k e = append_assoc (take k xs) (e ∷ []) (drop k xs)

-- the same of events that were read from the line
pub may_back_of : (l : LineView) (k : ℕ) (e : Event) (xs ys longer : List Event) → xs ≡ l.events → ys ≡ drop k xs → longer ≡ ([] ++ take k xs) ++ e ∷ [] → HasRegionsInOrder l.events → CanInsert l k e → (i : ℕ) (m : Event) → slice_get ys i ≡ Some m → MayHaveRegion (longer ++ take i ys) (region_of m)
may_back_of l k e xs ys longer read rest so regions can i m here =
    let back = rest ∙ ap (drop k) read in
    let front = so ∙ ap (λ x. ([] ++ take k x) ++ e ∷ []) read in
    subst₂ (λ a b. MayHaveRegion (a ++ take i b) (region_of m)) (sym front) (sym back) (may_back l k e i m regions can (sym (ap (λ b. slice_get b i) back) ∙ here))

-- the rest of a list, as it is read
pub rest_whole : (xs : List Event) (k : ℕ) → take (length xs - k) (drop k xs) ≡ drop k xs
rest_whole xs k = take_all (length xs - k) (drop k xs) (omega (arith, length-drop k xs))

-- The lines with a message are numbered, and their partners are instances.

pub numbered_with : (m : NewMessage) (lines : List LineView) → IsNumbered lines → IsNumbered (map (line_with m) lines)
numbered_with m lines numbered i l here = elim (slice_get_cases lines i).1 [
  | inl w ↦
      let x = w.0 in
      let same = same_Some (line_with m x) l (sym (slice_get-map (line_with m) lines i ∙ ap (option_map (line_with m)) w.2) ∙ here) in
      sym (ap (λ (y : LineView). y.instance) same) ∙ numbered i x w.2
  | inr w ↦ absurd (none-some l (sym (slice_get-map (line_with m) lines i ∙ ap (option_map (line_with m)) w.1) ∙ here))
]

partners_insert : (n : ℕ) (xs : List Event) (k : ℕ) (e : Event) → partner_of e ≤ n → All (λ x. partner_of x ≤ n) xs → All (λ x. partner_of x ≤ n) (insert xs k e)
partners_insert n xs k e within all = All-append (λ x. partner_of x ≤ n) (take k xs) (e ∷ drop k xs) (All-take (λ x. partner_of x ≤ n) k xs all) (All-cons (λ x. partner_of x ≤ n) e (drop k xs) within (All-drop (λ x. partner_of x ≤ n) k xs all))

partners_line : (n : ℕ) (m : NewMessage) (l : LineView) → m.sender ≤ n → m.receiver ≤ n → All (λ x. partner_of x ≤ n) l.events → All (λ x. partner_of x ≤ n) (line_with m l).events
partners_line n m l sender receiver all = go (l.instance == m.sender) (l.instance == m.receiver)
  where
    go : (a b : Bool) → All (λ x. partner_of x ≤ n) (cond a (insert l.events m.sent (send_event m.receiver m.name)) (cond b (insert l.events m.received (receive_event m.sender m.name m.region)) l.events))
    go true b = partners_insert n l.events m.sent (send_event m.receiver m.name) receiver all
    go false true = partners_insert n l.events m.received (receive_event m.sender m.name m.region) sender all
    go false false = all

pub partners_with : (n : ℕ) (m : NewMessage) (lines : List LineView) → m.sender ≤ n → m.receiver ≤ n → HasPartners n lines → HasPartners n (map (line_with m) lines)
partners_with n m lines sender receiver partners =
    All-map (λ (l : LineView). All (λ x. partner_of x ≤ n) l.events) (line_with m) lines (λ i d within. partners_line n m (get_or lines i d) sender receiver (partners i d within))
