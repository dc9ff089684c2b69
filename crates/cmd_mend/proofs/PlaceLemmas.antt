-- The receives of lines with one message more: those of the old lines, where they are now, and the new one.
use Rattle.std.proofs.Common.{◌≡◌, ◌≢◌, ℕ, zero, suc, ◌+◌, ◌-◌, ◌<◌, ◌≤◌, ◌==◌, ◌&&◌, ◌||◌, ◌⊎◌, inl, inr, Bool, true, false, not, cond, List, [], ◌∷◌, ◌++◌, length, map, take, drop, get_or, filter, Some, refl, sym, ap, ap₂, ◌∙◌, subst, arith, eq-eqb, eqb-true, append_assoc, add-one}
use Rattle.std.specs.Prelude.{All, slice_get, nat_le}
use Rattle.std.specs.List.{flat_map, insert}
use Rattle.std.proofs.lemmas.Bool.{cases_Bool, false≢true, cases_lt, leb-true}
use Rattle.std.proofs.lemmas.List.{length-append, length-map, map-append, length-take-le, take-append-drop}
use Rattle.std.proofs.lemmas.Option.{same_Some, slice_get-get_or}
use Rattle.std.proofs.lemmas.List.Concat.{flat_map-cons}
use Rattle.std.proofs.lemmas.List.Elements.{All-nil, All-cons, All-head, All-tail, All-weaker}
use Rattle.chart.specs.declared.event.Event.{Event}
use Rattle.chart.specs.declared.event.Event.TheVariants.{Send, Receive}
use Rattle.chart.specs.declared.instance.EventNo.{EventNo}
use Rattle.chart.specs.Charts.{LineView, IsNumbered, chart_lines}
use Rattle.chart.specs.Events.{send_event, receive_event}
use Rattle.chart.specs.Reports.{ReportView, AreReports, receives_from, receives_of}
use Rattle.chart.proofs.ReportLists.{receives-within}
use Rattle.repair.specs.Growing.{line_with}
use Rattle.repair.specs.Messages.{NewMessage, IsWith, moved_index}
use Rattle.repair.proofs.Lines.{moved_below, moved_above}
use Rattle.repair.specs.Moves.{new_index, moved_event}
use Rattle.cmd_mend.specs.Changes.{is_new, old_receives}
use Rattle.cmd_mend.specs.Laws.{PlacesLaw}

abbrev event : ℕ → ℕ → EventNo
event p i = record { instance = p; index = i }

-- the receives of two parts of a line
receives-append : (p i : ℕ) (xs ys : List Event) → receives_from p i (xs ++ ys) ≡ receives_from p i xs ++ receives_from p (i + length xs) ys
receives-append p i [] ys = let e : i ≡ i + 0 = omega arith in ap (λ n. receives_from p n ys) e
receives-append p i (Send to name ∷ xs) ys =
    let e : i + 1 + length xs ≡ i + suc (length xs) = omega arith in
    receives-append p (i + 1) xs ys ∙ ap (λ n. receives_from p (i + 1) xs ++ receives_from p n ys) e
receives-append p i (Receive from name region ∷ xs) ys =
    let e : i + 1 + length xs ≡ i + suc (length xs) = omega arith in
    ap (λ es. event p i ∷ es) (receives-append p (i + 1) xs ys ∙ ap (λ n. receives_from p (i + 1) xs ++ receives_from p n ys) e)

-- those of a line that begins one later

receives-next : (p i : ℕ) (xs : List Event) → receives_from p (i + 1) xs ≡ map (λ (e : EventNo). event e.instance (e.index + 1)) (receives_from p i xs)
receives-next p i [] = refl
receives-next p i (Send to name ∷ xs) = receives-next p (i + 1) xs
receives-next p i (Receive from name region ∷ xs) = ap (λ es. event p (i + 1) ∷ es) (receives-next p (i + 1) xs)

-- what is the same at each element
map-same : {X Y : Type 0} (f g : X → Y) (xs : List X) → All (λ x. f x ≡ g x) xs → map f xs ≡ map g xs
map-same f g [] each = refl
map-same f g (x ∷ xs) each = ap₂ (λ a b. a ∷ b) (All-head (λ x. f x ≡ g x) x xs each) (map-same f g xs (All-tail (λ x. f x ≡ g x) x xs each))

map-itself : {X : Type 0} (f : X → X) (xs : List X) → All (λ x. f x ≡ x) xs → map f xs ≡ xs
map-itself f [] each = refl
map-itself f (x ∷ xs) each = ap₂ (λ a b. a ∷ b) (All-head (λ x. f x ≡ x) x xs each) (map-itself f xs (All-tail (λ x. f x ≡ x) x xs each))

filter-all : {X : Type 0} (test : X → Bool) (xs : List X) → All (λ x. test x ≡ true) xs → filter test xs ≡ xs
filter-all test [] each = refl
filter-all test (x ∷ xs) each =
    ap (λ b. cond b (x ∷ filter test xs) (filter test xs)) (All-head (λ y. test y ≡ true) x xs each)
    ∙ ap (λ l. x ∷ l) (filter-all test xs (All-tail (λ y. test y ≡ true) x xs each))

filter-append : {X : Type 0} (test : X → Bool) (xs ys : List X) → filter test (xs ++ ys) ≡ filter test xs ++ filter test ys
filter-append test [] ys = refl
filter-append test (x ∷ xs) ys = by (test x) (filter-append test xs ys)
  where
    by : (b : Bool) → filter test (xs ++ ys) ≡ filter test xs ++ filter test ys → cond b (x ∷ filter test (xs ++ ys)) (filter test (xs ++ ys)) ≡ cond b (x ∷ filter test xs) (filter test xs) ++ filter test ys
    by true rest = ap (λ l. x ∷ l) rest
    by false rest = rest

filter-map : {X Y : Type 0} (test : Y → Bool) (f : X → Y) (xs : List X) → map f (filter (λ x. test (f x)) xs) ≡ filter test (map f xs)
filter-map test f [] = refl
filter-map test f (x ∷ xs) = by (test (f x)) (filter-map test f xs)
  where
    by : (b : Bool) → map f (filter (λ y. test (f y)) xs) ≡ filter test (map f xs) → map f (cond b (x ∷ filter (λ y. test (f y)) xs) (filter (λ y. test (f y)) xs)) ≡ cond b (f x ∷ filter test (map f xs)) (filter test (map f xs))
    by true rest = ap (λ l. f x ∷ l) rest
    by false rest = rest

-- An event more in a line of p behind its first k: where the old ones are, and which are old.
module _ (p k : ℕ) (move : EventNo → EventNo) (old : EventNo → Bool)
    (stays : (e : EventNo) → e.instance ≡ p → e.index ≤ k → move e ≡ e)
    (moves : (e : EventNo) → e.instance ≡ p → k < e.index → move e ≡ event e.instance (e.index + 1))
    (keeps : (e : EventNo) → e.instance ≡ p → e.index ≢ k + 1 → old e ≡ true)
    (leaves : (e : EventNo) → e.instance ≡ p → e.index ≡ k + 1 → old e ≡ false) where
  abbrev Within : ℕ → ℕ → EventNo → Type 0
  Within i n e = (e.instance ≡ p) × (i ≤ e.index) × (e.index < i + n)

  -- the first ones
  front : (xs : List Event) → length xs ≤ k → (filter old (receives_from p 1 xs) ≡ receives_from p 1 xs) × (map move (receives_from p 1 xs) ≡ receives_from p 1 xs)
  front xs short = (
    filter-all old (receives_from p 1 xs) (All-weaker (Within 1 (length xs)) (λ e. old e ≡ true) (λ e w. keeps e w.0 (λ same. let a = w.2 in omega arith)) (receives_from p 1 xs) (receives-within p 1 xs)),
    map-itself move (receives_from p 1 xs) (All-weaker (Within 1 (length xs)) (λ e. move e ≡ e) (λ e w. stays e w.0 (let a = w.2 in omega arith)) (receives_from p 1 xs) (receives-within p 1 xs)),
  )

  -- those behind them
  back : (xs : List Event) (i : ℕ) → i ≡ k + 1 → (filter old (receives_from p (i + 1) xs) ≡ receives_from p (i + 1) xs) × (map move (receives_from p i xs) ≡ receives_from p (i + 1) xs)
  back xs i is = (
    filter-all old (receives_from p (i + 1) xs) (All-weaker (Within (i + 1) (length xs)) (λ e. old e ≡ true) (λ e w. keeps e w.0 (λ same. let a = w.1 in omega arith)) (receives_from p (i + 1) xs) (receives-within p (i + 1) xs)),
    map-same move (λ (e : EventNo). event e.instance (e.index + 1)) (receives_from p i xs) (All-weaker (Within i (length xs)) (λ e. move e ≡ event e.instance (e.index + 1)) (λ e w. moves e w.0 (let a = w.1 in omega arith)) (receives_from p i xs) (receives-within p i xs))
        ∙ sym (receives-next p i xs),
  )

  -- the whole line
  both : (fs bs : List Event) (i : ℕ) → length fs ≡ k → i ≡ k + 1 → filter old (receives_from p 1 fs) ++ filter old (receives_from p (i + 1) bs) ≡ map move (receives_from p 1 (fs ++ bs))
  both fs bs i long is =
      let f = front fs (omega arith) in
      let b = back bs i is in
      let place : 1 + length fs ≡ i = omega arith in
      ap₂ (λ xs ys. xs ++ ys) (f.0 ∙ sym f.1) (b.0 ∙ sym b.1)
      ∙ sym (map-append move (receives_from p 1 fs) (receives_from p i bs))
      ∙ ap (map move) (ap (λ n. receives_from p 1 fs ++ receives_from p n bs) (sym place) ∙ sym (receives-append p 1 fs bs))

  with_send : (fs bs : List Event) (to : ℕ) (name : List ℕ) → length fs ≡ k → filter old (receives_from p 1 (fs ++ Send to name ∷ bs)) ≡ map move (receives_from p 1 (fs ++ bs))
  with_send fs bs to name long =
      let place : 1 + length fs ≡ k + 1 = omega arith in
      ap (filter old) (receives-append p 1 fs (Send to name ∷ bs) ∙ ap (λ n. receives_from p 1 fs ++ receives_from p (n + 1) bs) place)
      ∙ filter-append old (receives_from p 1 fs) (receives_from p (k + 1 + 1) bs)
      ∙ both fs bs (k + 1) long refl

  with_receive : (fs bs : List Event) (from : ℕ) (name : List ℕ) (region : ℕ) → length fs ≡ k → filter old (receives_from p 1 (fs ++ Receive from name region ∷ bs)) ≡ map move (receives_from p 1 (fs ++ bs))
  with_receive fs bs from name region long =
      let place : 1 + length fs ≡ k + 1 = omega arith in
      ap (filter old) (receives-append p 1 fs (Receive from name region ∷ bs) ∙ ap (λ n. receives_from p 1 fs ++ (event p n ∷ receives_from p (n + 1) bs)) place)
      ∙ filter-append old (receives_from p 1 fs) (event p (k + 1) ∷ receives_from p (k + 1 + 1) bs)
      ∙ ap (λ b. filter old (receives_from p 1 fs) ++ cond b (event p (k + 1) ∷ filter old (receives_from p (k + 1 + 1) bs)) (filter old (receives_from p (k + 1 + 1) bs))) (leaves (event p (k + 1)) refl refl)
      ∙ both fs bs (k + 1) long refl

module _ (m : NewMessage) (two : m.sender ≢ m.receiver) where
  abbrev old : EventNo → Bool
  old e = not (is_new m e)

  abbrev move : EventNo → EventNo
  move e = moved_event m e

  -- the tests decide
  differ : (a b : ℕ) → a ≢ b → (a == b) ≡ false
  differ a b other = elim (cases_Bool (a == b)) [ inl same ↦ absurd (other (eqb-true a b same)) | inr off ↦ off ]

  -- which events are new, by four tests
  abbrev tests : Bool → Bool → Bool → Bool → Bool
  tests s i r j = not ((s && i) || (r && j))

  old_is : (e : EventNo) (s i r j : Bool) → (e.instance == m.sender) ≡ s → (e.index == m.sent + 1) ≡ i → (e.instance == m.receiver) ≡ r → (e.index == m.received + 1) ≡ j → old e ≡ tests s i r j
  old_is e s i r j a b c d =
      ap (λ x. tests x (e.index == m.sent + 1) (e.instance == m.receiver) (e.index == m.received + 1)) a
      ∙ ap (λ x. tests s x (e.instance == m.receiver) (e.index == m.received + 1)) b
      ∙ ap (λ x. tests s i x (e.index == m.received + 1)) c
      ∙ ap (λ x. tests s i r x) d

  -- numbers of old events, by whose line it is
  abbrev number : Bool → Bool → ℕ → ℕ
  number s r i = cond s (moved_index m.sent i) (cond r (moved_index m.received i) i)

  number_is : (e : EventNo) (s r : Bool) → (e.instance == m.sender) ≡ s → (e.instance == m.receiver) ≡ r → move e ≡ event e.instance (number s r e.index)
  number_is e s r a b =
      ap (λ x. event e.instance (number x (e.instance == m.receiver) e.index)) a
      ∙ ap (λ x. event e.instance (number s x e.index)) b

  -- on the sender's line
  on_sender : (p : ℕ) → p ≡ m.sender → (fs bs : List Event) → length fs ≡ m.sent → filter old (receives_from p 1 (fs ++ send_event m.receiver m.name ∷ bs)) ≡ map move (receives_from p 1 (fs ++ bs))
  on_sender p is fs bs long = with_send p m.sent move old
      (λ e its low. number_is e true false (mine e its) (other e its) ∙ ap (event e.instance) (moved_below m.sent e.index low))
      (λ e its high. number_is e true false (mine e its) (other e its) ∙ ap (event e.instance) (moved_above m.sent e.index high))
      (λ e its differs. old_is e true false false (e.index == m.received + 1) (mine e its) (differ e.index (m.sent + 1) differs) (other e its) refl)
      (λ e its same. old_is e true true false (e.index == m.received + 1) (mine e its) (eq-eqb e.index (m.sent + 1) same) (other e its) refl)
      fs bs m.receiver m.name long
    where
      mine : (e : EventNo) → e.instance ≡ p → (e.instance == m.sender) ≡ true
      mine e its = eq-eqb e.instance m.sender (its ∙ is)

      other : (e : EventNo) → e.instance ≡ p → (e.instance == m.receiver) ≡ false
      other e its = differ e.instance m.receiver (λ same. two (sym (its ∙ is) ∙ same))

  -- on the receiver's
  on_receiver : (p : ℕ) → p ≡ m.receiver → (fs bs : List Event) → length fs ≡ m.received → filter old (receives_from p 1 (fs ++ receive_event m.sender m.name m.region ∷ bs)) ≡ map move (receives_from p 1 (fs ++ bs))
  on_receiver p is fs bs long = with_receive p m.received move old
      (λ e its low. number_is e false true (other e its) (mine e its) ∙ ap (event e.instance) (moved_below m.received e.index low))
      (λ e its high. number_is e false true (other e its) (mine e its) ∙ ap (event e.instance) (moved_above m.received e.index high))
      (λ e its differs. old_is e false (e.index == m.sent + 1) true false (other e its) refl (mine e its) (differ e.index (m.received + 1) differs))
      (λ e its same. old_is e false (e.index == m.sent + 1) true true (other e its) refl (mine e its) (eq-eqb e.index (m.received + 1) same))
      fs bs m.sender m.name m.region long
    where
      mine : (e : EventNo) → e.instance ≡ p → (e.instance == m.receiver) ≡ true
      mine e its = eq-eqb e.instance m.receiver (its ∙ is)

      other : (e : EventNo) → e.instance ≡ p → (e.instance == m.sender) ≡ false
      other e its = differ e.instance m.sender (λ same. two (sym same ∙ its ∙ is))

  -- events of a line
  abbrev OnLine : ℕ → List Event → EventNo → Type 0
  OnLine q l e = (e.instance ≡ q) × (1 ≤ e.index) × (e.index < 1 + length l)

  -- on any other
  on_other : (p : ℕ) → p ≢ m.sender → p ≢ m.receiver → (xs : List Event) → filter old (receives_from p 1 xs) ≡ map move (receives_from p 1 xs)
  on_other p unsent unreceived xs =
      filter-all old (receives_from p 1 xs) (All-weaker (OnLine p xs) (λ e. old e ≡ true) (λ e w. old_is e false (e.index == m.sent + 1) false (e.index == m.received + 1) (first e w.0) refl (second e w.0) refl) (receives_from p 1 xs) (receives-within p 1 xs))
      ∙ sym (map-itself move (receives_from p 1 xs) (All-weaker (OnLine p xs) (λ e. move e ≡ e) (λ e w. number_is e false false (first e w.0) (second e w.0)) (receives_from p 1 xs) (receives-within p 1 xs)))
    where
      first : (e : EventNo) → e.instance ≡ p → (e.instance == m.sender) ≡ false
      first e its = differ e.instance m.sender (λ same. unsent (sym its ∙ same))

      second : (e : EventNo) → e.instance ≡ p → (e.instance == m.receiver) ≡ false
      second e its = differ e.instance m.receiver (λ same. unreceived (sym its ∙ same))

  -- a line that has room for the message where it says
  record Stands (l : LineView) : Type 0 where
    sent : l.instance ≡ m.sender → m.sent ≤ length l.events
    received : l.instance ≡ m.receiver → m.received ≤ length l.events

  -- the events of a line with the message, by whose it is
  abbrev events_by : List Event → Bool → Bool → List Event
  events_by xs s r = cond s (insert xs m.sent (send_event m.receiver m.name)) (cond r (insert xs m.received (receive_event m.sender m.name m.region)) xs)

  by_line : (p : ℕ) (xs : List Event) (s r : Bool) → (p == m.sender) ≡ s → (p == m.receiver) ≡ r → (p ≡ m.sender → m.sent ≤ length xs) → (p ≡ m.receiver → m.received ≤ length xs) → filter old (receives_from p 1 (events_by xs s r)) ≡ map move (receives_from p 1 xs)
  by_line p xs true r a b sent received =
      let is = eqb-true p m.sender a in
      on_sender p is (take m.sent xs) (drop m.sent xs) (length-take-le m.sent xs (sent is))
      ∙ ap (λ l. map move (receives_from p 1 l)) (take-append-drop m.sent xs)
  by_line p xs false true a b sent received =
      let is = eqb-true p m.receiver b in
      on_receiver p is (take m.received xs) (drop m.received xs) (length-take-le m.received xs (received is))
      ∙ ap (λ l. map move (receives_from p 1 l)) (take-append-drop m.received xs)
  by_line p xs false false a b sent received =
      on_other p (λ same. false≢true (sym a ∙ eq-eqb p m.sender same)) (λ same. false≢true (sym b ∙ eq-eqb p m.receiver same)) xs

  one_line : (l : LineView) → Stands l → filter old (receives_of (line_with m l)) ≡ map move (receives_of l)
  one_line l stands = by_line l.instance l.events (l.instance == m.sender) (l.instance == m.receiver) refl refl stands.sent stands.received

  all_lines : (lines : List LineView) → All Stands lines → filter old (flat_map receives_of (map (line_with m) lines)) ≡ map move (flat_map receives_of lines)
  all_lines [] each = refl
  all_lines (l ∷ lines) each =
      ap (filter old) (flat_map-cons receives_of (line_with m l) (map (line_with m) lines))
      ∙ filter-append old (receives_of (line_with m l)) (flat_map receives_of (map (line_with m) lines))
      ∙ ap₂ (λ fs bs. fs ++ bs) (one_line l (All-head Stands l lines each)) (all_lines lines (All-tail Stands l lines each))
      ∙ sym (map-append move (receives_of l) (flat_map receives_of lines))
      ∙ ap (map move) (sym (flat_map-cons receives_of l lines))

map-twice : {X Y Z : Type 0} (f : X → Y) (g : Y → Z) (xs : List X) → map g (map f xs) ≡ map (λ x. g (f x)) xs
map-twice f g [] = refl
map-twice f g (x ∷ xs) = ap (λ l. g (f x) ∷ l) (map-twice f g xs)

-- each line of a chart stands so
stand : (m : NewMessage) (lines : List LineView) (with : IsWith m (chart_lines lines) (chart_lines (map (line_with m) lines))) → IsNumbered lines → All (Stands m with.two) lines
stand m lines with numbered i d within =
    let none : LineView = record { instance = suc i; events = [] } in
    let l = get_or lines i d in
    let its = numbered i l (slice_get-get_or lines i d within) in
    let same : get_or lines i none ≡ l = same_Some (get_or lines i none) l (sym (slice_get-get_or lines i none within) ∙ slice_get-get_or lines i d within) in
    let line : chart_lines lines l.instance ≡ l.events = ap (chart_lines lines) its ∙ ap (λ (x : LineView). x.events) same in
    record {
      sent = λ is. subst (λ (es : List Event). m.sent ≤ length es) line (subst (λ q. m.sent ≤ length (chart_lines lines q)) (sym is) with.sent_within);
      received = λ is. subst (λ (es : List Event). m.received ≤ length es) line (subst (λ q. m.received ≤ length (chart_lines lines q)) (sym is) with.received_within);
    }

pub places : PlacesLaw
places m lines olds news numbered with are_olds are_news =
    let receive : ReportView → EventNo = λ (r : ReportView). r.receive in
    filter-map (old m with.two) receive news
    ∙ ap (filter (old m with.two)) are_news.are.receives
    ∙ all_lines m with.two lines (stand m lines with numbered)
    ∙ ap (map (move m with.two)) (sym are_olds.are.receives)
    ∙ map-twice receive (move m with.two) olds
