-- The turns of a lane: among the events of a host's line that pass, the n-th is of the n-th message that passes.
use Rattle.std.proofs.Common.{◌≡◌, ℕ, zero, suc, ◌+◌, ◌≤◌, ◌==◌, ◌&&◌, not, Bool, true, false, cond, List, [], ◌∷◌, ◌++◌, length, take, map, Some, count_by, refl, sym, ap, ◌∙◌, subst, arith}
use Rattle.std.proofs.lemmas.Option.{none-some, same_Some}
use Rattle.std.proofs.lemmas.List.Sums.{sum_by-cons}
use Rattle.std.proofs.lemmas.List.{length-append}
use Rattle.chart.specs.Events.{is_send_to, is_receive_from, name_of, send_event, receive_event, ith, tally}
use Rattle.chart.specs.declared.event.Event.{Event}
use Rattle.chart.proofs.Tally.{ith_within, ith-append, tally-le-count_by}
use Rattle.log_chart.specs.Laws.{AreOfLanes, sent_to, received_from, line_of}
use Rattle.log_chart.specs.declared.entry.Entry.{Entry}
use Rattle.log_chart.specs.declared.item.Item.{Item}
use Rattle.log_chart.specs.declared.item.MessageNo.{MessageNo}
use Rattle.log_chart.specs.declared.item.MessageNo.TheVariants.{Sent}
use Rattle.log_chart.proofs.LawLemmas.{lane_in_order}
use Rattle.log_chart.specs.Charts.ChartLines.{message_name, event_of}

-- an element of a list of values, by its place
pub ith_of : {A B : Type 0} (f : A → B) (xs : List A) (i : ℕ) (y : B) → ith (map f xs) i ≡ Some y → (x : A) × (ith xs i ≡ Some x) × (f x ≡ y)
ith_of f xs zero y is = absurd (none-some y is)
ith_of f [] (suc i) y is = absurd (none-some y is)
ith_of f (x ∷ xs) (suc zero) y is = (x, refl, same_Some (f x) y is)
ith_of f (x ∷ xs) (suc (suc i)) y is = ith_of f xs (suc i) y is

-- what kind an event is
pub event_sends : (log : List Entry) (p : ℕ) (x : Item) → is_send_to p (event_of log x) ≡ (x.sends && x.partner == p)
event_sends log p x = go x.sends
  where
    go : (b : Bool) → is_send_to p (cond b (send_event x.partner (message_name log x)) (receive_event x.partner (message_name log x) 0)) ≡ (b && x.partner == p)
    go true = refl
    go false = refl

pub event_receives : (log : List Entry) (q : ℕ) (x : Item) → is_receive_from q (event_of log x) ≡ (not x.sends && x.partner == q)
event_receives log q x = go x.sends
  where
    go : (b : Bool) → is_receive_from q (cond b (send_event x.partner (message_name log x)) (receive_event x.partner (message_name log x) 0)) ≡ (not b && x.partner == q)
    go true = refl
    go false = refl

pub event_name : (log : List Entry) (x : Item) → name_of (event_of log x) ≡ message_name log x
event_name log x = go x.sends
  where
    go : (b : Bool) → name_of (cond b (send_event x.partner (message_name log x)) (receive_event x.partner (message_name log x) 0)) ≡ message_name log x
    go true = refl
    go false = refl

-- the messages of the events that pass
abbrev Chosen : (Item → Bool) → List Item → List MessageNo
Chosen test [] = []
Chosen test (x ∷ items) = cond (test x) (x.message ∷ Chosen test items) (Chosen test items)

sent_chosen : (p : ℕ) (items : List Item) → sent_to p items ≡ Chosen (λ x. x.sends && x.partner == p) items
sent_chosen p [] = refl
sent_chosen p (x ∷ items) = ap (λ l. cond (x.sends && x.partner == p) (x.message ∷ l) l) (sent_chosen p items)

received_chosen : (q : ℕ) (items : List Item) → received_from q items ≡ Chosen (λ x. not x.sends && x.partner == q) items
received_chosen q [] = refl
received_chosen q (x ∷ items) = ap (λ l. cond (not x.sends && x.partner == q) (x.message ∷ l) l) (received_chosen q items)

-- one more element at the front, if it passes
shifted : (b : Bool) (l : List MessageNo) (y m : MessageNo) (t n : ℕ) → ith l t ≡ Some m → n ≡ cond b 1 0 + t → ith (cond b (y ∷ l) l) n ≡ Some m
shifted true l y m zero n is e = absurd (none-some m is)
shifted true l y m (suc t) n is e = let same : n ≡ suc (suc t) = omega (arith, e) in subst (λ k. ith (y ∷ l) k ≡ Some m) (sym same) is
shifted false l y m t n is e = let same : n ≡ t = omega (arith, e) in subst (λ k. ith l k ≡ Some m) (sym same) is

module _ (test : Item → Bool) (passes : Event → Bool) (event : Item → Event) (agree : (x : Item) → passes (event x) ≡ test x) where
  counted : (x : Item) (events : List Event) → count_by passes (event x ∷ events) ≡ cond (test x) 1 0 + count_by passes events
  counted x events = sum_by-cons (λ m. cond (passes m) 1 0) (event x) events ∙ ap (λ b. cond b 1 0 + count_by passes events) (agree x)

  turn_at : (items : List Item) (i : ℕ) (x : Item) → ith items i ≡ Some x → test x ≡ true → ith (Chosen test items) (tally passes (map event items) i) ≡ Some x.message
  turn_at items zero x is its = absurd (none-some x is)
  turn_at [] (suc i) x is its = absurd (none-some x is)
  turn_at (y ∷ items) (suc zero) x is its =
      let same : y ≡ x = same_Some y x is in
      let passing : test y ≡ true = ap test same ∙ its in
      let one : tally passes (map event (y ∷ items)) (suc zero) ≡ suc zero = counted y (take zero (map event items)) ∙ ap (λ b. cond b 1 0 + count_by passes (take zero (map event items))) passing in
      subst (λ k. ith (Chosen test (y ∷ items)) k ≡ Some x.message) (sym one) (rw passing (ap (λ (z : Item). Some z.message) same))
  turn_at (y ∷ items) (suc (suc i)) x is its =
      shifted (test y) (Chosen test items) y.message x.message (tally passes (map event items) (suc i)) (tally passes (map event (y ∷ items)) (suc (suc i))) (turn_at items (suc i) x is its)
      (counted y (take (suc i) (map event items)))

  count_chosen : (items : List Item) → count_by passes (map event items) ≡ length (Chosen test items)
  count_chosen [] = refl
  count_chosen (y ∷ items) = go (test y) (counted y (map event items)) (count_chosen items)
    where
      go : (b : Bool) → count_by passes (map event (y ∷ items)) ≡ cond b 1 0 + count_by passes (map event items) → count_by passes (map event items) ≡ length (Chosen test items)
          → count_by passes (map event (y ∷ items)) ≡ length (cond b (y.message ∷ Chosen test items) (Chosen test items))
      go true e rest = omega (arith, e, rest)
      go false e rest = omega (arith, e, rest)

-- the turns of a lane of a log
module _ (n : ℕ) (from to : ℕ → ℕ) (log : List Entry) (lanes : AreOfLanes from to log) (q p : ℕ) (low : 1 ≤ p) (high : p ≤ n) where
  in_order : (rest : List ℕ) × (Chosen (λ x. x.sends && x.partner == p) (line_of n log q) ≡ Chosen (λ x. not x.sends && x.partner == q) (line_of n log p) ++ map Sent rest)
  in_order =
      let law = lane_in_order n from to log lanes q p low high in
      (law.0, sym (sent_chosen p (line_of n log q)) ∙ law.1 ∙ ap (λ l. l ++ map Sent law.0) (received_chosen q (line_of n log p)))

  -- the message of a receive is that of its send
  pub received_is : (i j : ℕ) (x y : Item) → ith (line_of n log q) i ≡ Some x → (x.sends && x.partner == p) ≡ true → ith (line_of n log p) j ≡ Some y → (not y.sends && y.partner == q) ≡ true
      → tally (is_send_to p) (map (event_of log) (line_of n log q)) i ≡ tally (is_receive_from q) (map (event_of log) (line_of n log p)) j → x.message ≡ y.message
  received_is i j x y x_is sends y_is receives turn =
      let one = turn_at (λ z. z.sends && z.partner == p) (is_send_to p) (event_of log) (event_sends log p) (line_of n log q) i x x_is sends in
      let other = turn_at (λ z. not z.sends && z.partner == q) (is_receive_from q) (event_of log) (event_receives log q) (line_of n log p) j y y_is receives in
      let got = Chosen (λ z. not z.sends && z.partner == q) (line_of n log p) in
      let t = tally (is_receive_from q) (map (event_of log) (line_of n log p)) j in
      let within = ith_within got t y.message other in
      same_Some x.message y.message (sym one ∙ ap (λ l. ith l (tally (is_send_to p) (map (event_of log) (line_of n log q)) i)) in_order.1 ∙ ap (ith (got ++ map Sent in_order.0)) turn
      ∙ ith-append got (map Sent in_order.0) t within.1 ∙ other)

  -- as many messages were sent
  pub sent_enough : (j : ℕ) → tally (is_receive_from q) (map (event_of log) (line_of n log p)) j ≤ count_by (is_send_to p) (map (event_of log) (line_of n log q))
  sent_enough j =
      let up = tally-le-count_by (is_receive_from q) (map (event_of log) (line_of n log p)) j in
      let got = count_chosen (λ z. not z.sends && z.partner == q) (is_receive_from q) (event_of log) (event_receives log q) (line_of n log p) in
      let gave = count_chosen (λ z. z.sends && z.partner == p) (is_send_to p) (event_of log) (event_sends log p) (line_of n log q) in
      let all = ap length in_order.1 in
      let joined = length-append (Chosen (λ z. not z.sends && z.partner == q) (line_of n log p)) (map Sent in_order.0) in
      omega (arith, up, got, gave, all, joined)
