-- The number of events of each instance, with one more message.
use Rattle.std.proofs.Common.{◌≡◌, ℕ, ◌+◌, ◌<◌, ◌≤◌, Bool, true, false, ◌||◌, List, [], ◌∷◌, None, Some, length, drop, get_or, refl, sym, ap, ◌∙◌}
use Rattle.std.specs.Prelude.{nat_lt}
use Rattle.std.proofs.lemmas.Bool.{lt-ltb, le-ltb}
use Rattle.std.proofs.lemmas.List.{drop_all}
use Rattle.chart.specs.declared.line.TheConstants.{MAX_EVENTS}
use Rattle.diagrams.specs.Full.{receives, load, is_full, full_from}
use Rattle.diagrams.specs.Loads.{AreCounts, AreLoads, raised}
use Rattle.diagrams.specs.declared.message.Message.{Message}
use Rattle.diagrams.proofs.MessagesLemmas.ListLemmas.{from_here}

-- without messages there are no events
pub none_loaded : (table : List ℕ) → AreCounts table (λ p. 0) → AreLoads table []
unfolding load
none_loaded table zeros = zeros

-- one more message
pub loads_next : (table : List ℕ) (m : Message) (earlier : List Message) (n : ℕ) → n ≡ receives m
    → AreCounts table (raised (raised (load earlier) m.sender 1) m.receiver n) → AreLoads table (m ∷ earlier)
unfolding load
loads_next table m earlier n e are = λ p is. are p is ∙ ap (λ k. raised (raised (load earlier) m.sender 1) m.receiver k p) e

-- the sender has too many, or the receiver
pub sender_full : (m : Message) (messages : List Message) (x : ℕ) → x ≡ load messages m.sender → MAX_EVENTS < x → nat_lt MAX_EVENTS x ≡ is_full messages m
sender_full m messages x e more = lt-ltb MAX_EVENTS x more ∙ sym (ap (λ b. b || nat_lt MAX_EVENTS (load messages m.receiver)) (ap (nat_lt MAX_EVENTS) (sym e) ∙ lt-ltb MAX_EVENTS x more))

pub receiver_full : (m : Message) (messages : List Message) (x y : ℕ) → x ≡ load messages m.sender → x ≤ MAX_EVENTS → y ≡ load messages m.receiver → nat_lt MAX_EVENTS y ≡ is_full messages m
receiver_full m messages x y e few f =
    ap (nat_lt MAX_EVENTS) f ∙ sym (ap (λ b. b || nat_lt MAX_EVENTS (load messages m.receiver)) (ap (nat_lt MAX_EVENTS) (sym e) ∙ le-ltb MAX_EVENTS x few))

-- a message with which an instance has too many, and one without
pub full_here : (earlier : List Message) (n : ℕ) (messages : List Message) (m : Message) (full : Bool) → n < length messages → m ≡ get_or messages n m
    → full ≡ is_full (m ∷ earlier) m → full ≡ true → full_from earlier (drop n messages) ≡ Some m.place.line
unfolding full_from
full_here earlier n messages m full within is e true_is = rw (from_here messages n m within is, sym e ∙ true_is) refl

pub full_more : (earlier : List Message) (n : ℕ) (messages : List Message) (m : Message) (full : Bool) → n < length messages → m ≡ get_or messages n m
    → full ≡ is_full (m ∷ earlier) m → full ≡ false → full_from (m ∷ earlier) (drop (n + 1) messages) ≡ full_from earlier (drop n messages)
unfolding full_from
full_more earlier n messages m full within is e false_is = rw (from_here messages n m within is, sym e ∙ false_is) refl

pub full_end : (earlier : List Message) (n : ℕ) (messages : List Message) → length messages ≤ n → full_from earlier (drop n messages) ≡ None
unfolding full_from
full_end earlier n messages past = rw (drop_all n messages past) refl
