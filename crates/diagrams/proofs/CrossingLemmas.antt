-- The row furthest down in which a message of each lane is received: with one more message, and as a test of what
-- crosses.
use Rattle.std.proofs.Common.{◌≡◌, ℕ, ◌+◌, ◌<◌, ◌≤◌, ◌==◌, max, Bool, true, false, not, ◌&&◌, ◌||◌, cond, List, [], ◌∷◌, ◌++◌, Option, None, Some, length, drop, take, get_or, refl, sym, ap, ap₂, ◌∙◌, subst, arith, eqb-true}
use Rattle.std.specs.Prelude.{nat_lt}
use Rattle.std.specs.List.{list_any}
use Rattle.std.proofs.lemmas.Bool.{and_parts, and_right, or_parts, le-ltb, leb-true}
use Rattle.std.proofs.lemmas.List.{drop_all, take_more}
use Rattle.diagrams.specs.Collecting.{first_line}
use Rattle.diagrams.specs.Crossing.{is_received, overtakes, crosses, fault_beside, fault_with, fault_from, is_known}
use Rattle.diagrams.specs.Ends.{furthest, AreFurthest}
use Rattle.diagrams.specs.Lanes.{is_on, Numbers, AreNumbers, changed}
use Rattle.diagrams.specs.declared.message.Message.{Message}
use Rattle.diagrams.proofs.MessagesLemmas.ListLemmas.{from_here}
use Rattle.diagrams.proofs.LaneTables.{numbers-same}

-- a lost message isn't received
lost_never : (m : Message) (q p : ℕ) → m.is_lost ≡ true → is_received q p m ≡ false
lost_never m q p lost = and_right (is_on q p m) (not m.is_lost) (ap not lost)

-- a lost message changes no lane's row
pub lost_same : (m : Message) (earlier : List Message) → m.is_lost ≡ true → (q p : ℕ) → furthest earlier q p ≡ furthest (m ∷ earlier) q p
unfolding furthest
lost_same m earlier lost q p = rw (lost_never m q p lost) refl

-- the row of its own lane changes, and those of the others stay
at_lane : (its : Bool) (f : Numbers) (a b q p n : ℕ) → (a == q && b == p) ≡ its → cond its (max n (f a b)) (f q p) ≡ cond (its && true) (max n (f q p)) (f q p)
at_lane true f a b q p n same =
    let ends = and_parts (a == q) (b == p) same in
    ap₂ (λ x y. max n (f x y)) (eqb-true a q ends.0) (eqb-true b p ends.1)
at_lane false f a b q p n same = refl

pub received_next : (m : Message) (earlier : List Message) → m.is_lost ≡ false → (q p : ℕ)
    → changed (furthest earlier) m.sender m.receiver (max m.ends (furthest earlier m.sender m.receiver)) q p ≡ furthest (m ∷ earlier) q p
unfolding furthest
received_next m earlier stays q p = rw stays (at_lane (m.sender == q && m.receiver == p) (furthest earlier) m.sender m.receiver q p m.ends refl)

-- a row is above the lower of two rows if it is above either of them
below_either : (e a b : ℕ) → nat_lt e (max a b) ≡ (nat_lt e a || nat_lt e b)
below_either e a b = grind arith

-- crossing, decided by the row furthest down
over_at : (its : Bool) (e ends row : ℕ) (rest : Bool) → rest ≡ nat_lt e row → ((its && nat_lt e ends) || rest) ≡ nat_lt e (cond its (max ends row) row)
over_at true e ends row rest same = ap (λ b. nat_lt e ends || b) same ∙ sym (below_either e ends row)
over_at false e ends row rest same = same

pub crosses_by : (earlier : List Message) (m : Message) → m.is_lost ≡ false → crosses earlier m ≡ nat_lt m.ends (furthest earlier m.sender m.receiver)
unfolding crosses furthest
crosses_by [] m stays = sym (le-ltb m.ends 0 (omega arith))
crosses_by (n ∷ earlier) m stays =
    ap (λ b. (not b && (is_received m.sender m.receiver n && nat_lt m.ends n.ends)) || list_any (λ x. overtakes m x) earlier) stays
    ∙ over_at (is_received m.sender m.receiver n) m.ends n.ends (furthest earlier m.sender m.receiver) _ (crosses_by earlier m stays)

-- a lost message crosses none
pub crosses_none : (earlier : List Message) (m : Message) → m.is_lost ≡ true → crosses earlier m ≡ false
unfolding crosses
crosses_none [] m lost = refl
crosses_none (n ∷ earlier) m lost =
    ap (λ b. (not b && (is_received m.sender m.receiver n && nat_lt m.ends n.ends)) || list_any (λ x. overtakes m x) earlier) lost ∙ crosses_none earlier m lost

-- a message that crosses none leaves the fault as it is
pub fault_stays : (fault : Option ℕ) (m : Message) (earlier : List Message) → crosses earlier m ≡ false → fault_with fault m earlier ≡ fault
unfolding crosses fault_with
fault_stays fault m [] none = refl
fault_stays fault m (n ∷ earlier) none =
    let parts = or_parts (overtakes m n) (list_any (λ x. overtakes m x) earlier) none in
    rw parts.0 (fault_stays fault m earlier parts.1)

-- so does a message whose line isn't above the fault
beside_known : (fault : Option ℕ) (m n : Message) → is_known fault m.whole ≡ true → fault_beside fault m n ≡ fault
beside_known None m n known = absurd (cc known)
beside_known (Some k) m n known = go (overtakes m n)
  where
    go : (its : Bool) → cond its (first_line (Some k) (max m.whole n.whole)) (Some k) ≡ Some k
    go true = let above = leb-true k m.whole known in ap (λ b. cond b (Some (max m.whole n.whole)) (Some k)) (le-ltb (max m.whole n.whole) k (grind arith))
    go false = refl

pub fault_known : (fault : Option ℕ) (m : Message) (earlier : List Message) → is_known fault m.whole ≡ true → fault_with fault m earlier ≡ fault
unfolding fault_with
fault_known fault m [] known = refl
fault_known fault m (n ∷ earlier) known = ap (λ f. fault_with f m earlier) (beside_known fault m n known) ∙ fault_known fault m earlier known

-- one more earlier message
pub beside_more : (fault more : Option ℕ) (m : Message) (n : ℕ) (earlier : List Message) (other : Message) → n < length earlier → other ≡ get_or earlier n other
    → more ≡ fault_beside fault m other → fault_with more m (drop (n + 1) earlier) ≡ fault_with fault m (drop n earlier)
unfolding fault_with
beside_more fault more m n earlier other within is e = rw (from_here earlier n other within is, e) refl

pub beside_end : (fault : Option ℕ) (m : Message) (n : ℕ) (earlier : List Message) → length earlier ≤ n → fault_with fault m (drop n earlier) ≡ fault
unfolding fault_with
beside_end fault m n earlier past = rw (drop_all n earlier past) refl

-- the row furthest down is the same, wherever a message is in the list
furthest_push : (earlier : List Message) (m : Message) (q p : ℕ) → furthest (earlier ++ m ∷ []) q p ≡ furthest (m ∷ earlier) q p
unfolding furthest
furthest_push [] m q p = refl
furthest_push (n ∷ earlier) m q p = go (is_received q p n) (is_received q p m) (furthest_push earlier m q p)
  where
    go : (its other : Bool) → furthest (earlier ++ m ∷ []) q p ≡ cond other (max m.ends (furthest earlier q p)) (furthest earlier q p)
        → cond its (max n.ends (furthest (earlier ++ m ∷ []) q p)) (furthest (earlier ++ m ∷ []) q p)
        ≡ cond other (max m.ends (cond its (max n.ends (furthest earlier q p)) (furthest earlier q p))) (cond its (max n.ends (furthest earlier q p)) (furthest earlier q p))
    go true true e = ap (max n.ends) e ∙ exchanged n.ends m.ends (furthest earlier q p)
      where
        exchanged : (a b c : ℕ) → max a (max b c) ≡ max b (max a c)
        exchanged a b c = grind arith
    go true false e = ap (max n.ends) e
    go false true e = e
    go false false e = e

pub furthest_next : (table : List ℕ) (m : Message) (earlier : List Message) → AreFurthest table (m ∷ earlier) → AreFurthest table (earlier ++ m ∷ [])
furthest_next table m earlier are = numbers-same table _ _ (λ q p. sym (furthest_push earlier m q p)) are

-- one more message
pub fault_more : (fault more : Option ℕ) (n : ℕ) (messages : List Message) (m : Message) → n < length messages → m ≡ get_or messages n m
    → more ≡ fault_with fault m (take n messages)
    → fault_from more (take (n + 1) messages) (drop (n + 1) messages) ≡ fault_from fault (take n messages) (drop n messages)
unfolding fault_from
fault_more fault more n messages m within is e =
    rw (from_here messages n m within is, e, take_more messages n m within) (ap (λ x. fault_from (fault_with fault m (take n messages)) (take n messages ++ x ∷ []) (drop (n + 1) messages)) (sym is))

pub furthest_more : (table : List ℕ) (n : ℕ) (messages : List Message) (m : Message) → n < length messages → m ≡ get_or messages n m
    → AreFurthest table (take n messages ++ m ∷ []) → AreFurthest table (take (n + 1) messages)
furthest_more table n messages m within is are = subst (AreFurthest table) (ap (λ x. take n messages ++ x ∷ []) is ∙ sym (take_more messages n m within)) are

-- all messages
pub fault_end : (fault : Option ℕ) (n : ℕ) (messages : List Message) → length messages ≤ n → fault_from fault (take n messages) (drop n messages) ≡ fault
unfolding fault_from
fault_end fault n messages past = rw (drop_all n messages past) refl

-- without messages none is received
pub none_furthest : (table : List ℕ) → AreNumbers table (λ q p. 0) → AreFurthest table []
unfolding furthest
none_furthest table zeros = zeros
