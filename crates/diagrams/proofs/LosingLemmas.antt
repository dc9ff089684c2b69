-- The lanes on which later messages are received, with one more message; and the lost messages that are skipped by
-- them.
use Rattle.std.proofs.Common.{◌≡◌, ℕ, suc, ◌+◌, ◌≤◌, ◌==◌, Bool, true, false, not, ◌&&◌, ◌||◌, cond, List, [], ◌∷◌, ◌++◌, length, drop, get_or, reverse, refl, sym, ap, ◌∙◌, subst, arith, drop-cons}
use Rattle.std.proofs.lemmas.Bool.{and_right}
use Rattle.std.proofs.lemmas.List.{drop_all, reverse-append}
use Rattle.diagrams.specs.Lanes.{is_on, AreNumbers, changed}
use Rattle.diagrams.specs.Later.{mark, AreMarked}
use Rattle.diagrams.specs.LeftOuts.{with_one}
use Rattle.diagrams.specs.Losing.{is_received_later, is_left_out, kept, with_lost}
use Rattle.diagrams.specs.declared.left_out.LeftOut.{LeftOut}
use Rattle.diagrams.specs.declared.left_out.Kind.TheVariants as kinds
use Rattle.diagrams.specs.declared.message.Message.{Message}

-- a lost message marks no lane
pub lost_marks : (m : Message) (later : List Message) → m.is_lost ≡ true → (q p : ℕ) → mark (is_received_later later q p) ≡ mark (is_received_later (m ∷ later) q p)
unfolding is_received_later
lost_marks m later lost q p = rw (and_right (is_on q p m) (not m.is_lost) (ap not lost)) refl

-- a received message marks its lane
mark_lane : (its : Bool) (rest : Bool) → cond its 1 (mark rest) ≡ mark ((its && true) || rest)
mark_lane true rest = refl
mark_lane false rest = refl

pub received_marks : (m : Message) (later : List Message) → m.is_lost ≡ false → (q p : ℕ)
    → changed (λ a b. mark (is_received_later later a b)) m.sender m.receiver 1 q p ≡ mark (is_received_later (m ∷ later) q p)
unfolding is_received_later
received_marks m later stays q p = rw stays (mark_lane (m.sender == q && m.receiver == p) (is_received_later later q p))

-- no message is received after the last one
pub none_marked : (table : List ℕ) (messages : List Message) (n : ℕ) → n ≡ length messages → AreNumbers table (λ q p. 0) → AreMarked table (drop n messages)
unfolding is_received_later
none_marked table messages n all zeros = rw (drop_all n messages (omega arith)) zeros

-- the messages from one on
pub one_before : (messages : List Message) (n k : ℕ) (m : Message) → n ≤ length messages → k + 1 ≡ n → m ≡ get_or messages k m → drop k messages ≡ m ∷ drop n messages
one_before messages n k m within less is = (let next : suc k ≡ n = omega arith in subst (λ l. drop k messages ≡ m ∷ drop l messages) next (drop-cons messages k m (omega arith) ∙ ap (λ x. x ∷ drop (suc k) messages) (sym is)))

-- a message that stays, and one that doesn't
pub stays : (m : Message) (later : List Message) → is_left_out m later ≡ false → kept (m ∷ later) ≡ m ∷ kept later
unfolding kept
stays m later not_out = rw not_out refl

pub goes : (m : Message) (later : List Message) → is_left_out m later ≡ true → kept (m ∷ later) ≡ kept later
unfolding kept
goes m later out = rw out refl

pub stays_lost : (left_out : List LeftOut) (m : Message) (later : List Message) → is_left_out m later ≡ false → with_lost left_out (m ∷ later) ≡ with_lost left_out later
unfolding with_lost
stays_lost left_out m later not_out = rw not_out refl

pub goes_lost : (left_out : List LeftOut) (m : Message) (later : List Message) → is_left_out m later ≡ true → with_lost left_out (m ∷ later) ≡ with_one (with_lost left_out later) kinds.LostMessage m.place
unfolding with_lost
goes_lost left_out m later out = rw out refl

-- after the last message nothing is kept
pub nothing_kept : (messages : List Message) → kept (drop (length messages) messages) ≡ []
unfolding kept
nothing_kept messages = rw (drop_all (length messages) messages (omega arith)) refl

pub nothing_lost : (left_out : List LeftOut) (messages : List Message) → with_lost left_out (drop (length messages) messages) ≡ left_out
unfolding with_lost
nothing_lost left_out messages = rw (drop_all (length messages) messages (omega arith)) refl

-- an element appended to a list is the first of the reversed list
pub put_behind : {A : Type 0} (xs : List A) (x : A) → reverse (xs ++ x ∷ []) ≡ x ∷ reverse xs
put_behind xs x = reverse-append xs (x ∷ [])
