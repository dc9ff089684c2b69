-- Looks at one lane after another, none of which found a message so far.
use Rattle.std.proofs.Common.{◌≡◌, ◌≢◌, ℕ, zero, suc, ◌+◌, ◌-◌, ◌<◌, ◌≤◌, ◌==◌, ◌&&◌, not, Bool, true, false, cond, List, [], ◌∷◌, ◌++◌, refl, sym, ap, ◌∙◌, subst, arith, append_assoc}
use Rattle.std.specs.Prelude.{filter}
use Rattle.std.specs.List.{range_with_len}
use Rattle.std.proofs.lemmas.List.Elements.{filter-append}
use Rattle.std.proofs.lemmas.Bool.{eq-eqb, ne_eqb}
use Rattle.chart.specs.Histories.{own}
use Rattle.chart.proofs.Histories.{begins_onward, begins_same, none_begins}
use Rattle.chart.proofs.Scans.{range-next}
use Rattle.board.specs.Views.{PostView, Sound, Stays}
use Rattle.board.specs.Taking.{IsFoundEmpty, Waits}
use Rattle.board.specs.Peeking.{others, ArePeeked, IsFirstWaiting}

pub and_true : (b : Bool) → b && true ≡ b
and_true true = refl
and_true false = refl

pub and_false : (b : Bool) → b && false ≡ false
and_false true = refl
and_false false = refl

pub and_assoc : (a b c : Bool) → (a && b) && c ≡ a && (b && c)
and_assoc true b c = refl
and_assoc false b c = refl

-- soundness is transitive: over one call and then another
pub sound-onward : (old mid new : PostView) → Sound old mid → Sound mid new → Sound old new
sound-onward old mid new earlier later = record {
  same = record { board = later.same.board ∙ earlier.same.board; number = later.same.number ∙ earlier.same.number };
  later = begins_onward old.seen mid.seen new.seen earlier.later later.later;
  legal = later.legal;
  own = later.own;
  looks = omega (arith, earlier.looks, later.looks);
}

-- of the lanes from the numbers above a and up to b, except p: the lane from a + 1 comes first, unless a + 1 is p
pub next-other : (p a b : ℕ) → a < b → a + 1 ≢ p → others p a b ≡ (a + 1) ∷ others p (a + 1) b
next-other p a b less other = let ne = ne_eqb (a + 1) p other in rw (range-next a b less, ne)

pub next-own : (p a b : ℕ) → a < b → a + 1 ≡ p → others p a b ≡ others p (a + 1) b
next-own p a b less own = let same = eq-eqb (a + 1) p own in rw (range-next a b less, same)

-- one more lane
peeked-next : (old mid new : PostView) (order : List ℕ) (its_end : Bool) (q : ℕ) (b : Bool) → ArePeeked old order its_end mid → Sound mid new → Stays mid new → IsFoundEmpty mid q b new → ArePeeked old (order ++ q ∷ []) (its_end && b) new
peeked-next old mid new [] its_end q b done sound stays empty =
    (new, b, true, subst (λ x. Sound x new) done.0 sound, subst (λ x. Stays x new) done.0 stays, subst (λ x. IsFoundEmpty x q b new) done.0 empty, (refl, refl), ap (λ e. e && b) done.1 ∙ sym (and_true b))
peeked-next old mid new (x ∷ order) its_end q b done sound stays empty =
    (done.0, done.1, done.2 && b, done.3, done.4, done.5, peeked-next done.0 mid new order done.2 q b done.6 sound stays empty, ap (λ e. e && b) done.7 ∙ and_assoc done.1 done.2 b)

-- A post after looks at the first of these lanes, which found no message; `rest` has the others.
pub record HasPeeked (old : PostView) (order rest : List ℕ) (its_end : Bool) (now : PostView) : Type 0 where
  pub sound : Sound old now
  pub done : (done : List ℕ) × (done ++ rest ≡ order) × ArePeeked old done its_end now

module _ (old mid : PostView) (order : List ℕ) (p a b : ℕ) (its_end : Bool) (less : a < b) (peeked : HasPeeked old order (others p a b) its_end mid) where
  -- the post's own number is passed over
  pub own-passed : suc a ≡ p → HasPeeked old order (others p (a + 1) b) its_end mid
  own-passed own = subst (λ rest. HasPeeked old order rest its_end mid) (next-own p a b less (omega (arith, own))) peeked

  module _ (other : suc a ≢ p) (new : PostView) (later : Sound mid new) (stays : Stays mid new) where
    first : others p a b ≡ suc a ∷ others p (a + 1) b
    first = let number : a + 1 ≡ suc a = omega arith in next-other p a b less (λ same. other (omega (arith, same))) ∙ ap (λ q. q ∷ others p (a + 1) b) number

    -- the next lane has no message
    pub none-there : (found : Bool) → IsFoundEmpty mid (suc a) found new → HasPeeked old order (others p (a + 1) b) (its_end && found) new
    none-there found empty =
        let w = peeked.done in
        record {
          sound = sound-onward old mid new peeked.sound later;
          done = (w.0 ++ suc a ∷ [], append_assoc w.0 (suc a ∷ []) (others p (a + 1) b) ∙ ap (λ rest. w.0 ++ rest) (sym first) ∙ w.1, peeked-next old mid new w.0 its_end (suc a) found w.2 later stays empty);
        }

    -- the next lane has a message
    pub first-there : Waits mid (suc a) new → IsFirstWaiting old order (suc a) new
    first-there waits =
        let w = peeked.done in
        record { before = w.0; after = others p (a + 1) b; order_is = sym w.1 ∙ ap (λ rest. w.0 ++ rest) first; mid = mid; its_end = its_end; empty = w.2; later = later; stays = stays; waits = waits }

-- the numbers from s on, in two parts
range-cut : (s m k : ℕ) → range_with_len s m ++ range_with_len (s + m) k ≡ range_with_len s (m + k)
range-cut s zero k =
    let same : s + 0 ≡ s = omega arith in
    let all : 0 + k ≡ k = omega arith in
    ap (λ x. range_with_len x k) same ∙ sym (ap (range_with_len s) all)
range-cut s (suc m) k =
    let same : s + suc m ≡ s + 1 + m = omega arith in
    let more : suc m + k ≡ suc (m + k) = omega arith in
    ap (λ x. s ∷ (range_with_len (s + 1) m ++ range_with_len x k)) same ∙ ap (λ xs. s ∷ xs) (range-cut (s + 1) m k) ∙ sym (ap (range_with_len s) more)

-- the lanes up to a number, and the rest
pub others-cut : (p a r to : ℕ) → a ≤ r → r ≤ to → others p a r ++ others p r to ≡ others p a to
others-cut p a r to low high =
    let next : r + 1 ≡ a + 1 + (r - a) = omega (arith, low) in
    let all : r - a + (to - r) ≡ to - a = omega (arith, low, high) in
    sym (filter-append (λ q. not (q == p)) (range_with_len (a + 1) (r - a)) (range_with_len (r + 1) (to - r)))
    ∙ ap (filter (λ q. not (q == p))) (ap (λ x. range_with_len (a + 1) (r - a) ++ range_with_len x (to - r)) next ∙ range-cut (a + 1) (r - a) (to - r) ∙ ap (range_with_len (a + 1)) all)

-- only the lane from the next number, which isn't p
others-one : (p b : ℕ) → suc b ≢ p → others p b (suc b) ≡ suc b ∷ []
others-one p b other =
    let one : suc b - b ≡ 1 = omega arith in
    let number : b + 1 ≡ suc b = omega arith in
    let ne = ne_eqb (b + 1) p (λ same. other (omega (arith, same))) in
    ap (λ m. filter (λ q. not (q == p)) (range_with_len (b + 1) m)) one ∙ ap (λ x. cond (not x) ((b + 1) ∷ []) []) ne ∙ ap (λ x. x ∷ []) number

-- no lane
others-none : (p a : ℕ) → others p a a ≡ []
others-none p a = let none : a - a ≡ 0 = omega arith in ap (λ m. filter (λ q. not (q == p)) (range_with_len (a + 1) m)) none

-- looks, and then more looks
pub peeked-append : (old mid new : PostView) (order more : List ℕ) (e f : Bool) → ArePeeked old order e mid → ArePeeked mid more f new → ArePeeked old (order ++ more) (e && f) new
peeked-append old mid new [] more e f done later = subst (λ b. ArePeeked old more b new) (ap (λ b. b && f) (sym done.1)) (subst (λ x. ArePeeked x more f new) done.0 later)
peeked-append old mid new (x ∷ order) more e f done later =
    (done.0, done.1, done.2 && f, done.3, done.4, done.5, peeked-append done.0 mid new order more done.2 f done.6 later, ap (λ b. b && f) done.7 ∙ and_assoc done.1 done.2 f)

-- A post after looks at the lanes from the numbers above a and up to b, none of which is p: all were found open and
-- without a message.
pub record HasPassed (old : PostView) (p a b : ℕ) (now : PostView) : Type 0 where
  pub sound : Sound old now
  pub within : a ≤ b
  pub peeked : ArePeeked old (others p a b) (b == a) now

-- no lane yet
pub passed-none : (old : PostView) (p a : ℕ) → Sound old old → HasPassed old p a a old
passed-none old p a sound = record {
  sound = sound;
  within = omega arith;
  peeked = subst (λ xs. ArePeeked old xs (a == a) old) (sym (others-none p a)) (refl, eq-eqb a a refl);
}

-- one more lane
pub passed-next : (old mid new : PostView) (p a b c : ℕ) → HasPassed old p a b mid → suc b ≢ p → Sound mid new → Stays mid new → IsFoundEmpty mid (suc b) false new → c ≡ suc b → HasPassed old p a c new
passed-next old mid new p a b c passed other later stays empty next =
    let more : a ≤ suc b = omega (arith, passed.within) in
    let open_ = peeked-next old mid new (others p a b) (b == a) (suc b) false passed.peeked later stays empty in
    let lanes : others p a b ++ suc b ∷ [] ≡ others p a (suc b) = ap (λ xs. others p a b ++ xs) (sym (others-one p b other)) ∙ others-cut p a b (suc b) passed.within (omega arith) in
    let ends : (b == a) && false ≡ (suc b == a) = and_false (b == a) ∙ sym (ne_eqb (suc b) a (λ same. absurd (omega (arith, same, passed.within)))) in
    subst (λ x. HasPassed old p a x new) (sym next) (record {
      sound = sound-onward old mid new passed.sound later;
      within = more;
      peeked = subst (λ e. ArePeeked old (others p a (suc b)) e new) ends (subst (λ xs. ArePeeked old xs ((b == a) && false) new) lanes open_);
    })

-- passed lanes as part of the rest of a scan
pub lanes-passed : (old mid new : PostView) (order : List ℕ) (p a b to : ℕ) (its_end : Bool) → HasPeeked old order (others p a to) its_end mid → Sound mid new → a ≤ b → b ≤ to → ArePeeked mid (others p a b) (b == a) new → HasPeeked old order (others p b to) (its_end && (b == a)) new
lanes-passed old mid new order p a b to its_end peeked later low high passed =
    let w = peeked.done in
    record {
      sound = sound-onward old mid new peeked.sound later;
      done = (w.0 ++ others p a b, append_assoc w.0 (others p a b) (others p b to) ∙ ap (λ xs. w.0 ++ xs) (others-cut p a b to low high) ∙ w.1, peeked-append old mid new w.0 (others p a b) its_end (b == a) w.2 passed);
    }

-- a sound post is sound from itself
pub sound-again : (old new : PostView) → Sound old new → Sound new new
sound-again old new s = record { same = record { board = refl; number = refl }; later = begins_same new.seen; legal = s.legal; own = s.own; looks = omega arith }

pub stays-again : (post : PostView) → Stays post post
stays-again post = record { made = refl; region = refl; room = refl }

-- what a look finds on a lane also holds for a post that made one more look before
module _ (old mid late new : PostView) (q : ℕ) (first : Sound old mid) (later : Sound mid late) (stays : Stays mid late) where
  pub empty-since : (b : Bool) → IsFoundEmpty late q b new → IsFoundEmpty mid q b new
  empty-since b empty =
      let same : own late.seen mid.number ≡ own mid.seen mid.number = ap (own late.seen) (sym later.same.number) ∙ later.own ∙ stays.made ∙ sym first.own in
      record {
        two = rw (later.same.board, later.same.number) at empty.two;
        waits = empty.waits;
        closed = empty.closed;
        before = none_begins mid.seen late.seen later.later q mid.number same (rw later.same.number at empty.before);
        looked = omega (arith, later.looks, empty.looked);
      }

  pub waits-since : Waits late q new → Waits mid q new
  waits-since w = record { two = rw (later.same.board, later.same.number) at w.two; waits = w.waits }

  pub stays-since : Stays late new → Stays mid new
  stays-since on = record { made = on.made ∙ stays.made; region = on.region ∙ stays.region; room = on.room ∙ stays.room }
