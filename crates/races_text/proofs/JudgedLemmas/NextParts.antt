-- Parts of events, one after another.
use Rattle.std.proofs.Common.{◌≡◌, ℕ, zero, suc, true, ◌+◌, ◌<◌, List, [], ◌∷◌, ◌++◌, All, Option, None, Some, length, sym, ap, ap₂, ◌∙◌, subst, arith, append_assoc, append-nil}
use Rattle.std.specs.Prelude.{IfSome, MatchOption}
use Rattle.std.proofs.lemmas.List.{length-append}
use Rattle.std.proofs.lemmas.List.Elements.{All-nil, All-cons, All-append, All-head, All-tail}
use Rattle.chart.specs.declared.instance.EventNo.{EventNo}
use Rattle.chart.specs.declared.ranges.EventRange.{EventRange}
use Rattle.chart.specs.Ranges.{events_from, events_of, is_followed_by}
use Rattle.chart.proofs.RangeLists.{events_from-more, events_from-length, followed-is}
use Rattle.race_verdicts.specs.declared.verdict.Verdict.{Verdict}
use Rattle.races_text.specs.Named.Stretches.{IsShort, IsBehind}
use Rattle.races_text.proofs.NamedLemmas.StretchLemmas.{behind_events}
use Rattle.races_text.specs.declared.judged.part.Part.{Part}
use Rattle.races_text.specs.declared.judged.parts.PartsLeft.{PartsLeft}
use Rattle.races_text.specs.Judged.Parts.{joined_part, events_in, AreApart, AreLongest, IsPart, AreParts}
use Rattle.races_text.specs.Judged.PartsLeft.{IsFirstPart, next_events, listed, events_left, AreLeft, IsNextPart}
use Rattle.races_text.proofs.JudgedLemmas.PartLemmas.{longest_push, whole_push}

pub all_front : (P : EventNo → Type 0) (xs ys : List EventNo) → All P (xs ++ ys) → All P xs
all_front P [] ys all = All-nil P
all_front P (x ∷ xs) ys all = All-cons P x xs (All-head P x (xs ++ ys) all) (all_front P xs ys (All-tail P x (xs ++ ys) all))

pub all_back : (P : EventNo → Type 0) (xs ys : List EventNo) → All P (xs ++ ys) → All P ys
all_back P [] ys all = all
all_back P (x ∷ xs) ys all = all_back P xs ys (All-tail P x (xs ++ ys) all)

-- the first event of a range is one of its events
pub first_of_range : (P : EventNo → Type 0) (r : EventRange) → 0 < r.count → All P (events_of r) → P r.first
first_of_range P r = go r.first r.count
  where
    go : (first : EventNo) (n : ℕ) → 0 < n → All P (events_from first.instance first.index n) → P first
    go first zero some all = absurd (omega (arith, some))
    go first (suc n) some all = All-head P first (events_from first.instance (first.index + 1) n) all

-- fewer events are left
pub fewer_left : (p : Part) (old new : List EventNo) → 0 < p.range.count → old ≡ events_in p ++ new → length new < length old
fewer_left p old new some is = let r = p.range in omega (arith, ap length is, length-append (events_in p) new, events_from-length r.first.instance r.first.index r.count, some)

if_some : {X : Type 0} (A : Type 0) (B : X → Type 0) (o : Option X) → MatchOption o A B → IfSome o B
if_some A B None its = tt
if_some A B (Some x) its = its

-- Pieces.

module _ (is : EventNo → Verdict → Type 0) where
  -- the events of a piece, and then the events that are left
  pub piece_events : (earlier rest : EventRange) (piece : Part) (others : List EventNo) → IsFirstPart is earlier piece → IsBehind earlier piece.range.count rest
      → events_of earlier ++ others ≡ events_in piece ++ (events_of rest ++ others)
  piece_events earlier rest piece others first behind =
      let n = piece.range.count in
      ap (λ es. es ++ others) (behind_events earlier rest n behind) ∙ append_assoc (events_from earlier.first.instance earlier.first.index n) (events_of rest) others
      ∙ ap (λ (e : EventNo). events_from e.instance e.index n ++ (events_of rest ++ others)) (sym first.begins)

  -- the events of two joined parts
  pub events_joined : (p q : Part) → is_followed_by p.range q.range ≡ true → events_in (joined_part p q) ≡ events_in p ++ events_in q
  events_joined p q follows =
      let w = followed-is p.range q.range follows in
      let r = p.range in
      events_from-more r.first.instance r.first.index r.count q.range.count ∙ ap₂ (λ a b. events_in p ++ events_from a b q.range.count) w.0 w.1

  pub part_joined : (p q : Part) → IsPart is p → IsPart is q → p.verdict ≡ q.verdict → is_followed_by p.range q.range ≡ true → IsPart is (joined_part p q)
  part_joined p q of_p of_q same follows =
      let w = followed-is p.range q.range follows in
      let a = of_p.range in
      let b = of_q.range in
      let P : EventNo → Type 0 = λ e. is e p.verdict in
      record {
        range = record { some = let some = a.some in omega (arith, some); within = let within = b.within in let index = w.1 in omega (arith, within, index) };
        verdicts = subst (All P) (sym (events_joined p q follows)) (All-append P (events_in p) (events_in q) of_p.verdicts (subst (λ v. All (λ (e : EventNo). is e v) (events_in q)) (sym same) of_q.verdicts));
      }

  -- The events that are left, by the next piece.

  left_events : (o : Option Part) (old later : List EventNo) → MatchOption o ((old ≡ []) × (later ≡ [])) (λ piece. old ≡ events_in piece ++ later) → next_events o ++ later ≡ old
  left_events None old later its = its.1 ∙ sym its.0
  left_events (Some p) old later its = sym its

  left_ended : (o : Option Part) (old later : List EventNo) → MatchOption o ((old ≡ []) × (later ≡ [])) (λ piece. old ≡ events_in piece ++ later) → o ≡ None → later ≡ []
  left_ended None old later its none = its.1
  left_ended (Some p) old later its none = absurd (cc none)

  pub left_is : (race : EventNo → Type 0) (next : Option Part) (rest : EventRange) (kept old : List EventNo) → IsShort rest → All race (events_of rest ++ kept)
      → MatchOption next ((old ≡ []) × (events_of rest ++ kept ≡ [])) (λ piece. old ≡ events_in piece ++ (events_of rest ++ kept)) → MatchOption next (old ≡ []) (IsPart is)
      → AreLeft race is (record { next = next; rest = rest; kept = kept })
  left_is race next rest kept old short races events piece = record {
    short = short;
    first = if_some (old ≡ []) (IsPart is) next piece;
    races = races;
    ended = left_ended next old (events_of rest ++ kept) events;
  }

  pub left_has : (next : Option Part) (rest : EventRange) (kept old : List EventNo) → MatchOption next ((old ≡ []) × (events_of rest ++ kept ≡ [])) (λ piece. old ≡ events_in piece ++ (events_of rest ++ kept))
      → events_left (record { next = next; rest = rest; kept = kept }) ≡ old
  left_has next rest kept old events = left_events next old (events_of rest ++ kept) events

  -- Parts that are as long as possible.

  longest_as : (parts : List Part) (p q : Part) → q.range.first ≡ p.range.first → q.verdict ≡ p.verdict → AreLongest (parts ++ p ∷ []) → AreLongest (parts ++ q ∷ [])
  longest_as [] p q first verdict are = tt
  longest_as (x ∷ []) p q first verdict are = (apart_as x p q first verdict are.0, tt)
    where
      apart_as : (x p q : Part) → q.range.first ≡ p.range.first → q.verdict ≡ p.verdict → AreApart x p → AreApart x q
      apart_as x p q first verdict apart same = ap (λ (e : EventNo). is_followed_by x.range (record { first = e; count = q.range.count })) first ∙ apart (same ∙ verdict)
  longest_as (x ∷ (y ∷ parts)) p q first verdict are = (are.0, longest_as (y ∷ parts) p q first verdict are.1)

  pub longest_begun : (next : Option Part) → AreLongest ([] ++ listed next)
  longest_begun None = tt
  longest_begun (Some p) = tt

  next_longest : (done : List Part) (part : Part) (next : Option Part) → AreLongest (done ++ part ∷ []) → IfSome next (AreApart part) → AreLongest ((done ++ part ∷ []) ++ listed next)
  next_longest done part None are apart = subst AreLongest (sym (append-nil (done ++ part ∷ []))) are
  next_longest done part (Some q) are apart = longest_push done part q are apart

  module _ (old new : PartsLeft) (done : List Part) (part : Part) (its : IsNextPart is old new part) (are : AreLongest (done ++ listed old.next)) where
    longest_here : AreLongest (done ++ part ∷ [])
    longest_here =
        let w = its.begun in
        longest_as done w.0 part w.2 w.3 (subst (λ (o : Option Part). AreLongest (done ++ listed o)) w.1 are)

    pub longest_next : AreLongest ((done ++ part ∷ []) ++ listed new.next)
    longest_next = next_longest done part new.next longest_here its.apart

    pub parts_next : (begun : List EventNo) → AreParts is begun done → AreParts is (begun ++ events_in part) (done ++ part ∷ [])
    parts_next begun so_far = record {
      each = All-append (IsPart is) done (part ∷ []) so_far.each (All-cons (IsPart is) part [] its.holds (All-nil (IsPart is)));
      whole = whole_push done part ∙ ap (λ es. es ++ events_in part) so_far.whole;
      longest = longest_here;
    }

-- the events that are still to come, after one more part
pub taken_part : (all begun left part rest : List EventNo) → all ≡ begun ++ left → left ≡ part ++ rest → all ≡ (begun ++ part) ++ rest
taken_part all begun left part rest was is = was ∙ ap (λ l. begun ++ l) is ∙ sym (append_assoc begun part rest)
