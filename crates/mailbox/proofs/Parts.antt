-- The scan in its two parts: the instances after the last one, and those up to it.
use Rattle.std.proofs.Common.{◌≡◌, ℕ, ◌+◌, ◌-◌, ◌≤◌, ◌==◌, ◌&&◌, not, Bool, true, false, List, ◌∷◌, ◌++◌, length, sym, ap, ◌∙◌, subst, arith, append_assoc}
use Rattle.std.specs.Prelude.{Result, filter}
use Rattle.std.specs.List.{range_with_len}
use Rattle.std.proofs.lemmas.List.Elements.{filter-append}
use Rattle.chart.specs.Scans.{scan}
use Rattle.chart.proofs.Scans.{length-scan}
use Rattle.board.specs.declared.answer.Scan.{Scan}
use Rattle.board.specs.declared.answer.Scan.TheVariants as among
use Rattle.board.specs.declared.answer.Taken.{Taken}
use Rattle.board.specs.declared.error.TakeError.{TakeError}
use Rattle.board.specs.Views.{PostView, Sound}
use Rattle.board.specs.Peeking.{others, ArePeeked, IsFirstWaiting, PeeksAmong}
use Rattle.board.proofs.Scanning.{peeked-append}
use Rattle.mailbox.specs.TakingAny.{TakesFirst, LooksAtAll, TakesAny}

-- the post is one of its board's instances, and `last` is one or 0
pub record MayScan (old : PostView) (last : ℕ) : Type 0 where
  pub among : (1 ≤ old.number) × (old.number ≤ old.board.size)
  pub known : last ≤ old.board.size

module _ (old : PostView) (last : ℕ) where
  -- both parts together are the whole scan
  pub is-scan : others old.number last old.board.size ++ others old.number 0 last ≡ scan old.board.size old.number last
  is-scan =
      let whole : last - 0 ≡ last = omega arith in
      ap (λ k. others old.number last old.board.size ++ filter (λ q. not (q == old.number)) (range_with_len 1 k)) whole
      ∙ sym (filter-append (λ q. not (q == old.number)) (range_with_len (last + 1) (old.board.size - last)) (range_with_len 1 last))

  pub is-any : MayScan old last → (new : PostView) (result : Result Taken TakeError) → TakesFirst old (scan old.board.size old.number last) result new → LooksAtAll (length (scan old.board.size old.number last)) old result new → TakesAny old last result new
  is-any may new result takes looks =
      let many : length (scan old.board.size old.number last) ≡ old.board.size - 1 = omega (arith, length-scan old.board.size old.number last may.among.0 may.among.1 may.known) in
      (takes, subst (λ k. LooksAtAll k old result new) many looks)

  -- a message was found in the first part
  pub first-part : (from : ℕ) (new : PostView) → IsFirstWaiting old (others old.number last old.board.size) from new → IsFirstWaiting old (scan old.board.size old.number last) from new
  first-part from new is = subst (λ order. IsFirstWaiting old order from new) is-scan (record {
    before = is.before;
    after = is.after ++ others old.number 0 last;
    order_is = ap (λ xs. xs ++ others old.number 0 last) is.order_is ∙ append_assoc is.before (from ∷ is.after) (others old.number 0 last);
    mid = is.mid;
    its_end = is.its_end;
    empty = is.empty;
    later = is.later;
    stays = is.stays;
    waits = is.waits;
  })

  -- no message was found in the first part, and this was found in the second
  module _ (mid : PostView) (its_end : Bool) (sound : Sound old mid) (none : ArePeeked old (others old.number last old.board.size) its_end mid) where
    here : (result : Scan) (new : PostView) → PeeksAmong mid (others mid.number 0 last) result new → PeeksAmong mid (others old.number 0 last) result new
    here result new peeks = subst (λ p. PeeksAmong mid (others p 0 last) result new) sound.same.number peeks

    pub then-found : (from : ℕ) (new : PostView) → IsFirstWaiting mid (others mid.number 0 last) from new → IsFirstWaiting old (scan old.board.size old.number last) from new
    then-found from new found =
        let is : IsFirstWaiting mid (others old.number 0 last) from new = here (among.Message from) new found in
        let above = others old.number last old.board.size in
        subst (λ order. IsFirstWaiting old order from new) is-scan (record {
          before = above ++ is.before;
          after = is.after;
          order_is = ap (λ xs. others old.number last old.board.size ++ xs) is.order_is ∙ sym (append_assoc (others old.number last old.board.size) is.before (from ∷ is.after));
          mid = is.mid;
          its_end = its_end && is.its_end;
          empty = peeked-append old mid is.mid (others old.number last old.board.size) is.before its_end is.its_end none is.empty;
          later = is.later;
          stays = is.stays;
          waits = is.waits;
        })

    pub then-none : (f : Bool) (new : PostView) → ArePeeked mid (others mid.number 0 last) f new → ArePeeked old (scan old.board.size old.number last) (its_end && f) new
    then-none f new peeked =
        let are = subst (λ p. ArePeeked mid (others p 0 last) f new) sound.same.number peeked in
        subst (λ order. ArePeeked old order (its_end && f) new) is-scan (peeked-append old mid new (others old.number last old.board.size) (others old.number 0 last) its_end f none are)

  -- the first part found the end
  pub then-any : (mid new : PostView) (result : Scan) → Sound old mid → ArePeeked old (others old.number last old.board.size) true mid → PeeksAmong mid (others mid.number 0 last) result new → PeeksAmong old (scan old.board.size old.number last) result new
  then-any mid new (among.Message from) sound none found = then-found mid true sound none from new found
  then-any mid new among.Nothing sound none peeked = then-none mid true sound none false new peeked
  then-any mid new among.Ended sound none peeked = then-none mid true sound none true new peeked
