-- The caret of a second line with another number of slots than a lane may have, and what may be there.
use Rattle.std.proofs.Common.{◌≡◌, ℕ, ◌+◌, Bool, true, false, cond, ◌&&◌, List, [], ◌∷◌, length, Ok, Err, refl, sym, ap, ◌∙◌, subst, arith}
use Rattle.std.specs.Prelude.{Some, codes, bytes_eq, decimal, min}
use Rattle.fault_places.proofs.CaretLemmas.{slots_number}
use Rattle.fault_places.proofs.SpotLemmas.{spot_same, goes_on}
use Rattle.fault_places.specs.Carets.{fault_of, is_past, IsCaret}
use Rattle.fault_places.specs.Spots.{is_wrong, instead, inner, spot_from, spot_of}
use Rattle.fault_places.specs.Wants.{on, next}
use Rattle.fault_places.specs.declared.want.Want.TheVariants as wants
use Rattle.schedule.specs.FirstLines.{is_number, slots_of, capacity_by}
use Rattle.schedule.specs.Keywords.{written, is_written}
use Rattle.texts.proofs.Lookups.{same_bytes}
use Rattle.texts.proofs.Parts.{lacks_if}
use Rattle.texts.specs.Lines.{words_of}
use Rattle.texts.specs.declared.fault.Cause.TheVariants as causes

-- the line has the right form, and its number isn't one of slots
record IsRefused (k d : List ℕ) : Type 0 where
  keyword : bytes_eq k (codes "capacity") ≡ true
  number : is_number d ≡ true
  slots : fault_of (slots_of d) ≡ Some causes.Capacity

is_refused : (k d : List ℕ) → fault_of (capacity_by (k ∷ d ∷ [])) ≡ Some causes.Capacity → IsRefused k d
unfolding is_written written
is_refused k d e = by (bytes_eq k (codes "capacity")) (is_number d) refl refl e
  where
    by : (x y : Bool) → bytes_eq k (codes "capacity") ≡ x → is_number d ≡ y → fault_of (cond (x && y) (slots_of d) (Err causes.Syntax)) ≡ Some causes.Capacity → IsRefused k d
    by true true p q e = record { keyword = p; number = q; slots = e }
    by true false p q e = absurd (cc e)
    by false y p q e = absurd (cc e)

-- where the line has its fault
the_spot : (known line : List (List ℕ)) (k d : List ℕ) → bytes_eq k (codes "capacity") ≡ true
    → spot_from causes.Capacity known line wants.Capacity 0 0 (k ∷ d ∷ []) ≡ record { place = (0 + (length k + 1)) + min (inner causes.Capacity) (length d); want = wants.Slots }
unfolding is_wrong instead next
the_spot known line k d keyword =
    goes_on causes.Capacity known line wants.Capacity wants.Slots 0 0 k (k ∷ d ∷ []) (d ∷ []) refl (record { first = d; others = []; is = refl }) refl (ap (λ b. on b wants.Slots) keyword)
    ∙ spot_same causes.Capacity known line wants.Slots 1 (0 + (length k + 1)) d (d ∷ []) [] refl refl refl

caret_at : (names : List (List ℕ)) (k d : List ℕ) → IsRefused k d
    → IsCaret (λ words. fault_of (capacity_by words)) names causes.Capacity (k ∷ d ∷ []) (record { place = (0 + (length k + 1)) + min (inner causes.Capacity) (length d); want = wants.Slots })
unfolding is_written written is_number slots_of
caret_at names k d r = record {
  before = k ∷ [];
  from = d ∷ [];
  are = refl;
  word = length k + 1;
  at_word = omega arith;
  place = omega arith;
  goes_on = (codes "1" ∷ [], (lacks_if 32 (codes "1") refl, tt), ap (λ word. is_past 4 (fault_of (capacity_by (word ∷ codes "1" ∷ [])))) is);
  stops = stops;
  may_stand = λ slots first last.
      (let its = slots_number slots first last in
      ([], tt, ap (λ word. is_past 4 (fault_of (capacity_by (word ∷ decimal slots ∷ [])))) is ∙ right (decimal slots) slots its.0 its.1));
}
  where
    is : k ≡ codes "capacity"
    is = same_bytes k (codes "capacity") r.keyword

    stops : (more : List (List ℕ)) → is_past 4 (fault_of (capacity_by (k ∷ d ∷ more))) ≡ false
    stops [] = ap (λ b. is_past 4 (fault_of (cond (b && is_number d) (slots_of d) (Err causes.Syntax)))) r.keyword ∙ ap (λ b. is_past 4 (fault_of (cond b (slots_of d) (Err causes.Syntax)))) r.number ∙ ap (is_past 4) r.slots
    stops (word ∷ more) = refl

    right : (digits : List ℕ) (slots : ℕ) → is_number digits ≡ true → slots_of digits ≡ Ok slots → is_past 4 (fault_of (capacity_by (codes "capacity" ∷ digits ∷ []))) ≡ true
    right digits slots number value = ap (λ b. is_past 4 (fault_of (cond b (slots_of digits) (Err causes.Syntax)))) number ∙ ap (λ r. is_past 4 (fault_of r)) value

pub capacity_caret : (first : List ℕ) (names : List (List ℕ)) (line : List ℕ) → fault_of (capacity_by (words_of line)) ≡ Some causes.Capacity
    → IsCaret (λ words. fault_of (capacity_by words)) names causes.Capacity (words_of line) (spot_of causes.Capacity first line wants.Capacity)
unfolding spot_of
capacity_caret first names line e = by (words_of line) refl e
  where
    by : (words : List (List ℕ)) → words_of line ≡ words → fault_of (capacity_by words) ≡ Some causes.Capacity
        → IsCaret (λ w. fault_of (capacity_by w)) names causes.Capacity (words_of line) (spot_from causes.Capacity (words_of first) (words_of line) wants.Capacity 0 0 (words_of line))
    by [] are e = absurd (cc e)
    by (k ∷ []) are e = absurd (cc e)
    by (k ∷ d ∷ []) are e =
        let r = is_refused k d e in
        subst (λ words. IsCaret (λ w. fault_of (capacity_by w)) names causes.Capacity words (spot_from causes.Capacity (words_of first) words wants.Capacity 0 0 words)) (sym are)
        (subst (IsCaret (λ w. fault_of (capacity_by w)) names causes.Capacity (k ∷ d ∷ [])) (sym (the_spot (words_of first) (k ∷ d ∷ []) k d r.keyword)) (caret_at names k d r))
    by (k ∷ d ∷ word ∷ words) are e = absurd (cc e)
