-- Line 2, the capacity: a capacity that is read has this line, and such a line is read. Laws only about lists.
use Rattle.std.proofs.Common.{◌≡◌, ℕ, ◌+◌, ◌-◌, ◌*◌, ◌/◌, ◌%◌, ◌≤◌, ◌<◌, true, false, not, ◌&&◌, ◌||◌, leb, eqb, List, [], ◌∷◌, ◌++◌, Ok, Err, refl, sym, ap, ◌∙◌, subst, arith, inl, inr}
use Rattle.std.specs.Prelude.{decimal}
use Rattle.std.proofs.lemmas.Bool.{and_parts, and_from, le-leb, leb-true, ne_eqb, cond-true, cases_lt}
use Rattle.std.proofs.lemmas.Fmt.{decimal_digit, decimal_step}
use Rattle.texts.proofs.Lookups.{same_bytes}
use Rattle.texts.specs.Lines.{words_of, Lacks}
use Rattle.texts.specs.declared.fault.Cause.TheVariants.{Capacity, Syntax}
use Rattle.std.specs.Char.{is_ascii_digit}
use Rattle.schedule.specs.FirstLines.{is_number, slots, slots_of, capacity_by, capacity_of}
use Rattle.schedule.specs.Keywords.{written, is_written}
use Rattle.schedule.specs.declared.keyword.ScheduleWord.TheVariants as keywords
use Rattle.schedule.proofs.PlainWords.{plain_written}
use Rattle.schedule.specs.ScheduleText.{capacity_line, spaced}
use Rattle.chart.specs.declared.history.TheConstants.{MAX_CAPACITY}
use Rattle.schedule.proofs.Numbers.{above_zero, long_number}
use Rattle.texts.proofs.Spacing.{IsPlain, ArePlain, spaced_again, spaced_lacks, is_spaced}
use Rattle.texts.proofs.Results.{when_ok, ok_is}

-- ---- decimal digits

-- a number of two digits
pub two_digits : (n : ℕ) → 10 ≤ n → n < 100 → decimal n ≡ (48 + n / 10) ∷ (48 + n % 10) ∷ []
two_digits n low high =
    let tens : n / 10 < 10 = omega arith in
    decimal_step n low (omega arith) ∙ ap (λ l. l ++ (48 + n % 10) ∷ []) (decimal_digit (n / 10) tens)

slots_are : (n k : ℕ) → slots n ≡ Ok k → (n ≡ k) × (1 ≤ n) × (n ≤ MAX_CAPACITY)
slots_are n k e =
    let a = when_ok (leb 1 n && leb n MAX_CAPACITY) Capacity (Ok n) k e in
    let both = and_parts (leb 1 n) (leb n MAX_CAPACITY) a.0 in
    (ok_is n k a.1, leb-true 1 n both.0, leb-true n MAX_CAPACITY both.1)

-- the digits name k slots
record SaySlots (digits : List ℕ) (k : ℕ) : Type 0 where
  pub first : 1 ≤ k
  pub last : k ≤ MAX_CAPACITY
  pub are : digits ≡ decimal k

digit_bounds : (a : ℕ) → is_ascii_digit a ≡ true → (48 ≤ a) × (a ≤ 57)
digit_bounds a e =
    let both = and_parts (leb 48 a) (leb a 57) e in
    (leb-true 48 a both.0, leb-true a 57 both.1)

say_one : (a k : ℕ) → 48 ≤ a → a ≤ 57 → slots (10 * 0 + (a - 48)) ≡ Ok k → SaySlots (a ∷ []) k
say_one a k low high e =
    let are = slots_are (10 * 0 + (a - 48)) k e in
    let same : k ≡ a - 48 = omega arith in
    let back : 48 + k ≡ a = omega arith in
    record { first = omega arith; last = omega arith; are = ap (λ b. b ∷ []) (sym back) ∙ sym (decimal_digit k (omega arith)) }

say_two : (a b k : ℕ) → 49 ≤ a → a ≤ 57 → 48 ≤ b → b ≤ 57 → slots (10 * (10 * 0 + (a - 48)) + (b - 48)) ≡ Ok k → SaySlots (a ∷ b ∷ []) k
say_two a b k low high low' high' e =
    let are = slots_are (10 * (10 * 0 + (a - 48)) + (b - 48)) k e in
    let tens : a ≡ 48 + k / 10 = omega arith in
    let ones : b ≡ 48 + k % 10 = omega arith in
    record { first = omega arith; last = omega arith; are = same_digits tens ones ∙ sym (two_digits k (omega arith) (omega arith)) }
  where
    same_digits : {x y z w : ℕ} → x ≡ z → y ≡ w → x ∷ y ∷ [] ≡ z ∷ w ∷ []
    same_digits p q = cc

-- a number that is read is in decimal
slots_sound : (digits : List ℕ) (k : ℕ) → is_number digits ≡ true → slots_of digits ≡ Ok k → SaySlots digits k
unfolding is_number slots_of
slots_sound [] k number e = absurd cc
slots_sound (a ∷ []) k number e =
    let front = and_parts (is_ascii_digit a && true) (true || not (eqb a 48)) number in
    let bounds = digit_bounds a (and_parts (is_ascii_digit a) true front.0).0 in
    say_one a k bounds.0 bounds.1 e
slots_sound (a ∷ b ∷ []) k number e =
    let front = and_parts (is_ascii_digit a && (is_ascii_digit b && true)) (eqb 1 0 || not (eqb a 48)) number in
    let digits = and_parts (is_ascii_digit a) (is_ascii_digit b && true) front.0 in
    let first = digit_bounds a digits.0 in
    let second = digit_bounds b (and_parts (is_ascii_digit b) true digits.1).0 in
    let low : 49 ≤ a = above_zero a 1 (is_ascii_digit a) (is_ascii_digit b && true) number refl (omega arith) in
    say_two a b k low first.1 second.0 second.1 e
slots_sound (a ∷ b ∷ c ∷ ds) k number e = absurd (let long = long_number (a ∷ b ∷ c ∷ ds) number (omega arith) in cc)

-- ---- a decimal number is read

is_digit_again : (a : ℕ) → 48 ≤ a → a ≤ 57 → is_ascii_digit a ≡ true
is_digit_again a low high = and_from (leb 48 a) (leb a 57) (le-leb 48 a low) (le-leb a 57 high)

slots_again : (n : ℕ) → 1 ≤ n → n ≤ MAX_CAPACITY → slots n ≡ Ok n
slots_again n first last = cond-true (leb 1 n && leb n MAX_CAPACITY) (Ok n) (Err Capacity) (and_from (leb 1 n) (leb n MAX_CAPACITY) (le-leb 1 n first) (le-leb n MAX_CAPACITY last))

-- the bytes are a number, which names k slots, and are plain
record AreDigits (digits : List ℕ) (k : ℕ) : Type 0 where
  pub number : is_number digits ≡ true
  pub says : slots_of digits ≡ Ok k
  pub plain : IsPlain digits

not_space : (b : ℕ) → 48 ≤ b → (eqb b 32 ≡ false) × (eqb b 10 ≡ false)
not_space b low = (ne_eqb b 32 (λ same. omega arith), ne_eqb b 10 (λ same. omega arith))

one_again : (k : ℕ) → 1 ≤ k → k < 10 → AreDigits ((48 + k) ∷ []) k
unfolding is_number slots_of
one_again k first last =
    let other = not_space (48 + k) (omega arith) in
    let digit = is_digit_again (48 + k) (omega arith) (omega arith) in
    let value : 10 * 0 + (48 + k - 48) ≡ k = omega arith in
    record {
      number = and_from (is_ascii_digit (48 + k) && true) (true || not (eqb (48 + k) 48)) (and_from (is_ascii_digit (48 + k)) true digit refl) refl;
      says = ap slots value ∙ slots_again k first (omega arith);
      plain = ((other.0, tt), (other.1, tt));
    }

two_again : (k : ℕ) → 10 ≤ k → k ≤ MAX_CAPACITY → AreDigits ((48 + k / 10) ∷ (48 + k % 10) ∷ []) k
unfolding is_number slots_of
two_again k first last =
    let a : ℕ = 48 + k / 10 in
    let b : ℕ = 48 + k % 10 in
    let tens = is_digit_again a (omega arith) (omega arith) in
    let ones = is_digit_again b (omega arith) (omega arith) in
    let other = not_space a (omega arith) in
    let other' = not_space b (omega arith) in
    let value : 10 * (10 * 0 + (48 + k / 10 - 48)) + (48 + k % 10 - 48) ≡ k = omega arith in
    let no_zero : eqb a 48 ≡ false = ne_eqb a 48 (λ same. omega arith) in
    record {
      number = and_from (is_ascii_digit a && (is_ascii_digit b && true)) (eqb 1 0 || not (eqb a 48)) (and_from (is_ascii_digit a) (is_ascii_digit b && true) tens (and_from (is_ascii_digit b) true ones refl)) (ap not no_zero);
      says = ap slots value ∙ slots_again k (omega arith) last;
      plain = ((other.0, (other'.0, tt)), (other.1, (other'.1, tt)));
    }

digits_again : (k : ℕ) → 1 ≤ k → k ≤ MAX_CAPACITY → AreDigits (decimal k) k
digits_again k first last = elim (cases_lt k 10) [
  | inl few ↦ subst (λ digits. AreDigits digits k) (sym (decimal_digit k few)) (one_again k first few)
  | inr many ↦ subst (λ digits. AreDigits digits k) (sym (two_digits k many (omega arith))) (two_again k many last)
]

-- ---- the line

-- line 2 names k slots
pub record IsCapacityLine (line : List ℕ) (k : ℕ) : Type 0 where
  pub first : 1 ≤ k
  pub last : k ≤ MAX_CAPACITY
  pub is : line ≡ capacity_line k

capacity_by-sound : (line : List ℕ) (words : List (List ℕ)) (k : ℕ) → line ≡ spaced words → capacity_by words ≡ Ok k → IsCapacityLine line k
unfolding is_written
capacity_by-sound line [] k is e = absurd cc
capacity_by-sound line (keyword ∷ []) k is e = absurd cc
capacity_by-sound line (keyword ∷ digits ∷ []) k is e =
    let a = when_ok (is_written keywords.Capacity keyword && is_number digits) Syntax (slots_of digits) k e in
    let both = and_parts (is_written keywords.Capacity keyword) (is_number digits) a.0 in
    let same : keyword ≡ written keywords.Capacity = same_bytes keyword (written keywords.Capacity) both.0 in
    let say = slots_sound digits k both.1 a.1 in
    record { first = say.first; last = say.last; is = is ∙ ap (λ w. spaced (w ∷ digits ∷ [])) same ∙ ap (λ w. spaced (written keywords.Capacity ∷ w ∷ [])) say.are }
capacity_by-sound line (keyword ∷ digits ∷ word ∷ words) k is e = absurd cc

-- a line that is read
pub capacity_sound : (line : List ℕ) (k : ℕ) → capacity_of line ≡ Ok k → IsCapacityLine line k
unfolding capacity_of
capacity_sound line k e = capacity_by-sound line (words_of line) k (is_spaced line) e

plain_line : (k : ℕ) → 1 ≤ k → k ≤ MAX_CAPACITY → ArePlain (written keywords.Capacity ∷ decimal k ∷ [])
plain_line k first last = (plain_written keywords.Capacity, ((digits_again k first last).plain, tt))

capacity_by-again : (k : ℕ) → 1 ≤ k → k ≤ MAX_CAPACITY → capacity_by (written keywords.Capacity ∷ decimal k ∷ []) ≡ Ok k
unfolding is_written written
capacity_by-again k first last =
    let again = digits_again k first last in
    cond-true (is_written keywords.Capacity (written keywords.Capacity) && is_number (decimal k)) (slots_of (decimal k)) (Err Syntax) (and_from (is_written keywords.Capacity (written keywords.Capacity)) (is_number (decimal k)) refl again.number) ∙ again.says

-- the capacity of its own line 2
pub capacity_again : (k : ℕ) → 1 ≤ k → k ≤ MAX_CAPACITY → capacity_of (capacity_line k) ≡ Ok k
unfolding capacity_of
capacity_again k first last = ap capacity_by (spaced_again (written keywords.Capacity) (decimal k ∷ []) (plain_line k first last)) ∙ capacity_by-again k first last

pub capacity_lacks : (k : ℕ) → 1 ≤ k → k ≤ MAX_CAPACITY → Lacks 10 (capacity_line k)
capacity_lacks k first last = spaced_lacks (written keywords.Capacity ∷ decimal k ∷ []) (plain_line k first last)
