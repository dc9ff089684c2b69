-- The bytes of a name.
use Rattle.std.proofs.Common.{◌≡◌, ℕ, zero, suc, ◌+◌, ◌<◌, ◌≤◌, Bool, true, false, not, ◌&&◌, ◌==◌, cond, List, [], ◌∷◌, Option, None, Some, Result, Ok, Err, length, nat_lt, nat_le, refl, sym, ap, ◌∙◌, arith}
use Rattle.std.specs.Prelude.{position, option_map, slice_index}
use Rattle.std.specs.List.{list_all, prefix_len}
use Rattle.std.proofs.lemmas.Bool.Decides.{nat_tests}
use Rattle.chart.specs.Names.{is_letter, is_name_byte, bad_place, name_of, IsName}
use Rattle.chart.specs.declared.name.NameError.{NameError}
use Rattle.chart.specs.declared.name.NameError.TheVariants.{Empty, TooLong, BadByte}
use Rattle.chart.specs.declared.name.TheConstants.{MAX_NAME}

is_ok : Result (List ℕ) NameError → Bool
is_ok (Ok name) = true
is_ok (Err e) = false

-- bytes that are refused are no name
pub refused : {A : Type 0} (bytes : List ℕ) (e : NameError) → name_of bytes ≡ Err e → IsName bytes → A
unfolding is_ok
refused bytes e stated h = absurd (grind (arith, ap is_ok (sym h ∙ stated)))

pub empty_error : (bytes : List ℕ) → (length bytes == 0) ≡ true → name_of bytes ≡ Err Empty
unfolding name_of
empty_error bytes e = rw e refl

bad_error : (bytes : List ℕ) (place : ℕ) → (length bytes == 0) ≡ false → nat_lt MAX_NAME (length bytes) ≡ false → bad_place bytes ≡ Some place → name_of bytes ≡ Err (BadByte place)
unfolding name_of
bad_error bytes place e l p = rw (e, l, p) refl

long_error : (bytes : List ℕ) → (length bytes == 0) ≡ false → nat_lt MAX_NAME (length bytes) ≡ true → name_of bytes ≡ Err TooLong
unfolding name_of
long_error bytes e l = rw (e, l) refl

at_place : (bytes : List ℕ) (p : Option ℕ) → bad_place bytes ≡ p → (length bytes == 0) ≡ false → nat_lt MAX_NAME (length bytes) ≡ false → IsName bytes → bad_place bytes ≡ None
at_place bytes None e z l h = e
at_place bytes (Some place) e z l h = refused bytes (BadByte place) (bad_error bytes place z l e) h

at_length : (bytes : List ℕ) (b : Bool) → nat_lt MAX_NAME (length bytes) ≡ b → (length bytes == 0) ≡ false → IsName bytes → (nat_lt MAX_NAME (length bytes) ≡ false) × (bad_place bytes ≡ None)
at_length bytes true e z h = refused bytes TooLong (long_error bytes z e) h
at_length bytes false e z h = (e, at_place bytes (bad_place bytes) refl z e h)

at_front : (bytes : List ℕ) (b : Bool) → (length bytes == 0) ≡ b → IsName bytes → (nat_lt MAX_NAME (length bytes) ≡ false) × (bad_place bytes ≡ None)
at_front bytes true e h = refused bytes Empty (empty_error bytes e) h
at_front bytes false e h = at_length bytes (nat_lt MAX_NAME (length bytes)) refl e h

-- a name isn't too long, and no byte of it is out of place
pub name_is_sound : (bytes : List ℕ) → IsName bytes → (nat_lt MAX_NAME (length bytes) ≡ false) × (bad_place bytes ≡ None)
name_is_sound bytes h = at_front bytes (length bytes == 0) refl h

step : (b : ℕ) (bytes : List ℕ) (t : Bool) → is_name_byte b ≡ t → (nat_lt (prefix_len (λ x. not (not (is_name_byte x))) bytes) (length bytes) ≡ false → list_all is_name_byte bytes ≡ true)
    → nat_lt (prefix_len (λ x. not (not (is_name_byte x))) (b ∷ bytes)) (length (b ∷ bytes)) ≡ false → list_all is_name_byte (b ∷ bytes) ≡ true
step b bytes true e more h =
    let p : prefix_len (λ x. not (not (is_name_byte x))) (b ∷ bytes) ≡ 1 + prefix_len (λ x. not (not (is_name_byte x))) bytes = rw e refl in
    rw (e, more (grind (arith, nat_tests, h, p))) refl
step b bytes false e more h =
    let p : prefix_len (λ x. not (not (is_name_byte x))) (b ∷ bytes) ≡ 0 = rw e refl in
    absurd (grind (arith, nat_tests, h, p))

none_other : (bytes : List ℕ) → nat_lt (prefix_len (λ x. not (not (is_name_byte x))) bytes) (length bytes) ≡ false → list_all is_name_byte bytes ≡ true
none_other [] h = refl
none_other (b ∷ bytes) h = step b bytes (is_name_byte b) refl (none_other bytes) h

some_other : (bytes : List ℕ) (t : Bool) → nat_lt (prefix_len (λ x. not (not (is_name_byte x))) bytes) (length bytes) ≡ t
    → option_map (λ i. i + 2) (cond t (Some (prefix_len (λ x. not (not (is_name_byte x))) bytes)) None) ≡ None → list_all is_name_byte bytes ≡ true
some_other bytes true e h = absurd (grind (arith, h))
some_other bytes false e h = none_other bytes e

letter_is_name : (b : ℕ) → is_letter b ≡ true → is_name_byte b ≡ true
letter_is_name b e = rw e refl

first : (b : ℕ) (bytes : List ℕ) (t : Bool) → is_letter b ≡ t → bad_place (b ∷ bytes) ≡ None → (is_letter b ≡ true) × (list_all is_name_byte (b ∷ bytes) ≡ true)
first b bytes true e h =
    let rest : option_map (λ i. i + 2) (position (λ c. not (is_name_byte c)) bytes) ≡ None = rw e at h in
    (e, rw (letter_is_name b e, some_other bytes (nat_lt (prefix_len (λ x. not (not (is_name_byte x))) bytes) (length bytes)) refl rest) refl)
first b bytes false e h = absurd (grind (arith, rw e at h))

-- if bytes have no fault, the first one is a letter, and each may be in a name
pub sound_bytes : (b : ℕ) (bytes : List ℕ) → bad_place (b ∷ bytes) ≡ None → (is_letter b ≡ true) × (list_all is_name_byte (b ∷ bytes) ≡ true)
sound_bytes b bytes h = first b bytes (is_letter b) refl h

-- a name has some bytes, and each of them may be in a name
pub name_bytes : (bytes : List ℕ) → IsName bytes → (1 ≤ length bytes) × (list_all is_name_byte bytes ≡ true)
name_bytes [] h = refused [] Empty (empty_error [] refl) h
name_bytes (b ∷ bytes) h = (omega arith, (sound_bytes b bytes (name_is_sound (b ∷ bytes) h).1).1)

-- a byte that may be in a name is at least the number of bytes that a name may have
great : (b : ℕ) (t : Bool) → nat_le MAX_NAME b ≡ t → is_name_byte b ≡ true → MAX_NAME ≤ b
great b true e h = grind (arith, nat_tests, e)
great b false e h = absurd (grind (arith, nat_tests, e, h))

first_at : (b : ℕ) (rest : Bool) (t : Bool) → is_name_byte b ≡ t → t && rest ≡ true → MAX_NAME ≤ b
first_at b rest true e h = great b (nat_le MAX_NAME b) refl e
first_at b rest false e h = absurd (grind (arith, h))

later : (rest t : Bool) → t && rest ≡ true → rest ≡ true
later rest true h = h
later rest false h = absurd (grind (arith, h))

-- so is each byte of a name
pub byte_at : (bytes : List ℕ) (place : ℕ) → list_all is_name_byte bytes ≡ true → place < length bytes → MAX_NAME ≤ slice_index bytes place
byte_at [] place h l = absurd (omega (arith, l))
byte_at (b ∷ bytes) zero h l = first_at b (list_all is_name_byte bytes) (is_name_byte b) refl h
byte_at (b ∷ bytes) (suc place) h l = byte_at bytes place (later (list_all is_name_byte bytes) (is_name_byte b) h) (omega (arith, l))
