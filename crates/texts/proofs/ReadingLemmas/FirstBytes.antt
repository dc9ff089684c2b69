-- The answer of a search for a byte, as the index of the first such byte.
use Rattle.std.proofs.Common.{◌≡◌, ℕ, ◌<◌, Bool, cond, eqb, true, false, List, length, Option, Some, None, refl, sym, ap, ◌∙◌, arith}
use Rattle.std.specs.List.{position, position_or_len}
use Rattle.std.proofs.lemmas.Bool.{lt-ltb, le-ltb}
use Rattle.std.proofs.lemmas.List.Sums.{position_or_len_is}
use Rattle.memchr.specs.Find.{IsFirstByte, is_byte}

is_false : (b : Bool) → (b ≡ true → ⊥) → b ≡ false
is_false true h = absurd (h refl)
is_false false h = refl

pub first_byte : (byte : ℕ) (bytes : List ℕ) (r : Option ℕ) → IsFirstByte (is_byte byte) bytes r → r ≡ position (λ b. eqb b byte) bytes
first_byte byte bytes None h =
    let p : ℕ → Bool = λ b. eqb b byte in
    let is : position_or_len p bytes ≡ length bytes = position_or_len_is p bytes (length bytes) 0 (omega arith) (λ k below. is_false _ (h k (omega arith) below)) (λ past. absurd (omega (arith, past))) in
    sym (ap (λ b. cond b (Some (position_or_len p bytes)) None) (le-ltb (position_or_len p bytes) (length bytes) (omega (arith, is))))
first_byte byte bytes (Some k) h =
    let p : ℕ → Bool = λ b. eqb b byte in
    let high : k < length bytes = h.0.high in
    let is : position_or_len p bytes ≡ k = position_or_len_is p bytes k 0 (omega arith) (λ j below. is_false _ (h.0.before j (omega arith) below)) (λ _. h.1) in
    sym (ap (λ b. cond b (Some (position_or_len p bytes)) None) (lt-ltb (position_or_len p bytes) (length bytes) (omega (arith, is))) ∙ ap Some is)
