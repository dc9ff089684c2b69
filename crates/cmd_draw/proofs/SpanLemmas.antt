-- Words that give a range of events.
use Rattle.std.proofs.Common.{◌≡◌, ℕ, zero, suc, ◌<◌, true, List, [], ◌∷◌, length, get_or, subst, arith}
use Rattle.std.specs.Char.{is_ascii_digit}
use Rattle.std.specs.List.{list_all}
use Rattle.std.proofs.lemmas.Bool.{and_parts, false≢true}

-- no digit is a dot
pub no_dots : (word : List ℕ) → list_all is_ascii_digit word ≡ true → (i : ℕ) → i < length word → get_or word i 0 ≡ 46 → ⊥
no_dots [] digits i within dot = omega arith
no_dots (x ∷ xs) digits zero within dot = false≢true (subst (λ b. is_ascii_digit b ≡ true) dot (and_parts (is_ascii_digit x) (list_all is_ascii_digit xs) digits).0)
no_dots (x ∷ xs) digits (suc i) within dot = no_dots xs (and_parts (is_ascii_digit x) (list_all is_ascii_digit xs) digits).1 i (omega arith) dot
