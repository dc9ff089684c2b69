-- Loops over bytes: the remaining bytes, one byte at a time.
use Rattle.std.proofs.Common.{◌≡◌, ℕ, zero, suc, ◌+◌, ◌<◌, ◌≤◌, arith, List, [], ◌∷◌, length, drop, get_or, refl, ap, add-one}
use Rattle.std.proofs.Math.Seq.{drop-cons}
use Rattle.texts.specs.Bytes.Places.{behind, behind_byte}
use Rattle.texts.specs.declared.bytes.place.Place.{Place}

drop_next : (bytes : List ℕ) (i : ℕ) → i < length bytes → drop i bytes ≡ get_or bytes i 0 ∷ drop (i + 1) bytes
drop_next bytes i lt = rw add-one (drop-cons bytes i 0 lt)

drop_all : (bytes : List ℕ) (i : ℕ) → length bytes ≤ i → drop i bytes ≡ []
drop_all [] zero h = refl
drop_all [] (suc i) h = refl
drop_all (x ∷ xs) zero h = absurd (omega arith)
drop_all (x ∷ xs) (suc i) h = drop_all xs i (omega arith)

pub behind_next : (p : Place) (bytes : List ℕ) (i : ℕ) → i < length bytes → behind p (drop i bytes) ≡ behind (behind_byte p (get_or bytes i 0)) (drop (i + 1) bytes)
unfolding behind
behind_next p bytes i lt = ap (behind p) (drop_next bytes i lt)

pub behind_all : (p : Place) (bytes : List ℕ) (i : ℕ) → length bytes ≤ i → behind p (drop i bytes) ≡ p
unfolding behind
behind_all p bytes i h = ap (behind p) (drop_all bytes i h)
