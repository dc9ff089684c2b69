-- Loops over bytes: the remaining bytes, one byte at a time.
use Rattle.std.proofs.Common.{◌≡◌, ℕ, zero, suc, ◌+◌, ◌<◌, ◌≤◌, ◌==◌, ◌&&◌, Bool, true, false, arith, List, [], ◌∷◌, length, drop, get_or, Option, None, Some, option_map, refl, ap, ◌∙◌, add-one, if◌then◌else◌}
use Rattle.std.proofs.Math.Seq.{drop-cons}
use Rattle.texts.specs.Words.{kept, kept_by}
use Rattle.texts.specs.Bytes.Classes.{is_blank}

pub drop_next : (bytes : List ℕ) (i : ℕ) → i < length bytes → drop i bytes ≡ get_or bytes i 0 ∷ drop (i + 1) bytes
drop_next bytes i lt = rw add-one (drop-cons bytes i 0 lt)

pub drop_all : (bytes : List ℕ) (i : ℕ) → length bytes ≤ i → drop i bytes ≡ []
drop_all [] zero h = refl
drop_all [] (suc i) h = refl
drop_all (x ∷ xs) zero h = absurd (omega arith)
drop_all (x ∷ xs) (suc i) h = drop_all xs i (omega arith)

-- the number of bytes that are kept, given how many of the first i are, and how many of those after them
abbrev pub kept_in : ℕ → ℕ → ℕ → ℕ
kept_in so_far i zero = so_far
kept_in so_far i (suc k) = i + suc k

kept_step : (t : Bool) (so_far i k : ℕ) → kept_in so_far i (kept_by t k) ≡ kept_in (if t then so_far else i + 1) (i + 1) k
kept_step true so_far i zero = refl
kept_step true so_far i (suc k) = omega arith
kept_step false so_far i zero = omega arith
kept_step false so_far i (suc k) = omega arith

pub kept_next : (bytes : List ℕ) (so_far i : ℕ) → i < length bytes → kept_in so_far i (kept (drop i bytes)) ≡ kept_in (if is_blank (get_or bytes i 0) then so_far else i + 1) (i + 1) (kept (drop (i + 1) bytes))
kept_next bytes so_far i lt = ap (λ l. kept_in so_far i (kept l)) (drop_next bytes i lt) ∙ kept_step (is_blank (get_or bytes i 0)) so_far i (kept (drop (i + 1) bytes))

pub kept_all : (bytes : List ℕ) (so_far i : ℕ) → length bytes ≤ i → kept_in so_far i (kept (drop i bytes)) ≡ so_far
kept_all bytes so_far i h = ap (λ l. kept_in so_far i (kept l)) (drop_all bytes i h)

-- a place that is one further on
pub moved_on : (n : ℕ) (place : Option ℕ) → option_map (λ k. n + k) (option_map suc place) ≡ option_map (λ k. n + 1 + k) place
moved_on n None = refl
moved_on n (Some k) = ap Some (omega arith)
