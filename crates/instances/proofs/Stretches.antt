-- Turns as stretches of equal neighbours, and one more turn.
use Rattle.std.proofs.Common.{◌≡◌, ℕ, zero, suc, ◌+◌, List, [], ◌∷◌, ◌++◌, length, replicate, refl, sym, ap, ◌∙◌, arith, append-nil, append_assoc}
use Rattle.std.specs.Prelude.{slice_set, slice_index_or}
use Rattle.instances.specs.declared.trace.Stretch.{Stretch}
use Rattle.instances.specs.declared.turn.Turn.{Turn}
use Rattle.instances.specs.Traces.{turns_of}

replicate-last : (n : ℕ) (turn : Turn) → replicate (suc n) turn ≡ replicate n turn ++ turn ∷ []
replicate-last zero turn = refl
replicate-last (suc n) turn = ap (λ turns. turn ∷ turns) (replicate-last n turn)

pub turns_of-push : (stretches : List Stretch) (new : Stretch)
    → turns_of (stretches ++ new ∷ []) ≡ turns_of stretches ++ replicate new.count new.turn
turns_of-push [] new = append-nil (replicate new.count new.turn)
turns_of-push (s ∷ stretches) new =
    let first = replicate s.count s.turn in
    ap (λ turns. first ++ turns) (turns_of-push stretches new)
    ∙ sym (append_assoc first (turns_of stretches) (replicate new.count new.turn))

-- the stretch with one more turn
abbrev pub longer : Stretch → Stretch
longer stretch = record { turn = stretch.turn; count = stretch.count + 1 }

pub turns_of-longer : (stretches : List Stretch) (k : ℕ) (d : Stretch) → suc k ≡ length stretches
    → turns_of (slice_set stretches k (longer (slice_index_or stretches k d))) ≡ turns_of stretches ++
    (slice_index_or stretches k d).turn ∷ []
turns_of-longer [] k d e = absurd (omega (arith, e))
turns_of-longer (s ∷ []) zero d e =
    let more : s.count + 1 ≡ suc s.count = omega arith in
    append-nil (replicate (s.count + 1) s.turn) ∙ ap (λ n. replicate n s.turn) more ∙ replicate-last s.count s.turn
    ∙ ap (λ turns. turns ++ s.turn ∷ []) (sym (append-nil (replicate s.count s.turn)))
turns_of-longer (s ∷ r ∷ stretches) zero d e = absurd (omega (arith, e))
turns_of-longer (s ∷ stretches) (suc k) d e =
    let first = replicate s.count s.turn in
    let last = slice_index_or stretches k d in
    ap (λ turns. first ++ turns) (turns_of-longer stretches k d (omega (arith, e)))
    ∙ sym (append_assoc first (turns_of stretches) (last.turn ∷ []))
