-- One more line of a text: what may begin the next one.
use Rattle.std.proofs.Common.{◌≡◌, ◌<◌, ◌≤◌, ◌-◌, ℕ, zero, suc, List, ◌∷◌, take, drop, refl, arith}
use Rattle.fault_places.specs.Standings.{want_behind, line_at}
use Rattle.fault_places.specs.declared.want.Want.{Want}

pub want_next : (want : Want) (n : ℕ) (lines below : List (List ℕ)) (line : List ℕ) (after : Want) → 0 < n → lines ≡ line ∷ below → after ≡ want_behind want line
    → line_at after (take (n - 1) below) ≡ line_at want (take n lines)
want_next want zero lines below line after h e b = absurd (omega arith)
want_next want (suc n) lines below line after h e b =
    let k : suc n - 1 ≡ n = omega arith in
    rw (k, e, b) refl

pub lines_next : (n : ℕ) (lines below : List (List ℕ)) (line : List ℕ) → 0 < n → lines ≡ line ∷ below → drop (n - 1) below ≡ drop n lines
lines_next zero lines below line h e = absurd (omega arith)
lines_next (suc n) lines below line h e =
    let k : suc n - 1 ≡ n = omega arith in
    rw (k, e) refl

pub none_left : (want : Want) (n : ℕ) (lines : List (List ℕ)) → n ≤ 0 → line_at want (take n lines) ≡ want
none_left want zero lines h = refl
none_left want (suc n) lines h = absurd (omega arith)
