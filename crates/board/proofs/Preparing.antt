-- The answers for sends of several messages, made one after another.
use Rattle.std.proofs.Common.{◌≡◌, ℕ, zero, suc, ◌+◌, ◌<◌, List, [], ◌∷◌, ◌++◌, length, take, ap, ◌∙◌, subst, arith}
use Rattle.chart.specs.Messages.{Content}
use Rattle.chart.specs.declared.instance.EventNo.{EventNo}
use Rattle.board.specs.Sending.{numbered}

-- the number of one more event
numbered_push : (p index place : ℕ) (messages : List Content) → place < length messages → numbered p index (take (suc place) messages) ≡ numbered p index (take place messages) ++ record { instance = p; index = index + place } ∷ []
numbered_push p index place [] within = absurd (omega arith)
numbered_push p index zero (m ∷ ms) within = let same : index ≡ index + zero = omega arith in ap (λ (i : ℕ). record { instance = p; index = i } ∷ []) same
numbered_push p index (suc place) (m ∷ ms) within =
    let same : index + 1 + place ≡ index + suc place = omega arith in
    ap (λ (es : List EventNo). record { instance = p; index = index } ∷ es) (numbered_push p (index + 1) place ms (omega arith) ∙ ap (λ (i : ℕ). numbered p (index + 1) (take place ms) ++ record { instance = p; index = i } ∷ []) same)

pub numbered_next : (p index place next : ℕ) (messages : List Content) → suc place ≡ next → place < length messages → numbered p index (take next messages) ≡ numbered p index (take place messages) ++ record { instance = p; index = index + place } ∷ []
numbered_next p index place next messages onward within = subst (λ (i : ℕ). numbered p index (take i messages) ≡ numbered p index (take place messages) ++ record { instance = p; index = index + place } ∷ []) onward (numbered_push p index place messages within)
