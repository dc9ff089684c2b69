-- Lists that loops build, element by element.
use Rattle.std.proofs.Common.{◌≡◌, ℕ, suc, ◌+◌, Bool, true, false, cond, List, [], ◌∷◌, ◌++◌, sym, ap, ◌∙◌, append_assoc, append-nil, add-one}
use Rattle.std.specs.Prelude.{slice_index}
use Rattle.std.proofs.lemmas.List.{map-append}
use Rattle.cmd_base.specs.declared.pairs.saying.Saying.TheVariants.{Before, Also, Row}
use Rattle.cmd_base.specs.Pairs.Sayings.{passing, befores, alsos, rows}

-- one more element
pub grown : {X : Type 0} (init so_far next xs more : List X) (x : X) → xs ≡ init ++ so_far → more ≡ xs ++ x ∷ [] → next ≡ so_far ++ x ∷ [] → more ≡ init ++ next
grown init so_far next xs more x was is then' = is ∙ ap (λ l. l ++ x ∷ []) was ∙ append_assoc init so_far (x ∷ []) ∙ ap (λ l. init ++ l) (sym then')

-- one more line
pub befores-next : (counts : List ℕ) (n : ℕ) → befores counts (n + 1) ≡ befores counts n ++ Before (suc n) (slice_index counts n) ∷ []
befores-next counts n = ap (befores counts) (add-one n)

-- one more place
pub rows-next : (numbers : List ℕ) (n : ℕ) → rows numbers (n + 1) ≡ rows numbers n ++ Row (n + 1) (slice_index numbers n) ∷ []
rows-next numbers n = ap (rows numbers) (add-one n) ∙ ap (λ k. rows numbers n ++ Row k (slice_index numbers n) ∷ []) (sym (add-one n))

-- a number that passes
pub passing-taken : (test : ℕ → Bool) (n : ℕ) → test (n + 1) ≡ true → passing test (n + 1) ≡ passing test n ++ (n + 1) ∷ []
passing-taken test n passes =
    ap (passing test) (add-one n) ∙ ap (λ b. cond b (passing test n ++ suc n ∷ []) (passing test n)) (ap test (sym (add-one n)) ∙ passes) ∙ ap (λ k. passing test n ++ k ∷ []) (sym (add-one n))

-- a number that doesn't pass
pub passing-left : (test : ℕ → Bool) (n : ℕ) → test (n + 1) ≡ false → passing test (n + 1) ≡ passing test n
passing-left test n fails = ap (passing test) (add-one n) ∙ ap (λ b. cond b (passing test n ++ suc n ∷ []) (passing test n)) (ap test (sym (add-one n)) ∙ fails)

-- the same for the other events that come before
pub alsos-taken : (p : ℕ) (test : ℕ → Bool) (n : ℕ) → test (n + 1) ≡ true → alsos p (passing test (n + 1)) ≡ alsos p (passing test n) ++ Also p (n + 1) ∷ []
alsos-taken p test n passes = ap (alsos p) (passing-taken test n passes) ∙ map-append (Also p) (passing test n) ((n + 1) ∷ [])

pub alsos-left : (p : ℕ) (test : ℕ → Bool) (n : ℕ) → test (n + 1) ≡ false → alsos p (passing test (n + 1)) ≡ alsos p (passing test n)
alsos-left p test n fails = ap (alsos p) (passing-left test n fails)

-- nothing yet
pub grown_none : {X : Type 0} (init : List X) → init ≡ init ++ []
grown_none init = sym (append-nil init)

-- one part after another
pub grown_then : {X : Type 0} (init a b xs ys : List X) → xs ≡ init ++ a → ys ≡ xs ++ b → ys ≡ init ++ (a ++ b)
grown_then init a b xs ys p q = q ∙ ap (λ l. l ++ b) p ∙ append_assoc init a b
