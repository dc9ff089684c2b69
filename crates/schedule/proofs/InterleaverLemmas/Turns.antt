-- The queues of the instances that have commands left.
use Rattle.std.proofs.Common.{◌≡◌, ◌≢◌, ℕ, zero, suc, ◌+◌, ◌<◌, ◌≤◌, Bool, true, false, List, [], ◌∷◌, length, map, get_or, set, refl, ap, ◌∙◌, arith}
use Rattle.std.specs.Prelude.{All, filter}
use Rattle.std.specs.List.{range_with_len, remove}
use Rattle.std.proofs.lemmas.List.Elements.{All-filter, All-get_or}
use Rattle.std.proofs.lemmas.List.FromFn.{length-range_with_len, get_or-range_with_len}
use Rattle.schedule.specs.declared.command.Command.{Command}
use Rattle.schedule.specs.Interleaver.Interleavings.{are_some}

-- those of k numbers, from a on, at which f has some commands
abbrev pub some_of : (ℕ → List Command) → ℕ → ℕ → List ℕ
some_of f a k = filter (λ p. are_some (f p)) (range_with_len a k)

-- the list at a place becomes r, or is removed if r is empty
abbrev pub changed_at : List (List Command) → ℕ → List Command → List (List Command)
changed_at qs i [] = remove qs i
changed_at qs i (c ∷ r) = set qs i (c ∷ r)

changed_at-suc : (q : List Command) (qs : List (List Command)) (i : ℕ) (r : List Command) → changed_at (q ∷ qs) (suc i) r ≡ q ∷ changed_at qs i r
changed_at-suc q qs i [] = refl
changed_at-suc q qs i (c ∷ r) = refl

-- the numbers are at least a
pub at_least : (f : ℕ → List Command) (a k i : ℕ) → i < length (some_of f a k) → a ≤ get_or (some_of f a k) i 0
at_least f a k i within =
    let P : ℕ → Type 0 = λ x. a ≤ x in
    let each : All P (range_with_len a k) = λ j d below.
    let few : j < k = omega (arith, length-range_with_len a k) in
    let here = get_or-range_with_len a k j d few in
    omega (arith, here) in
    All-get_or P (some_of f a k) i 0 within (All-filter (λ p. are_some (f p)) P (range_with_len a k) each)

same-cons : (f h : ℕ → List Command) (a k : ℕ) (b : Bool) → are_some (f a) ≡ b → h a ≡ f a → map f (some_of f (a + 1) k) ≡ map h (some_of h (a + 1) k) → map f (some_of f a (suc k)) ≡ map h (some_of h a (suc k))
same-cons f h a k true e here rest = rw (here, e, here) (ap (λ (r : List (List Command)). f a ∷ r) rest)
same-cons f h a k false e here rest = rw (here, e) rest

-- above p nothing changes
same-above : (f h : ℕ → List Command) (p : ℕ) → ((q : ℕ) → p ≢ q → h q ≡ f q) → (k a : ℕ) → p < a → map f (some_of f a k) ≡ map h (some_of h a k)
same-above f h p same zero a above = refl
same-above f h p same (suc k) a above = same-cons f h a k (are_some (f a)) refl (same a (λ e. absurd (omega (arith, e)))) (same-above f h p same k (a + 1) (omega arith))

-- p is the first number
here-cons : (f h : ℕ → List Command) (a k : ℕ) (r : List Command) → are_some (f a) ≡ true → h a ≡ r → map f (some_of f (a + 1) k) ≡ map h (some_of h (a + 1) k) → changed_at (f a ∷ map f (some_of f (a + 1) k)) zero r ≡ map h (some_of h a (suc k))
here-cons f h a k [] some is rest = rw is rest
here-cons f h a k (c ∷ r) some is rest = rw (is, is) (ap (λ (x : List (List Command)). (c ∷ r) ∷ x) rest)

turns-by : (f h : ℕ → List Command) (p : ℕ) → ((q : ℕ) → p ≢ q → h q ≡ f q) → (k a : ℕ)
    → ((i : ℕ) → i < length (some_of f (a + 1) k) → p ≡ get_or (some_of f (a + 1) k) i 0 → changed_at (map f (some_of f (a + 1) k)) i (h p) ≡ map h (some_of h (a + 1) k))
    → (b : Bool) → are_some (f a) ≡ b → (i : ℕ) → i < length (some_of f a (suc k)) → p ≡ get_or (some_of f a (suc k)) i 0
    → changed_at (map f (some_of f a (suc k))) i (h p) ≡ map h (some_of h a (suc k))
turns-by f h p same k a rest false e i within is =
    let within' : i < length (some_of f (a + 1) k) = rw e at within in
    let is' : p ≡ get_or (some_of f (a + 1) k) i 0 = rw e at is in
    let above = at_least f (a + 1) k i within' in
    let here : h a ≡ f a = same a (λ e'. absurd (omega (arith, e', is', above))) in
    rw (here, e) (rest i within' is')
turns-by f h p same k a rest true e zero within is =
    let is' : p ≡ a = rw e at is in
    rw e (rw is' (here-cons f h a k (h a) e refl (same-above f h p same k (a + 1) (omega (arith, is')))))
turns-by f h p same k a rest true e (suc i) within is =
    let within' : suc i < suc (length (some_of f (a + 1) k)) = rw e at within in
    let below : i < length (some_of f (a + 1) k) = omega arith in
    let is' : p ≡ get_or (some_of f (a + 1) k) i 0 = rw e at is in
    let above = at_least f (a + 1) k i below in
    let here : h a ≡ f a = same a (λ e'. absurd (omega (arith, e', is', above))) in
    rw e (changed_at-suc (f a) (map f (some_of f (a + 1) k)) i (h p) ∙ ap (λ (x : List (List Command)). f a ∷ x) (rest i below is') ∙ rw (here, e, here) refl)

-- the queues with p's queue changed are the queues of the changed commands
pub turns : (f h : ℕ → List Command) (p : ℕ) → ((q : ℕ) → p ≢ q → h q ≡ f q) → (k a i : ℕ) → i < length (some_of f a k) → p ≡ get_or (some_of f a k) i 0
    → changed_at (map f (some_of f a k)) i (h p) ≡ map h (some_of h a k)
turns f h p same zero a i within is = absurd (omega arith)
turns f h p same (suc k) a i within is = turns-by f h p same k a (turns f h p same k (a + 1)) (are_some (f a)) refl i within is
