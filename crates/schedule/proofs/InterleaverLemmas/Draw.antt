-- One draw.
use Rattle.std.proofs.Common.{◌≡◌, ◌≢◌, ℕ, zero, suc, ◌+◌, ◌%◌, ◌<◌, ◌≤◌, Bool, true, false, List, [], ◌∷◌, length, map, get_or, set, take, drop, Option, None, Some, refl, sym, ap, ◌∙◌, arith}
use Rattle.std.specs.List.{remove, range_with_len}
use Rattle.std.specs.Option.{option_to_list}
use Rattle.std.proofs.lemmas.Bool.{eq-eqb, false≢true}
use Rattle.std.proofs.lemmas.List.{length-map, take-set, drop-set-lt}
use Rattle.std.proofs.lemmas.List.Elements.{All-head, All-get_or, filter_passes}
use Rattle.rand_pcg.specs.Lcg.{Lcg}
use Rattle.rand_pcg.specs.Pcg.{pcg32}
use Rattle.schedule.specs.declared.command.Command.{Command}
use Rattle.schedule.specs.Interleaver.Interleavings.{own, are_some, with_some, turn, without_next}
use Rattle.schedule.specs.Interleaver.Draws.{AreOf, queues_of, Draws}
use Rattle.schedule.proofs.InterleaverLemmas.Commands.{own-next, own-other}
use Rattle.schedule.proofs.InterleaverLemmas.Turns.{some_of, changed_at, turns}

-- ---- whether commands are left

there-cons : (f : ℕ → List Command) (k a p : ℕ) → a ≤ p → are_some (f p) ≡ true → (a + 1 ≤ p → 0 < length (some_of f (a + 1) k)) → (b : Bool) → are_some (f a) ≡ b → 0 < length (some_of f a (suc k))
there-cons f k a p above some rest true e = rw e (omega arith)
there-cons f k a p above some rest false e =
    let other : a ≡ p → false ≡ true = λ same. sym e ∙ ap (λ x. are_some (f x)) same ∙ some in
    let differ : a ≢ p = λ same. false≢true (other same) in
    let higher : a + 1 ≤ p = omega (arith, differ) in
    rw e (rest higher)

some-there : (f : ℕ → List Command) (k a p : ℕ) → a ≤ p → p < a + k → are_some (f p) ≡ true → 0 < length (some_of f a k)
some-there f zero a p above below some = absurd (omega arith)
some-there f (suc k) a p above below some = there-cons f k a p above some (λ higher. some-there f k (a + 1) p higher (omega arith) some) (are_some (f a)) refl

-- if commands are left, some instance has some
pub with_some-there : (n : ℕ) (c : Command) (cs : List Command) → AreOf n (c ∷ cs) → 0 < length (with_some n (c ∷ cs))
with_some-there n c cs of =
    let head = All-head (λ x. (1 ≤ x.actor) × (x.actor ≤ n)) c cs of in
    let some : are_some (own (c ∷ cs) c.actor) ≡ true = rw (eq-eqb c.actor c.actor refl) refl in
    some-there (own (c ∷ cs)) n 1 c.actor head.0 (omega (arith, head.1)) some

-- without queues there are no commands
pub nothing_left : (n : ℕ) (left : List Command) → AreOf n left → length (queues_of n left) ≡ 0 → left ≡ []
nothing_left n [] of none = refl
nothing_left n (c ∷ cs) of none = absurd (omega (arith, with_some-there n c cs of, length-map (with_some n (c ∷ cs)) (own (c ∷ cs))))

-- the instance whose turn it is has some
pub turn-some : (n : ℕ) (left : List Command) (w : ℕ) → 0 < length (with_some n left) → are_some (own left (turn n left w)) ≡ true
turn-some n left w there =
    let P : ℕ → Type 0 = λ p. are_some (own left p) ≡ true in
    All-get_or P (with_some n left) (w % length (with_some n left)) 0 (omega arith) (filter_passes (λ p. are_some (own left p)) (range_with_len 1 n))

-- ---- the queues after the draw

get-map : (f : ℕ → List Command) (ps : List ℕ) (i : ℕ) (d : List Command) → i < length ps → get_or (map f ps) i d ≡ f (get_or ps i 0)
get-map f [] i d within = absurd (omega arith)
get-map f (p ∷ ps) zero d within = refl
get-map f (p ∷ ps) (suc i) d within = get-map f ps i d (omega arith)

pub changed_at-none : (qs : List (List Command)) (i : ℕ) (r : List Command) → are_some r ≡ false → changed_at qs i r ≡ remove qs i
changed_at-none qs i [] none = refl
changed_at-none qs i (c ∷ r) none = absurd cc

pub changed_at-some : (qs : List (List Command)) (i : ℕ) (r : List Command) → are_some r ≡ true → changed_at qs i r ≡ set qs i r
changed_at-some qs i [] some = absurd cc
changed_at-some qs i (c ∷ r) some = refl

-- a change of a queue doesn't matter if the queue is then removed
pub remove-set : (qs : List (List Command)) (i : ℕ) (r : List Command) → remove (set qs i r) i ≡ remove qs i
remove-set qs i r = rw (take-set qs i r, drop-set-lt (suc i) qs i r (omega arith)) refl

drawn : (n : ℕ) (left : List Command) (g : Lcg) (command : Option Command) (queues : List (List Command)) (next : Lcg) → are_some (own left (turn n left (pcg32 g).0)) ≡ true
    → option_to_list command ≡ take 1 (own left (turn n left (pcg32 g).0)) → queues ≡ queues_of n (without_next left (turn n left (pcg32 g).0)) → next ≡ (pcg32 g).1 → Draws n left g command queues next
drawn n left g (Some c) queues next some first after moved = (sym first, after, moved)
drawn n left g None queues next some first after moved = absurd (none-some (own left (turn n left (pcg32 g).0)) some first)
  where
    none-some : (q : List Command) → are_some q ≡ true → [] ≡ take 1 q → ⊥
    none-some [] some first = cc
    none-some (c ∷ q) some first = cc

pub draws : (n : ℕ) (left : List Command) (g next : Lcg) (word place : ℕ) (queues after : List (List Command)) (q rest : List Command) (command : Option Command)
    → AreOf n left → queues ≡ queues_of n left → (word, next) ≡ pcg32 g → place ≡ word % length queues → 0 < length queues → q ≡ get_or queues place q
    → option_to_list command ≡ take 1 q → rest ≡ drop 1 q → after ≡ changed_at queues place rest → Draws n left g command after next
draws n left g next word place queues after q rest command of are drew place-is many read first others changed =
    let ps = with_some n left in
    let size : length queues ≡ length ps = ap length are ∙ length-map ps (own left) in
    let word-is : word ≡ (pcg32 g).0 = ap (λ (x : ℕ × Lcg). x.0) drew in
    let here : place ≡ (pcg32 g).0 % length ps = place-is ∙ ap (λ m. word % m) size ∙ ap (λ w. w % length ps) word-is in
    let there : 0 < length ps = omega arith in
    let within : place < length ps = omega arith in
    let p = turn n left (pcg32 g).0 in
    let whose : p ≡ get_or ps place 0 = ap (λ i. get_or ps i 0) (sym here) in
    let own-is : q ≡ own left p = read ∙ ap (λ l. get_or l place q) are ∙ get-map (own left) ps place q within ∙ ap (own left) (sym whose) in
    let rest-is : rest ≡ own (without_next left p) p = others ∙ ap (λ (l : List Command). drop 1 l) own-is ∙ sym (own-next left p) in
    drawn n left g command after next (turn-some n left (pcg32 g).0 there) (first ∙ ap (λ (l : List Command). take 1 l) own-is)
    (changed ∙ rw (are, rest-is) (turns (own left) (own (without_next left p)) p (own-other left p) n 1 place within whose))
    (ap (λ (x : ℕ × Lcg). x.1) drew)
