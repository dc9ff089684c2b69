-- How far a draw has come, and what is drawn in the end.
use Rattle.std.proofs.Common.{◌≡◌, ◌≢◌, ℕ, zero, suc, ◌+◌, ◌<◌, Bool, true, false, eqb, List, [], ◌∷◌, ◌++◌, length, take, Some, refl, sym, ap, ◌∙◌, arith}
use Rattle.std.specs.Prelude.{All}
use Rattle.std.proofs.lemmas.Bool.{eqb-true, eqb-false}
use Rattle.std.proofs.lemmas.List.{append_assoc, append-nil, length_push}
use Rattle.std.proofs.lemmas.List.Elements.{All-append, All-take, All-filter, filter-append, filter_passes}
use Rattle.rand_core.specs.Steps.{first_words}
use Rattle.rand_pcg.specs.Lcg.{Lcg}
use Rattle.rand_pcg.specs.Pcg.{pcg32}
use Rattle.schedule.specs.declared.command.Command.{Command}
use Rattle.schedule.specs.Interleaver.Interleavings.{own, are_some, turn, without_next, interleaved}
use Rattle.schedule.specs.Interleaver.Draws.{IsOf, AreOf, queues_of, Draws}
use Rattle.schedule.proofs.InterleaverLemmas.Commands.{own-next, own-other, length-next, All-next, own-first, own-first-other, first-and-rest}
use Rattle.schedule.proofs.InterleaverLemmas.Draw.{with_some-there, turn-some}

-- the remaining commands are in the queues, and will come after the drawn ones
pub record HasCome (n many : ℕ) (whole drawn : List Command) (queues : List (List Command)) (g : Lcg) : Type 0 where
  pub left : List Command
  pub are_of : AreOf n left
  pub queued : queues ≡ queues_of n left
  pub count : length drawn + length left ≡ many
  pub order : drawn ++ interleaved n (first_words pcg32 (length left) g) left ≡ whole

-- nothing was drawn
pub HasCome-start : (n : ℕ) (commands drawn : List Command) (queues : List (List Command)) (g : Lcg) → drawn ≡ [] → AreOf n commands → queues ≡ queues_of n commands
    → HasCome n (length commands) (interleaved n (first_words pcg32 (length commands) g) commands) drawn queues g
HasCome-start n commands drawn queues g none of are = record {
  left = commands;
  are_of = of;
  queued = are;
  count = rw none (omega arith);
  order = rw none refl;
}

some-first : (q : List Command) (c : Command) → take 1 q ≡ c ∷ [] → are_some q ≡ true
some-first [] c first = absurd cc
some-first (d ∷ q) c first = refl

next-order : (n k : ℕ) (drawn left : List Command) (c : Command) (g : Lcg) → take 1 (own left (turn n left (pcg32 g).0)) ≡ c ∷ []
    → (drawn ++ c ∷ []) ++ interleaved n (first_words pcg32 k (pcg32 g).1) (without_next left (turn n left (pcg32 g).0)) ≡ drawn ++ interleaved n (first_words pcg32 (suc k) g) left
unfolding interleaved first_words
next-order n k drawn left c g first = rw first (append_assoc drawn (c ∷ []) (interleaved n (first_words pcg32 k (pcg32 g).1) (without_next left (turn n left (pcg32 g).0))))

-- one more command
pub HasCome-more : (n many : ℕ) (whole drawn : List Command) (queues after : List (List Command)) (g next : Lcg) (c : Command) → (came : HasCome n many whole drawn queues g) → Draws n came.left g (Some c) after next
    → HasCome n many whole (drawn ++ c ∷ []) after next
HasCome-more n many whole drawn queues after g next c came draw =
    let p = turn n came.left (pcg32 g).0 in
    let fewer = length-next came.left p (some-first (own came.left p) c draw.0) in
    let size : length came.left ≡ suc (length (without_next came.left p)) = omega arith in
    record {
      left = without_next came.left p;
      are_of = All-next (IsOf n) came.left p came.are_of;
      queued = draw.1;
      count = omega (arith, length_push drawn c, came.count);
      order = rw draw.2 (next-order n (length (without_next came.left p)) drawn came.left c g draw.0 ∙ ap (λ k. drawn ++ interleaved n (first_words pcg32 k g) came.left) (sym size) ∙ came.order);
    }

-- it was not the end
pub HasCome-fewer : (n many : ℕ) (whole drawn : List Command) (queues after : List (List Command)) (g next : Lcg) (c : Command) → (came : HasCome n many whole drawn queues g) → Draws n came.left g (Some c) after next → length drawn < many
HasCome-fewer n many whole drawn queues after g next c came draw =
    let p = turn n came.left (pcg32 g).0 in
    let fewer = length-next came.left p (some-first (own came.left p) c draw.0) in
    omega (arith, came.count)

drawn-all : (n : ℕ) (drawn left : List Command) (g : Lcg) → left ≡ [] → drawn ++ interleaved n (first_words pcg32 (length left) g) left ≡ drawn
unfolding interleaved first_words
drawn-all n drawn left g none = rw none (append-nil drawn)

-- nothing is left
pub HasCome-end : (n many : ℕ) (whole drawn : List Command) (queues : List (List Command)) (g : Lcg) → (came : HasCome n many whole drawn queues g) → came.left ≡ [] → drawn ≡ whole
HasCome-end n many whole drawn queues g came none = sym (drawn-all n drawn came.left g none) ∙ came.order

-- ---- laws of what is drawn

-- a fact that holds of each command holds of each drawn one
pub All-interleaved : (P : Command → Type 0) (n : ℕ) (words : List ℕ) (left : List Command) → All P left → All P (interleaved n words left)
unfolding interleaved
All-interleaved P n [] left all = λ k d within. absurd (omega arith)
All-interleaved P n (w ∷ words) left all =
    let p = turn n left w in
    All-append P (take 1 (own left p)) (interleaved n words (without_next left p)) (All-take P 1 (own left p) (All-filter (λ c. eqb c.actor p) P left all)) (All-interleaved P n words (without_next left p) (All-next P left p all))

own-draw-by : (left : List Command) (p q : ℕ) (b : Bool) → eqb p q ≡ b → own (take 1 (own left p)) q ++ own (without_next left p) q ≡ own left q
own-draw-by left p q true same =
    let is = eqb-true p q same in
    let passes = filter_passes (λ c. eqb c.actor p) left in
    rw (← is) (rw (own-first p (own left p) passes, own-next left p) (first-and-rest (own left p)))
own-draw-by left p q false other =
    let differ : p ≢ q = eqb-false p q other in
    rw (own-first-other p q (own left p) differ (filter_passes (λ c. eqb c.actor p) left)) (own-other left p q differ)

-- each instance makes its commands in order
pub own-interleaved : (n : ℕ) (words : List ℕ) (left : List Command) (q : ℕ) → length words ≡ length left → AreOf n left → own (interleaved n words left) q ≡ own left q
unfolding interleaved
own-interleaved n [] [] q size of = refl
own-interleaved n [] (c ∷ cs) q size of = absurd (omega arith)
own-interleaved n (w ∷ words) [] q size of = absurd (omega arith)
own-interleaved n (w ∷ words) (c ∷ cs) q size of =
    let left = c ∷ cs in
    let p = turn n left w in
    let fewer = length-next left p (turn-some n left w (with_some-there n c cs of)) in
    let rest = own-interleaved n words (without_next left p) q (omega arith) (All-next (IsOf n) left p of) in
    filter-append (λ x. eqb x.actor q) (take 1 (own left p)) (interleaved n words (without_next left p)) ∙ ap (λ r. own (take 1 (own left p)) q ++ r) rest ∙ own-draw-by left p q (eqb p q) refl

-- there are as many words as asked for
pub length-first_words : (k : ℕ) (g : Lcg) → length (first_words pcg32 k g) ≡ k
unfolding first_words
length-first_words zero g = refl
length-first_words (suc k) g = ap suc (length-first_words k (pcg32 g).1)
