-- The queues of all instances, when a command is added after the others of its instance.
use Rattle.std.proofs.Common.{◌≡◌, ◌≢◌, ℕ, zero, suc, ◌+◌, ◌<◌, Bool, true, false, cond, eqb, List, [], ◌∷◌, ◌++◌, map, get_or, set, refl, sym, ap, ◌∙◌, arith}
use Rattle.std.specs.Prelude.{filter}
use Rattle.std.specs.List.{range_with_len}
use Rattle.std.proofs.lemmas.Bool.{eq-eqb, ne_eqb}
use Rattle.std.proofs.lemmas.List.{append-nil}
use Rattle.std.proofs.lemmas.List.Elements.{filter-append}
use Rattle.std.proofs.lemmas.List.FromFn.{get_or-map-range_with_len}
use Rattle.schedule.specs.declared.command.Command.{Command}
use Rattle.schedule.specs.Interleaver.Interleavings.{own, are_some}

own-push-by : (xs : List Command) (command : Command) (q : ℕ) (b : Bool) → eqb command.actor q ≡ b → own (xs ++ command ∷ []) q ≡ cond b (own xs q ++ command ∷ []) (own xs q)
own-push-by xs command q true e = filter-append (λ c. eqb c.actor q) xs (command ∷ []) ∙ rw e refl
own-push-by xs command q false e = filter-append (λ c. eqb c.actor q) xs (command ∷ []) ∙ rw e (append-nil (own xs q))

-- its own instance has it after the others
own-push : (xs : List Command) (command : Command) → own (xs ++ command ∷ []) command.actor ≡ own xs command.actor ++ command ∷ []
own-push xs command = own-push-by xs command command.actor true (eq-eqb command.actor command.actor refl)

-- the others have what they had
own-push-other : (xs : List Command) (command : Command) (q : ℕ) → command.actor ≢ q → own (xs ++ command ∷ []) q ≡ own xs q
own-push-other xs command q other = own-push-by xs command q false (ne_eqb command.actor q other)

map-above : (f h : ℕ → List Command) (p : ℕ) → ((q : ℕ) → p ≢ q → h q ≡ f q) → (n a : ℕ) → p < a → map f (range_with_len a n) ≡ map h (range_with_len a n)
map-above f h p same zero a above = refl
map-above f h p same (suc n) a above = rw (same a (λ e. absurd (omega (arith, e)))) (ap (λ (r : List (List Command)). f a ∷ r) (map-above f h p same n (a + 1) (omega arith)))

map-at : (f h : ℕ → List Command) (p : ℕ) → ((q : ℕ) → p ≢ q → h q ≡ f q) → (n a i : ℕ) → i < n → p ≡ a + i → set (map f (range_with_len a n)) i (h p) ≡ map h (range_with_len a n)
map-at f h p same zero a i within is = absurd (omega arith)
map-at f h p same (suc n) a zero within is =
    let here : p ≡ a = omega arith in
    rw here (ap (λ (r : List (List Command)). h a ∷ r) (map-above f h p same n (a + 1) (omega arith)))
map-at f h p same (suc n) a (suc i) within is = rw (same a (λ e. absurd (omega (arith, e)))) (ap (λ (r : List (List Command)). f a ∷ r) (map-at f h p same n (a + 1) i (omega arith) (omega arith)))

pub queued-more : (n place : ℕ) (xs : List Command) (command : Command) (qs : List (List Command)) (q r : List Command) → command.actor ≡ suc place → place < n
    → qs ≡ map (own xs) (range_with_len 1 n) → q ≡ get_or qs place q → r ≡ q ++ command ∷ [] → set qs place r ≡ map (own (xs ++ command ∷ [])) (range_with_len 1 n)
queued-more n place xs command qs q r number within are there grown =
    let h : ℕ → List Command = own (xs ++ command ∷ []) in
    let read : q ≡ own xs command.actor = there ∙ ap (λ l. get_or l place q) are ∙ get_or-map-range_with_len (own xs) 1 n place command.actor q within (omega arith) in
    let new : r ≡ h command.actor = grown ∙ ap (λ (l : List Command). l ++ command ∷ []) read ∙ sym (own-push xs command) in
    rw (are, new) (map-at (own xs) h command.actor (own-push-other xs command) n 1 place within (omega arith))

kept-cons : (f : ℕ → List Command) (p : ℕ) (ps : List ℕ) (b : Bool) → are_some (f p) ≡ b → filter are_some (map f ps) ≡ map f (filter (λ q. are_some (f q)) ps) → filter are_some (map f (p ∷ ps)) ≡ map f (filter (λ q. are_some (f q)) (p ∷ ps))
kept-cons f p ps true e rest = rw e (ap (λ (r : List (List Command)). f p ∷ r) rest)
kept-cons f p ps false e rest = rw e rest

-- the queues that aren't empty
pub kept-map : (f : ℕ → List Command) (ps : List ℕ) → filter are_some (map f ps) ≡ map f (filter (λ q. are_some (f q)) ps)
kept-map f [] = refl
kept-map f (p ∷ ps) = kept-cons f p ps (are_some (f p)) refl (kept-map f ps)
