-- Each instance's commands, when one instance makes its next.
use Rattle.std.proofs.Common.{◌≡◌, ◌≢◌, ℕ, ◌+◌, Bool, true, false, cond, eqb, List, [], ◌∷◌, ◌++◌, length, take, drop, refl, sym, ap, ◌∙◌, arith}
use Rattle.std.specs.Prelude.{All}
use Rattle.std.proofs.lemmas.Bool.{eqb-true, ne_eqb}
use Rattle.std.proofs.lemmas.List.Elements.{All-cons, All-head, All-tail}
use Rattle.schedule.specs.declared.command.Command.{Command}
use Rattle.schedule.specs.Interleaver.Interleavings.{own, are_some, without_next}

-- ---- the next command of p

own-next-cons : (c : Command) (cs : List Command) (p : ℕ) (b : Bool) → eqb c.actor p ≡ b → own (without_next cs p) p ≡ drop 1 (own cs p) → own (without_next (c ∷ cs) p) p ≡ drop 1 (own (c ∷ cs) p)
own-next-cons c cs p true e rest = rw e refl
own-next-cons c cs p false e rest = rw (e, e) rest

-- p's commands lose their first
pub own-next : (left : List Command) (p : ℕ) → own (without_next left p) p ≡ drop 1 (own left p)
own-next [] p = refl
own-next (c ∷ cs) p = own-next-cons c cs p (eqb c.actor p) refl (own-next cs p)

other-actor : (a p q : ℕ) → eqb a p ≡ true → p ≢ q → eqb a q ≡ false
other-actor a p q e other = ne_eqb a q (λ same. other (sym (eqb-true a p e) ∙ same))

own-other-cons : (c : Command) (cs : List Command) (p q : ℕ) (b : Bool) → eqb c.actor p ≡ b → p ≢ q → own (without_next cs p) q ≡ own cs q → own (without_next (c ∷ cs) p) q ≡ own (c ∷ cs) q
own-other-cons c cs p q true e other rest = rw (e, other-actor c.actor p q e other) refl
own-other-cons c cs p q false e other rest = rw e (ap (λ (r : List Command). cond (eqb c.actor q) (c ∷ r) r) rest)

-- the commands of the others stay
pub own-other : (left : List Command) (p q : ℕ) → p ≢ q → own (without_next left p) q ≡ own left q
own-other [] p q other = refl
own-other (c ∷ cs) p q other = own-other-cons c cs p q (eqb c.actor p) refl other (own-other cs p q other)

length-next-cons : (c : Command) (cs : List Command) (p : ℕ) (b : Bool) → eqb c.actor p ≡ b → (are_some (own cs p) ≡ true → length (without_next cs p) + 1 ≡ length cs) → are_some (own (c ∷ cs) p) ≡ true → length (without_next (c ∷ cs) p) + 1 ≡ length (c ∷ cs)
length-next-cons c cs p true e rest some = rw e (omega arith)
length-next-cons c cs p false e rest some =
    let there : are_some (own cs p) ≡ true = rw e at some in
    let fewer = rest there in
    rw e (omega arith)

-- one command is gone
pub length-next : (left : List Command) (p : ℕ) → are_some (own left p) ≡ true → length (without_next left p) + 1 ≡ length left
length-next [] p some = absurd cc
length-next (c ∷ cs) p some = length-next-cons c cs p (eqb c.actor p) refl (length-next cs p) some

All-next-cons : (P : Command → Type 0) (c : Command) (cs : List Command) (p : ℕ) (b : Bool) → eqb c.actor p ≡ b → P c → All P cs → All P (without_next cs p) → All P (without_next (c ∷ cs) p)
All-next-cons P c cs p true e first rest fewer = rw e rest
All-next-cons P c cs p false e first rest fewer = rw e (All-cons P c (without_next cs p) first fewer)

-- a fact that holds of each command holds of the remaining ones
pub All-next : (P : Command → Type 0) (left : List Command) (p : ℕ) → All P left → All P (without_next left p)
All-next P [] p all = all
All-next P (c ∷ cs) p all = All-next-cons P c cs p (eqb c.actor p) refl (All-head P c cs all) (All-tail P c cs all) (All-next P cs p (All-tail P c cs all))

-- ---- the command that is made

pub own-first : (p : ℕ) (cs : List Command) → All (λ c. eqb c.actor p ≡ true) cs → own (take 1 cs) p ≡ take 1 cs
own-first p [] all = refl
own-first p (c ∷ cs) all = rw (All-head (λ c. eqb c.actor p ≡ true) c cs all) refl

pub own-first-other : (p q : ℕ) (cs : List Command) → p ≢ q → All (λ c. eqb c.actor p ≡ true) cs → own (take 1 cs) q ≡ []
own-first-other p q [] other all = refl
own-first-other p q (c ∷ cs) other all = rw (other-actor c.actor p q (All-head (λ c. eqb c.actor p ≡ true) c cs all) other) refl

-- the first command and the others are all
pub first-and-rest : (cs : List Command) → take 1 cs ++ drop 1 cs ≡ cs
first-and-rest [] = refl
first-and-rest (c ∷ cs) = refl
