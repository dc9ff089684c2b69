-- Changes of a shelf that go on from earlier ones.
use Rattle.std.proofs.Common.{◌≡◌, ℕ, List, [], ◌∷◌, ◌++◌, refl, sym, ap, ◌∙◌, append_assoc}
use Rattle.std.specs.Prelude.{Some, None, cond}
use Rattle.std.proofs.lemmas.Bool.{eq-eqb, ne_eqb}
use Rattle.freed_posts.specs.declared.change.Change.{Change}
use Rattle.freed_posts.specs.declared.change.Change.TheVariants.{Kept, Taken}
use Rattle.board.specs.Views.{PostView}
use Rattle.freed_posts.specs.Shelves.{lying, maker, made_with, GoOn}

pub go_on_same : (changes : List Change) → GoOn changes changes
go_on_same changes = ([], refl)

pub go_on_one : (change : Change) (changes : List Change) → GoOn changes (change ∷ changes)
go_on_one change changes = (change ∷ [], refl)

pub go_on_from : (a b c : List Change) → GoOn a b → GoOn b c → GoOn a c
go_on_from a b c (x, one) (y, two) = (y ++ x, two ∙ ap (λ (l : List Change). y ++ l) one ∙ sym (append_assoc y x a))

-- the post with this number after one change more
pub kept_here : (post : PostView) (changes : List Change) (p : ℕ) → post.number ≡ p → lying (Kept post ∷ changes) p ≡ Some post
kept_here post changes p same = ap (λ b. cond b (Some post) (lying changes p)) (eq-eqb post.number p same)

pub kept_other : (post : PostView) (changes : List Change) (p : ℕ) → (post.number ≡ p → ⊥) → lying (Kept post ∷ changes) p ≡ lying changes p
kept_other post changes p other = ap (λ b. cond b (Some post) (lying changes p)) (ne_eqb post.number p other)

pub taken_here : (changes : List Change) (p by : ℕ) → lying (Taken p by ∷ changes) p ≡ None
taken_here changes p by = ap (λ b. cond b None (lying changes p)) (eq-eqb p p refl)

pub taken_other : (q by : ℕ) (changes : List Change) (p : ℕ) → (q ≡ p → ⊥) → lying (Taken q by ∷ changes) p ≡ lying changes p
taken_other q by changes p other = ap (λ b. cond b None (lying changes p)) (ne_eqb q p other)

-- no post is and isn't on the shelf
pub not_both : (changes : List Change) (p q : ℕ) (post : PostView) → lying changes p ≡ Some post → lying changes q ≡ None → p ≡ q → ⊥
not_both changes p q post one two same = cc

-- a change that was made with another ticket
pub made_other : (change : Change) (changes : List Change) (p : ℕ) → (maker change ≡ p → ⊥) → made_with p (change ∷ changes) ≡ made_with p changes
made_other change changes p other = ap (λ b. cond b (change ∷ made_with p changes) (made_with p changes)) (ne_eqb (maker change) p other)
