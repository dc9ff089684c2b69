-- The values of words, one after another.
use Rattle.std.proofs.Common.{◌≡◌, ℕ, zero, suc, ◌+◌, ◌≤◌, List, [], ◌∷◌, ◌++◌, length, take, map, sym, subst, arith}
use Rattle.std.proofs.lemmas.List.{take_all}
use Rattle.std.specs.Prelude.{slice_get, None, Some, Result, Ok, Err, IsErrAnd}
use Rattle.cmd_base.specs.declared.error.ProgramError.{ProgramError}
use Rattle.mscview_requests.specs.Words.Words.{AreRead, SayNothing, AreNotRead, Says, Reads}

same : {A : Type 0} {a b : A} → Some a ≡ Some b → a ≡ b
same e = cc

never : {A : Type 0} {a : A} → None ≡ Some a → ⊥
never e = cc

-- one more word
read_on : {W A B : Type 0} (f : W → A) (Says : A → B → Type 0) (words : List W) (values : List B) (n : ℕ) (word : W) (value : B) → AreRead Says (map f (take n words)) values
    → slice_get words n ≡ Some word → Says (f word) value → AreRead Says (map f (take (n + 1) words)) (values ++ value ∷ [])
read_on f Says [] values zero word value so_far at says = absurd (never at)
read_on f Says [] values (suc n) word value so_far at says = absurd (never at)
read_on f Says (w ∷ words) [] zero word value so_far at says = (subst (λ x. Says (f x) value) (sym (same at)) says, tt)
read_on f Says (w ∷ words) (v ∷ values) zero word value so_far at says = absurd so_far
read_on f Says (w ∷ words) [] (suc n) word value so_far at says = absurd so_far
read_on f Says (w ∷ words) (v ∷ values) (suc n) word value so_far at says =
    let e : suc (n + 1) ≡ suc n + 1 = omega arith in
    subst (λ (m : ℕ). AreRead Says (map f (take m (w ∷ words))) (v ∷ (values ++ value ∷ []))) e (so_far.0, read_on f Says words values n word value so_far.1 at says)

pub read_next : {W A B : Type 0} (f : W → A) (Says : A → B → Type 0) (words : List W) (values more : List B) (n : ℕ) (word : W) (value : B) → AreRead Says (map f (take n words)) values
    → slice_get words n ≡ Some word → Says (f word) value → more ≡ values ++ value ∷ [] → AreRead Says (map f (take (n + 1) words)) more
read_next f Says words values more n word value so_far at says added =
    subst (λ vs. AreRead Says (map f (take (n + 1) words)) vs) (sym added) (read_on f Says words values n word value so_far at says)

-- a word that isn't valid
pub never_read : {W A B : Type 0} (f : W → A) (Says : A → B → Type 0) (words : List W) (n : ℕ) (word : W) → slice_get words n ≡ Some word → ((value : B) → Says (f word) value → ⊥)
    → (values : List B) → AreRead Says (map f words) values → ⊥
never_read f Says [] zero word at nothing values all = never at
never_read f Says [] (suc n) word at nothing values all = never at
never_read f Says (w ∷ words) zero word at nothing [] all = all
never_read f Says (w ∷ words) zero word at nothing (v ∷ values) all = nothing v (subst (λ x. Says (f x) v) (same at) all.0)
never_read f Says (w ∷ words) (suc n) word at nothing [] all = all
never_read f Says (w ∷ words) (suc n) word at nothing (v ∷ values) all = never_read f Says words n word at nothing values all.1

-- the refusal of one word refuses them all
pub refused_so : {A B : Type 0} (result : Result A ProgramError) (view : A → B) (IsRead : B → Type 0) (error : ProgramError) → IsErrAnd result (λ e. e ≡ error) → AreNotRead IsRead error → Reads result view IsRead
refused_so (Ok read) view IsRead error its refused = absurd its
refused_so (Err e) view IsRead error its refused = subst (λ x. AreNotRead IsRead x) (sym its) refused

pub says_so : {A : Type 0} (result : Result A ProgramError) (IsRead : A → Type 0) (error : ProgramError) → IsErrAnd result (λ e. e ≡ error) → SayNothing IsRead error → Says IsRead result
says_so (Ok value) IsRead error its refused = absurd its
says_so (Err e) IsRead error its refused = subst (λ x. SayNothing IsRead x) (sym its) refused

-- all words
pub read_all : {W A B : Type 0} (f : W → A) (Says : A → B → Type 0) (words : List W) (values : List B) (n : ℕ) → length words ≤ n → AreRead Says (map f (take n words)) values
    → AreRead Says (map f words) values
read_all f Says words values n whole all = subst (λ ws. AreRead Says (map f ws) values) (take_all n words whole) all
