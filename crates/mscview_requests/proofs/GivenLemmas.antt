-- Files that are read one after another.
use Rattle.std.proofs.Common.{◌≡◌, ℕ, zero, suc, ◌+◌, ◌≤◌, List, [], ◌∷◌, ◌++◌, length, take, map, refl, sym, ap, subst, arith, inl, inr}
use Rattle.std.proofs.lemmas.List.{take_all}
use Rattle.std.specs.Prelude.{slice_get, Option, None, Some, Result, Ok, Err, IsErrAnd}
use Rattle.std.specs.Global.{Vec}
use Rattle.cmd_base.specs.declared.error.ProgramError.{ProgramError}
use Rattle.mscview_requests.specs.Given.{named_so, files_named, diagnostic_files, AreGiven, IsNotGiven, AreAnswered}
use Rattle.mscview_requests.specs.declared.file_bytes.FileBytes.{FileBytes}

same : {A : Type 0} {a b : A} → Some a ≡ Some b → a ≡ b
same e = cc

never : {A : Type 0} {a : A} → None ≡ Some a → ⊥
never e = cc

-- the bytes of a file, as a slice
pub given_as : (gives : ℕ → Option (List ℕ) → Result (List ℕ) ProgramError → Type 0) (place : ℕ) (file : Option (List ℕ)) (text bytes : List ℕ) → text ≡ bytes → gives place file (Ok bytes) → gives place file (Ok text)
given_as gives place file text bytes lent its = subst (λ t. gives place file (Ok t)) (sym lent) its

-- one more file
given_on : {W : Type 0} (gives : ℕ → Option (List ℕ) → Result (List ℕ) ProgramError → Type 0) (f : W → Option (List ℕ)) (words : List W) (texts : List (List ℕ)) (k n : ℕ) (word : W) (text : List ℕ)
    → AreGiven gives k (map f (take n words)) texts → slice_get words n ≡ Some word → gives (k + n) (f word) (Ok text) → AreGiven gives k (map f (take (n + 1) words)) (texts ++ text ∷ [])
given_on gives f [] texts k zero word text so_far at its = absurd (never at)
given_on gives f [] texts k (suc n) word text so_far at its = absurd (never at)
given_on gives f (w ∷ words) [] k zero word text so_far at its =
    let e : k + 0 ≡ k = omega arith in
    (subst (λ (m : ℕ). gives m (f w) (Ok text)) e (subst (λ x. gives (k + 0) (f x) (Ok text)) (sym (same at)) its), tt)
given_on gives f (w ∷ words) (t ∷ texts) k zero word text so_far at its = absurd so_far
given_on gives f (w ∷ words) [] k (suc n) word text so_far at its = absurd so_far
given_on gives f (w ∷ words) (t ∷ texts) k (suc n) word text so_far at its =
    let e : suc (n + 1) ≡ suc n + 1 = omega arith in
    let further : k + suc n ≡ k + 1 + n = omega arith in
    subst (λ (m : ℕ). AreGiven gives k (map f (take m (w ∷ words))) (t ∷ (texts ++ text ∷ []))) e
    (so_far.0, given_on gives f words texts (k + 1) n word text so_far.1 at (subst (λ (m : ℕ). gives m (f word) (Ok text)) further its))

pub given_next : {W : Type 0} (gives : ℕ → Option (List ℕ) → Result (List ℕ) ProgramError → Type 0) (f : W → Option (List ℕ)) (words : List W) (texts more : List (List ℕ)) (n : ℕ) (word : W) (text : List ℕ)
    → AreGiven gives 0 (map f (take n words)) texts → slice_get words n ≡ Some word → gives n (f word) (Ok text) → more ≡ texts ++ text ∷ [] → AreGiven gives 0 (map f (take (n + 1) words)) more
given_next gives f words texts more n word text so_far at its added =
    let e : n ≡ 0 + n = omega arith in
    subst (λ ts. AreGiven gives 0 (map f (take (n + 1) words)) ts) (sym added)
    (given_on gives f words texts 0 n word text so_far at (subst (λ (m : ℕ). gives m (f word) (Ok text)) e its))

-- a file that can't be read
not_on : {W : Type 0} (gives : ℕ → Option (List ℕ) → Result (List ℕ) ProgramError → Type 0) (f : W → Option (List ℕ)) (words : List W) (texts : List (List ℕ)) (k n : ℕ) (word : W) (error : ProgramError)
    → AreGiven gives k (map f (take n words)) texts → slice_get words n ≡ Some word → gives (k + n) (f word) (Err error) → IsNotGiven gives k (map f words) error
not_on gives f [] texts k zero word error so_far at its = absurd (never at)
not_on gives f [] texts k (suc n) word error so_far at its = absurd (never at)
not_on gives f (w ∷ words) texts k zero word error so_far at its =
    let e : k + 0 ≡ k = omega arith in
    inl (subst (λ (m : ℕ). gives m (f w) (Err error)) e (subst (λ x. gives (k + 0) (f x) (Err error)) (sym (same at)) its))
not_on gives f (w ∷ words) [] k (suc n) word error so_far at its = absurd so_far
not_on gives f (w ∷ words) (t ∷ texts) k (suc n) word error so_far at its =
    let further : k + suc n ≡ k + 1 + n = omega arith in
    inr (t, so_far.0, not_on gives f words texts (k + 1) n word error so_far.1 at (subst (λ (m : ℕ). gives m (f word) (Err error)) further its))

pub not_given : {W : Type 0} (gives : ℕ → Option (List ℕ) → Result (List ℕ) ProgramError → Type 0) (f : W → Option (List ℕ)) (words : List W) (texts : List (List ℕ)) (n : ℕ) (word : W) (error : ProgramError)
    → AreGiven gives 0 (map f (take n words)) texts → slice_get words n ≡ Some word → gives n (f word) (Err error) → IsNotGiven gives 0 (map f words) error
not_given gives f words texts n word error so_far at its =
    let e : n ≡ 0 + n = omega arith in
    not_on gives f words texts 0 n word error so_far at (subst (λ (m : ℕ). gives m (f word) (Err error)) e its)

-- all files
pub given_all : {W : Type 0} (gives : ℕ → Option (List ℕ) → Result (List ℕ) ProgramError → Type 0) (f : W → Option (List ℕ)) (words : List W) (texts : List (List ℕ)) (n : ℕ) → length words ≤ n
    → AreGiven gives 0 (map f (take n words)) texts → AreGiven gives 0 (map f words) texts
given_all gives f words texts n whole all = subst (λ ws. AreGiven gives 0 (map f ws) texts) (take_all n words whole) all

-- the names of several files
pub several : {W : Type 0} (f : W → List ℕ) (words : List W) → 2 ≤ length words → files_named (map f words) ≡ map (λ w. Some (f w)) words
several f [] many = absurd (omega (arith, many))
several f (w ∷ []) many = absurd (omega (arith, many))
several {W = W} f (w ∷ v ∷ words) many = ap (λ fs. Some (f w) ∷ Some (f v) ∷ fs) (each words)
  where
    each : (ws : List W) → map Some (map f ws) ≡ map (λ w. Some (f w)) ws
    each [] = refl
    each (w ∷ ws) = ap (λ fs. Some (f w) ∷ fs) (each ws)

-- the names for diagnostics
pub diagnostic_several : {W : Type 0} (f : W → List ℕ) (words : List W) → 2 ≤ length words → diagnostic_files (map f words) ≡ map f words
diagnostic_several f [] many = absurd (omega (arith, many))
diagnostic_several f (w ∷ []) many = absurd (omega (arith, many))
diagnostic_several f (w ∷ v ∷ words) many = refl

pub diagnostic_one : {W : Type 0} (f : W → List ℕ) (words : List W) (n : ℕ) → n ≡ length words → n + 1 ≤ 2 → diagnostic_files (map f words) ≡ []
diagnostic_one f [] n is few = refl
diagnostic_one f (w ∷ []) n is few = refl
diagnostic_one f (w ∷ v ∷ words) n is few = absurd (omega (arith, is, few))

-- no file, or one
pub none_named : {W : Type 0} (f : W → List ℕ) (words : List W) → slice_get words 0 ≡ None → files_named (map f words) ≡ None ∷ []
none_named f [] at = refl
none_named f (w ∷ words) at = absurd (never (sym at))

pub one_named : {W : Type 0} (f : W → List ℕ) (words : List W) (word : W) → length words ≤ 1 → slice_get words 0 ≡ Some word → files_named (map f words) ≡ named_so (f word) ∷ []
one_named f [] word few at = absurd (never at)
one_named f (w ∷ []) word few at = ap (λ x. named_so (f x) ∷ []) (same at)
one_named f (w ∷ v ∷ words) word few at = absurd (omega (arith, few))

-- the refusal of a file that can't be read
pub answered_so : (gives : ℕ → Option (List ℕ) → Result (List ℕ) ProgramError → Type 0) (files : List (Option (List ℕ))) (result : Result (Vec FileBytes) ProgramError) (error : ProgramError)
    → IsErrAnd result (λ e. e ≡ error) → IsNotGiven gives 0 files error → AreAnswered gives files result
answered_so gives files (Ok texts) error its lacks = absurd its
answered_so gives files (Err e) error its lacks = inr (subst (λ x. IsNotGiven gives 0 files x) (sym its) lacks)
