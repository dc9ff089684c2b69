-- Names that are gathered, each once.
use Rattle.std.proofs.Common.{◌≡◌, ℕ, ◌+◌, ◌<◌, ◌||◌, ◌⊎◌, inl, inr, Bool, true, false, List, [], ◌∷◌, ◌++◌, length, map, take, get_or, refl, sym, ap, ap₂, ◌∙◌, subst, append_assoc}
use Rattle.std.specs.Prelude.{bytes_eq, MatchBool}
use Rattle.std.specs.List.{list_any, flat_map}
use Rattle.std.proofs.lemmas.Bool.{cases_Bool}
use Rattle.std.proofs.lemmas.List.Folds.{list_any-append}
use Rattle.std.proofs.lemmas.List.{map_more}
use Rattle.std.proofs.lemmas.Slice.Eq.{bytes_eq-Decides}
use Rattle.chart.specs.declared.event.Event.{Event}
use Rattle.chart.specs.Events.{name_of}
use Rattle.chart.specs.Charts.{LineView}
use Rattle.std.proofs.lemmas.List.Concat.{flat_map-cons}
use Rattle.diagram_labels.proofs.Tables.{any_mapped}
use Rattle.diagram_labels.specs.Giving.{is_given, numbered, IsLeastFree, IsFreeNumbered, IsCalled}
use Rattle.repair.specs.Naming.{message_names, have_more, HaveNames}

-- one name more
given-push : (all : List (List ℕ)) (y x : List ℕ) → is_given (all ++ y ∷ []) x ≡ (is_given all x || bytes_eq x y)
given-push all y x = list_any-append (bytes_eq x) all (y ∷ []) ∙ ap (λ b. is_given all x || b) (last (bytes_eq x y))
  where
    last : (b : Bool) → (b || false) ≡ b
    last true = refl
    last false = refl

-- both get it
have-both : (names all : List (List ℕ)) (y : List ℕ) → HaveNames names all → HaveNames (names ++ y ∷ []) (all ++ y ∷ [])
have-both names all y have x = given-push names y x ∙ ap (λ b. b || bytes_eq x y) (have x) ∙ sym (given-push all y x)

-- or the one has it already
have-again : (names all : List (List ℕ)) (y : List ℕ) → HaveNames names all → is_given names y ≡ true → HaveNames names (all ++ y ∷ [])
have-again names all y have given x = by (cases_Bool (bytes_eq x y))
  where
    right_true : (b : Bool) → (b || true) ≡ true
    right_true true = refl
    right_true false = refl

    right_false : (b : Bool) → (b || false) ≡ b
    right_false true = refl
    right_false false = refl

    by : (bytes_eq x y ≡ true) ⊎ (bytes_eq x y ≡ false) → is_given names x ≡ is_given (all ++ y ∷ []) x
    by (inl same) = ap (is_given names) ((bytes_eq-Decides x y).0 same) ∙ given ∙ sym (given-push all y x ∙ ap (λ b. is_given all x || b) same ∙ right_true (is_given all x))
    by (inr other) = have x ∙ sym (given-push all y x ∙ ap (λ b. is_given all x || b) other ∙ right_false (is_given all x))

-- the names of one event more
more-next : (all : List (List ℕ)) (events : List Event) (i : ℕ) (m : Event) → i < length events → m ≡ get_or events i m → have_more all (take (i + 1) events) ≡ have_more all (take i events) ++ name_of m ∷ []
more-next all events i m within read =
    ap (λ l. all ++ l) (map_more name_of events i m within ∙ ap (λ n. map name_of (take i events) ++ n ∷ []) (ap name_of (sym read)))
    ∙ sym (append_assoc all (map name_of (take i events)) (name_of m ∷ []))

pub have_given : (names all : List (List ℕ)) (events : List Event) (i : ℕ) (m : Event) → i < length events → m ≡ get_or events i m → HaveNames names (have_more all (take i events)) → is_given names (name_of m) ≡ true → HaveNames names (have_more all (take (i + 1) events))
have_given names all events i m within read have given =
    subst (HaveNames names) (sym (more-next all events i m within read)) (have-again names (have_more all (take i events)) (name_of m) have given)

pub have_new : (names new all : List (List ℕ)) (events : List Event) (i : ℕ) (m : Event) → i < length events → m ≡ get_or events i m → HaveNames names (have_more all (take i events)) → new ≡ names ++ name_of m ∷ [] → HaveNames new (have_more all (take (i + 1) events))
have_new names new all events i m within read have is =
    subst (λ l. HaveNames l (have_more all (take (i + 1) events))) (sym is)
    (subst (HaveNames (names ++ name_of m ∷ [])) (sym (more-next all events i m within read)) (have-both names (have_more all (take i events)) (name_of m) have))

-- what is called so among these names is called so among those
least_moved : (names all : List (List ℕ)) (word : List ℕ) (n : ℕ) → HaveNames names all → IsLeastFree names word n → IsLeastFree all word n
least_moved names all word n have least = record {
  from_two = least.from_two;
  free = sym (have (numbered word n)) ∙ least.free;
  least = λ k two less. sym (have (numbered word k)) ∙ least.least k two less;
}

pub called_moved : (names all : List (List ℕ)) (word name : List ℕ) → HaveNames names all → IsCalled names word name → IsCalled all word name
called_moved names all word name have called = by (is_given names word) (is_given all word) (have word) called
  where
    by : (a b : Bool) → a ≡ b → MatchBool a (IsFreeNumbered names word name) (name ≡ word) → MatchBool b (IsFreeNumbered all word name) (name ≡ word)
    by true true same (n, is, least) = (n, is, least_moved names all word n have least)
    by true false same free = cc
    by false true same is = cc
    by false false same is = is

-- a name that wasn't given before is
pub have_given_new : (names new all : List (List ℕ)) (word name : List ℕ) (events : List Event) (i : ℕ) (m : Event) (given : Bool) → i < length events → m ≡ get_or events i m → HaveNames names (have_more all (take i events)) → word ≡ name_of m → given ≡ is_given names word → given ≡ false → IsCalled names word name → new ≡ names ++ name ∷ []
    → HaveNames new (have_more all (take (i + 1) events))
have_given_new names new all word name events i m given within read have its was absent called is =
    let none : is_given names word ≡ false = sym was ∙ absent in
    let so : name ≡ word = subst (λ b. MatchBool b (IsFreeNumbered names word name) (name ≡ word)) none called in
    have_new names new all events i m within read have (is ∙ ap (λ (n : List ℕ). names ++ n ∷ []) (so ∙ its))

-- one that was is had already
pub have_given_old : (names new all : List (List ℕ)) (word : List ℕ) (events : List Event) (i : ℕ) (m : Event) (given : Bool) → i < length events → m ≡ get_or events i m → HaveNames names (have_more all (take i events)) → word ≡ name_of m → given ≡ is_given names word → given ≡ true → new ≡ names
    → HaveNames new (have_more all (take (i + 1) events))
have_given_old names new all word events i m given within read have its was present is =
    subst (λ (ns : List (List ℕ)). HaveNames ns (have_more all (take (i + 1) events))) (sym is)
    (have_given names all events i m within read have (ap (is_given names) (sym its) ∙ sym was ∙ present))

-- whether a message of the lines has the name
pub any_flat : {X Y : Type 0} (p : Y → Bool) (f : X → List Y) (xs : List X) → list_any p (flat_map f xs) ≡ list_any (λ x. list_any p (f x)) xs
any_flat p f [] = refl
any_flat p f (x ∷ xs) =
    ap (list_any p) (flat_map-cons f x xs) ∙ list_any-append p (f x) (flat_map f xs) ∙ ap (λ b. list_any p (f x) || b) (any_flat p f xs)

any_lines : (name : List ℕ) (lines : List LineView) → list_any (λ l. list_any (bytes_eq name) (map name_of l.events)) lines ≡ list_any (λ l. list_any (λ m. bytes_eq name (name_of m)) l.events) lines
any_lines name [] = refl
any_lines name (l ∷ lines) = ap₂ (λ a b. a || b) (any_mapped name_of (bytes_eq name) l.events) (any_lines name lines)

pub taken_is : (name : List ℕ) (lines : List LineView) → is_given (message_names lines) name ≡ list_any (λ l. list_any (λ m. bytes_eq name (name_of m)) l.events) lines
taken_is name lines = any_flat (bytes_eq name) (λ (l : LineView). map name_of l.events) lines ∙ any_lines name lines
