-- The beginnings of a history in two parts: the parts of its beginnings.
use Rattle.std.proofs.Common.{◌≡◌, ◌⊎◌, inl, inr, ⊎_elim, nat_lt, Bool, true, false, cond, List, [], ◌∷◌, ◌++◌, length, refl, sym}
use Rattle.chart.specs.declared.history.Occurrence.{Occurrence}
use Rattle.chart.specs.declared.history.Occurrence.TheVariants.{Send, Receive, Close}
use Rattle.chart.specs.Histories.{sent, received, Begins}
use Rattle.chart.proofs.Histories.{begins_same, begins_onward}
use Rattle.reordering.specs.OtherRuns.Walks.{Turns, inner, outer, parted}

-- a beginning of a history is the history, or a beginning of it without the newest event
begins_cases : (x : Occurrence) (g h : List Occurrence) → Begins h (x ∷ g) → (h ≡ x ∷ g) ⊎ Begins h g
begins_cases x g h ([], e) = inl (sym e)
begins_cases x g h (y ∷ more, e) = let same : g ≡ more ++ h = cc in inr (more, same)

-- the same if the newest event may be missing
kept_cases : (kept : Bool) (x : Occurrence) (g h : List Occurrence) → Begins h (cond kept (x ∷ g) g) → (h ≡ cond kept (x ∷ g) g) ⊎ Begins h g
kept_cases true x g h begins = begins_cases x g h begins
kept_cases false x g h begins = inr begins

dropped_cases : (dropped : Bool) (x : Occurrence) (g f h : List Occurrence) → Begins h (cond dropped g (x ∷ g) ++ f) → (h ≡ cond dropped g (x ∷ g) ++ f) ⊎ Begins h (g ++ f)
dropped_cases true x g f h begins = inr begins
dropped_cases false x g f h begins = begins_cases x (g ++ f) h begins

-- one more event
further : (x : Occurrence) (f g : List Occurrence) → Begins f g → Begins f (x ∷ g)
further x f g begins = begins_onward f g (x ∷ g) begins (x ∷ [], refl)

-- a beginning of the first part is the first part of a beginning
abbrev pub IsInner : Turns → Turns → List Occurrence → List Occurrence → Type 0
IsInner s r g h = (f : List Occurrence) × Begins f g × (h ≡ inner s r f)

inner_further : (s r : Turns) (x : Occurrence) (g h : List Occurrence) → IsInner s r g h → IsInner s r (x ∷ g) h
inner_further s r x g h (f, begins, same) = (f, further x f g begins, same)

pub inner_begins : (s r : Turns) (g h : List Occurrence) → Begins h (inner s r g) → IsInner s r g h
inner_begins s r [] h ([], e) = ([], begins_same [], sym e)
inner_begins s r [] h (y ∷ more, e) = absurd (cc)
inner_begins s r (Send a b m ∷ g) h begins = ⊎_elim
    (λ same. (Send a b m ∷ g, begins_same (Send a b m ∷ g), same))
    (λ rest. inner_further s r (Send a b m) g h (inner_begins s r g h rest))
    (kept_cases (nat_lt (length (sent g a b)) (s a b)) (Send a b m) (inner s r g) h begins)
inner_begins s r (Receive a b c ∷ g) h begins = ⊎_elim
    (λ same. (Receive a b c ∷ g, begins_same (Receive a b c ∷ g), same))
    (λ rest. inner_further s r (Receive a b c) g h (inner_begins s r g h rest))
    (kept_cases (nat_lt (received g b a) (r b a)) (Receive a b 0) (inner s r g) h begins)
inner_begins s r (Close a b ∷ g) h begins = inner_further s r (Close a b) g h (inner_begins s r g h begins)

-- a beginning of both parts is a beginning's second part after the whole first one, or begins the first one
abbrev pub IsOuter : Turns → Turns → List Occurrence → List Occurrence → List Occurrence → Type 0
IsOuter s r g i h = ((f : List Occurrence) × Begins f g × (h ≡ outer s r f ++ i)) ⊎ Begins h i

outer_further : (s r : Turns) (x : Occurrence) (g i h : List Occurrence) → IsOuter s r g i h → IsOuter s r (x ∷ g) i h
outer_further s r x g i h (inl (f, begins, same)) = inl (f, further x f g begins, same)
outer_further s r x g i h (inr begins) = inr begins

pub outer_begins : (s r : Turns) (g i h : List Occurrence) → Begins h (outer s r g ++ i) → IsOuter s r g i h
outer_begins s r [] i h begins = inr begins
outer_begins s r (Send a b m ∷ g) i h begins = ⊎_elim
    (λ same. inl (Send a b m ∷ g, begins_same (Send a b m ∷ g), same))
    (λ rest. outer_further s r (Send a b m) g i h (outer_begins s r g i h rest))
    (dropped_cases (nat_lt (length (sent g a b)) (s a b)) (Send a b m) (outer s r g) i h begins)
outer_begins s r (Receive a b c ∷ g) i h begins = ⊎_elim
    (λ same. inl (Receive a b c ∷ g, begins_same (Receive a b c ∷ g), same))
    (λ rest. outer_further s r (Receive a b c) g i h (outer_begins s r g i h rest))
    (dropped_cases (nat_lt (received g b a) (r b a)) (Receive a b 0) (outer s r g) i h begins)
outer_begins s r (Close a b ∷ g) i h begins = outer_further s r (Close a b) g i h (outer_begins s r g i h begins)

-- the first part begins the whole
pub inner_first : (s r : Turns) (h g : List Occurrence) → Begins (inner s r g) (parted s r h g)
inner_first s r h g = (outer s r h, refl)
