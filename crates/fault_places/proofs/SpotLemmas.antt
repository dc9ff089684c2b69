-- One more word of a line: whether it is among words, and where the spot is from there on.
use Rattle.std.proofs.Common.{◌≡◌, ◌<◌, ◌+◌, ◌-◌, ℕ, zero, suc, true, false, List, [], ◌∷◌, length, refl, arith}
use Rattle.std.specs.Prelude.{Option, None, Some, MatchOption, bytes_eq, min}
use Rattle.fault_places.specs.Spots.{is_among, is_wrong, instead, inner, spot_from}
use Rattle.fault_places.specs.Wants.{next}
use Rattle.fault_places.specs.declared.want.Want.{Want}
use Rattle.texts.proofs.Parts.{Cons, words_cons}
use Rattle.texts.specs.Lines.{words_of}
use Rattle.texts.specs.declared.fault.Cause.{Cause}

-- there is a first word
pub cut_first : {R : Type 0} (text : R → List (List ℕ)) (more : Option R) (word : List ℕ) (words : List (List ℕ)) → MatchOption more (words ≡ word ∷ []) (λ r. words ≡ word ∷ text r) → (others : List (List ℕ)) × (words ≡ word ∷ others)
cut_first text None word words h = ([], h)
cut_first text (Some r) word words h = (text r, h)

pub among_here : (word other : List ℕ) (n : ℕ) (words others : List (List ℕ)) → 0 < n → words ≡ other ∷ others → bytes_eq word other ≡ true → is_among word n words ≡ true
among_here word other zero words others h e b = absurd (omega arith)
among_here word other (suc n) words others h e b = rw (e, b) refl

pub among_none : (word other : List ℕ) (n : ℕ) (words : List (List ℕ)) → 0 < n → words ≡ other ∷ [] → bytes_eq word other ≡ false → is_among word n words ≡ false
among_none word other zero words h e b = absurd (omega arith)
among_none word other (suc zero) words h e b = rw (e, b) refl
among_none word other (suc (suc n)) words h e b = rw (e, b) refl

pub among_next : (word other : List ℕ) (n : ℕ) (words others : List (List ℕ)) → 0 < n → words ≡ other ∷ others → bytes_eq word other ≡ false → is_among word n words ≡ is_among word (n - 1) others
among_next word other zero words others h e b = absurd (omega arith)
among_next word other (suc n) words others h e b =
    let k : suc n - 1 ≡ n = omega arith in
    rw (k, e, b) refl

pub spot_wrong : (cause : Cause) (known line : List (List ℕ)) (want : Want) (index place : ℕ) (word : List ℕ) (words others : List (List ℕ)) → words ≡ word ∷ others → is_wrong cause known line want index word ≡ true
    → spot_from cause known line want index place words ≡ record { place = place + min (inner cause) (length word); want = instead cause want word }
spot_wrong cause known line want index place word words others e w = rw (e, w) refl

-- there may be what the form allows there
pub spot_same : (cause : Cause) (known line : List (List ℕ)) (want : Want) (index place : ℕ) (word : List ℕ) (words others : List (List ℕ)) → words ≡ word ∷ others → is_wrong cause known line want index word ≡ true → instead cause want word ≡ want
    → spot_from cause known line want index place words ≡ record { place = place + min (inner cause) (length word); want = want }
spot_same cause known line want index place word words others e w s = rw (e, w, s) refl

pub spot_stops : (cause : Cause) (known line : List (List ℕ)) (want : Want) (index place : ℕ) (word : List ℕ) (words others : List (List ℕ)) → words ≡ word ∷ others → is_wrong cause known line want index word ≡ false → next want word ≡ None
    → spot_from cause known line want index place words ≡ record { place = place; want = want }
spot_stops cause known line want index place word words others e w n = rw (e, w, n) refl

pub spot_ends : (cause : Cause) (known line : List (List ℕ)) (want after : Want) (index place : ℕ) (word : List ℕ) (words : List (List ℕ)) → words ≡ word ∷ [] → is_wrong cause known line want index word ≡ false → next want word ≡ Some after
    → spot_from cause known line want index place words ≡ record { place = place + length word; want = after }
spot_ends cause known line want after index place word words e w n = rw (e, w, n) refl

pub goes_on : (cause : Cause) (known line : List (List ℕ)) (want after : Want) (index place : ℕ) (word : List ℕ) (words others : List (List ℕ)) → words ≡ word ∷ others → Cons others → is_wrong cause known line want index word ≡ false → next want word ≡ Some after
    → spot_from cause known line want index place words ≡ spot_from cause known line after (index + 1) (place + (length word + 1)) others
goes_on cause known line want after index place word words [] e c w n = absurd (let is = c.is in cc)
goes_on cause known line want after index place word words (other ∷ others) e c w n = rw (e, w, n) refl

pub spot_goes : (cause : Cause) (known line : List (List ℕ)) (want after : Want) (index place : ℕ) (word : List ℕ) (words : List (List ℕ)) (more : List ℕ) → words ≡ word ∷ words_of more → is_wrong cause known line want index word ≡ false → next want word ≡ Some after
    → spot_from cause known line want index place words ≡ spot_from cause known line after (index + 1) (place + (length word + 1)) (words_of more)
spot_goes cause known line want after index place word words more e w n = goes_on cause known line want after index place word words (words_of more) e (words_cons more) w n
