-- Races that are written while they are found: the text so far, and the text of one more receive, whatever it is.
use Rattle.std.proofs.Common.{◌≡◌, ℕ, ap, List, [], ◌∷◌, ◌++◌, Result, Ok, Err, Bool, true, false, ◌||◌, refl, subst, sym, ap₂, ◌∙◌, append_assoc, length, lt-ltb, arith}
use Rattle.std.specs.Result.{is_err}
use Rattle.std.specs.Prelude.{IfOk}
use Rattle.std.specs.List.{flat_map, list_any}
use Rattle.std.proofs.lemmas.List.{flat_map_more, length-append}
use Rattle.std.proofs.lemmas.List.Folds.{list_any-append}
use Rattle.std.proofs.lemmas.List.Concat.{flat_map-append}
use Rattle.chart.specs.declared.ranges.EventRange.{EventRange}
use Rattle.texts.specs.Outs.{Sink}
use Rattle.texts.specs.Writing.{Buffers, Breaks, Stops, Adds, Wrote}
use Rattle.texts.specs.declared.text_buffer.TextBuffer.{TextBuffer}
use Rattle.races_text.specs.Named.Listing.{has_ranges}
use Rattle.texts.proofs.Writes.{buffers_then, stops_then, adds_early, wrote_then}

-- a property of a value holds vacuously for an error
pub vacuous : {T E : Type 0} (P : T → Type 0) (r : Result T E) → is_err r ≡ true → IfOk r P
vacuous P (Ok x) failed = cc
vacuous P (Err e) failed = tt

or_once : (a b : Bool) → (a || (b || false)) ≡ (a || b)
or_once true b = refl
or_once false true = refl
or_once false false = refl

-- whether some element passes the test, with one more element
pub any_more : {X : Type 0} (test : X → Bool) (xs : List X) (x : X) (a b : Bool) → a ≡ list_any test xs → b ≡ test x → (a || b) ≡ list_any test (xs ++ x ∷ [])
any_more test xs x a b was is =
    ap₂ (λ y z. y || z) was is ∙ sym (or_once (list_any test xs) (test x)) ∙ sym (list_any-append test xs (x ∷ []))

one_more : {X : Type 0} (f : X → List ℕ) (xs : List X) (x : X) → flat_map f xs ++ f x ≡ flat_map f (xs ++ x ∷ [])
one_more f xs x = flat_map_more f [] xs x

-- the rest of a list, after one more element was taken
pub taken_one : {X : Type 0} (all done left rest : List X) (x : X) → all ≡ done ++ left → left ≡ x ∷ rest → all ≡ (done ++ x ∷ []) ++ rest
taken_one all done left rest x was is = was ∙ ap (λ l. done ++ l) is ∙ sym (append_assoc done (x ∷ []) rest)

-- there is a range
pub has_some : (ranges : List EventRange) (r : EventRange) → has_ranges (ranges ++ r ∷ []) ≡ true
has_some ranges r = lt-ltb 0 (length (ranges ++ r ∷ [])) (omega (arith, length-append ranges (r ∷ [])))

module _ {S : Type 0} {sink : S → Sink} {X : Type 0} (f : X → List ℕ) where
  -- the text of one more element was added
  pub adds_next : {a b c : TextBuffer S} (xs : List X) (x : X) → Buffers sink a b (flat_map f xs) → Buffers sink b c (f x) → Buffers sink a c (flat_map f (xs ++ x ∷ []))
  adds_next {a} {b} {c} xs x p q = subst (Buffers sink a c) (one_more f xs x) (buffers_then p q)

  -- if the text of one more element stops, the whole text stops, whatever follows
  pub stops_at_next : {T E : Type 0} {a b c : TextBuffer S} (r : Result T E) (xs : List X) (x : X) (more : List X) → is_err r ≡ true → Buffers sink a b (flat_map f xs)
      → Stops sink b c (f x) → Adds sink a c r (flat_map f ((xs ++ x ∷ []) ++ more))
  stops_at_next {a = a} {b} {c} r xs x more failed p q =
      let stopped = subst (Stops sink a c) (one_more f xs x) (stops_then p q) in
      subst (Adds sink a c r) (sym (flat_map-append f (xs ++ x ∷ []) more)) (adds_early r (flat_map f more) failed stopped)

module _ {S : Type 0} {sink : S → Sink} where
  -- if the end of a text can't be put, the text is written up to there
  pub wrote_less : {T E : Type 0} {a b : TextBuffer S} {s : List ℕ} (start c : S) (r : Result T E) → is_err r ≡ true → a.out.now ≡ start → a.held ≡ [] → Buffers sink a b s → Breaks sink b.out.now c b.held → Wrote sink start c r s
  wrote_less start c (Ok x) failed begun none p q = cc
  wrote_less {T} {E} start c (Err e) failed begun none p q = wrote_then {T = T} {E = E} start c (Err e) begun none p q
