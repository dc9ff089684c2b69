-- The intermediate results of a chain of checks, if it succeeded and if it failed; and what a name's bytes are.
use Rattle.std.proofs.Common.{◌≡◌, ℕ, ◌≤◌, Bool, true, false, not, ◌||◌, cond, eqb, List, [], ◌∷◌, Option, Some, None, Result, Ok, Err, ◌⊎◌, inl, inr, refl, sym, ap, ◌∙◌, arith, length}
use Rattle.std.specs.Prelude.{option_map}
use Rattle.std.specs.List.{position, position_or_len, AllByRecursion}
use Rattle.std.proofs.lemmas.Bool.{ltb-false, not-false, ne_eqb, false≢true}
use Rattle.std.proofs.lemmas.List.Sums.{fails_before_first}
use Rattle.std.proofs.lemmas.List.Elements.{recursion_from_All}
use Rattle.chart.specs.Names.{IsName, name_of, bad_place, is_letter, is_name_byte}
use Rattle.chart.specs.declared.name.NameError.{NameError}
use Rattle.texts.specs.declared.fault.Cause.{Cause}
use Rattle.texts.specs.declared.fault.Fault.{Fault}
use Rattle.texts.specs.declared.fault.TextError.{TextError}
use Rattle.texts.specs.declared.fault.TextError.TheVariants as errors
use Rattle.texts.specs.Faults.{◌>>=◌, in_line, Fails}
use Rattle.texts.specs.Lines.{Lacks, named, name_or_cause}

-- both steps succeeded
pub bind_ok : {A B E : Type 0} (r : Result A E) (f : A → Result B E) (y : B) → (r >>= f) ≡ Ok y → (x : A) × (r ≡ Ok x) × (f x ≡ Ok y)
bind_ok (Ok x) f y e = (x, refl, e)
bind_ok (Err d) f y e = cc

-- the test didn't refuse
pub guard_ok : {A E : Type 0} (b : Bool) (d : E) (r : Result A E) (y : A) → cond b (Err d) r ≡ Ok y → (b ≡ false) × (r ≡ Ok y)
guard_ok true d r y e = cc
guard_ok false d r y e = (refl, e)

-- a test whose failure is a fault succeeded
pub when_ok : {A E : Type 0} (b : Bool) (d : E) (r : Result A E) (y : A) → cond b r (Err d) ≡ Ok y → (b ≡ true) × (r ≡ Ok y)
when_ok true d r y e = (refl, e)
when_ok false d r y e = cc

-- one of two
pub chosen : {A : Type 0} (b : Bool) (x y z : A) → cond b x y ≡ z → ((b ≡ true) × (x ≡ z)) ⊎ ((b ≡ false) × (y ≡ z))
chosen true x y z e = inl (refl, e)
chosen false x y z e = inr (refl, e)

-- a successful result, of a known type
abbrev done : {A E : Type 0} → A → Result A E
done x = Ok x

-- a successful result has only one value
pub ok_is : {A E : Type 0} (x y : A) → done {E = E} x ≡ done y → x ≡ y
ok_is x y e = cc

-- the fault came from the first step, or from what followed it
pub bind_err : {A B E : Type 0} (r : Result A E) (f : A → Result B E) (d : E) → (r >>= f) ≡ Err d → (r ≡ Err d) ⊎ ((x : A) × (r ≡ Ok x) × (f x ≡ Err d))
bind_err (Ok x) f d e = inr (x, refl, e)
bind_err (Err c) f d e = inl cc

-- after a success only the next step matters
pub bind_at : {A B E : Type 0} (r : Result A E) (f : A → Result B E) (x : A) → r ≡ Ok x → (r >>= f) ≡ f x
bind_at r f x e = ap (λ s. s >>= f) e

-- after a failure there is no next step
pub stops : {A B E : Type 0} (r : Result A E) (f : A → Result B E) (d : E) → r ≡ Err d → (r >>= f) ≡ Err d
stops r f d e = ap (λ s. s >>= f) e

-- a step that failed decides
pub fails_then : {A B : Type 0} (error : TextError) (r : Result A Fault) (f : A → Result B Fault) → Fails error r → Fails error (r >>= f)
fails_then errors.Memory r f h = tt
fails_then (errors.Fault fault) (Ok x) f h = cc
fails_then (errors.Fault fault) (Err d) f h = cc

-- the same within a line
pub fails_in_line : {A B : Type 0} (n : ℕ) (error : TextError) (r : Result A Cause) (f : A → Result B Cause) → Fails error (in_line n r) → Fails error (in_line n (r >>= f))
fails_in_line n errors.Memory r f h = tt
fails_in_line n (errors.Fault fault) (Ok x) f h = cc
fails_in_line n (errors.Fault fault) (Err d) f h = cc

-- a line that is read is read with any number
pub in_line_ok : {A : Type 0} (n : ℕ) (r : Result A Cause) (x : A) → in_line n r ≡ Ok x → r ≡ Ok x
in_line_ok n (Ok y) x e = cc
in_line_ok n (Err d) x e = cc

name_of_same : (w v : List ℕ) → name_of w ≡ Ok v → v ≡ w
unfolding name_of
name_of_same w v e = grind arith

named_ok : (r : Result (List ℕ) NameError) (v : List ℕ) → named r ≡ Ok v → r ≡ Ok v
named_ok (Ok y) v e = cc
named_ok (Err d) v e = cc

-- a word that is a name is read as itself
pub name_is : (w v : List ℕ) → name_or_cause w ≡ Ok v → (v ≡ w) × IsName w
name_is w v e =
    let same = name_of_same w v (named_ok (name_of w) v e) in
    (same, named_ok (name_of w) v e ∙ ap Ok same)

-- a name has a byte
pub name_some : (w : List ℕ) → IsName w → eqb (length w) 0 ≡ false
unfolding name_of
name_some w e = grind arith

pub name_again : (w : List ℕ) → IsName w → name_or_cause w ≡ Ok w
name_again w e = ap named e

-- ---- a name has no space, no line feed and no other byte that doesn't belong

name_all_good : (w v : List ℕ) → name_of w ≡ Ok v → bad_place w ≡ None
unfolding name_of
name_all_good w v e = grind arith

is_none_there : (b : Bool) (k : ℕ) → cond b (Some k) None ≡ None → b ≡ false
is_none_there true k e = cc
is_none_there false k e = refl

none_mapped : (o : Option ℕ) (f : ℕ → ℕ) → option_map f o ≡ None → o ≡ None
none_mapped None f e = refl
none_mapped (Some x) f e = cc

letter_first : (b : Bool) (o : Option ℕ) → cond b o (Some 1) ≡ None → (b ≡ true) × (o ≡ None)
letter_first true o e = (refl, e)
letter_first false o e = cc

all_pass : (bs : List ℕ) → position (λ b. not (is_name_byte b)) bs ≡ None → AllByRecursion (λ b. is_name_byte b ≡ true) bs
all_pass bs e =
    let past : length bs ≤ position_or_len (λ b. not (is_name_byte b)) bs = ltb-false _ _ (is_none_there _ _ e) in
    recursion_from_All _ bs (λ k d below. not-false _ (fails_before_first (λ b. not (is_name_byte b)) bs k d (omega arith)))

or_from_left : (x y : Bool) → x ≡ true → (x || y) ≡ true
or_from_left true y e = refl
or_from_left false y e = cc

good_bytes : (w : List ℕ) → bad_place w ≡ None → AllByRecursion (λ b. is_name_byte b ≡ true) w
good_bytes [] e = tt
good_bytes (b ∷ bs) e =
    let p = letter_first (is_letter b) _ e in
    (or_from_left _ _ (or_from_left _ _ p.0), all_pass bs (none_mapped _ _ p.1))

pub name_bytes : (w : List ℕ) → IsName w → AllByRecursion (λ b. is_name_byte b ≡ true) w
name_bytes w h = good_bytes w (name_all_good w w h)

good_lacks : (byte : ℕ) (w : List ℕ) → is_name_byte byte ≡ false → AllByRecursion (λ b. is_name_byte b ≡ true) w → Lacks byte w
good_lacks byte [] bad h = tt
good_lacks byte (b ∷ bs) bad h =
    (ne_eqb b byte (λ same. false≢true (sym bad ∙ ap is_name_byte (sym same) ∙ h.0)), good_lacks byte bs bad h.1)

-- for a byte that doesn't belong in a name: `name_lacks 32 w refl h` proves that the name has no space
pub name_lacks : (byte : ℕ) (w : List ℕ) → is_name_byte byte ≡ false → IsName w → Lacks byte w
name_lacks byte w bad h = good_lacks byte w bad (name_bytes w h)

pub name_has_no_space : (w : List ℕ) → IsName w → Lacks 32 w
name_has_no_space w h = name_lacks 32 w refl h

pub name_has_no_line_feed : (w : List ℕ) → IsName w → Lacks 10 w
name_has_no_line_feed w h = name_lacks 10 w refl h

pub name_has_no_semicolon : (w : List ℕ) → IsName w → Lacks 59 w
name_has_no_semicolon w h = name_lacks 59 w refl h
