-- A name stays as it is.
use Rattle.std.proofs.Common.{◌≡◌, ℕ, ◌+◌, Bool, true, false, not, ◌==◌, cond, List, [], ◌∷◌, Option, None, Some, Result, Ok, Err, length, nat_lt, lt-ltb, ne_eqb, refl, sym, ap, ◌∙◌, arith}
use Rattle.std.specs.Prelude.{position, option_map}
use Rattle.std.specs.List.{list_all, slice_split, onto_first, prefix_len}
use Rattle.std.proofs.lemmas.Bool.Decides.{nat_tests}
use Rattle.chart.specs.Names.{is_letter, is_name_byte, bad_place, name_of, IsName}
use Rattle.chart.specs.Keywords.{is_reserved}
use Rattle.chart.specs.declared.name.NameError.{NameError}
use Rattle.chart.specs.declared.name.NameError.TheVariants.{Empty, TooLong, BadByte, Reserved}
use Rattle.chart.specs.declared.name.TheConstants.{MAX_NAME}
use Rattle.chart.proofs.NameBytes.{refused, empty_error, name_is_sound, sound_bytes}
use Rattle.diagram_labels.specs.Spelling.{joined, IsWord, fronted, unreserved, shortened, spelled}
use Rattle.diagram_labels.proofs.Bytes.{both}
use Rattle.diagram_labels.proofs.Spellings.{word_error}

-- bytes with no fault are a word
sound_is_word : (word : List ℕ) → bad_place word ≡ None → (length word == 0) ≡ false → IsWord word
sound_is_word [] h z = absurd (grind (arith, z))
sound_is_word (b ∷ bytes) h z = sound_bytes b bytes h

-- a name is a word
pub name_is_word : (word : List ℕ) → IsName word → IsWord word
name_is_word [] h = refused [] Empty (empty_error [] refl) h
name_is_word (b ∷ bytes) h = sound_bytes b bytes (name_is_sound (b ∷ bytes) h).1

reserved_error : (word : List ℕ) (b : Bool) → is_reserved word ≡ b → IsWord word → nat_lt MAX_NAME (length word) ≡ false → IsName word → b ≡ false
reserved_error word true e w l h = refused word Reserved (word_error word w ∙ rw (l, e) refl) h
reserved_error word false e w l h = refl

-- nothing is cut out of a name's bytes
uncut : (word : List ℕ) (b : ℕ) → list_all is_name_byte (b ∷ word) ≡ true → slice_split (λ x. not (is_name_byte x)) (b ∷ word) ≡ (b ∷ word) ∷ []
uncut [] b h = let e = both (is_name_byte b) true h in rw e.0 refl
uncut (next ∷ word) b h =
    let e = both (is_name_byte b) (list_all is_name_byte (next ∷ word)) h in
    let more : slice_split (λ x. not (is_name_byte x)) (next ∷ word) ≡ (next ∷ word) ∷ [] = uncut word next e.1 in
    ap (λ t. cond (not t) ([] ∷ slice_split (λ x. not (is_name_byte x)) (next ∷ word)) (onto_first b (slice_split (λ x. not (is_name_byte x)) (next ∷ word)))) e.0 ∙ ap (onto_first b) more

joined_kept : (word : List ℕ) → IsWord word → joined word ≡ word
unfolding joined
joined_kept [] h = absurd (grind (arith, h.0))
joined_kept (b ∷ word) h =
    let some : nat_lt 0 (length (b ∷ word)) ≡ true = lt-ltb _ _ (omega arith) in
    rw (uncut word b h.1, some) refl

word_kept : (word : List ℕ) → IsWord word → is_reserved word ≡ false → nat_lt MAX_NAME (length word) ≡ false → spelled word ≡ word
unfolding spelled fronted unreserved shortened
word_kept word h r l = rw (joined_kept word h, h.0, r, l) refl

-- a label that is a name is its own spelling
pub name_kept : (label : List ℕ) → IsName label → spelled label ≡ label
name_kept label h =
    let renames = name_is_sound label h in
    named label (length label == 0) refl renames h
  where
    named : (label : List ℕ) (b : Bool) → (length label == 0) ≡ b → (nat_lt MAX_NAME (length label) ≡ false) × (bad_place label ≡ None) → IsName label → spelled label ≡ label
    named label true e renames h = refused label Empty (empty_error label e) h
    named label false e renames h =
        let word = sound_is_word label renames.1 e in
        word_kept label word (reserved_error label (is_reserved label) refl word renames.0 h) renames.0
