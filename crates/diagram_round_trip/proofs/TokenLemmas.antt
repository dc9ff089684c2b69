-- The tokens of texts, by their kinds.
use Rattle.std.proofs.Common.{◌≡◌, ℕ, zero, suc, ◌+◌, ◌-◌, ◌≤◌, true, false, not, List, [], ◌∷◌, ◌++◌, None, Some, length, take, codes, nat_lt, lt-ltb, refl, ap, ◌∙◌, subst, append_assoc, arith}
use Rattle.std.specs.List.{list_all, prefix_len}
use Rattle.std.proofs.Math.Seq.{take-append_seam, drop-append_seam}
use Rattle.std.proofs.lemmas.Bool.{and_parts}
use Rattle.std.proofs.lemmas.List.{length-append}
use Rattle.diagram_mscgen.specs.Grammar.Lengths.{word_length}
use Rattle.texts.specs.Bytes.Classes.{is_word_byte}
use Rattle.diagram_mscgen.specs.Grammar.Pieces.{piece_at}
use Rattle.texts.specs.Bytes.Places.{behind}
use Rattle.diagram_mscgen.specs.Grammar.Reading.{Tokens}
use Rattle.diagram_mscgen.specs.Grammar.Signs.{sign_at}
use Rattle.diagram_mscgen.specs.Grammar.Tokens.{KindView, Word, Text, Sign, Spacer, Mark, kind_of, first_token, tokens_from, inner}
use Rattle.texts.specs.declared.bytes.place.Place.{Place}
use Rattle.diagram_mscgen.specs.declared.grammar.relation.Relation.TheVariants.{To, LostTo}
use Rattle.diagram_round_trip.proofs.PlainBytes.{ArePlain, closes}

-- the tokens have these kinds, at any places
abbrev pub AreKinds : List KindView → Tokens → Type 0
AreKinds [] tokens = tokens ≡ []
AreKinds (k ∷ kinds) tokens = (place : Place) × (text : List ℕ) × (rest : Tokens) × (tokens ≡ record { kind = k; place = place; rest = text } ∷ rest) × AreKinds kinds rest

-- the text's tokens have these kinds, at any places
pub record HasTokens (text : List ℕ) (kinds : List KindView) : Type 0 where
  pub tokens : (n : ℕ) (place : Place) → length text ≤ n → AreKinds kinds (tokens_from n place text)

pub nothing : HasTokens [] []
nothing = record { tokens = all }
  where
    all : (n : ℕ) (place : Place) → 0 ≤ n → tokens_from n place [] ≡ []
    all zero place le = refl
    all (suc n) place le = refl

-- a piece that is a token, and the tokens after it
pub token : (b : ℕ) (bytes rest : List ℕ) (kind : KindView) (more : List KindView) → (piece_at (b ∷ bytes ++ rest)).length ≡ suc (length bytes)
    → kind_of (piece_at (b ∷ bytes ++ rest)).shape (b ∷ bytes) ≡ Some kind → HasTokens rest more → HasTokens (b ∷ bytes ++ rest) (kind ∷ more)
unfolding first_token
token b bytes rest kind more is named behind_it = record { tokens = all }
  where
    all : (n : ℕ) (place : Place) → length (b ∷ bytes ++ rest) ≤ n → AreKinds (kind ∷ more) (tokens_from n place (b ∷ bytes ++ rest))
    all zero place le = absurd (omega arith)
    all (suc n) place le =
        rw (is, take-append_seam bytes rest, drop-append_seam bytes rest, named)
        (place, b ∷ bytes ++ rest, _, refl, behind_it.tokens n (behind place (b ∷ bytes)) (omega (arith, length-append bytes rest)))

-- a blank
pub blank : (b : ℕ) (rest : List ℕ) (more : List KindView) → (piece_at (b ∷ rest)).length ≡ 1 → kind_of (piece_at (b ∷ rest)).shape (b ∷ []) ≡ None → HasTokens rest more → HasTokens (b ∷ rest) more
unfolding first_token
blank b rest more is gap behind_it = record { tokens = all }
  where
    all : (n : ℕ) (place : Place) → length (b ∷ rest) ≤ n → AreKinds more (tokens_from n place (b ∷ rest))
    all zero place le = absurd (omega arith)
    all (suc n) place le = rw (is, gap) (behind_it.tokens n (behind place (b ∷ [])) (omega arith))

-- a word ends where something else begins
passes : (word : List ℕ) (b : ℕ) (rest : List ℕ) → list_all is_word_byte word ≡ true → is_word_byte b ≡ false → prefix_len (λ x. not (not (is_word_byte x))) (word ++ b ∷ rest) ≡ length word
passes [] b rest h other = rw other refl
passes (c ∷ word) b rest h other =
    let parts = and_parts (is_word_byte c) (list_all is_word_byte word) h in
    rw (parts.0, passes word b rest parts.1 other) (omega arith)

pub word_ends : (word : List ℕ) (b : ℕ) (rest : List ℕ) → list_all is_word_byte word ≡ true → is_word_byte b ≡ false → word_length (word ++ b ∷ rest) ≡ length word
unfolding word_length
word_ends word b rest h other =
    let here = passes word b rest h other in
    let within : nat_lt (length word) (length (word ++ b ∷ rest)) ≡ true = lt-ltb _ _ (omega (arith, length-append word (b ∷ rest))) in
    rw (here, within) refl

-- the text between two quotation marks
pub quoted : (bytes rest : List ℕ) (more : List KindView) → ArePlain bytes → HasTokens rest more → HasTokens (34 ∷ bytes ++ 34 ∷ rest) (Text bytes ∷ more)
unfolding piece_at inner
quoted bytes rest more plain behind_it =
    let joined : (bytes ++ 34 ∷ []) ++ rest ≡ bytes ++ 34 ∷ rest = append_assoc bytes (34 ∷ []) rest in
    let long : length (bytes ++ 34 ∷ []) ≡ length bytes + 1 = length-append bytes (34 ∷ []) in
    let is : (piece_at (34 ∷ (bytes ++ 34 ∷ []) ++ rest)).length ≡ suc (length (bytes ++ 34 ∷ [])) = rw (joined, closes 34 bytes rest plain refl) (omega (arith, long)) in
    let left : suc (length (bytes ++ 34 ∷ [])) - 2 ≡ length bytes = omega (arith, long) in
    let inside : take (suc (length (bytes ++ 34 ∷ [])) - 2) (bytes ++ 34 ∷ []) ≡ bytes = ap (λ n. take n (bytes ++ 34 ∷ [])) left ∙ take-append_seam bytes (34 ∷ []) in
    let named : kind_of (piece_at (34 ∷ (bytes ++ 34 ∷ []) ++ rest)).shape (34 ∷ bytes ++ 34 ∷ []) ≡ Some (Text bytes) = rw (joined, closes 34 bytes rest plain refl) (ap (λ l. Some (Text l)) inside) in
    subst (λ l. HasTokens (34 ∷ l) (Text bytes ∷ more)) joined (token 34 (bytes ++ 34 ∷ []) rest (Text bytes) more is named behind_it)

-- the words and signs of an export
pub msc_word : (rest : List ℕ) (more : List KindView) → HasTokens rest more → HasTokens (codes "msc {\n" ++ rest) (Word (codes "msc") ∷ Mark 123 ∷ more)
unfolding piece_at sign_at
msc_word rest more behind_it =
    token 109 (115 ∷ 99 ∷ []) (32 ∷ 123 ∷ 10 ∷ rest) (Word (codes "msc")) (Mark 123 ∷ more)
    (ap (λ n. n + 1) (word_ends (115 ∷ 99 ∷ []) 32 (123 ∷ 10 ∷ rest) refl refl)) refl
    (blank 32 (123 ∷ 10 ∷ rest) (Mark 123 ∷ more) refl refl
    (token 123 [] (10 ∷ rest) (Mark 123) more refl refl
    (blank 10 rest more refl refl behind_it)))

pub indented : (rest : List ℕ) (more : List KindView) → HasTokens rest more → HasTokens (codes "  " ++ rest) more
unfolding piece_at sign_at
indented rest more behind_it = blank 32 (32 ∷ rest) more refl refl (blank 32 rest more refl refl behind_it)

pub to_next : (rest : List ℕ) (more : List KindView) → HasTokens rest more → HasTokens (codes ",\n  " ++ rest) (Mark 44 ∷ more)
unfolding piece_at sign_at
to_next rest more behind_it =
    token 44 [] (10 ∷ 32 ∷ 32 ∷ rest) (Mark 44) more refl refl
    (blank 10 (32 ∷ 32 ∷ rest) more refl refl (indented rest more behind_it))

pub to_end : (rest : List ℕ) (more : List KindView) → HasTokens rest more → HasTokens (codes ";\n" ++ rest) (Mark 59 ∷ more)
unfolding piece_at sign_at
to_end rest more behind_it = token 59 [] (10 ∷ rest) (Mark 59) more refl refl (blank 10 rest more refl refl behind_it)

pub brace : HasTokens (codes "}\n") (Mark 125 ∷ [])
unfolding piece_at sign_at
brace = token 125 [] (10 ∷ []) (Mark 125) [] refl refl (blank 10 [] [] refl refl nothing)

pub arrow : (rest : List ℕ) (more : List KindView) → HasTokens rest more → HasTokens (codes " -> " ++ rest) (Sign To ∷ more)
unfolding piece_at sign_at
arrow rest more behind_it =
    blank 32 (45 ∷ 62 ∷ 32 ∷ rest) (Sign To ∷ more) refl refl
    (token 45 (62 ∷ []) (32 ∷ rest) (Sign To) more refl refl (blank 32 rest more refl refl behind_it))

pub cross : (rest : List ℕ) (more : List KindView) → HasTokens rest more → HasTokens (codes " -x " ++ rest) (Sign LostTo ∷ more)
unfolding piece_at sign_at
cross rest more behind_it =
    blank 32 (45 ∷ 120 ∷ 32 ∷ rest) (Sign LostTo ∷ more) refl refl
    (token 45 (120 ∷ []) (32 ∷ rest) (Sign LostTo) more refl refl (blank 32 rest more refl refl behind_it))

pub note : (rest : List ℕ) (more : List KindView) → HasTokens rest more → HasTokens (codes " note " ++ rest) (Word (codes "note") ∷ more)
unfolding piece_at sign_at
note rest more behind_it =
    blank 32 (110 ∷ 111 ∷ 116 ∷ 101 ∷ 32 ∷ rest) (Word (codes "note") ∷ more) refl refl
    (token 110 (111 ∷ 116 ∷ 101 ∷ []) (32 ∷ rest) (Word (codes "note")) more
    (ap (λ n. n + 1) (word_ends (111 ∷ 116 ∷ 101 ∷ []) 32 rest refl refl)) refl (blank 32 rest more refl refl behind_it))

pub row_without : (rest : List ℕ) (more : List KindView) → HasTokens rest more → HasTokens (codes "  |||;\n" ++ rest) (Spacer ∷ Mark 59 ∷ more)
unfolding piece_at sign_at
row_without rest more behind_it =
    indented (codes "|||;\n" ++ rest) (Spacer ∷ Mark 59 ∷ more)
    (token 124 (124 ∷ 124 ∷ []) (59 ∷ 10 ∷ rest) Spacer (Mark 59 ∷ more) refl refl (to_end rest more behind_it))

abbrev value : List ℕ → List ℕ → List ℕ
value bytes rest = 34 ∷ bytes ++ 34 ∷ 93 ∷ 59 ∷ 10 ∷ rest

abbrev close : List KindView → List KindView
close more = Mark 93 ∷ Mark 59 ∷ more

abbrev given : List ℕ → List KindView → List KindView
given bytes more = Mark 61 ∷ Text bytes ∷ close more

abbrev word : List ℕ → List KindView → List KindView
word bytes more = Word (codes "label") ∷ given bytes more

-- a label, and the end of its row
pub label : (bytes rest : List ℕ) (more : List KindView) → ArePlain bytes → HasTokens rest more
    → HasTokens (codes " [label=\"" ++ (bytes ++ (codes "\"];\n" ++ rest))) (Mark 91 ∷ Word (codes "label") ∷ Mark 61 ∷ Text bytes ∷ Mark 93 ∷ Mark 59 ∷ more)
unfolding piece_at sign_at
label bytes rest more plain behind_it =
    blank 32 (91 ∷ 108 ∷ 97 ∷ 98 ∷ 101 ∷ 108 ∷ 61 ∷ (value bytes rest)) (Mark 91 ∷ word bytes more) refl refl
    (token 91 [] (108 ∷ 97 ∷ 98 ∷ 101 ∷ 108 ∷ 61 ∷ (value bytes rest)) (Mark 91) (word bytes more) refl refl
    (token 108 (97 ∷ 98 ∷ 101 ∷ 108 ∷ []) (61 ∷ (value bytes rest)) (Word (codes "label")) (given bytes more)
    (ap (λ n. n + 1) (word_ends (97 ∷ 98 ∷ 101 ∷ 108 ∷ []) 61 (value bytes rest) refl refl)) refl
    (token 61 [] (value bytes rest) (Mark 61) (Text bytes ∷ close more) refl refl
    (quoted bytes (93 ∷ 59 ∷ 10 ∷ rest) (close more) plain
    (token 93 [] (59 ∷ 10 ∷ rest) (Mark 93) (Mark 59 ∷ more) refl refl (to_end rest more behind_it))))))
