-- Bytes that stand for themselves between quotation marks.
use Rattle.std.proofs.Common.{◌≡◌, ℕ, Bool, true, false, not, ◌&&◌, ◌==◌, List, [], ◌∷◌, ◌++◌, Some, length, ne_eqb, refl, sym, ap, ◌∙◌}
use Rattle.std.specs.List.{list_all}
use Rattle.std.proofs.lemmas.Bool.{and_parts, false≢true}
use Rattle.std.proofs.lemmas.List.Folds.{list_all-append}
use Rattle.chart.specs.Names.{is_name_byte}
use Rattle.diagram_mscgen.specs.Grammar.Lengths.{closing}
use Rattle.diagram_mscgen.specs.Reading.Texts.{text_of}

-- no quotation mark, no backslash and no end of a line
abbrev pub is_plain : ℕ → Bool
is_plain b = not (b == 34) && (not (b == 92) && (not (b == 10) && not (b == 13)))

abbrev pub ArePlain : List ℕ → Type 0
ArePlain bytes = list_all is_plain bytes ≡ true

-- the bytes that a plain byte isn't
record Isnt (b : ℕ) : Type 0 where
  pub quote : (b == 34) ≡ false
  pub backslash : (b == 92) ≡ false
  pub feed : (b == 10) ≡ false
  pub return : (b == 13) ≡ false

none : (t : Bool) → not t ≡ true → t ≡ false
none true h = absurd (false≢true h)
none false h = refl

isnt : (b : ℕ) → is_plain b ≡ true → Isnt b
isnt b h =
    let one = and_parts (not (b == 34)) (not (b == 92) && (not (b == 10) && not (b == 13))) h in
    let two = and_parts (not (b == 92)) (not (b == 10) && not (b == 13)) one.1 in
    let three = and_parts (not (b == 10)) (not (b == 13)) two.1 in
    record { quote = none (b == 34) one.0; backslash = none (b == 92) two.0; feed = none (b == 10) three.0; return = none (b == 13) three.1 }

differs : (b k : ℕ) → is_name_byte k ≡ false → is_name_byte b ≡ true → (b == k) ≡ false
differs b k isnt_one is_one = ne_eqb b k (λ e. false≢true (sym isnt_one ∙ ap is_name_byte (sym e) ∙ is_one))

-- a byte of a name is plain
pub plain_byte : (b : ℕ) → is_name_byte b ≡ true → is_plain b ≡ true
plain_byte b its = rw (differs b 34 refl its, differs b 92 refl its, differs b 10 refl its, differs b 13 refl its) refl

pub plain_all : (test : ℕ → Bool) → ((b : ℕ) → test b ≡ true → is_plain b ≡ true) → (bytes : List ℕ) → list_all test bytes ≡ true → ArePlain bytes
plain_all test each [] h = refl
plain_all test each (b ∷ bytes) h =
    let parts = and_parts (test b) (list_all test bytes) h in
    rw (each b parts.0, plain_all test each bytes parts.1) refl

pub plain_both : (one other : List ℕ) → ArePlain one → ArePlain other → ArePlain (one ++ other)
plain_both one other h k = list_all-append is_plain one other ∙ rw (h, k) refl

-- the quotation mark that ends them is found after them
pub closes : (before : ℕ) (bytes rest : List ℕ) → ArePlain bytes → (before == 92) ≡ false → closing before (bytes ++ 34 ∷ rest) ≡ Some (length bytes)
unfolding closing
closes before [] rest h nb = rw nb refl
closes before (b ∷ bytes) rest h nb =
    let parts = and_parts (is_plain b) (list_all is_plain bytes) h in
    let is = isnt b parts.0 in
    rw (is.quote, closes b bytes rest parts.1 is.backslash) refl

-- they are their own text
pub says_itself : (bytes : List ℕ) → ArePlain bytes → text_of bytes ≡ bytes
unfolding text_of
says_itself [] h = refl
says_itself (b ∷ bytes) h =
    let parts = and_parts (is_plain b) (list_all is_plain bytes) h in
    let is = isnt b parts.0 in
    rw (is.backslash, is.feed, is.return) (ap (λ l. b ∷ l) (says_itself bytes parts.1))
