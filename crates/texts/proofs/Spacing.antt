-- Words with one space between them, and the lines that they make.
use Rattle.std.proofs.Common.{◌≡◌, ℕ, false, eqb, List, [], ◌∷◌, refl, sym, All}
use Rattle.std.specs.List.{join_with_byte, list_any, AllByRecursion}
use Rattle.std.proofs.lemmas.List.Elements.{recursion_from_All}
use Rattle.chart.specs.Keywords.{spelled}
use Rattle.chart.specs.Names.{IsName}
use Rattle.chart.specs.declared.keyword.Keyword.{Keyword}
use Rattle.chart.specs.declared.keyword.Keyword.TheVariants.{Msc, EndMsc, Instance, EndInstance, Out, To, In, From, Concurrent, EndConcurrent}
use Rattle.texts.specs.Lines.{Lacks, words_of}
use Rattle.texts.proofs.Parts.{lacks_if, joined_lacks, words_again, words_joined}
use Rattle.texts.proofs.Results.{name_has_no_space, name_has_no_line_feed}

-- the bytes have neither a space nor a line feed
abbrev pub IsPlain : List ℕ → Type 0
IsPlain word = Lacks 32 word × Lacks 10 word

-- each of the words is plain
abbrev pub ArePlain : List (List ℕ) → Type 0
ArePlain words = AllByRecursion IsPlain words

pub plain_name : (word : List ℕ) → IsName word → IsPlain word
plain_name word h = (name_has_no_space word h, name_has_no_line_feed word h)

-- a word is plain, by a test of each byte: `plain_literal (codes "send") refl refl`
pub plain_literal : (word : List ℕ) → list_any (λ b. eqb b 32) word ≡ false → list_any (λ b. eqb b 10) word ≡ false → IsPlain word
plain_literal word space line_feed = (lacks_if 32 word space, lacks_if 10 word line_feed)

-- a reserved word of the chart text
pub plain_keyword : (word : Keyword) → IsPlain (spelled word)
unfolding spelled
plain_keyword Msc = plain_literal (spelled Msc) refl refl
plain_keyword EndMsc = plain_literal (spelled EndMsc) refl refl
plain_keyword Instance = plain_literal (spelled Instance) refl refl
plain_keyword EndInstance = plain_literal (spelled EndInstance) refl refl
plain_keyword Out = plain_literal (spelled Out) refl refl
plain_keyword To = plain_literal (spelled To) refl refl
plain_keyword In = plain_literal (spelled In) refl refl
plain_keyword From = plain_literal (spelled From) refl refl
plain_keyword Concurrent = plain_literal (spelled Concurrent) refl refl
plain_keyword EndConcurrent = plain_literal (spelled EndConcurrent) refl refl

plain_each : (words : List (List ℕ)) → AllByRecursion IsName words → ArePlain words
plain_each [] h = tt
plain_each (word ∷ words) h = (plain_name word h.0, plain_each words h.1)

pub plain_names : (words : List (List ℕ)) → All IsName words → ArePlain words
plain_names words h = plain_each words (recursion_from_All IsName words h)

no_spaces : (words : List (List ℕ)) → ArePlain words → AllByRecursion (Lacks 32) words
no_spaces [] h = tt
no_spaces (word ∷ words) h = (h.0.0, no_spaces words h.1)

no_line_feeds : (words : List (List ℕ)) → ArePlain words → AllByRecursion (Lacks 10) words
no_line_feeds [] h = tt
no_line_feeds (word ∷ words) h = (h.0.1, no_line_feeds words h.1)

-- such words are read again
pub spaced_again : (word : List ℕ) (words : List (List ℕ)) → ArePlain (word ∷ words) → words_of (join_with_byte 32 (word ∷ words)) ≡ word ∷ words
spaced_again word words h = words_again word words (no_spaces (word ∷ words) h)

-- such words make a line
pub spaced_lacks : (words : List (List ℕ)) → ArePlain words → Lacks 10 (join_with_byte 32 words)
spaced_lacks words h = joined_lacks 10 32 words refl (no_line_feeds words h)

-- a line is its words, with spaces between them
pub is_spaced : (line : List ℕ) → line ≡ join_with_byte 32 (words_of line)
is_spaced line = sym (words_joined line)
