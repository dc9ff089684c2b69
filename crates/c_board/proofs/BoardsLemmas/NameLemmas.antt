-- Names that are read one after another.
use Rattle.std.proofs.Common.{◌≡◌, ℕ, zero, suc, ◌+◌, ◌<◌, List, [], ◌∷◌, ◌++◌, length, take, drop, refl, sym, ap, ◌∙◌, inl, subst, append_assoc, get_or}
use Rattle.std.proofs.lemmas.Option.{slice_get-get_or}
use Rattle.std.specs.Prelude.{IsErrAnd, slice_get, None, Some, Result, Ok, Err}
use Rattle.chart.specs.Names.{IsName}
use Rattle.c_board.specs.declared.boards.naming.NamesRefusal.{NamesRefusal}
use Rattle.c_board.proofs.ChairLemmas.{drop_at}
use Rattle.c_board.proofs.WordLemmas.{drop_more}
use Rattle.c_board.specs.Boards.Naming.{words_in, AddsName, ReadsNames}

-- the next word
pub next_word : (bytes : List ℕ) (lengths more : List ℕ) (names : List (List ℕ)) (start many n : ℕ) → words_in bytes lengths ≡ names ++ words_in (drop start bytes) (drop n lengths)
    → drop n lengths ≡ many ∷ more → words_in bytes lengths ≡ names ++ take many (drop start bytes) ∷ words_in (drop (start + length (take many (drop start bytes))) bytes) more
next_word bytes lengths more names start many n so_far next = so_far
    ∙ ap (λ (ns : List ℕ). names ++ words_in (drop start bytes) ns) next
    ∙ ap (λ (r : List ℕ). names ++ take many (drop start bytes) ∷ words_in r more) (sym (drop_more bytes start many))

-- all words so far are names
pub names_next : (names new : List (List ℕ)) (word : List ℕ) → ((i : ℕ) (name : List ℕ) → slice_get names i ≡ Some name → IsName name) → IsName word → new ≡ names ++ word ∷ []
    → (i : ℕ) (name : List ℕ) → slice_get new i ≡ Some name → IsName name
names_next names new word all its added i name at = go names all i (subst (λ (ns : List (List ℕ)). slice_get ns i ≡ Some name) added at)
  where
    same : (a b : List ℕ) → Some a ≡ Some b → a ≡ b
    same a b e = cc

    never : None ≡ Some name → ⊥
    never e = cc

    go : (ns : List (List ℕ)) → ((i : ℕ) (name : List ℕ) → slice_get ns i ≡ Some name → IsName name) → (i : ℕ) → slice_get (ns ++ word ∷ []) i ≡ Some name → IsName name
    go [] all zero there = subst IsName (same word name there) its
    go [] all (suc i) there = absurd (never there)
    go (n ∷ ns) all zero there = all 0 name there
    go (n ∷ ns) all (suc i) there = go ns (λ j m at. all (suc j) m at) i there

-- the word is refused
pub word_refused : (words : List (List ℕ)) (names rest new : List (List ℕ)) (word : List ℕ) (refusal : NamesRefusal) → words ≡ names ++ word ∷ rest
    → ((i : ℕ) (name : List ℕ) → slice_get names i ≡ Some name → IsName name) → AddsName names word (Err refusal) new → ReadsNames words (Err refusal)
word_refused words names rest new word refusal splits all its = (names, word, record { rest = rest; splits = splits; names = all }, its)

pub length-words : (bytes lengths : List ℕ) → length (words_in bytes lengths) ≡ length lengths
length-words bytes [] = refl
length-words bytes (many ∷ more) = ap suc (length-words (drop many bytes) more)

-- the next name lies here
pub word_here : (bytes lengths : List ℕ) (names : List (List ℕ)) (word : List ℕ) (start many n : ℕ) → words_in bytes lengths ≡ names ++ words_in (drop start bytes) (drop n lengths)
    → n < length lengths → many ≡ get_or lengths n 0 → word ≡ take many (drop start bytes) → words_in bytes lengths ≡ names ++ word ∷ words_in (drop (start + length word) bytes) (drop (n + 1) lengths)
word_here bytes lengths names word start many n so_far less is word_is_it =
    let next : drop n lengths ≡ many ∷ drop (n + 1) lengths = drop_at lengths n many (slice_get-get_or lengths n 0 less ∙ ap (λ (x : ℕ). Some x) (sym is)) in
    subst (λ (w : List ℕ). words_in bytes lengths ≡ names ++ w ∷ words_in (drop (start + length w) bytes) (drop (n + 1) lengths)) (sym word_is_it) (next_word bytes lengths (drop (n + 1) lengths) names start many n so_far next)

-- one more name
pub words_more : (bytes lengths : List ℕ) (names new : List (List ℕ)) (word : List ℕ) (start many n : ℕ) → words_in bytes lengths ≡ names ++ words_in (drop start bytes) (drop n lengths)
    → n < length lengths → many ≡ get_or lengths n 0 → word ≡ take many (drop start bytes) → new ≡ names ++ word ∷ [] → words_in bytes lengths ≡ new ++ words_in (drop (start + length word) bytes) (drop (n + 1) lengths)
words_more bytes lengths names new word start many n so_far less is word_is_it added =
    word_here bytes lengths names word start many n so_far less is word_is_it
    ∙ sym (append_assoc names (word ∷ []) (words_in (drop (start + length word) bytes) (drop (n + 1) lengths))) ∙ ap (λ (ns : List (List ℕ)). ns ++ words_in (drop (start + length word) bytes) (drop (n + 1) lengths)) (sym added)

-- a refusal that is passed on
pub names_on : (words : List (List ℕ)) (result : Result (List (List ℕ)) NamesRefusal) (error : NamesRefusal) → IsErrAnd result (λ e. e ≡ error) → ReadsNames words (Err error) → ReadsNames words result
names_on words (Ok names) error never its = absurd never
names_on words (Err e) error same its = subst (λ (x : NamesRefusal). ReadsNames words (Err x)) (sym same) its
