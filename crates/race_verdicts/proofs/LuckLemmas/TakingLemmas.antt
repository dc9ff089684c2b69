-- Messages that fit patterns, and the places of the patterns of a line.
use Rattle.std.proofs.Common.{◌≡◌, ℕ, ◌+◌, ◌<◌, ◌≤◌, ◌↔◌, Bool, true, false, List, [], ◌∷◌, ◌++◌, Option, None, Some, length, get_or, drop, map, inl, inr, refl, sym, ap, ◌∙◌, subst, arith}
use Rattle.std.specs.Prelude.{IsTrue, slice_get, option_map, AllPairs, Contains}
use Rattle.std.proofs.lemmas.Bool.{cases_eq, cases_lt, false≢true}
use Rattle.std.proofs.lemmas.List.{append_cancel_right, length-map}
use Rattle.std.proofs.lemmas.Option.{slice_get_within, slice_get-get_or, slice_get-map, get_or_from_slice_get}
use Rattle.race_verdicts.specs.Luck.Tables.{IsFirst, IsNoted}
use Rattle.race_verdicts.specs.Luck.Taking.{FitsSender, FitsName, Fits, WouldTake}
use Rattle.race_verdicts.specs.Luck.Taking.FitsName.{whole, begins}
use Rattle.race_verdicts.specs.Luck.Taking.WouldTake.{anything, fitting as fitting_one}
use Rattle.race_verdicts.specs.Luck.TakingTables.{IsOfLine, ArePlaced, IsFitting}
use Rattle.race_verdicts.proofs.LuckLemmas.TableLemmas.{some_same, first_noted, first_all}
use Rattle.race_verdicts.specs.Recordings.{TakenView, taken_view, PatternView, WordsView, words_view, RecordingView}
use Rattle.race_verdicts.specs.declared.recording.LineWords.{LineWords}
use Rattle.race_verdicts.specs.declared.recording.Taken.{Taken}

pub name_begins : (names name front : List ℕ) (r : Bool) → names ≡ front ++ 42 ∷ [] → (r ≡ true → name ≡ front ++ drop (length front) name) × ((rest : List ℕ) → name ≡ front ++ rest → r ≡ true)
    → IsTrue r ↔ FitsName names name
name_begins names name front r cut starts = (λ is. begins front (drop (length front) name) cut (starts.0 is), back)
  where
    back : FitsName names name → r ≡ true
    back (whole same) = starts.1 (42 ∷ []) (sym same ∙ cut)
    back (begins front' rest cut' is) = starts.1 rest (is ∙ ap (λ f. f ++ rest) (append_cancel_right front' front (42 ∷ []) (sym cut' ∙ cut)))

pub name_whole : (names name : List ℕ) (r : Bool) → ((front : List ℕ) → names ≡ front ++ 42 ∷ [] → ⊥) → (r ≡ true → names ≡ name) × (names ≡ name → r ≡ true) → IsTrue r ↔ FitsName names name
name_whole names name r uncut equal = (λ is. whole (equal.0 is), back)
  where
    back : FitsName names name → r ≡ true
    back (whole same) = equal.1 same
    back (begins front rest cut is) = absurd (uncut front cut)

pub fits_both : (p : PatternView) (w : WordsView) (r : Bool) → FitsSender p.peer w.host → IsTrue r ↔ FitsName p.names w.name → IsTrue r ↔ Fits p w
fits_both p w r sender name = (λ is. record { sender = sender; name = name.0 is }, λ f. name.1 f.name)

-- one more pattern
pub placed_more : (taken : List Taken) (count i : ℕ) (old new : List (Option ℕ)) (d : Taken) → i < length taken → length old ≡ count → IsNoted old new (get_or taken i d).line i
    → ((k : ℕ) → k < count → IsFirst (IsOfLine (map taken_view taken) k) i (get_or old k None)) → (k : ℕ) → k < count → IsFirst (IsOfLine (map taken_view taken) k) (i + 1) (get_or new k None)
placed_more taken count i old new d within old_whole noted =
    first_noted (IsOfLine (map taken_view taken)) count i (get_or taken i d).line old new old_whole noted (λ k its. sym its.line ∙ line_of k its)
    (record { stated = taken_view (get_or taken i d); is = here; line = refl })
  where
    here : slice_get (map taken_view taken) i ≡ Some (taken_view (get_or taken i d))
    here = slice_get-map taken_view taken i ∙ ap (option_map taken_view) (slice_get-get_or taken i d within)

    line_of : (k : ℕ) → (its : IsOfLine (map taken_view taken) k i) → its.stated.line ≡ (get_or taken i d).line
    line_of k its = ap (λ (t : TakenView). t.line) (some_same (sym its.is ∙ here))

-- all patterns
pub placed_all : (taken : List Taken) (count i : ℕ) (table : List (Option ℕ)) → length taken ≤ i → length table ≡ count → ((k : ℕ) → k < count → IsFirst (IsOfLine (map taken_view taken) k) i (get_or table k None))
    → ArePlaced (map taken_view taken) count table
placed_all taken count i table past table_whole each = record {
  whole = table_whole;
  each = λ k within. first_all (IsOfLine (map taken_view taken) k) (length (map taken_view taken)) i low (λ j its. inside j k its) (get_or table k None) (each k within);
}
  where
    inside : (j k : ℕ) → IsOfLine (map taken_view taken) k j → j < length (map taken_view taken)
    inside j k its = slice_get_within (map taken_view taken) j its.stated its.is

    low : length (map taken_view taken) ≤ i
    low = let same = length-map taken taken_view in omega arith

-- the patterns of line k before a place don't fit
abbrev pub AreUnfit : List TakenView → ℕ → WordsView → ℕ → Type 0
AreUnfit taken k w i = (j : ℕ) (t : TakenView) → j < i → slice_get taken j ≡ Some t → t.line ≡ k → Fits t.pattern w → ⊥

pub unfit_more : (taken : List TakenView) (k i : ℕ) (w : WordsView) (t : TakenView) → slice_get taken i ≡ Some t → (Fits t.pattern w → ⊥) → AreUnfit taken k w i → AreUnfit taken k w (i + 1)
unfit_more taken k i w t is not are =
    λ j u less u_is line fits. elim (cases_eq j i) [
      | inl same ↦ not (subst (λ (v : TakenView). Fits v.pattern w) (some_same (sym u_is ∙ ap (slice_get taken) same ∙ is)) fits)
      | inr other ↦ are j u (omega arith) u_is line fits
    ]

-- no pattern fits, if none before the place does, and the patterns of line k end there
pub none_fitting : (taken : List TakenView) (k i : ℕ) (w : WordsView) → ((j : ℕ) (t : TakenView) → i ≤ j → slice_get taken j ≡ Some t → t.line ≡ k → ⊥) → AreUnfit taken k w i → IsFitting taken k w → ⊥
none_fitting taken k i w none are f =
    let is = slice_get-get_or taken f.among.0 f.stated f.among.1 ∙ ap (λ t. Some t) f.among.2 in
    elim (cases_lt f.among.0 i) [
      | inl less ↦ are f.among.0 f.stated less is f.line f.fits
      | inr past ↦ none f.among.0 f.stated past is f.line
    ]

-- line k has patterns before this place, and the pattern at the place is another line's
pub past_line : (taken : List TakenView) (k first i : ℕ) (t : TakenView) → AllPairs (λ a b. a.line ≤ b.line) taken → IsFirst (IsOfLine taken k) (length taken) (Some first) → first ≤ i
    → slice_get taken i ≡ Some t → (t.line ≡ k → ⊥) → (j : ℕ) (u : TakenView) → i ≤ j → slice_get taken j ≡ Some u → u.line ≡ k → ⊥
past_line taken k first i t rising is_first before is other j u past u_is line =
    let stated = is_first.1 in
    let first_line : (get_or taken first t).line ≡ k = ap (λ (v : TakenView). v.line) (get_or_from_slice_get taken first stated.stated t stated.is) ∙ stated.line in
    let i_in : i < length taken = slice_get_within taken i t is in
    let j_in : j < length taken = slice_get_within taken j u u_is in
    let here : get_or taken i t ≡ t = get_or_from_slice_get taken i t t is in
    let there : get_or taken j t ≡ u = get_or_from_slice_get taken j u t u_is in
    elim (cases_eq first i) [
      | inl same ↦ other (ap (λ (v : TakenView). v.line) (sym here) ∙ ap (λ n. (get_or taken n t).line) (sym same) ∙ first_line)
      | inr less ↦
          elim (cases_eq i j) [
            | inl same ↦ other (ap (λ (v : TakenView). v.line) (sym here ∙ ap (λ n. get_or taken n t) same ∙ there) ∙ line)
            | inr sooner ↦
                let low = rising first i t (omega arith) i_in in
                let high = rising i j t (omega arith) j_in in
                let lines = ap (λ (v : TakenView). v.line) here in
                let lines_too = ap (λ (v : TakenView). v.line) there in
                other (omega arith)
          ]
    ]

-- the pattern at a place
module _ (taken : List Taken) (i : ℕ) (d : Taken) (within : i < length taken) where
  pub known_at : slice_get (map taken_view taken) i ≡ Some (taken_view (get_or taken i d))
  known_at = slice_get-map taken_view taken i ∙ ap (option_map taken_view) (slice_get-get_or taken i d within)

  pub known_among : Contains (map taken_view taken) (taken_view (get_or taken i d))
  known_among = (i, slice_get_within (map taken_view taken) i _ known_at, get_or_from_slice_get (map taken_view taken) i (taken_view (get_or taken i d)) (taken_view (get_or taken i d)) known_at)

module _ (taken : List Taken) (k first : ℕ) (w : WordsView) (is_first : IsFirst (IsOfLine (map taken_view taken) k) (length taken) (Some first)) where
  same_length : length (map taken_view taken) ≡ length taken
  same_length = length-map taken taken_view

  pub fits_begin : AreUnfit (map taken_view taken) k w first
  fits_begin = λ j t less is line fits. is_first.2 j less (record { stated = t; is = is; line = line })

  -- the pattern there is another line's
  pub fits_past : (i : ℕ) (d : Taken) → AllPairs (λ a b. a.line ≤ b.line) (map taken_view taken) → first ≤ i → i < length taken → ((get_or taken i d).line ≡ k → ⊥) → AreUnfit (map taken_view taken) k w i
      → IsTrue false ↔ IsFitting (map taken_view taken) k w
  fits_past i d rising low within other are = (
    λ is. absurd (false≢true is),
    λ f. absurd
        (none_fitting (map taken_view taken) k i w
        (past_line (map taken_view taken) k first i (taken_view (get_or taken i d)) rising (omega (arith, is_first.0, same_length), is_first.1, is_first.2) low (known_at taken i d within) other) are f),
  )

  -- a pattern fits
  pub fits_here : (i : ℕ) (d : Taken) → i < length taken → ((get_or taken i d).line ≡ k) → Fits (taken_view (get_or taken i d)).pattern w → IsTrue true ↔ IsFitting (map taken_view taken) k w
  fits_here i d within line fits = (λ is. record { stated = taken_view (get_or taken i d); among = known_among taken i d within; line = line; fits = fits }, λ f. refl)

  pub fits_more : (i : ℕ) (d : Taken) → i < length taken → (Fits (taken_view (get_or taken i d)).pattern w → ⊥) → AreUnfit (map taken_view taken) k w i → AreUnfit (map taken_view taken) k w (i + 1)
  fits_more i d within not are = unfit_more (map taken_view taken) k i w (taken_view (get_or taken i d)) (known_at taken i d within) not are

  pub fits_none : (i : ℕ) → length taken ≤ i → AreUnfit (map taken_view taken) k w i → IsTrue false ↔ IsFitting (map taken_view taken) k w
  fits_none i past are = (
    λ is. absurd (false≢true is),
    λ f. absurd (none_fitting (map taken_view taken) k i w (λ j t low is line. let less = slice_get_within (map taken_view taken) j t is in absurd (omega (arith, less, same_length))) are f),
  )

-- the same for the whole recording
pub takes_unknown : (rec : RecordingView) (k s : ℕ) → IsFirst (IsOfLine rec.taken k) (length rec.taken) None → IsTrue true ↔ WouldTake rec k s
takes_unknown rec k s none = (λ is. anything (λ t among line. unknown rec.taken k none t among line), λ takes. refl)
  where
    unknown : (taken : List TakenView) (k : ℕ) → IsFirst (IsOfLine taken k) (length taken) None → (t : TakenView) → Contains taken t → t.line ≡ k → ⊥
    unknown taken k none t among line =
        none among.0 among.1 (record { stated = t; is = slice_get-get_or taken among.0 t among.1 ∙ ap (λ u. Some u) among.2; line = line })

pub takes_known : (rec : RecordingView) (k s first : ℕ) (w : WordsView) (r : Bool) → IsFirst (IsOfLine rec.taken k) (length rec.taken) (Some first) → slice_get rec.words s ≡ Some w
    → IsTrue r ↔ IsFitting rec.taken k w → IsTrue r ↔ WouldTake rec k s
takes_known rec k s first w r is_first is fitting = (
  λ yes. let f = fitting.0 yes in fitting_one f.stated w f.among f.line is f.fits,
  back,
)
  where
    back : WouldTake rec k s → IsTrue r
    back (anything unknown) =
        let stated = is_first.1 in
        absurd (unknown stated.stated (first, slice_get_within rec.taken first stated.stated stated.is, get_or_from_slice_get rec.taken first stated.stated stated.stated stated.is) stated.line)
    back (fitting_one t v among line v_is fits) =
        fitting.1 (record { stated = t; among = among; line = line; fits = subst (Fits t.pattern) (some_same (sym v_is ∙ is)) fits })

-- the entries of the tables, and the words of a line
pub entry_placed : (taken : List TakenView) (count : ℕ) (places : List (Option ℕ)) → ArePlaced taken count places → (k : ℕ) → k < count → (entry : Option ℕ) → get_or places k None ≡ entry
    → IsFirst (IsOfLine taken k) (length taken) entry
entry_placed taken count places placed k within entry is = subst (IsFirst (IsOfLine taken k) (length taken)) is (placed.each k within)

pub first_known : (taken : List Taken) (k first : ℕ) → IsFirst (IsOfLine (map taken_view taken) k) (length (map taken_view taken)) (Some first) → IsFirst (IsOfLine (map taken_view taken) k) (length taken) (Some first)
first_known taken k first are = let same = length-map taken taken_view in (omega (arith, are.0), are.1, are.2)

pub words_at : (words : List LineWords) (s : ℕ) (d : LineWords) → s < length (map words_view words) → slice_get (map words_view words) s ≡ Some (words_view (get_or words s d))
words_at words s d within = slice_get-map words_view words s ∙ ap (option_map words_view) (slice_get-get_or words s d (let same = length-map words words_view in omega arith))
