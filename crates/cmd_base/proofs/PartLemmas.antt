-- The lines above the one that ends a chart.
use Rattle.std.proofs.Common.{◌≡◌, ℕ, ◌+◌, ◌-◌, Bool, true, false, cond, List, [], ◌∷◌, ◌++◌, length, take, refl, sym, ap, ◌∙◌, append_assoc, arith}
use Rattle.std.proofs.Math.Seq.{take-append_seam}
use Rattle.std.proofs.lemmas.List.{length-append}
use Rattle.std.proofs.lemmas.List.Concat.{flat_map-append}
use Rattle.std.specs.List.{list_any, flat_map, AllByRecursion}
use Rattle.texts.specs.Lines.{lines_of, end_of, ended}
use Rattle.texts.proofs.Parts.{lines_joined}
use Rattle.cmd_base.specs.Contents.{ends_chart, through_end, chart_part}

-- none of these lines ends a chart
abbrev pub NoneEnds : List (List ℕ) → Type 0
NoneEnds lines = AllByRecursion (λ line. ends_chart line ≡ false) lines

-- the lines of the text are those that were passed and those of the rest
pub record HasPassed (bytes rest : List ℕ) (lines : List (List ℕ)) : Type 0 where
  pub lines_are : lines_of bytes ≡ lines ++ lines_of rest
  pub same_end : end_of bytes ≡ end_of rest
  pub none : NoneEnds lines

none-then : (lines : List (List ℕ)) (line : List ℕ) → NoneEnds lines → ends_chart line ≡ false → NoneEnds (lines ++ line ∷ [])
none-then [] line none is = (is, tt)
none-then (x ∷ xs) line none is = (none.0, none-then xs line none.1 is)

through-passed : (lines more : List (List ℕ)) → NoneEnds lines → through_end (lines ++ more) ≡ lines ++ through_end more
through-passed [] more none = refl
through-passed (x ∷ xs) more none = rw none.0 (ap (λ l. x ∷ l) (through-passed xs more none.1))

any-passed : (lines more : List (List ℕ)) → NoneEnds lines → list_any ends_chart (lines ++ more) ≡ list_any ends_chart more
any-passed [] more none = refl
any-passed (x ∷ xs) more none = rw none.0 (any-passed xs more none.1)

none-any : (lines : List (List ℕ)) → NoneEnds lines → list_any ends_chart lines ≡ false
none-any [] none = refl
none-any (x ∷ xs) none = rw none.0 (none-any xs none.1)

pub passed-none : (bytes : List ℕ) → HasPassed bytes bytes []
passed-none bytes = record { lines_are = refl; same_end = refl; none = tt }

pub passed-one : (bytes rest below line : List ℕ) (lines : List (List ℕ)) → HasPassed bytes rest lines → lines_of rest ≡ line ∷ lines_of below → end_of rest ≡ end_of below → ends_chart line ≡ false
    → HasPassed bytes below (lines ++ line ∷ [])
passed-one bytes rest below line lines had is end not_last = record {
  lines_are = had.lines_are ∙ ap (λ l. lines ++ l) is ∙ sym (append_assoc lines (line ∷ []) (lines_of below));
  same_end = had.same_end ∙ end;
  none = none-then lines line had.none not_last;
}

-- no line ends a chart
pub whole_part : (bytes rest : List ℕ) (lines : List (List ℕ)) → HasPassed bytes rest lines → lines_of rest ≡ [] → bytes ≡ chart_part bytes
whole_part bytes rest lines had none =
    let is : list_any ends_chart (lines_of bytes) ≡ false = ap (list_any ends_chart) (had.lines_are ∙ ap (λ l. lines ++ l) none) ∙ any-passed lines [] had.none in
    rw is refl

-- the line ends a chart
pub part_until : (bytes rest below line : List ℕ) (lines : List (List ℕ)) → HasPassed bytes rest lines → lines_of rest ≡ line ∷ lines_of below → end_of rest ≡ end_of below → ends_chart line ≡ true
    → take (length bytes - length below) bytes ≡ chart_part bytes
part_until bytes rest below line lines had is end last =
    let all : lines_of bytes ≡ lines ++ line ∷ lines_of below = had.lines_are ∙ ap (λ l. lines ++ l) is in
    let any : list_any ends_chart (lines_of bytes) ≡ true = ap (list_any ends_chart) all ∙ any-passed lines (line ∷ lines_of below) had.none ∙ rw last refl in
    let through : through_end (lines_of bytes) ≡ lines ++ line ∷ [] = ap through_end all ∙ through-passed lines (line ∷ lines_of below) had.none ∙ rw last refl in
    let first = flat_map ended (lines ++ line ∷ []) in
    let cut : bytes ≡ first ++ below =
    sym (lines_joined bytes) ∙ ap (λ l. flat_map ended l ++ end_of bytes) (all ∙ sym (append_assoc lines (line ∷ []) (lines_of below)))
    ∙ ap (λ l. l ++ end_of bytes) (flat_map-append ended (lines ++ line ∷ []) (lines_of below))
    ∙ append_assoc first (flat_map ended (lines_of below)) (end_of bytes)
    ∙ ap (λ l. first ++ (flat_map ended (lines_of below) ++ l)) (had.same_end ∙ end)
    ∙ ap (λ l. first ++ l) (lines_joined below) in
    rw any (rw through (front_of bytes first below cut))
  where
    front_of : (bytes first below : List ℕ) → bytes ≡ first ++ below → take (length bytes - length below) bytes ≡ first
    front_of bytes first below is =
        let e : length bytes - length below ≡ length first = (let l = ap length is ∙ length-append first below in omega (arith, l)) in
        ap (λ n. take n bytes) e ∙ ap (take (length first)) is ∙ take-append_seam first below
