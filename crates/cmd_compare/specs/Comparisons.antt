-- What `mscview compare` does with the bytes of two files.
use Rattle.std.specs.Prelude.{◌≡◌, ◌⊎◌, ℕ, Bool, true, false, List, [], ◌∷◌, ◌++◌, length, Result, Ok, Err}
use Rattle.std.specs.Global.{Vec}
use Rattle.std.specs.List.{flat_map, list_any}
use Rattle.chart.specs.declared.event.Event.{Event}
use Rattle.chart.specs.Charts.{chart_lines, IsPossible}
use Rattle.texts.specs.Outs.{Sink}
use Rattle.texts.specs.Writing.{Puts, Breaks}
use Rattle.cmd_base.specs.declared.error.ProgramError.TheVariants as errors
use Rattle.cmd_base.specs.Contents.{Named, IsRefused}
use Rattle.cmd_base.specs.Texts.{OfFile, named_of}
use Rattle.cmd_compare.specs.declared.comparison.LineComparison.{LineComparison}
use Rattle.cmd_compare.specs.declared.pairs.Difference.{Difference}
use Rattle.cmd_compare.specs.Comparing.{AreCounterparts, HasNoCounterpart, AreCompared}
use Rattle.cmd_compare.specs.declared.error.CompareError.{CompareError}
use Rattle.cmd_compare.specs.declared.error.CompareError.TheVariants.{Program, OtherInstances}
use Rattle.cmd_compare.specs.declared.comparison_text.Form.{Form}
use Rattle.cmd_compare.specs.declared.comparison_text.Form.TheVariants.{Plain, Json}
use Rattle.cmd_compare.specs.declared.comparison_text.Owner.{Owner}
use Rattle.cmd_compare.specs.declared.comparison_text.Owner.TheVariants.{First, Second}
use Rattle.cmd_compare.specs.declared.showing.Found.{Found}
use Rattle.cmd_compare.specs.declared.showing.Found.TheVariants.{Same, Reordered}
use Rattle.cmd_compare.specs.declared.word.Word.{Word}
use Rattle.cmd_compare.specs.declared.word.Word.TheVariants as words
use Rattle.cmd_compare.specs.PlainText.{plain_difference, plain_only}
use Rattle.cmd_compare.specs.JsonText.{json_difference, json_only}

-- a line for two events in opposite orders
abbrev pub difference_text : Form → List (List ℕ) → List Event → Difference → List ℕ
difference_text Plain names events d = plain_difference names events d
difference_text Json names events d = json_difference names events d

-- the word for the only recording that has an event
abbrev pub plain_owner : Owner → Word
plain_owner First = words.OnlyFirst
plain_owner Second = words.OnlySecond

abbrev pub json_owner : Owner → Word
json_owner First = words.FirstAlone
json_owner Second = words.SecondAlone

-- a line for an event that only one recording has
abbrev pub only_text : Form → Owner → List (List ℕ) → List Event → ℕ → ℕ → List ℕ
only_text Plain owner names events p i = plain_only (plain_owner owner) names events p i
only_text Json owner names events p i = json_only (json_owner owner) names events p i

-- the lines of an instance: the pairs, the events that only the first recording has, and those that only the second has
unfoldable pub line_text : Form → Named → Named → LineComparison → List ℕ
line_text form a b line =
    flat_map (difference_text form a.0 (chart_lines a.1 line.instance)) line.differences.items
    ++ (flat_map (only_text form First a.0 (chart_lines a.1 line.instance) line.instance) line.only_here.items
    ++ flat_map (only_text form Second b.0 (chart_lines b.1 line.other) line.other) line.only_there.items)

-- there is a pair
abbrev pub some_difference : List Difference → Bool
some_difference [] = false
some_difference (d ∷ ds) = true

abbrev pub has_difference : LineComparison → Bool
has_difference line = some_difference line.differences.items

abbrev pub found_in : Bool → Found
found_in true = Reordered
found_in false = Same

-- the text of the differences of two charts, and whether there is a pair
pub record IsCompared (form : Form) (a b : Named) (text : List ℕ) (found : Found) : Type 0 where
  pub others : List ℕ
  pub back : List ℕ
  pub lines : List LineComparison
  pub forth_is : AreCounterparts a.0 b.0 others
  pub back_is : AreCounterparts b.0 a.0 back
  pub compared : AreCompared others back (chart_lines a.1) (chart_lines b.1) (length a.1) lines
  pub text_is : text ≡ flat_map (line_text form a b) lines
  pub found_is : found ≡ found_in (list_any has_difference lines)

-- the numbers were found, or the other recording lacks an instance, or memory ran out
abbrev pub FindsCounterparts : List (List ℕ) → List (List ℕ) → Result (Vec ℕ) CompareError → Type 0
FindsCounterparts names others_names (Ok others) = AreCounterparts names others_names others.items
FindsCounterparts names others_names (Err (OtherInstances name)) = HasNoCounterpart names others_names name
FindsCounterparts names others_names (Err (Program errors.Memory)) = Unit {0}
FindsCounterparts names others_names (Err (Program error)) = ⊥

-- this is the name of the first instance of the first recording that the second lacks; or, if there is none, of the
-- first instance of the second that the first lacks
abbrev pub HaveOtherInstances : Named → Named → List ℕ → Type 0
HaveOtherInstances a b name = HasNoCounterpart a.0 b.0 name
    ⊎ (((others : List ℕ) × AreCounterparts a.0 b.0 others) × HasNoCounterpart b.0 a.0 name)

-- each recording has all instances of the other
abbrev pub HaveSameInstances : Named → Named → Type 0
HaveSameInstances a b = ((others : List ℕ) × AreCounterparts a.0 b.0 others) × ((back : List ℕ) × AreCounterparts b.0 a.0 back)

-- The first refusal that applies to two recordings whose texts have no fault, memory aside. The order is: they have
-- different instances, the first one's chart isn't possible, the second one's chart isn't possible.
abbrev pub IsFirstRefusal : Named → Named → CompareError → Type 0
IsFirstRefusal a b (OtherInstances name) = HaveOtherInstances a b name
IsFirstRefusal a b (Program error) = HaveSameInstances a b
    × (IsRefused error a ⊎ (IsPossible (length a.1) (chart_lines a.1) × IsRefused error b))

module _ {S : Type 0} (sink : S → Sink) where
  -- the text of two charts was written, or a beginning of it, if a put failed; or nothing was, if a refusal applies
  -- (this is the first that does) or memory ran out
  abbrev pub Compares : S → S → Form → Named → Named → Result Found CompareError → Type 0
  Compares old new form a b (Ok found) = IsPossible (length a.1) (chart_lines a.1)
      × IsPossible (length b.1) (chart_lines b.1)
      × ((text : List ℕ) × IsCompared form a b text found × Puts sink old new text)
  Compares old new form a b (Err (Program errors.Memory)) = new ≡ old
  Compares old new form a b (Err (Program errors.Write)) = IsPossible (length a.1) (chart_lines a.1)
      × IsPossible (length b.1) (chart_lines b.1)
      × ((text : List ℕ) × (found : Found) × IsCompared form a b text found × Breaks sink old new text)
  Compares old new form a b (Err error) = IsFirstRefusal a b error × (new ≡ old)

  -- the same for the bytes of two files; the first file is read first
  abbrev pub ComparesFiles : S → S → Form → List ℕ → List ℕ → Result Found CompareError → Type 0
  ComparesFiles old new form first second =
      OfFile Program (λ a done. OfFile Program (λ b found. Compares old new form (named_of a) (named_of b) found)
      old new second done) old new first
