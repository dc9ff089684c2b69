-- The page of a file.
use Rattle.std.specs.Prelude.{◌≡◌, ℕ, ◌-◌, ◌^◌, false, List, [], length, Option, None, Some, option_map, Result, Ok, Err}
use Rattle.chart.specs.Charts.{chart_lines, IsPossible}
use Rattle.cmd_base.specs.Answers.{Exit, exit_of, program_exit}
use Rattle.cmd_base.specs.Contents.{Named, IsRefused}
use Rattle.cmd_base.specs.NotDone.{IsNoted, not_done_exit}
use Rattle.cmd_base.specs.Texts.{OfFile, named_of}
use Rattle.cmd_base.specs.declared.error.ProgramError.{ProgramError}
use Rattle.cmd_base.specs.declared.error.ProgramError.TheVariants as errors
use Rattle.cmd_base.specs.declared.not_done.NotDone.{NotDone}
use Rattle.cmd_draw.specs.Drawing.{Draws, DrawsText}
use Rattle.cmd_draw.specs.declared.drawing.Wanted.{Wanted}
use Rattle.cmd_draw.specs.declared.windows.Rows.TheVariants.{Between}
use Rattle.texts.specs.Outs.{Sink, Stored}
use Rattle.texts.specs.Writing.{Puts, Breaks}
use Rattle.cmd_page.specs.Text.PageText.{page_text}
use Rattle.cmd_page.specs.declared.text.page.Page.{Page}
use Rattle.cmd_page.specs.Answers.Leaving.{memory, none}
use Rattle.cmd_page.specs.Marks.Pairing.{ArePageRaces, explained_of}
use Rattle.cmd_page.specs.declared.marks.pairs.RaceRange.{RaceRange}
use Rattle.cmd_page.specs.Races.{AreRaces}
use Rattle.cmd_page.specs.declared.showing.Heading.{Heading}

-- The heading of a page has the title. It has the instance of each event in the picture, from top to bottom, if the
-- text doesn't give it. And it has the races with their verdicts, if these are known.
pub record HeadingView : Type 0 where
  pub title : List ℕ
  pub turns : Option (List ℕ)
  pub races : Option (List RaceRange)

abbrev pub heading_view : Heading → HeadingView
heading_view heading = record {
  title = heading.title.now;
  turns = option_map (λ turns. turns.now) heading.turns;
  races = option_map (λ races. races.now) heading.races;
}

-- only a title: the rows are those of the text, and the races are those of its chart
abbrev pub titled : List ℕ → HeadingView
titled title = record { title = title; turns = None; races = None }

-- a title, and races with their verdicts
abbrev pub judged : List ℕ → List RaceRange → HeadingView
judged title races = record { title = title; turns = None; races = Some races }

-- the wanted picture: with this title, with all columns, events and rows, and without numbers
pub record IsAskedOf (file : List ℕ) (wanted : Wanted) : Type 0 where
  pub name : wanted.title.now ≡ file
  pub only : wanted.only ≡ None
  pub first : wanted.events.first ≡ 1
  pub last : wanted.events.last ≡ 2 ^ 32 - 1
  pub rows : wanted.rows ≡ Between (record { first = 1; last = 2 ^ 32 - 1 })
  pub numbers : wanted.numbers ≡ false

-- the picture is the output of `draw` for the bytes
pub record IsPicture (bytes file picture : List ℕ) : Type 0 where
  pub wanted : Wanted
  pub asked : IsAskedOf file wanted
  pub out : Stored
  pub not_done : Option NotDone
  pub done : DrawsText memory none out wanted bytes (Ok not_done)
  pub text : picture ≡ out.bytes

-- the picture is the output of `draw` for the chart in the order of the turns, without notes
pub record IsPictureBy (turns file : List ℕ) (named : Named) (picture : List ℕ) : Type 0 where
  pub wanted : Wanted
  pub asked : IsAskedOf file wanted
  pub out : Stored
  pub done : Draws memory none out (Ok tt) wanted turns [] named
  pub text : picture ≡ out.bytes

-- the picture is that of the bytes, or of the chart in the order of turns
abbrev pub HasPicture : Option (List ℕ) → List ℕ → List ℕ → Named → List ℕ → Type 0
HasPicture None bytes file named picture = IsPicture bytes file picture
HasPicture (Some turns) bytes file named picture = IsPictureBy turns file named picture

-- the page of the bytes' chart, which some run has
pub record IsPageOf (bytes : List ℕ) (heading : HeadingView) (named : Named) (page : Page) : Type 0 where
  pub possible : IsPossible (length named.1) (chart_lines named.1)
  pub pairs : List RaceRange
  pub are : ArePageRaces heading.races named.1 pairs
  pub title : page.title.now ≡ heading.title
  pub picture : HasPicture heading.turns bytes heading.title named page.picture.now
  pub explained : page.explained ≡ explained_of (length bytes) (length pairs)
  pub races : AreRaces bytes named page.explained pairs page.races.now

module _ {S : Type 0} (sink : S → Sink) where
  -- the page was written. If a put failed, the beginning of it was written. Nothing was written if no run has the
  -- chart, or if memory ran out
  abbrev pub Shows : S → S → Result (Unit {0}) ProgramError → List ℕ → HeadingView → Named → Type 0
  Shows old new (Ok done) bytes heading named = (page : Page) × IsPageOf bytes heading named page
      × Puts sink old new (page_text page)
  Shows old new (Err errors.Memory) bytes heading named = new ≡ old
  Shows old new (Err errors.Write) bytes heading named = (page : Page) × IsPageOf bytes heading named page
      × Breaks sink old new (page_text page)
  Shows old new (Err error) bytes heading named = IsRefused error named × (new ≡ old)

  -- The same for the chart of the bytes; or nothing was written, if the bytes have a fault. It stays folded, so that
  -- the goals above it are short.
  unfoldable pub ShowsText : S → S → HeadingView → List ℕ → Result (Unit {0}) ProgramError → Type 0
  ShowsText old new heading bytes done =
      OfFile (λ error. error) (λ source done. Shows old new done bytes heading (named_of source)) old new bytes done

  -- the same, and the commands of a schedule that did nothing are these
  unfoldable pub ShowsFile : S → S → HeadingView → List ℕ → Result (Option NotDone) ProgramError → Type 0
  ShowsFile old new heading bytes done = OfFile (λ error. error)
      (IsNoted (λ them. tt) (λ them. them) (λ source done. Shows old new done bytes heading (named_of source))) old new bytes done

-- the answer after a page was written, with the commands of a schedule that did nothing
abbrev pub page_exit : Result (Option NotDone) ProgramError → Exit
page_exit = exit_of not_done_exit program_exit
