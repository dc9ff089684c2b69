-- The picture of a chart and its witness.
use Rattle.std.specs.Prelude.{◌≡◌, ℕ, List, [], length, codes, Result, Ok, Err}
use Rattle.chart.specs.Charts.{chart_lines, IsPossible}
use Rattle.cmd_base.specs.declared.error.ProgramError.{ProgramError}
use Rattle.cmd_base.specs.declared.error.ProgramError.TheVariants as errors
use Rattle.cmd_base.specs.declared.source.Source.{Source}
use Rattle.cmd_base.specs.declared.text.Text.TheVariants.{Schedule}
use Rattle.cmd_base.specs.Texts.{OfFile, named_of, ComesFrom, IsSourceOf}
use Rattle.cmd_base.specs.Columns.Columns.{AreColumns, only_of}
use Rattle.cmd_draw.specs.Drawing.{IsWanted}
use Rattle.cmd_draw.specs.Preparing.{turns_in}
use Rattle.cmd_draw.specs.declared.drawing.Wanted as whole
use Rattle.cmd_base.specs.declared.columns.error.ColumnError.TheVariants as names
use Rattle.texts.specs.Outs.{Sink}
use Rattle.texts.specs.Writing.{Puts, Breaks}
use Rattle.pictures.specs.Pictures.{PictureView}
use Rattle.pictures.specs.Preparing.{IsPictureOf}
use Rattle.schedule_replay.specs.declared.reordered_runs.showing.Shown.{Shown}
use Rattle.schedule_replay.specs.declared.reordered_runs.showing.Shown.TheVariants as founds
use Rattle.cmd_base.specs.declared.pairs.error.PairError.{PairError}
use Rattle.cmd_base.specs.declared.pairs.error.PairError.TheVariants.{Program, ManySlots}
use Rattle.cmd_explain_race.specs.declared.finding.Found.{Found}
use Rattle.cmd_base.specs.declared.pairs.pair.Asked.{Asked}
use Rattle.cmd_base.specs.declared.pairs.pair.Pair as pairs
use Rattle.cmd_explain_race.specs.declared.verdict.Witnessed.{Witnessed}
use Rattle.cmd_explain_race.specs.Finding.{origin_of, IsFound, Judges}
use Rattle.cmd_draw.specs.declared.witness.drawing.Subject.{Subject}
use Rattle.cmd_draw.specs.declared.witness.drawing.Wanted.{Wanted}
use Rattle.cmd_draw.specs.declared.witness.error.PictureError.{PictureError}
use Rattle.cmd_draw.specs.declared.witness.error.PictureError.TheVariants.{Columns, Pair}
use Rattle.cmd_draw.specs.declared.witness.stage.Stage.{Stage}
use Rattle.cmd_draw.specs.Witness.Beside.{beside_text}
use Rattle.cmd_draw.specs.Witness.Counterparts.{counterpart}
use Rattle.cmd_draw.specs.Witness.Stages.{IsWhole, pictured_source, part_of}

-- the title above the witness's picture
unfoldable pub other_title : List ℕ
other_title = codes "another run, with the two events the other way round"

-- the picture of the source's whole chart with this title, as `mscview draw` draws it
pub record IsPictured (title : List ℕ) (wanted : Wanted) (source : Source) (picture : PictureView) : Type 0 where
  pub all : whole.Wanted
  pub is_whole : IsWhole title (only_of wanted.only) wanted.numbers all
  pub is_picture : IsWanted all (turns_in source) [] (named_of source) picture

-- the text of two pictures side by side. In the source's chart the pair is marked, and in the other chart the events of
-- the same lanes and turns
pub record ArePictured (asked : Asked) (wanted : Wanted) (source : Source) (pair : pairs.Pair) (other : Source) (text : List ℕ)
    : Type 0 where
  pub here : PictureView
  pub there : PictureView
  pub left : IsPictured wanted.title.now wanted source here
  pub right : IsPictured other_title wanted other there
  pub is : text ≡ beside_text wanted.title.now asked.instance.now pair here there (record {
    earlier = counterpart (named_of source).1 (named_of other).1 pair.earlier;
    receive = counterpart (named_of source).1 (named_of other).1 pair.receive;
  })

-- a possible chart, with the wanted columns
pub record IsSubject (subject : Subject) : Type 0 where
  pub comes : ComesFrom subject.source.now
  pub possible : IsPossible (length (named_of subject.source.now).1) (chart_lines (named_of subject.source.now).1)
  pub columns : AreColumns (named_of subject.source.now).0 (only_of subject.wanted.now.only) subject.columns.now

-- the same text, by what the pictures are made from
pub record AreStaged (subject : Subject) (one other : Stage) (text : List ℕ) : Type 0 where
  pub wanted_here : whole.Wanted
  pub wanted_there : whole.Wanted
  pub here : PictureView
  pub there : PictureView
  pub whole_here : IsWhole subject.wanted.now.title.now (only_of subject.wanted.now.only) subject.wanted.now.numbers wanted_here
  pub whole_there : IsWhole other_title (only_of subject.wanted.now.only) subject.wanted.now.numbers wanted_there
  pub left : IsPictureOf (pictured_source wanted_here.title.now one) (part_of subject.columns.now wanted_here.numbers) here
  pub right : IsPictureOf (pictured_source wanted_there.title.now other) (part_of subject.columns.now wanted_there.numbers) there
  pub is : text ≡ beside_text subject.wanted.now.title.now subject.asked.now.instance.now subject.pair here there (record {
    earlier = counterpart one.closure.now other.closure.now subject.pair.earlier;
    receive = counterpart one.closure.now other.closure.now subject.pair.receive;
  })

module _ {S : Type 0} (sink : S → Sink) where
  -- such a text was written; or a beginning of it, if a put failed; or nothing, if memory ran out
  abbrev pub WritesOne : (List ℕ → Type 0) → S → S → Result (Unit {0}) ProgramError → Type 0
  WritesOne Is old new (Ok done) = (text : List ℕ) × Is text × Puts sink old new text
  WritesOne Is old new (Err errors.Write) = (text : List ℕ) × Is text × Breaks sink old new text
  WritesOne Is old new (Err errors.Memory) = new ≡ old
  WritesOne Is old new (Err error) = ⊥

  -- if a witness was found, the pictures of the chart and of the outcome of the witness's schedule were drawn; and
  -- otherwise nothing
  abbrev pub DrawsSo : S → S → Asked → Wanted → Source → pairs.Pair → Shown → Result (Unit {0}) ProgramError → Type 0
  DrawsSo old new asked wanted source pair (founds.Replay plan) result =
      WritesOne (λ text. (other : Source) × IsSourceOf (Schedule plan) other × ArePictured asked wanted source pair other text) old new result
  DrawsSo old new asked wanted source pair shown result = (result ≡ Ok tt) × (new ≡ old)

  abbrev pub DrawsShown : S → S → Asked → Wanted → Source → Found → Result (Unit {0}) ProgramError → Type 0
  DrawsShown old new asked wanted source found = DrawsSo old new asked wanted source found.pair found.shown

  -- this was found for the given pair, the chart has these columns, and they were drawn so
  pub record DrawsFound (old new : S) (asked : Asked) (wanted : Wanted) (source : Source)
      (judged : Result Witnessed PairError) (done : Result (Unit {0}) ProgramError) : Type 0 where
    pub columns : List ℕ
    pub found : Found
    pub are : AreColumns (named_of source).0 (only_of wanted.only) columns
    pub is_found : IsFound (named_of source) (origin_of source) asked (Ok found)
    pub judges : Judges source found judged
    pub draws : DrawsShown old new asked wanted source found done

  -- the chart was drawn beside its witness, or there is none; or nothing was written. Nothing is written if the chart
  -- lacks the columns, isn't possible, lacks the pair, if each witness needs too many slots, or memory ran out
  abbrev pub DrawsWitness : S → S → Asked → Wanted → Source → Result Witnessed PictureError → Type 0
  DrawsWitness old new asked wanted source (Ok witnessed) =
      DrawsFound old new asked wanted source (Ok witnessed) (Ok tt)
  DrawsWitness old new asked wanted source (Err (Columns names.NoSuchName)) =
      ((columns : List ℕ) → AreColumns (named_of source).0 (only_of wanted.only) columns → ⊥) × (new ≡ old)
  DrawsWitness old new asked wanted source (Err (Columns (names.Program errors.Memory))) = new ≡ old
  DrawsWitness old new asked wanted source (Err (Columns error)) = ⊥
  DrawsWitness old new asked wanted source (Err (Pair (Program errors.Memory))) = new ≡ old
  DrawsWitness old new asked wanted source (Err (Pair (Program errors.Write))) =
      (witnessed : Witnessed) × DrawsFound old new asked wanted source (Ok witnessed) (Err errors.Write)
  DrawsWitness old new asked wanted source (Err (Pair (ManySlots k))) =
      DrawsFound old new asked wanted source (Err (ManySlots k)) (Ok tt)
  DrawsWitness old new asked wanted source (Err (Pair error)) = (columns : List ℕ)
      × AreColumns (named_of source).0 (only_of wanted.only) columns
      × IsFound (named_of source) (origin_of source) asked (Err error) × (new ≡ old)

  -- the same for the chart in a file; or nothing was written, if the bytes have a fault
  abbrev pub DrawsWitnessText : S → S → Asked → Wanted → List ℕ → Result Witnessed PictureError → Type 0
  DrawsWitnessText old new asked wanted bytes =
      OfFile (λ error. Pair (Program error)) (λ source done. DrawsWitness old new asked wanted source done) old new bytes
