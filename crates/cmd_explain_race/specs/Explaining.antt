-- The lines that explain a pair of events of a chart.
use Rattle.std.specs.Prelude.{◌≡◌, ℕ, Bool, true, false, List, length, Option, Some, Result, Ok, Err}
use Rattle.std.specs.List.{flat_map}
use Rattle.chart.specs.declared.event.Event.{Event}
use Rattle.chart.specs.Events.{is_in}
use Rattle.chart.specs.Charts.{Chart, chart_event, chart_lines, IsReceiveFrom, IsPossible}
use Rattle.chart.specs.Order.{Before, region_of_event}
use Rattle.closure.specs.Faults.{place_of}
use Rattle.closure.specs.declared.chain.link.Link.{Link}
use Rattle.closure.specs.Chain.Chains.{IsShortestChain}
use Rattle.closure.specs.Chain.Pasts.{IsPast}
use Rattle.texts.specs.Outs.{Sink}
use Rattle.texts.specs.Writing.{Puts, Breaks}
use Rattle.cmd_base.specs.declared.error.ProgramError.TheVariants as errors
use Rattle.cmd_base.specs.Contents.{Named, IsRefused}
use Rattle.cmd_base.specs.declared.pairs.error.PairError.{PairError}
use Rattle.cmd_base.specs.declared.pairs.error.PairError.TheVariants.{Program, ManySlots}
use Rattle.cmd_base.specs.declared.pairs.pair.Asked.{Asked}
use Rattle.cmd_base.specs.declared.pairs.pair.Pair.{Pair}
use Rattle.cmd_base.specs.declared.pairs.saying.Saying.{Saying}
use Rattle.cmd_explain_race.specs.declared.verdict.Verdict.{Verdict}
use Rattle.cmd_explain_race.specs.declared.verdict.Verdict.TheVariants.{Enforced, Race, Hidden}
use Rattle.cmd_base.specs.Pairs.Pairs.{pair_of}
use Rattle.cmd_base.specs.Pairs.Sayings.{race_sayings, chain_sayings}
use Rattle.cmd_base.specs.Pairs.SayingText.{saying_text}

-- whether both events are in one coregion
abbrev pub AreInOneRegion : Chart → Pair → Bool → Type 0
AreInOneRegion c pair are = (m : Event) × (chart_event c (place_of pair.earlier) ≡ Some m)
    × (is_in (region_of_event (chart_event c (place_of pair.receive))) m ≡ are)

-- in a chart of n lines, these lines explain that the receive needn't come after the event
abbrev pub AreRaceSayings : ℕ → Chart → Pair → List Saying → Type 0
AreRaceSayings n c pair sayings = (q : ℕ) × (counts : List ℕ) × IsReceiveFrom c q (place_of pair.receive)
    × IsPast n c (place_of pair.receive) counts
    × (sayings ≡ race_sayings (c pair.receive.instance) pair.receive.instance pair.receive.index q counts)

-- the lines that explain it are unique
abbrev pub OneExplanationLaw : Type 0
OneExplanationLaw = (n : ℕ) (c : Chart) (pair : Pair) (a b : List Saying) → AreRaceSayings n c pair a
    → AreRaceSayings n c pair b → a ≡ b

-- the verdict on the pair, and the lines that explain it
abbrev pub IsExplained : ℕ → Chart → Pair → Verdict → List Saying → Type 0
IsExplained n c pair Enforced sayings = (links : List Link) × Before c (place_of pair.earlier) (place_of pair.receive)
    × IsShortestChain c (place_of pair.earlier) (place_of pair.receive) links × (sayings ≡ chain_sayings links)
IsExplained n c pair Race sayings = (Before c (place_of pair.earlier) (place_of pair.receive) → ⊥)
    × AreInOneRegion c pair false × AreRaceSayings n c pair sayings
IsExplained n c pair Hidden sayings = (Before c (place_of pair.earlier) (place_of pair.receive) → ⊥)
    × AreInOneRegion c pair true × AreRaceSayings n c pair sayings

-- the text of these lines, for a pair of the chart
abbrev pub sayings_text : Named → Pair → List Saying → List ℕ
sayings_text (names, lines) pair sayings =
    flat_map (saying_text names (chart_lines lines pair.receive.instance)) sayings

module _ {S : Type 0} (sink : S → Sink) where
  -- the lines that explain the pair were written, or a beginning of them, if a put failed; or nothing, if the chart
  -- isn't possible, there is no such pair, or memory ran out
  abbrev pub Explains : S → S → Result Verdict PairError → Named → Asked → Type 0
  Explains old new (Ok verdict) named asked = (pair : Pair) × (sayings : List Saying)
      × (pair_of named.0 named.1 asked ≡ Ok pair) × IsPossible (length named.1) (chart_lines named.1)
      × IsExplained (length named.1) (chart_lines named.1) pair verdict sayings
      × Puts sink old new (sayings_text named pair sayings)
  Explains old new (Err (Program errors.Memory)) named asked = new ≡ old
  Explains old new (Err (Program errors.Write)) named asked =
      (pair : Pair) × (verdict : Verdict) × (sayings : List Saying)
      × (pair_of named.0 named.1 asked ≡ Ok pair) × IsPossible (length named.1) (chart_lines named.1)
      × IsExplained (length named.1) (chart_lines named.1) pair verdict sayings
      × Breaks sink old new (sayings_text named pair sayings)
  Explains old new (Err (Program error)) named asked = IsRefused error named × (new ≡ old)
  Explains old new (Err (ManySlots slots)) named asked = ⊥
  Explains old new (Err error) named asked = (pair_of named.0 named.1 asked ≡ Err error)
      × IsPossible (length named.1) (chart_lines named.1) × (new ≡ old)
