-- The results of readers that take memory.
use Rattle.std.specs.Prelude.{◌≡◌, map, Result, Ok, Err}
use Rattle.diagram_mscgen.specs.Grammar.Reading.{Tokens}
use Rattle.diagram_mscgen.specs.Grammar.Tokens.{seen}
use Rattle.diagram_mscgen.specs.declared.grammar.stop.Stop.{Stop}
use Rattle.diagram_mscgen.specs.declared.grammar.stop.Stop.TheVariants.{Memory, At}

-- a reader stops at the tokens at which reading stops, unless memory ran out
abbrev pub StopsAt : {Y : Type 0} → Stop → Result Y Tokens → Type 0
StopsAt Memory read = Unit {0}
StopsAt (At stop) read = read ≡ Err (map seen stop.now)

-- a reader's result, seen through view, is the defined one, unless memory ran out
abbrev pub Gives : {X Y : Type 0} → (X → Y) → Result X Stop → Result Y Tokens → Type 0
Gives view (Ok x) read = read ≡ Ok (view x)
Gives view (Err stop) read = StopsAt stop read
