-- Lines that both looks pass, one after the other: laws about lists alone.
use Rattle.std.proofs.Common.{◌≡◌, ℕ, ◌+◌, List, [], ◌∷◌, ◌++◌, length, map, Ok, refl, sym, ap, ◌∙◌, arith, add-zero}
use Rattle.std.specs.List.{AllByRecursion}
use Rattle.texts.specs.Faults.{◌>>=◌, in_line}
use Rattle.texts.specs.Lines.{Lacks}
use Rattle.texts.proofs.Results.{bind_at}
use Rattle.msc_text.specs.Reader.Builders.{BuilderView, built}
use Rattle.msc_text.specs.Reader.Reading.{names_after, finished, look_from, build_from}
use Rattle.msc_text.specs.Reader.Steps.{step_of}
use Rattle.msc_text.specs.declared.reader.state.State.{State}
use Rattle.msc_text.specs.declared.reader.state.Saying.{Saying}
use Rattle.msc_text.proofs.ReaderLemmas.Moves.{Moves}
use Rattle.msc_text.proofs.ReaderLemmas.SayingsAgain.{saying_line, line-again, line-lacks}

-- how far both looks have come: the names that have begun, the state and what is built
pub record Spot : Type 0 where
  pub begun : List (List ℕ)
  pub state : State
  pub builder : BuilderView

-- one line takes both looks from one spot to the next
pub record Passes (names : List (List ℕ)) (a : Spot) (saying : Saying) (b : Spot) : Type 0 where
  pub moves : Moves a.state saying b.state
  pub adds : names_after a.begun saying ≡ Ok b.begun
  pub builds : built names a.builder saying ≡ Ok b.builder

-- several lines do, one after the other
pub data Path (names : List (List ℕ)) : Spot → List Saying → Spot → Type 0 where
  stay : {a : Spot} → Path names a [] a
  pass : {a b c : Spot} {saying : Saying} {others : List Saying} → Passes names a saying b → Path names b others c → Path names a (saying ∷ others) c

pub one_pass : {names : List (List ℕ)} {a b : Spot} {saying : Saying} → Passes names a saying b → Path names a (saying ∷ []) b
one_pass p = pass p stay

pub path_then : {names : List (List ℕ)} {a b c : Spot} {xs ys : List Saying} → Path names a xs b → Path names b ys c → Path names a (xs ++ ys) c
path_then stay q = q
path_then (pass p others) q = pass p (path_then others q)

-- ---- both looks go along a path

pub look_path : {names : List (List ℕ)} {a b : Spot} {xs : List Saying} (n : ℕ) (rest : List ℕ) → Path names a xs b → look_from a.begun a.state n (map saying_line xs) rest ≡ finished b.begun b.state (n + length xs) rest
unfolding look_from
look_path {a = a} n rest stay = ap (λ k. finished a.begun a.state k rest) (sym (add-zero n))
look_path {names} {a} {b = c} n rest (pass {b = b} {saying = saying} {others = others} p q) =
    let reads : in_line n (step_of a.state (saying_line saying)) ≡ Ok (saying, b.state) = ap (in_line n) (line-again p.moves) in
    bind_at (in_line n (step_of a.state (saying_line saying))) (λ step. in_line n (names_after a.begun step.0) >>= λ more. look_from more step.1 (n + 1) (map saying_line others) rest) (saying, b.state) reads
    ∙ bind_at (in_line n (names_after a.begun saying)) (λ more. look_from more b.state (n + 1) (map saying_line others) rest) b.begun (ap (in_line n) p.adds)
    ∙ look_path (n + 1) rest q
    ∙ ap (λ k. finished c.begun c.state k rest) (omega arith)

pub build_path : {names : List (List ℕ)} {a b : Spot} {xs : List Saying} (n : ℕ) → Path names a xs b → build_from names a.state a.builder n (map saying_line xs) ≡ Ok b.builder.lines
unfolding build_from
build_path n stay = refl
build_path {names} {a} n (pass {b = b} {saying = saying} {others = others} p q) =
    let reads : in_line n (step_of a.state (saying_line saying)) ≡ Ok (saying, b.state) = ap (in_line n) (line-again p.moves) in
    bind_at (in_line n (step_of a.state (saying_line saying))) (λ step. in_line n (built names a.builder step.0) >>= λ more. build_from names step.1 more (n + 1) (map saying_line others)) (saying, b.state) reads
    ∙ bind_at (in_line n (built names a.builder saying)) (λ more. build_from names b.state more (n + 1) (map saying_line others)) b.builder (ap (in_line n) p.builds)
    ∙ build_path (n + 1) q

-- the lines of a path have no line feed
pub path_lacks : {names : List (List ℕ)} {a b : Spot} {xs : List Saying} → Path names a xs b → AllByRecursion (Lacks 10) (map saying_line xs)
path_lacks stay = tt
path_lacks (pass p q) = (line-lacks p.moves, path_lacks q)
