-- One step along a list, for a lifeline's text and for the rows that are counted.
use Rattle.std.proofs.Common.{◌≡◌, ℕ, suc, ◌+◌, ◌<◌, ◌≤◌, Bool, List, [], ◌∷◌, ◌++◌, length, get_or, drop, Option, sym, ap, ◌∙◌, add-one}
use Rattle.std.proofs.Math.Seq.{drop-cons}
use Rattle.std.proofs.lemmas.List.{drop_all}
use Rattle.chart.specs.declared.event.Event.{Event}
use Rattle.chart.specs.Events.{region_of}
use Rattle.pictures.specs.declared.columns.Life.{Life}
use Rattle.pictures.specs.ColumnText.{rows_above, part, next_life, life_end, life_text}
use Rattle.pictures.specs.Pictures.{PictureView}
use Rattle.pictures.specs.Spots.{height}

-- the element that a loop reads, and the elements after it
pub drop_read : {X : Type 0} (xs : List X) (k : ℕ) (x : X) → k < length xs → x ≡ get_or xs k x → drop k xs ≡ x ∷ drop (k + 1) xs
drop_read xs k x below is = drop-cons xs k x below ∙ ap (λ y. y ∷ drop (suc k) xs) (sym is) ∙ ap (λ n. x ∷ drop n xs) (sym (add-one k))

-- a lifeline's text from an event on, and after the last event
pub life_next : (v : PictureView) (p x i : ℕ) (life : Life) (line : List Event) (k : ℕ) (m : Event) → k < length line → m ≡ get_or line k m
    → life_text v p x i life (drop k line)
    ≡ part x life (rows_above v (record { instance = p; index = i })) (region_of m)
    ++ life_text v p x (i + 1) (next_life life (rows_above v (record { instance = p; index = i })) (region_of m)) (drop (k + 1) line)
life_next v p x i life line k m below is = ap (life_text v p x i life) (drop_read line k m below is)

-- the same if the state of the loop is given by equations
pub life_step : (v : PictureView) (p x i : ℕ) (life : Life) (line : List Event) (k : ℕ) (m : Event) (place : Option ℕ) (region other : ℕ) (next : Life) → k < length line → m ≡ get_or line k m
    → place ≡ rows_above v (record { instance = p; index = i }) → region ≡ region_of m → other ≡ region_of m → next ≡ next_life life place other
    → life_text v p x i life (drop k line) ≡ part x life place region ++ life_text v p x (i + 1) next (drop (k + 1) line)
life_step v p x i life line k m place region other next below is c r o n = rw (n, c, r, o) (life_next v p x i life line k m below is)

pub life_last : (v : PictureView) (p x i : ℕ) (life : Life) (line : List Event) (k bottom : ℕ) → length line ≤ k → bottom ≡ height v.count → life_text v p x i life (drop k line) ≡ life_end x life bottom
life_last v p x i life line k bottom past b = ap (life_text v p x i life) (drop_all k line past) ∙ ap (life_end x life) (sym b)
