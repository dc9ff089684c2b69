use Rattle.std.proofs.Common.{◌≡◌, ◌≤◌, ◌-◌, length, List, [], ◌∷◌, ◌++◌, get_or, take, drop, ap, ◌∙◌, subst, arith}
use Rattle.std.proofs.lemmas.List.{take_all}
use Rattle.std.specs.List.{flat_map}
use Rattle.chart.specs.declared.ranges.EventRange.{EventRange}
use Rattle.texts.specs.Writing.{Adds}
use Rattle.texts.proofs.Writes.{adds_then}
use Rattle.texts.specs.Pieces.RaceWords.{range_text, next_range, ranges_text}
use Rattle.texts.proofs.pieces.race_words.add_ranges.Goals as goal

-- the first range and the others
parted : (xs : List EventRange) (x : EventRange) → 1 ≤ length xs → x ≡ get_or xs 0 x → range_text x ++ flat_map next_range (take (length xs - 1) (drop 1 xs)) ≡ ranges_text xs
parted [] x some is = absurd (omega (arith, some))
parted (y ∷ xs) x some is = ap (λ z. range_text z ++ flat_map next_range (take (length (y ∷ xs) - 1) xs)) is ∙ ap (λ l. range_text y ++ flat_map next_range l) (take_all (length (y ∷ xs) - 1) xs (omega arith))

pub returns-in_ok-add_range-in-len1-up : goal.returns-in_ok-add_range-in-len1-up
returns-in_ok-add_range-in-len1-up g c =
    subst (Adds g.W.Out.sink c.args.text.now c.add_next_ranges.new.text c.add_next_ranges.result)
    (parted c.args.ranges.now c.first-item.result c.in-len1-up.len_at_least c.first-item.is)
    (adds_then c.add_next_ranges.new.text c.add_next_ranges.result _ c.in_ok-add_range-in-len1-up.ensures c.add_next_ranges.ensures)
