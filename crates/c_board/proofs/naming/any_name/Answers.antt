use Rattle.std.proofs.Common.{◌≡◌, ◌∷◌, [], Ok, Err, refl, sym, ◌∙◌}
use Rattle.chart.specs.Keywords.{is_reserved, is_keyword, spelled}
use Rattle.chart.specs.Names.{name_of}
use Rattle.c_board.proofs.naming.any_name.Goals as goal

pub unreachable-requires : goal.unreachable-requires
unfolding name_of is_reserved is_keyword spelled
unreachable-requires c =
    let is : name_of (97 ∷ []) ≡ Ok (97 ∷ []) = refl in
    let same : Ok (97 ∷ []) ≡ Err c.in-Err.field-0 = sym is ∙ sym c.new.ensures ∙ c.in-Err.is in cc
