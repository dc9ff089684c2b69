-- The skipped constructs, in the order of their first places.
use Rattle.std.specs.Prelude.{List, [], ◌∷◌, if◌then◌else◌}
use Rattle.diagrams.specs.Places.{is_before}
use Rattle.diagrams.specs.declared.left_out.LeftOut.{LeftOut}

-- one kind, inserted before those of later places
abbrev pub put_in : LeftOut → List LeftOut → List LeftOut
put_in l [] = l ∷ []
put_in l (m ∷ ms) = if is_before l.first m.first then l ∷ m ∷ ms else m ∷ put_in l ms

abbrev pub in_order_with : List LeftOut → List LeftOut → List LeftOut
in_order_with so_far [] = so_far
in_order_with so_far (l ∷ ls) = in_order_with (put_in l so_far) ls

-- all kinds, sorted; those of one place keep their order
unfoldable pub in_order : List LeftOut → List LeftOut
in_order left_out = in_order_with [] left_out
