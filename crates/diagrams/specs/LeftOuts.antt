-- The skipped constructs of a diagram: for each kind their count, and the first place.
use Rattle.std.specs.Prelude.{ℕ, ◌+◌, ◌-◌, ◌^◌, min, Bool, ◌==◌, List, [], ◌∷◌, ◌++◌, Option, None, Some, position, slice_set, slice_index_or}
use Rattle.diagrams.specs.declared.left_out.Kind.{Kind}
use Rattle.diagrams.specs.declared.left_out.Kind.TheVariants as kinds
use Rattle.diagrams.specs.declared.left_out.LeftOut.{LeftOut}
use Rattle.diagrams.specs.declared.place.Place.{Place}
use Rattle.diagrams.specs.Places.{earlier}

-- the number of a kind, in the order of the kinds' words
abbrev pub number_of : Kind → ℕ
number_of kinds.ArrowBothWays = 0
number_of kinds.ArrowAtTheEdge = 1
number_of kinds.Box = 2
number_of kinds.Branch = 3
number_of kinds.Delay = 4
number_of kinds.Diagram = 5
number_of kinds.Divider = 6
number_of kinds.Frame = 7
number_of kinds.HiddenArrow = 8
number_of kinds.Line = 9
number_of kinds.LostMessage = 10
number_of kinds.MessageWithin = 11
number_of kinds.MessageToItself = 12
number_of kinds.Note = 13
number_of kinds.Participant = 14
number_of kinds.Preprocessor = 15
number_of kinds.Reference = 16
number_of kinds.Return = 17

abbrev pub is_kind : Kind → LeftOut → Bool
is_kind kind l = number_of kind == number_of l.kind

-- the first construct of its kind
abbrev pub one : Kind → Place → LeftOut
one kind place = record { kind = kind; count = 1; first = place }

-- one more construct of its kind: the count stops at u64::MAX
abbrev pub and_one : LeftOut → Place → LeftOut
and_one l place = record { kind = l.kind; count = min (l.count + 1) (2 ^ 64 - 1); first = earlier l.first place }

-- one more construct, given the place of its kind in the list, if it has one
abbrev pub with_one_at : List LeftOut → Kind → Place → Option ℕ → List LeftOut
with_one_at ls kind place None = ls ++ one kind place ∷ []
with_one_at ls kind place (Some i) = slice_set ls i (and_one (slice_index_or ls i (one kind place)) place)

-- one more skipped construct
unfoldable pub with_one : List LeftOut → Kind → Place → List LeftOut
with_one ls kind place = with_one_at ls kind place (position (is_kind kind) ls)
