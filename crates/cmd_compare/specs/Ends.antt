-- Ends of lanes at an instance, and the numbers that instances have in another recording (this project's own).
use Rattle.std.specs.Prelude.{ℕ, zero, suc, Bool, List, slice_index_or}
use Rattle.chart.specs.declared.event.Event.{Event}
use Rattle.chart.specs.declared.event.Event.TheVariants.{Send, Receive}
use Rattle.chart.specs.Events.{is_send_to, is_receive_from}
use Rattle.cmd_compare.specs.declared.lane_end.LaneEnd.{LaneEnd}
use Rattle.cmd_compare.specs.declared.lane_end.LaneEnd.TheVariants.{To, From}

-- the end of a lane at which an event is
abbrev pub end_of : Event → LaneEnd
end_of (Send to name) = To to
end_of (Receive from name region) = From from

-- an event is at this end
abbrev pub is_at : LaneEnd → Event → Bool
is_at (To q) m = is_send_to q m
is_at (From q) m = is_receive_from q m

-- an instance's number in another recording, by a list of these numbers, or its own number if the list has none
abbrev pub other_of : List ℕ → ℕ → ℕ
other_of others zero = zero
other_of others (suc p) = slice_index_or others p (suc p)

-- the same end there
abbrev pub end_there : List ℕ → LaneEnd → LaneEnd
end_there others (To q) = To (other_of others q)
end_there others (From q) = From (other_of others q)
