-- What events have heard of other hosts, by their clocks (Mattern 1989): an entry that grew refers to an event of its
-- host, unless another entry that grew implies it.
use Rattle.std.specs.Prelude.{ℕ, ◌+◌, ◌&&◌, not, Bool, true, false, nat_lt, nat_le, List, [], ◌∷◌, ◌++◌, take, Option, None, Some, slice_get, bytes_eq, if◌then◌else◌}
use Rattle.log_formats.specs.Clocks.Moments.{MomentView, is_by_clock, last_stamps, place_from}
use Rattle.log_formats.specs.Clocks.Stamps.{StampView, stamp_view, count_of}
use Rattle.log_formats.specs.declared.clocks.heard.Heard.{Heard}

-- an entry that grew, the place of the event to which it refers, if the log has it, and the place and the host of the
-- event that has heard of it
pub record HeardView : Type 0 where
  pub stamp : StampView
  pub source : Option ℕ
  pub at : ℕ
  pub host : List ℕ

abbrev pub heard_view : Heard → HeardView
heard_view h = record { stamp = stamp_view h.stamp; source = h.source; at = h.at; host = h.host.now }

-- it is the entry of another host, and grew
abbrev pub grew : List ℕ → List StampView → StampView → Bool
grew host before s = not (bytes_eq s.host host) && nat_lt (count_of before s.host) s.count

abbrev pub heard_of : List MomentView → ℕ → MomentView → StampView → HeardView
heard_of moments at m s = record { stamp = s; source = place_from 0 s moments; at = at; host = m.clocked.host }

-- what was found, with those of these entries that grew since
abbrev pub with_grown : List MomentView → ℕ → MomentView → List StampView → List HeardView → List StampView → List HeardView
with_grown moments at m before found [] = found
with_grown moments at m before found (s ∷ stamps) =
    with_grown moments at m before (if grew m.clocked.host before s then found ++ heard_of moments at m s ∷ [] else found) stamps

-- the entries of an event's clock that grew
abbrev pub grown : List MomentView → ℕ → MomentView → List HeardView
grown moments at m = with_grown moments at m (last_stamps [] m.clocked.host (take at moments)) [] m.stamps

-- the event to which an entry refers is of another host, and knows of what was heard
abbrev pub knows_of : HeardView → HeardView → Option MomentView → Bool
knows_of by h None = false
knows_of by h (Some m) = not (bytes_eq by.stamp.host h.stamp.host) && nat_le h.stamp.count (count_of m.stamps h.stamp.host)

-- an event of another host that the log lacks may know of what was heard; it can't if the event to which the heard
-- entry refers knows of it. If it may, the message by which this was heard isn't known
abbrev pub may_know_of : HeardView → HeardView → Option MomentView → Bool
may_know_of by h None = false
may_know_of by h (Some m) =
    not (bytes_eq by.stamp.host h.stamp.host) && nat_lt (count_of m.stamps by.stamp.host) by.stamp.count

abbrev pub may_imply_at : List MomentView → HeardView → HeardView → Option ℕ → Bool
may_imply_at moments by h None = false
may_imply_at moments by h (Some place) = may_know_of by h (slice_get moments place)

abbrev pub may_imply : List MomentView → HeardView → HeardView → Bool
may_imply moments by h = may_imply_at moments by h h.source

abbrev pub implies_at : List MomentView → HeardView → HeardView → Option ℕ → Bool
implies_at moments by h None = may_imply moments by h
implies_at moments by h (Some place) = knows_of by h (slice_get moments place)

-- an entry implies another one that grew
abbrev pub implies : List MomentView → HeardView → HeardView → Bool
implies moments by h = implies_at moments by h by.source

abbrev pub is_implied : List MomentView → List HeardView → HeardView → Bool
is_implied moments [] h = false
is_implied moments (by ∷ found) h = if implies moments by h then true else is_implied moments found h

-- what was heard of directly: those of these entries that no entry of found implies
abbrev pub with_direct : List MomentView → List HeardView → List HeardView → List HeardView → List HeardView
with_direct moments found all [] = all
with_direct moments found all (h ∷ rest) = with_direct moments found (if is_implied moments found h then all else all ++ h ∷ []) rest

-- what was heard so far, with what an event has heard of directly
abbrev pub with_heard : List MomentView → ℕ → List HeardView → MomentView → List HeardView
with_heard moments at all m = with_direct moments (grown moments at m) all (grown moments at m)

-- what was heard so far, with what those of these events have heard about which clocks decide; the first has this place
abbrev pub with_all_heard : List MomentView → ℕ → List HeardView → List MomentView → List HeardView
with_all_heard moments at all [] = all
with_all_heard moments at all (m ∷ rest) =
    with_all_heard moments (at + 1) (if is_by_clock m then with_heard moments at all m else all) rest

unfoldable pub all_heard : List MomentView → List HeardView
all_heard moments = with_all_heard moments 0 [] moments
