-- The groups of an expression, and what a match gives by them.
use Rattle.std.proofs.Common.{◌≡◌, ℕ, ◌+◌, ◌≤◌, ◌<◌, Bool, not, cond, List, [], ◌∷◌, Option, None, Some, length, map, drop, option_map, refl, sym, ap, arith, position, string_bytes, String}
use Rattle.std.specs.Prelude.{unwrap_or}
use Rattle.std.specs.List.{position_or_len}
use Rattle.log_lines.specs.Events.{Other}
use Rattle.std.proofs.lemmas.List.{length-map}
use Rattle.log_formats.specs.Patterns.Found.{located, id_of, has_part, host_event, line_meaning, found_by}
use Rattle.log_formats.specs.Patterns.Groups.{is_named, named_at, group_in, AreAmong, IsAmongIfThere}
use Rattle.log_formats.specs.Patterns.Unread.{unread_in}
use Rattle.log_formats.specs.declared.patterns.groups.EventGroups.{EventGroups}
use Rattle.log_formats.specs.declared.patterns.groups.Groups.{Groups}
use Rattle.log_formats.specs.declared.patterns.groups.Groups.TheVariants.{Event, Capture, Clock}

module _ {X Y : Type 0} (f : X → Y) (p : Y → Bool) where
  prefix_mapped : (xs : List X) → position_or_len p (map f xs) ≡ position_or_len (λ x. p (f x)) xs
  prefix_mapped [] = refl
  prefix_mapped (x ∷ xs) = ap (λ n. cond (not (p (f x))) (1 + n) 0) (prefix_mapped xs)

  -- the first value that passes
  pub position_mapped : (xs : List X) → position p (map f xs) ≡ position (λ x. p (f x)) xs
  position_mapped xs = rw (prefix_mapped xs, length-map xs f) refl

-- the number of a group, by its place among the groups after the match itself
pub group_placed : {A : Type 0} (name : List ℕ) (groups : List (Option (String A))) → 1 ≤ length groups
    → option_map (λ n. n + 1) (named_at name (drop 1 groups)) ≡ group_in (map (option_map string_bytes) groups) name
unfolding group_in
group_placed name [] h = absurd (omega arith)
group_placed name (g ∷ groups) h = ap (option_map (λ n. n + 1)) (sym (position_mapped (option_map string_bytes) (is_named name) groups))

module _ (window : List ℕ) (f g : ℕ → Option (ℕ × ℕ)) (count : ℕ) (same : (n : ℕ) → 1 ≤ n → n < count → f n ≡ g n) where
  id_same : (n : Option ℕ) → IsAmongIfThere count n → id_of (located window f) n ≡ id_of (located window g) n
  id_same None a = refl
  id_same (Some n) a = rw (same n a.0 a.1) refl

  part_same : (n : Option ℕ) → IsAmongIfThere count n → has_part (located window f) n ≡ has_part (located window g) n
  part_same None a = refl
  part_same (Some n) a = rw (same n a.0 a.1) refl

  -- a match gives the same of a host if its groups have the same spans
  pub event_same : (e : EventGroups) → AreAmong count (Event e) → host_event (located window f) e ≡ host_event (located window g) e
  event_same e a =
      rw (same e.host a.0.0 a.0.1, same e.direction a.1.0 a.1.1, same e.peer a.2.0 a.2.1, same e.name a.3.0 a.3.1, id_same e.id a.4, id_same e.takes a.5, part_same e.arrive a.6) refl

  -- a match gives the same if its groups have the same spans
  pub found_same : (groups : Groups) → AreAmong count groups → found_by (located window f) groups ≡ found_by (located window g) groups
  unfolding found_by
  found_same (Event e) a = ap (λ x. unwrap_or (option_map line_meaning x) Other) (event_same e a)
  found_same (Capture e) a = rw (same e.source a.0.0 a.0.1, same e.destination a.1.0 a.1.1, same e.name a.2.0 a.2.1, id_same e.id a.3) refl
  found_same (Clock e) a = rw (same e.host a.0.0 a.0.1, same e.clock a.1.0 a.1.1, same e.event a.2.0 a.2.1) refl

  -- it isn't read for the same reason
  pub unread_same : (groups : Groups) → AreAmong count groups → unread_in groups (located window f) ≡ unread_in groups (located window g)
  unread_same (Event e) a = rw (same e.host a.0.0 a.0.1, same e.direction a.1.0 a.1.1, same e.peer a.2.0 a.2.1, same e.name a.3.0 a.3.1, part_same e.arrive a.6) refl
  unread_same (Capture e) a = rw (same e.source a.0.0 a.0.1, same e.destination a.1.0 a.1.1, same e.name a.2.0 a.2.1) refl
  unread_same (Clock e) a = rw (same e.host a.0.0 a.0.1, same e.clock a.1.0 a.1.1, same e.event a.2.0 a.2.1) refl
