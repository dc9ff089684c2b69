-- Bytes and lines of a text, one after the other.
use Rattle.std.proofs.Common.{◌≡◌, ℕ, zero, suc, ◌+◌, ◌-◌, ◌<◌, ◌≤◌, ◌==◌, Bool, true, false, not, List, [], ◌∷◌, ◌++◌, Option, length, drop, get_or, refl, sym, ap, ◌∙◌, arith, append_assoc, drop-cons, add-one}
use Rattle.std.proofs.lemmas.List.{drop_all, append-nil}
use Rattle.diagrams.specs.declared.left_out.LeftOut.{LeftOut}
use Rattle.diagrams.specs.declared.place.Place.{Place}
use Rattle.diagram_statements.specs.Lines.{line_length}
use Rattle.diagram_join.specs.declared.moves.Overtaking.{Overtaking}
use Rattle.diagram_import.specs.Importing.{with_place, first_place, first_overtaking}
use Rattle.diagram_import.specs.Shown.{without_lines}
use Rattle.diagram_import.specs.Skipping.{read_byte, line_behind, blanked_from, lines_from}
use Rattle.diagram_import.specs.declared.skipping.Skip.{Skip}

-- the bytes from one on
pub from_byte : (bytes : List ℕ) (n : ℕ) → n < length bytes → drop n bytes ≡ get_or bytes n 0 ∷ drop (n + 1) bytes
from_byte bytes n within = rw add-one (drop-cons bytes n 0 within)

-- one more line
pub line_more : (count n : ℕ) (rest next : List ℕ) → n < count → next ≡ drop (suc (line_length rest)) rest → without_lines (count - (n + 1)) next ≡ without_lines (count - n) rest
unfolding without_lines
line_more count n rest next less e =
    let left : count - n ≡ suc (count - (n + 1)) = omega arith in
    rw (left, e) refl

pub lines_all : (count n : ℕ) (rest : List ℕ) → count ≤ n → without_lines (count - n) rest ≡ rest
unfolding without_lines
lines_all count n rest past = let left : count - n ≡ 0 = omega arith in rw left refl

-- one more byte
pub count_more : (count next n : ℕ) (begun is_begun : Bool) (bytes : List ℕ) → n < length bytes → next ≡ line_behind count (get_or bytes n 0) → is_begun ≡ not (get_or bytes n 0 == 10)
    → lines_from next is_begun (drop (n + 1) bytes) ≡ lines_from count begun (drop n bytes)
unfolding lines_from
count_more count next n begun is_begun bytes within e f = rw (from_byte bytes n within, e, f) refl

pub begun_end : (count n : ℕ) (begun : Bool) (bytes : List ℕ) → length bytes ≤ n → begun ≡ true → lines_from count begun (drop n bytes) ≡ count + 1
unfolding lines_from
begun_end count n begun bytes past is = rw (drop_all n bytes past, is) refl

pub ended_end : (count n : ℕ) (begun : Bool) (bytes : List ℕ) → length bytes ≤ n → begun ≡ false → lines_from count begun (drop n bytes) ≡ count
unfolding lines_from
ended_end count n begun bytes past is = rw (drop_all n bytes past, is) refl

-- the same for the blanked bytes
pub byte_kept : (skips : List Skip) (line next n : ℕ) (bytes done more : List ℕ) (b : ℕ) → n < length bytes
    → b ≡ read_byte skips line (get_or bytes n 0) → more ≡ done ++ b ∷ [] → next ≡ line_behind line (get_or bytes n 0)
    → more ++ blanked_from skips next (drop (n + 1) bytes) ≡ done ++ blanked_from skips line (drop n bytes)
unfolding blanked_from
byte_kept skips line next n bytes done more b within shown e f = rw (from_byte bytes n within, e, shown, f) (append_assoc done (read_byte skips line (get_or bytes n 0) ∷ []) _)

pub kept_end : (skips : List Skip) (line n : ℕ) (bytes done : List ℕ) → length bytes ≤ n → done ++ blanked_from skips line (drop n bytes) ≡ done
unfolding blanked_from
kept_end skips line n bytes done past = rw (drop_all n bytes past) (append-nil done)

-- one more kind of skipped constructs
pub place_more : (so_far next : Option Place) (n : ℕ) (left_out : List LeftOut) (d : LeftOut) → n < length left_out → next ≡ with_place so_far (get_or left_out n d).first
    → first_place next (drop (n + 1) left_out) ≡ first_place so_far (drop n left_out)
unfolding first_place
place_more so_far next n left_out d within e = rw (add-one, drop-cons left_out n d within, e) refl

pub place_end : (so_far : Option Place) (n : ℕ) (left_out : List LeftOut) → length left_out ≤ n → first_place so_far (drop n left_out) ≡ so_far
unfolding first_place
place_end so_far n left_out past = rw (drop_all n left_out past) refl

-- one more overtaking message
pub overtaking_more : (so_far next : Option Place) (n : ℕ) (overtaking : List Overtaking) (d : Overtaking) → n < length overtaking → next ≡ with_place so_far (get_or overtaking n d).place
    → first_overtaking next (drop (n + 1) overtaking) ≡ first_overtaking so_far (drop n overtaking)
unfolding first_overtaking
overtaking_more so_far next n overtaking d within e = rw (add-one, drop-cons overtaking n d within, e) refl

pub overtaking_end : (so_far : Option Place) (n : ℕ) (overtaking : List Overtaking) → length overtaking ≤ n → first_overtaking so_far (drop n overtaking) ≡ so_far
unfolding first_overtaking
overtaking_end so_far n overtaking past = rw (drop_all n overtaking past) refl
