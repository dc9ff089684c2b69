-- Lanes on which messages wait, searched one after another.
use Rattle.std.proofs.Common.{◌≡◌, ℕ, ◌+◌, ◌≤◌, List, [], length, drop, ap, ◌∙◌}
use Rattle.std.specs.Prelude.{slice_get, Bool, true, false, Some, if◌then◌else◌}
use Rattle.board.specs.declared.gathering.Left.{Left}
use Rattle.c_board.specs.Boards.BoardCopies.{messages_on, is_on}
use Rattle.c_board.proofs.ChairLemmas.{drop_at, drop_all}

pub lane_found : (left : List Left) (n q p : ℕ) (lane : Left) → slice_get left n ≡ Some lane → is_on lane q p ≡ true → messages_on left q p ≡ messages_on (drop n left) q p → messages_on left q p ≡ lane.messages.items
lane_found left n q p lane there is so_far = so_far ∙ ap (λ (xs : List Left). messages_on xs q p) (drop_at left n lane there)
    ∙ ap (λ (b : Bool). if b then lane.messages.items else messages_on (drop (n + 1) left) q p) is

pub lane_next : (left : List Left) (n q p : ℕ) (lane : Left) → slice_get left n ≡ Some lane → is_on lane q p ≡ false → messages_on left q p ≡ messages_on (drop n left) q p → messages_on left q p ≡ messages_on (drop (n + 1) left) q p
lane_next left n q p lane there is so_far = so_far ∙ ap (λ (xs : List Left). messages_on xs q p) (drop_at left n lane there)
    ∙ ap (λ (b : Bool). if b then lane.messages.items else messages_on (drop (n + 1) left) q p) is

pub lane_none : (left : List Left) (n q p : ℕ) → length left ≤ n → messages_on left q p ≡ messages_on (drop n left) q p → messages_on left q p ≡ []
lane_none left n q p few so_far = so_far ∙ ap (λ (xs : List Left). messages_on xs q p) (drop_all left n few)
