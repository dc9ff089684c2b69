-- What a meeting of posts does (this project's profile).
use Rattle.std.specs.Prelude.{◌≡◌, ◌≢◌, ℕ, ◌<◌, ◌≤◌, List, [], ◌∷◌, map, length, slice_get, Some, Result, Ok, Err}
use Rattle.chart.specs.declared.history.Occurrence.{Occurrence}
use Rattle.chart.specs.Histories.{own, IsLegal, Begins}
use Rattle.atomic_table.specs.Seated.{TableId}
use Rattle.board_table.specs.Knowing.{Mine, longer}
use Rattle.board_table.specs.Plays.{IsNote}
use Rattle.board.specs.declared.error.MeetError.{MeetError}
use Rattle.board.specs.Views.{PostView}

-- the posts are all of one board
abbrev pub AreOfOneBoard : List PostView → Type 0
AreOfOneBoard posts = (i j : ℕ) (x y : PostView) → slice_get posts i ≡ Some x → slice_get posts j ≡ Some y
    → x.board ≡ y.board

-- the history is legal, begins with what the post had seen, and has just those events of the post that its calls made
pub record IsJoint (history : List Occurrence) (post : PostView) : Type 0 where
  pub later : Begins post.seen history
  pub legal : IsLegal post.board.size post.board.capacity history
  pub own : own history post.number ≡ post.made

-- all posts have seen this history, and nothing else has changed
abbrev pub HaveSeen : List Occurrence → List PostView → List PostView → Type 0
HaveSeen history old new = new ≡ map (λ (post : PostView). record post { seen = history }) old

-- all posts have seen one history, and nothing else has changed
pub record HaveMet (old new : List PostView) : Type 0 where
  pub history : List Occurrence
  pub joint : (i : ℕ) (post : PostView) → slice_get old i ≡ Some post → IsJoint history post
  pub seen : new ≡ map (λ (post : PostView). record post { seen = history }) old

-- the post at this place has seen all that each of them has seen
abbrev pub HasSeenAll : List PostView → ℕ → Type 0
HasSeenAll posts place = (ahead : PostView) × (slice_get posts place ≡ Some ahead)
    × ((i : ℕ) (post : PostView) → slice_get posts i ≡ Some post → Begins post.seen ahead.seen)

-- the post at this place has this number
abbrev pub IsAt : List PostView → ℕ → ℕ → Type 0
IsAt posts i number = (post : PostView) × (slice_get posts i ≡ Some post) × (post.number ≡ number)

-- one of them is a post with this number
abbrev pub HasPost : List PostView → ℕ → Type 0
HasPost posts number = (i : ℕ) × (post : PostView) × (slice_get posts i ≡ Some post) × (post.number ≡ number)

-- none of them has this number
abbrev pub HasNoPost : List PostView → ℕ → Type 0
HasNoPost posts number = (i : ℕ) (post : PostView) → slice_get posts i ≡ Some post → post.number ≢ number

-- these are all posts of their board
abbrev pub AreAll : List PostView → Type 0
AreAll [] = ⊥
AreAll (post ∷ posts) = (number : ℕ) → 1 ≤ number → number ≤ post.board.size → HasPost (post ∷ posts) number

-- these are no posts, or one of their board's posts is missing
abbrev pub AreNotAll : List PostView → Type 0
AreNotAll [] = Unit {0}
AreNotAll (post ∷ posts) = (number : ℕ) × (1 ≤ number) × (number ≤ post.board.size) × HasNoPost (post ∷ posts) number

-- what a meeting of all posts answers
abbrev pub MeetsAll : List PostView → Result (Unit {0}) MeetError → List PostView → Type 0
MeetsAll old (Ok done) new = AreAll old × HaveMet old new
MeetsAll old (Err error) new = AreNotAll old × (new ≡ old)

-- How they meet: a note goes from post to post.

-- the seat is a note at the post's board
pub record IsNoteOf (table : TableId) (me : Mine) (post : PostView) : Type 0 where
  pub same : table ≡ post.board.table
  pub note : IsNote post.board.size post.board.capacity me

-- the post has met a note that has this history: it has seen the longer of both histories, and nothing else has changed
pub record Hears (known : List Occurrence) (old new : PostView) : Type 0 where
  pub rest : new ≡ record old { seen = new.seen }
  pub seen : new.seen ≡ longer old.seen known
  pub later : Begins old.seen new.seen
  pub later_known : Begins known new.seen
  pub legal : IsLegal old.board.size old.board.capacity new.seen
  pub own : own new.seen old.number ≡ old.made

-- the post has met the note, which now has the history `now`
pub record HasHeard (now : List Occurrence) (old new : PostView) : Type 0 where
  pub rest : new ≡ record old { seen = new.seen }
  pub later : Begins old.seen new.seen
  pub legal : IsLegal old.board.size old.board.capacity new.seen
  pub own : own new.seen old.number ≡ old.made
  pub known : Begins new.seen now

-- the first `many` posts have met the note, which had the history `first` at first and has `known` now
pub record HaveHeard (many : ℕ) (old : List PostView) (first : List Occurrence) (new : List PostView)
    (known : List Occurrence) : Type 0 where
  pub as_many : length new ≡ length old
  pub heard : (i : ℕ) (x y : PostView) → i < many → slice_get old i ≡ Some x → slice_get new i ≡ Some y
      → HasHeard known x y
  pub others : (i : ℕ) → many ≤ i → slice_get new i ≡ slice_get old i
  -- if the note had all that they had seen, it has the same history still, and they have all seen it
  pub settled : ((i : ℕ) (x : PostView) → slice_get old i ≡ Some x → Begins x.seen first)
      → (known ≡ first) × ((i : ℕ) (y : PostView) → i < many → slice_get new i ≡ Some y → y.seen ≡ first)
