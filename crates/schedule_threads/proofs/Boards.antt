-- Runs of a new board's posts.
use Rattle.std.proofs.Common.{◌≡◌, ℕ, suc, ◌-◌, ◌<◌, ◌≤◌, inl, inr, List, [], ◌∷◌, length, refl, sym, ap, ◌∙◌, subst, arith}
use Rattle.std.specs.Prelude.{slice_index_or}
use Rattle.std.proofs.lemmas.Option.{slice_get-get_or}
use Rattle.board.proofs.OneBoard.{one_board-new}
use Rattle.board.specs.Boards.{AreNewPosts}
use Rattle.board.specs.Gathering.{size_of}
use Rattle.board.specs.Meeting.{AreOfOneBoard, AreNotAll}
use Rattle.board.specs.Views.{BoardView, PostView}
use Rattle.chart.specs.Charts.{LineView}
use Rattle.chart.specs.Reports.{AreReports}
use Rattle.instances.specs.Whole.{Drives, AreRuns, IsFit, IsInvalidInput}
use Rattle.instances.specs.declared.outcome.Run.{Run}
use Rattle.std.specs.List.{range_with_len}
use Rattle.std.proofs.lemmas.List.{length-map}
use Rattle.std.proofs.lemmas.List.FromFn.{length-range_with_len}
use Rattle.schedule.specs.Plans.{Plan, IsPlan}
use Rattle.schedule_threads.specs.Scripts.InstanceScripts.{scripts_of, script_of}
use Rattle.schedule_threads.specs.OwnBoards.{AreFitFor, AreInvalidFor}
use Rattle.schedule_threads.specs.OwnScripts.{IsTurns}
use Rattle.schedule_threads.specs.RunOutcomes.{IsRunOf}

size-new : (board : BoardView) (posts : List PostView) → AreNewPosts board posts → 0 < board.size
    → size_of posts ≡ board.size
size-new board [] new some = absurd (omega (arith, new.as_many, some))
size-new board (post ∷ posts) new some = ap (λ (post : PostView). post.board.size) (new.each 0 post refl)

pub are_of_one_board : (posts : List PostView) (board : BoardView) → AreNewPosts board posts → AreOfOneBoard posts
are_of_one_board posts board new = one_board-new board posts new

-- the run of a board that is as large as the schedule
pub is_run_of : (plan : Plan) (run : Run) (does : Drives) (posts : List PostView) (board : BoardView)
    → AreRuns does posts run → AreNewPosts board posts → board.size ≡ length plan.names → IsPlan plan
    → IsRunOf plan run
is_run_of plan run does posts board runs new size keeps =
    let many : length posts ≡ length plan.names = new.as_many ∙ size in
    record {
      lines = runs.lines ∙ size-new board posts new (omega (arith, size, keeps.several)) ∙ size;
      reports = subst (λ (lines : List LineView). AreReports lines run.gathered.reports.items) (sym runs.whole.gathered.chart) runs.whole.gathered.reports;
      traces = runs.as_many.1 ∙ many;
      ends = runs.as_many.2 ∙ many;
    }

-- no post of a new board is missing
all-new : (board : BoardView) (posts : List PostView) → AreNewPosts board posts → 0 < board.size → AreNotAll posts → ⊥
all-new board [] new some lacking = absurd (omega (arith, new.as_many, some))
all-new board (post ∷ posts) new some (number, low, high, none) =
    let first = ap (λ (post : PostView). post.board) (new.each 0 post refl) in
    let on_board : number ≤ board.size = subst (λ (board : BoardView). number ≤ board.size) first high in
    let place = number - 1 in
    let within : place < length (post ∷ posts) = omega (arith, new.as_many, low, on_board) in
    let it = slice_index_or (post ∷ posts) place post in
    let at = slice_get-get_or (post ∷ posts) place post within in
    let numbered : suc place ≡ number = omega (arith, low) in
    none place it at (ap (λ (post : PostView). post.number) (new.each place it at) ∙ numbered)

-- which arguments don't fit a run of a board that is as large as the schedule, and which do
pub invalid_for : (plan : Plan) (posts : List PostView) (board : BoardView) (behaviours turns : ℕ)
    → AreNewPosts board posts → board.size ≡ length plan.names → IsPlan plan → IsInvalidInput posts behaviours turns
    → AreInvalidFor plan behaviours turns
invalid_for plan posts board behaviours turns new size keeps (inl lacking) =
    absurd (all-new board posts new (omega (arith, size, keeps.several)) lacking)
invalid_for plan posts board behaviours turns new size keeps (inr (inl other)) =
    inl (λ same. other (same ∙ sym (new.as_many ∙ size)))
invalid_for plan posts board behaviours turns new size keeps (inr (inr odd)) = inr odd

pub fit_for : (plan : Plan) (posts : List PostView) (board : BoardView) (behaviours turns : ℕ)
    → AreNewPosts board posts → board.size ≡ length plan.names → IsFit posts behaviours turns → AreFitFor plan behaviours turns
fit_for plan posts board behaviours turns new size fit =
    record { one_of_each = fit.one_of_each ∙ new.as_many ∙ size; some = fit.some }

-- arguments that fit a run are not invalid
pub fit_alone : (plan : Plan) (behaviours turns : ℕ) → behaviours ≡ length plan.names → IsTurns turns
    → AreInvalidFor plan behaviours turns → ⊥
fit_alone plan behaviours turns same some (inl other) = other same
fit_alone plan behaviours turns same some (inr (inl none)) = omega (arith, some.0, none)
fit_alone plan behaviours turns same some (inr (inr many)) = omega (arith, some.1, many)

-- each instance has a script
pub length-scripts : (plan : Plan) → length (scripts_of plan) ≡ length plan.names
length-scripts plan = length-map (range_with_len 1 (length plan.names)) (script_of plan.commands) ∙ length-range_with_len 1 (length plan.names)
