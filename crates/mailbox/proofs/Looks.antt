-- Looks at one lane after another, none of which found a message so far.
use Rattle.std.proofs.Common.{◌≡◌, ◌≢◌, ℕ, ◌+◌, ◌-◌, ◌<◌, ◌≤◌, ◌&&◌, inl, inr, Bool, true, false, List, [], ◌∷◌, ◌++◌, length, drop, Ok, Err, refl, sym, ap, ap₂, ◌∙◌, subst, arith, append-nil, append_assoc, length-append}
use Rattle.std.specs.Prelude.{All, Result, IsErrAnd}
use Rattle.std.proofs.lemmas.Bool.{and_right}
use Rattle.std.proofs.lemmas.List.{map-append}
use Rattle.std.proofs.lemmas.List.Elements.{All-nil, All-cons, All-append, All-weaker}
use Rattle.chart.specs.declared.history.Occurrence.{Occurrence}
use Rattle.chart.specs.declared.history.Occurrence.TheVariants.{Receive}
use Rattle.chart.specs.Histories.{own, waiting, is_closed, Begins}
use Rattle.chart.proofs.Histories.{begins_same, begins_onward, closed_begins, drained_begins, none_begins}
use Rattle.board.specs.declared.answer.Arrival.{Arrival}
use Rattle.board.specs.declared.answer.Taken.{Taken}
use Rattle.board.specs.declared.answer.Taken.TheVariants.{Got, Nothing, Ended}
use Rattle.board.specs.declared.error.TakeError.{TakeError}
use Rattle.board.specs.declared.error.TakeError.TheVariants.{NoSuchInstance, ToItself, LineFull, Memory}
use Rattle.board.specs.Views.{BoardView, PostView, Sound, Stays}
use Rattle.board.specs.Taking.{IsGot, IsFoundEmpty, Waits, Takes}
use Rattle.board.specs.Peeking.{ArePeeked, IsFirstWaiting}
use Rattle.board.proofs.Scanning.{and_true, and_assoc, sound-onward}
use Rattle.mailbox.specs.TakingAny.{Look, lanes_of, NoneWaits, IsFirst, IsOneOpen, IsDrained, IsEnd, AreFoundEmpty, IsFirstUntaken, TakesFirst, LooksAtAll}

-- the history seen before may be an earlier one
none-from : (p : ℕ) (less seen : List Occurrence) (looks : List Look) (after : List Occurrence) → Begins less seen → NoneWaits p seen looks after → NoneWaits p less looks after
none-from p less seen [] after begins none = begins_onward less seen after begins none
none-from p less seen (look ∷ looks) after begins none = (begins_onward less seen look.front begins none.0, none.1, none.2)

-- looks, and then more looks
none-append : (p : ℕ) (seen : List Occurrence) (looks : List Look) (mid : List Occurrence) (more : List Look) (after : List Occurrence) → NoneWaits p seen looks mid → NoneWaits p mid more after → NoneWaits p seen (looks ++ more) after
none-append p seen [] mid more after none later = none-from p seen mid more after none later
none-append p seen (look ∷ looks) mid more after none later = (none.0, none.1, none-append p look.front looks mid more after none.2 later)

lanes-append : (looks more : List Look) → lanes_of (looks ++ more) ≡ lanes_of looks ++ lanes_of more
lanes-append looks more = map-append (λ (look : Look). look.from) looks more

-- an open lane of some looks is one of more looks too
open-left : (p : ℕ) (looks more : List Look) → IsOneOpen p looks → IsOneOpen p (looks ++ more)
open-left p [] more none = absurd none
open-left p (look ∷ looks) more (inl opened) = inl opened
open-left p (look ∷ looks) more (inr later) = inr (open-left p looks more later)

open-right : (p : ℕ) (looks more : List Look) → IsOneOpen p more → IsOneOpen p (looks ++ more)
open-right p [] more opened = opened
open-right p (look ∷ looks) more opened = inr (open-right p looks more opened)

-- a drained lane stays drained
drained-later : (mid new : PostView) → Sound mid new → (q : ℕ) → IsDrained mid q → IsDrained new q
drained-later mid new later q drained =
    let is = later.same.number in
    rw is (closed_begins mid.seen new.seen later.later q mid.number drained.0, drained_begins new.board.size new.board.capacity mid.seen new.seen later.later later.legal q mid.number drained.0 drained.1)

-- A post after looks that found no message: it made no event, and has looked at least this often.
pub record HasLooked (old : PostView) (order rest : List ℕ) (its_end : Bool) (now : PostView) : Type 0 where
  pub sound : Sound old now
  pub stays : Stays old now
  pub done : (done : List ℕ) × (done ++ rest ≡ order) × AreFoundEmpty old done its_end now × (old.looks + length done ≤ now.looks)

-- before the first look
pub looked-none : (old : PostView) (order : List ℕ) → Sound old old → HasLooked old order order true old
looked-none old order sound = record {
  sound = sound;
  stays = record { made = refl; region = refl; room = refl };
  done = ([], refl, record { found = ([], refl, begins_same old.seen, All-nil (IsDrained old)); before = All-nil (λ q. waiting old.seen q old.number ≡ []) }, omega arith);
}

-- looks at all lanes
pub looked-all : (old : PostView) (order : List ℕ) (its_end : Bool) (now : PostView) → HasLooked old order [] its_end now → Stays old now × AreFoundEmpty old order its_end now × (old.looks + length order ≤ now.looks)
looked-all old order its_end now looked =
    let w = looked.done in
    let all : w.0 ≡ order = sym (append-nil w.0) ∙ w.1 in
    subst (λ x. Stays old now × AreFoundEmpty old x its_end now × (old.looks + length x ≤ now.looks)) all (looked.stays, w.2, w.3)

-- a post that makes no event over one call and then another makes none over both
stays-onward : (old mid new : PostView) → Stays old mid → Stays mid new → Stays old new
stays-onward old mid new earlier later = record { made = later.made ∙ earlier.made; region = later.region ∙ earlier.region; room = later.room ∙ earlier.room }

-- the order of the lanes so far, and of the next ones
order-on : (order done some rest lanes more after : List ℕ) (from : ℕ) → done ++ (some ++ rest) ≡ order → done ≡ lanes → some ≡ more ++ from ∷ after → order ≡ (lanes ++ more) ++ from ∷ (after ++ rest)
order-on order done some rest lanes more after from e d s =
    sym e ∙ ap₂ (λ x y. x ++ (y ++ rest)) d s ∙ ap (λ z. lanes ++ z) (append_assoc more (from ∷ after) rest) ∙ sym (append_assoc lanes more (from ∷ (after ++ rest)))

-- the effect of a receive from the next of these lanes after looks that found no message: the receive decides, or the
-- looks go on
abbrev pub GoesOn : PostView → List ℕ → List ℕ → Bool → Result Taken TakeError → PostView → Type 0
GoesOn old order rest its_end (Ok (Got arrival)) new = TakesFirst old order (Ok (Got arrival)) new
GoesOn old order rest its_end (Ok Nothing) new = HasLooked old order rest false new
GoesOn old order rest its_end (Ok Ended) new = HasLooked old order rest its_end new
GoesOn old order rest its_end (Err error) new = TakesFirst old order (Err error) new

module _ (old mid new : PostView) (first : Sound old old) (order some rest : List ℕ) (its_end : Bool) (looked : HasLooked old order (some ++ rest) its_end mid) (later : Sound mid new) where
  so_far : (done : List ℕ) × (done ++ (some ++ rest) ≡ order) × AreFoundEmpty old done its_end mid × (old.looks + length done ≤ mid.looks)
  so_far = looked.done

  -- the post has received nothing since then
  unmade : own mid.seen old.number ≡ own old.seen old.number
  unmade = ap (own mid.seen) (sym looked.sound.same.number) ∙ looked.sound.own ∙ looked.stays.made ∙ sym first.own

  -- whether it is the end
  ends : (e f : Bool) (looks more : List Look) → IsEnd e old.number looks mid → IsEnd f old.number more new → IsEnd (e && f) old.number (looks ++ more) new
  ends true true looks more drained then_ =
      subst (All (IsDrained new)) (sym (lanes-append looks more)) (All-append (IsDrained new) (lanes_of looks) (lanes_of more) (All-weaker (IsDrained mid) (IsDrained new) (drained-later mid new later) (lanes_of looks) drained) then_)
  ends true false looks more drained then_ = open-right old.number looks more then_
  ends false f looks more opened then_ = open-left old.number looks more opened

  -- these lanes have no message either
  looked-on : (more_end : Bool) → Stays mid new → AreFoundEmpty mid some more_end new → mid.looks + length some ≤ new.looks → HasLooked old order rest (its_end && more_end) new
  looked-on more_end stays empty looks =
      let were = so_far.2.found in
      let are = rw looked.sound.same.number at empty.found in
      record {
        sound = sound-onward old mid new looked.sound later;
        stays = stays-onward old mid new looked.stays stays;
        done = (
          so_far.0 ++ some,
          append_assoc so_far.0 some rest ∙ so_far.1,
          record {
            found = (were.0 ++ are.0, ap₂ (λ x y. x ++ y) were.1 are.1 ∙ sym (lanes-append were.0 are.0), none-append old.number old.seen were.0 mid.seen are.0 new.seen were.2 are.2, ends its_end more_end were.0 are.0 were.3 are.3);
            before = All-append (λ q. waiting old.seen q old.number ≡ []) so_far.0 some so_far.2.before
                (All-weaker (λ q. waiting mid.seen q old.number ≡ []) (λ q. waiting old.seen q old.number ≡ []) (λ q none. none_begins old.seen mid.seen looked.sound.later q old.number unmade none) some (rw looked.sound.same.number at empty.before));
          },
          omega (arith, looks, so_far.3, length-append so_far.0 some),
        );
      }

  -- one of these lanes has a message
  first-on : (from : ℕ) (found : List Occurrence) → IsFirst mid some from found → IsFirst old order from found
  first-on from found is =
      let were = so_far.2.found in
      let are = rw looked.sound.same.number at is in
      (were.0 ++ are.0, are.1 ++ rest, order-on order so_far.0 some rest (lanes_of were.0) (lanes_of are.0) are.1 from so_far.1 were.1 are.2 ∙ ap (λ x. x ++ from ∷ (are.1 ++ rest)) (sym (lanes-append were.0 are.0)), none-append old.number old.seen were.0 mid.seen are.0 found were.2 are.3)

  got-on : (from : ℕ) (arrival : Arrival) → IsGot mid from arrival new → IsGot old from arrival new
  got-on from arrival got =
      let made = rw looked.stays.region at got.makes in
      record {
        two = rw (looked.sound.same.board, looked.sound.same.number) at got.two;
        makes = (
          made.0,
          made.1,
          record {
            later = begins_onward old.seen mid.seen made.0 looked.sound.later made.2.later;
            seen = made.2.seen;
            made = made.2.made ∙ ap (λ x. Receive new.number from old.region ∷ x) looked.stays.made;
            region = made.2.region;
          },
          made.3,
        );
        sender = got.sender;
        receive = got.receive;
        report = got.report;
        room = got.room ∙ ap (λ x. x - 1) looked.stays.room;
      }

  waits-on : (from : ℕ) → Waits mid from new → Waits old from new
  waits-on from w = record { two = rw (looked.sound.same.board, looked.sound.same.number) at w.two; waits = w.waits }

  untaken-on : (error : TakeError) → IsFirstUntaken mid some error new → IsFirstUntaken old order error new
  untaken-on NoSuchInstance never = never
  untaken-on ToItself never = never
  untaken-on LineFull is = (is.0, first-on is.0 new.seen is.1, (waits-on is.0 is.2.0, is.2.1))
  untaken-on Memory is = (is.0, first-on is.0 new.seen is.1, (waits-on is.0 is.2.0, is.2.1))

  pub goes-on : (result : Result Taken TakeError) → TakesFirst mid some result new → LooksAtAll (length some) mid result new → GoesOn old order rest its_end result new
  goes-on (Ok (Got arrival)) takes looks = (got-on arrival.from arrival takes.0, first-on arrival.from (drop 1 new.seen) takes.1)
  goes-on (Ok Nothing) takes looks = subst (λ e. HasLooked old order rest e new) (and_right its_end false refl) (looked-on false takes.0 takes.1 looks)
  goes-on (Ok Ended) takes looks = subst (λ e. HasLooked old order rest e new) (and_true its_end) (looked-on true takes.0 takes.1 looks)
  goes-on (Err error) takes looks = (stays-onward old mid new looked.stays takes.0, untaken-on error takes.1)

-- one look that found no message
one-empty : (old new : PostView) (q : ℕ) (its_end : Bool) → Sound old new → IsFoundEmpty old q its_end new → AreFoundEmpty old (q ∷ []) its_end new
one-empty old new q its_end sound empty = record {
  found = (record { from = q; front = new.seen } ∷ [], refl, (sound.later, rw sound.same.number at empty.waits, begins_same new.seen), is its_end empty.closed);
  before = All-cons (λ q. waiting old.seen q old.number ≡ []) q [] empty.before (All-nil (λ q. waiting old.seen q old.number ≡ []));
}
  where
    is : (e : Bool) → is_closed new.seen q new.number ≡ e → IsEnd e old.number (record { from = q; front = new.seen } ∷ []) new
    is true closed = All-cons (IsDrained new) q [] (closed, empty.waits) (All-nil (IsDrained new))
    is false opened = inl (rw sound.same.number at opened)

-- a receive from one of the lanes
pub takes-one : (old new : PostView) (q : ℕ) (result : Result Taken TakeError) → Sound old new → q ≤ old.board.size → q ≢ old.number → Takes old q result new → TakesFirst old (q ∷ []) result new × LooksAtAll 1 old result new
takes-one old new q (Ok (Got arrival)) sound among other got =
    let made = got.makes in
    let before : drop 1 new.seen ≡ made.0 = ap (drop 1) made.2.seen in
    ((subst (λ x. IsGot old x arrival new) (sym got.sender) got, ([], [], ap (λ x. x ∷ []) (sym got.sender), subst (Begins old.seen) (sym before) made.2.later)), tt)
takes-one old new q (Ok Nothing) sound among other takes = ((takes.0, one-empty old new q false sound takes.1), omega (arith, takes.1.looked))
takes-one old new q (Ok Ended) sound among other takes = ((takes.0, one-empty old new q true sound takes.1), omega (arith, takes.1.looked))
takes-one old new q (Err NoSuchInstance) sound among other takes = absurd (omega (arith, among, takes.1))
takes-one old new q (Err ToItself) sound among other takes = absurd (other takes.1)
takes-one old new q (Err LineFull) sound among other takes = ((takes.0, (q, ([], [], refl, sound.later), takes.1)), tt)
takes-one old new q (Err Memory) sound among other takes = ((takes.0, (q, ([], [], refl, sound.later), takes.1)), tt)

-- a post that only saw more still has looked
still-looked : (old mid now : PostView) (order rest : List ℕ) (its_end : Bool) → Sound old old → HasLooked old order rest its_end mid → Sound mid now → Stays mid now → HasLooked old order rest its_end now
still-looked old mid now order rest its_end first looked later stays =
    subst (λ e. HasLooked old order rest e now) (and_true its_end)
    (looked-on old mid now first order [] rest its_end looked later true stays (record { found = ([], refl, later.later, All-nil (IsDrained now)); before = All-nil (λ q. waiting mid.seen q mid.number ≡ []) }) (omega (arith, later.looks)))

waits-none : (q : ℕ) (now : PostView) → 0 < length (waiting now.seen q now.number) → waiting now.seen q now.number ≡ [] → ⊥
waits-none q now some none = absurd (omega (arith, some, ap length none))

-- looks at the next lanes, one after another
looked-along : (old mid new : PostView) (order some rest : List ℕ) (its_end more_end : Bool) → Sound old old → HasLooked old order (some ++ rest) its_end mid → ArePeeked mid some more_end new → HasLooked old order rest (its_end && more_end) new
looked-along old mid new order [] rest its_end more_end first looked peeked =
    subst (λ now. HasLooked old order rest (its_end && more_end) now) (sym peeked.0)
    (subst (λ e. HasLooked old order rest e mid) (sym (ap (λ e. its_end && e) peeked.1 ∙ and_true its_end)) looked)
looked-along old mid new order (q ∷ some) rest its_end more_end first looked peeked =
    let sound = peeked.3 in
    let here = looked-on old mid peeked.0 first order (q ∷ []) (some ++ rest) its_end looked sound peeked.1 peeked.4 (one-empty mid peeked.0 q peeked.1 sound peeked.5) (omega (arith, peeked.5.looked)) in
    subst (λ e. HasLooked old order rest e new) (and_assoc its_end peeked.1 peeked.2 ∙ ap (λ e. its_end && e) (sym peeked.7))
    (looked-along old peeked.0 new order some rest (its_end && peeked.1) peeked.2 first here peeked.6)

-- looks at all lanes, from the first one on
pub looked-among : (old new : PostView) (order : List ℕ) (its_end : Bool) → Sound old old → ArePeeked old order its_end new → HasLooked old order [] its_end new
looked-among old new order its_end first peeked =
    looked-along old old new order order [] true its_end first (subst (λ rest. HasLooked old order rest true old) (sym (append-nil order)) (looked-none old order first)) peeked

-- a message waits on one of the lanes, and then it was received, or refused
pub message-among : (old now new : PostView) (order : List ℕ) (q : ℕ) (result : Result Taken TakeError) → Sound old old → IsFirstWaiting old order q now → Sound now new → Takes now q result new
    → TakesFirst old order result new × LooksAtAll (length order) old result new
message-among old now new order q result first found last takes = go result takes (goes-on old now new first order (q ∷ []) found.after found.its_end still last result one.0 one.1)
  where
    begun : HasLooked old order (found.before ++ (q ∷ found.after)) true old
    begun = subst (λ rest. HasLooked old order rest true old) found.order_is (looked-none old order first)

    still : HasLooked old order (q ∷ found.after) found.its_end now
    still = still-looked old found.mid now order (q ∷ found.after) found.its_end first (looked-along old old found.mid order found.before (q ∷ found.after) true found.its_end first begun found.empty) found.later found.stays

    one : TakesFirst now (q ∷ []) result new × LooksAtAll 1 now result new
    one =
        let two = found.waits.two in
        let same = found.later.same in
        takes-one now new q result last (subst (λ (board : BoardView). q ≤ board.size) (sym same.board) two.3) (λ its. two.4 (sym same.number ∙ sym its)) takes

    go : (r : Result Taken TakeError) → Takes now q r new → GoesOn old order found.after found.its_end r new → TakesFirst old order r new × LooksAtAll (length order) old r new
    go (Ok (Got arrival)) its goes = (goes, tt)
    go (Ok Nothing) its goes = absurd (waits-none q now found.waits.waits its.1.before)
    go (Ok Ended) its goes = absurd (waits-none q now found.waits.waits its.1.before)
    go (Err error) its goes = (goes, tt)

-- a refusal that is passed on
pub refused : (old : PostView) (order : List ℕ) (new : PostView) (result : Result Taken TakeError) (error : TakeError) → IsErrAnd result (λ e. e ≡ error) → TakesFirst old order (Err error) new → TakesFirst old order result new
refused old order new (Ok taken) error never takes = absurd never
refused old order new (Err e) error same takes = subst (λ x. TakesFirst old order (Err x) new) (sym same) takes
