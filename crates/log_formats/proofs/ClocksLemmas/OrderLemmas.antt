-- If clocks are vector time, what comes before has a lesser clock.
use Rattle.std.proofs.Common.{◌≡◌, ℕ, ◌<◌, ◌≤◌, List, [], ◌∷◌, ◌++◌, Some, Contains, refl, sym, ap, ◌∙◌, subst, arith}
use Rattle.std.specs.Prelude.{All, slice_get}
use Rattle.std.proofs.lemmas.List.Elements.{All-nil, All-push, All-contains}
use Rattle.std.proofs.lemmas.Option.{slice_get_within, get_or_from_slice_get}
use Rattle.log_lines.specs.Events.{ClockedAtView}
use Rattle.log_formats.specs.Clocks.Messages.{HasEvent}
use Rattle.log_formats.specs.Clocks.Moments.{MomentView, moment_of, with_moments}
use Rattle.log_formats.specs.Clocks.Saying.{moments_in}
use Rattle.log_formats.specs.Clocks.Stamps.{count_of}
use Rattle.log_formats.specs.Clocks.VectorTime.{AreAt, ComesBefore, along, message, over, Knows, IsVectorTime, OrderLaw}

-- an event's number among those of its host is its clock's count of its host
abbrev CountsItself : MomentView → Type 0
CountsItself e = e.own ≡ count_of e.stamps e.clocked.host

counted : (moments : List MomentView) (events : List ClockedAtView) → All CountsItself moments → All CountsItself (with_moments moments events)
counted moments [] all = all
counted moments (c ∷ events) all = counted (moments ++ moment_of c ∷ []) events (All-push CountsItself moments (moment_of c) all refl)

there : (xs : List MomentView) (n : ℕ) (x : MomentView) → slice_get xs n ≡ Some x → Contains xs x
there xs n x e = (n, slice_get_within xs n x e, get_or_from_slice_get xs n x x e)

same_event : (xs : List MomentView) (p : ℕ) (e f : MomentView) → slice_get xs p ≡ Some e → slice_get xs p ≡ Some f → e ≡ f
same_event xs p e f one other = let both : Some e ≡ Some f = sym one ∙ other in cc

module _ (events : List MomentView) (own : All CountsItself events) (time : IsVectorTime events) where
  -- of two events in order, the earlier one's clock counts less of the later one's host than the later one's own entry
  record IsBefore (i j : ℕ) : Type 0 where
    pub from : MomentView
    pub to : MomentView
    pub at : AreAt events i j from to
    pub none_greater : (host : List ℕ) → count_of from.stamps host ≤ count_of to.stamps host
    pub less : count_of from.stamps to.clocked.host < count_of to.stamps to.clocked.host

  own_is : (p : ℕ) (e : MomentView) → slice_get events p ≡ Some e → e.own ≡ count_of e.stamps e.clocked.host
  own_is p e at = All-contains CountsItself events e own (there events p e at)

  known : (e f : MomentView) → Contains events f → HasEvent f.stamps e → Knows f e
  known e f has its =
      let once : count_of f.stamps e.clocked.host ≡ its.entry.count = ap (count_of f.stamps) (sym its.host) ∙ time.once f its.entry has its.among in
      let count = its.count in
      omega (arith, once, count)

  before : (i j : ℕ) → ComesBefore events i j → IsBefore i j
  before i j (along later) =
      let e = later.from in
      let f = later.to in
      let up = time.counts i j later in
      let e_own = own_is i e later.at.one in
      let f_own = own_is j f later.at.other in
      let e_at : count_of e.stamps f.clocked.host ≡ e.own = ap (count_of e.stamps) (sym later.same) ∙ sym e_own in
      let f_at : count_of f.stamps e.clocked.host ≡ f.own = ap (count_of f.stamps) later.same ∙ sym f_own in
      record {
        from = e;
        to = f;
        at = later.at;
        none_greater = time.least e f (there events i e later.at.one) (there events j f later.at.other) later.from_counted (omega (arith, up, f_at));
        less = omega (arith, up, e_at, f_own);
      }
  before i j (message goes) =
      let e = goes.from in
      let f = goes.to in
      let m = goes.message in
      let up = time.ahead e f m in
      let f_own = own_is j f goes.at.other in
      record {
        from = e;
        to = f;
        at = goes.at;
        none_greater = time.least e f m.sends m.receives m.counted (known e f m.receives m.known);
        less = omega (arith, up, f_own);
      }
  before i k (over j first then) =
      let one = before i j first in
      let two = before j k then in
      let same : one.to ≡ two.from = same_event events j one.to two.from one.at.other two.at.one in
      let le : (host : List ℕ) → count_of one.from.stamps host ≤ count_of two.from.stamps host = subst (λ (m : MomentView). (host : List ℕ) → count_of one.from.stamps host ≤ count_of m.stamps host) same one.none_greater in
      record {
        from = one.from;
        to = two.to;
        at = record { one = one.at.one; other = two.at.other };
        none_greater = λ host. omega (arith, le host, two.none_greater host);
        less = omega (arith, le two.to.clocked.host, two.less);
      }

pub order_law : OrderLaw
order_law log time i j comes =
    let its = before (moments_in log) (counted [] log.clocked (All-nil CountsItself)) time i j comes in
    record { from = its.from; to = its.to; at = its.at; less = record { none_greater = its.none_greater; host = its.to.clocked.host; less = its.less } }
