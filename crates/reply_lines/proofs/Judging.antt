-- Whether a round is judged, by what is told of its two ends.
use Rattle.std.proofs.Common.{◌≡◌, ◌↔◌, ℕ, ◌+◌, ◌<◌, ◌≤◌, Bool, true, false, List, [], ◌∷◌, ◌++◌, Some, cond, length, take, refl, ap, sym, subst, ◌∙◌, arith, ⊎_elim, ◌||◌}
use Rattle.std.specs.Prelude.{IsTrue, Contains}
use Rattle.std.specs.List.{count_by, list_any, slice_get}
use Rattle.std.proofs.lemmas.Bool.{cases_lt}
use Rattle.std.proofs.lemmas.List.Sums.{sum_by-cons}
use Rattle.tx_events.specs.declared.event.Event.{Event}
use Rattle.tx_events.specs.declared.multi.Member.{Member}
use Rattle.tx_events.specs.declared.multi.MultiEvent.{MultiEvent}
use Rattle.tx_events.specs.declared.multi.MultiEvent.TheVariants as multis
use Rattle.tx_events.specs.declared.record.Counters.{Counters}
use Rattle.tx_events.specs.Events.{by_of, same_by}
use Rattle.tx_events.specs.History.{ComesInTurn, IsLegal, MayCome}
use Rattle.tx_events.specs.Multis.{AreLegalMultis, BaseOffset, MultiMayCome, multi_by}
use Rattle.tx_model.specs.declared.report.Line.{Line}
use Rattle.tx_model.specs.Lines.{has_line}
use Rattle.history_check.specs.Replays.{Replayed}
use Rattle.history_places.specs.declared.start.Start.{Start}
use Rattle.history_places.specs.MultiTold.{MultiReplayed}
use Rattle.history_places.specs.Starts.{BeginsAs, start_of}
use Rattle.report_law.specs.MultiLines.{of_records}
use Rattle.report_law.specs.Places.{AreMultisJudged, IsJudged, has_multi_line}
use Rattle.report_law.specs.Steps.{Judged, lines_of}
use Rattle.event_rules.specs.Lined.{AreMultisTheirs, AreTheirs}
use Rattle.report_law.proofs.Fronts.{got, taken}
use Rattle.place_rules.proofs.Earlier.{there_is}
use Rattle.command_events.specs.Reached.{IsReach, span}
use Rattle.command_events.specs.declared.reach.Reach.{Reach}
use Rattle.reply_lines.specs.At.{IsRoundAt}
use Rattle.reply_lines.specs.Known.{IsKnown}
use Rattle.reply_lines.specs.declared.known.Known.{Known}
use Rattle.event_rules.specs.Fronts.{IsFront, IsMultiFront}

pub count_few : {X : Type 0} (p : X → Bool) (xs : List X) → count_by p xs ≤ length xs
count_few {X} p [] = omega arith
count_few {X} p (x ∷ xs) =
    let e : count_by p (x ∷ xs) ≡ cond (p x) 1 0 + count_by p xs = sum_by-cons (λ (y : X). cond (p y) 1 0) x xs in
    let f = count_few p xs in
    let l : cond (p x) 1 0 ≤ 1 = one (p x) in
    omega arith
  where
    one : (b : Bool) → cond b 1 0 ≤ 1
    one true = omega arith
    one false = omega arith

pub events_judged : (j : Judged) (rounds lines : List Line) (start end to : ℕ) (places : Replayed) → rounds ≡ take start (lines_of j) → rounds ++ lines ≡ take end (lines_of j) → to ≡ count_by (has_line (take end (lines_of j))) j.life.events
    → IsFront j.begun.counters j.life.events places → (a b c t : Bool) → IsTrue a ↔ AreTheirs (take start (lines_of j)) j.life.events → IsTrue b ↔ AreTheirs (take end (lines_of j)) j.life.events
    → ((base : Counters) (h : List Event) → IsFront base h places → to ≤ length h → IsTrue c ↔ IsLegal base (take to h)) → IsTrue t ↔ (IsTrue a × IsTrue b × IsTrue c)
    → IsTrue t ↔ IsJudged j.begun.counters j.life.events rounds lines
events_judged j rounds lines start end to places first whole to_is front a b c t is_a is_b is_c is_t =
    let h = j.life.events in
    let few = count_few (has_line (take end (lines_of j))) h in
    let legal = is_c j.begun.counters h front (omega arith) in (
      λ e.
          let all = is_t.0 e in
          record {
            legal = subst (λ (ls : List Line). IsLegal j.begun.counters (take (count_by (has_line ls) h) h)) (sym whole) (subst (λ n. IsLegal j.begun.counters (take n h)) to_is (legal.0 all.2));
            earlier = subst (λ (ls : List Line). AreTheirs ls h) (sym first) (is_a.0 all.0);
            these = subst (λ (ls : List Line). AreTheirs ls h) (sym whole) (is_b.0 all.1);
          },
      λ w. is_t.1 (
        is_a.1 (subst (λ (ls : List Line). AreTheirs ls h) first w.earlier),
        is_b.1 (subst (λ (ls : List Line). AreTheirs ls h) whole w.these),
        legal.1 (subst (λ n. IsLegal j.begun.counters (take n h)) (sym to_is) (subst (λ (ls : List Line). IsLegal j.begun.counters (take (count_by (has_line ls) h) h)) whole w.legal)),
      ),
    )

-- ---- multixacts

may_come_to : (base : Counters) (f g : BaseOffset) → ((before : List MultiEvent) (multi offset : ℕ) → f before multi offset → g before multi offset) → (before : List MultiEvent) (e : MultiEvent) → MultiMayCome base f before e → MultiMayCome base g before e
may_come_to base f g to before (multis.Gen by multi offset members) m = m
may_come_to base f g to before (multis.Hold by multi) m = m
may_come_to base f g to before (multis.Unhold by multi) m = m
may_come_to base f g to before (multis.Raise by multi offset) m = record {
  not_back = m.not_back;
  not_pinned = m.not_pinned;
  begins = record { of_base = λ l. to before multi offset (m.begins.of_base l); of_life = m.begins.of_life; of_next = m.begins.of_next };
}

-- the same where multixacts of the base begin at the same offsets
pub legal_same : (base : Counters) (f g : BaseOffset) → ((before : List MultiEvent) (multi offset : ℕ) → f before multi offset ↔ g before multi offset) → (h : List MultiEvent) → AreLegalMultis base f h ↔ AreLegalMultis base g h
legal_same base f g same h = (
  λ l p e at. may_come_to base f g (λ before multi offset. (same before multi offset).0) (take p h) e (l p e at),
  λ l p e at. may_come_to base g f (λ before multi offset. (same before multi offset).1) (take p h) e (l p e at),
)

pub multis_judged : (j : Judged) (rounds lines : List Line) (start end to : ℕ) (places : MultiReplayed) → rounds ≡ take start (lines_of j) → rounds ++ lines ≡ take end (lines_of j) → to ≡ count_by (has_multi_line (take end (lines_of j))) j.life.multis
    → IsMultiFront j.begun.counters places.starts j.life.multis places
    → ((multi offset : ℕ) → Contains places.starts (start_of multi offset) ↔ ((members : List Member) × Contains j.begun.recorded (multi, offset, members)))
    → (a b c t : Bool) → IsTrue a ↔ AreMultisTheirs (take start (lines_of j)) j.life.multis → IsTrue b ↔ AreMultisTheirs (take end (lines_of j)) j.life.multis
    → ((base : Counters) (starts : List Start) (h : List MultiEvent) → IsMultiFront base starts h places → to ≤ length h → IsTrue c ↔ AreLegalMultis base (BeginsAs starts) (take to h)) → IsTrue t ↔ (IsTrue a × IsTrue b × IsTrue c)
    → IsTrue t ↔ AreMultisJudged j.begun.counters (of_records j.begun.counters j.begun.recorded) j.life.multis rounds lines
multis_judged j rounds lines start end to places first whole to_is front offsets a b c t is_a is_b is_c is_t =
    let h = j.life.multis in
    let base = j.begun.counters in
    let of = of_records j.begun.counters j.begun.recorded in
    let few = count_few (has_multi_line (take end (lines_of j))) h in
    let legal = is_c base places.starts h front (omega arith) in
    let same = legal_same base (BeginsAs places.starts) of (λ before multi offset. offsets multi offset) (take to h) in (
      λ e.
          let all = is_t.0 e in
          record {
            legal = subst (λ (ls : List Line). AreLegalMultis base of (take (count_by (has_multi_line ls) h) h)) (sym whole) (subst (λ n. AreLegalMultis base of (take n h)) to_is (same.0 (legal.0 all.2)));
            earlier = subst (λ (ls : List Line). AreMultisTheirs ls h) (sym first) (is_a.0 all.0);
            these = subst (λ (ls : List Line). AreMultisTheirs ls h) (sym whole) (is_b.0 all.1);
          },
      λ w. is_t.1 (
        is_a.1 (subst (λ (ls : List Line). AreMultisTheirs ls h) first w.earlier),
        is_b.1 (subst (λ (ls : List Line). AreMultisTheirs ls h) whole w.these),
        legal.1 (same.1 (subst (λ n. AreLegalMultis base of (take n h)) (sym to_is) (subst (λ (ls : List Line). AreLegalMultis base of (take (count_by (has_multi_line ls) h) h)) whole w.legal))),
      ),
    )

-- ---- the spans

-- as many are of these lines as of the first of them at least
pub more_theirs : {X : Type 0} (p q : X → Bool) → ((x : X) → p x ≡ true → q x ≡ true) → (xs : List X) → count_by p xs ≤ count_by q xs
more_theirs {X} p q f [] = omega arith
more_theirs {X} p q f (x ∷ xs) =
    let a : count_by p (x ∷ xs) ≡ cond (p x) 1 0 + count_by p xs = sum_by-cons (λ (y : X). cond (p y) 1 0) x xs in
    let b : count_by q (x ∷ xs) ≡ cond (q x) 1 0 + count_by q xs = sum_by-cons (λ (y : X). cond (q y) 1 0) x xs in
    let m = more_theirs p q f xs in
    let l : cond (p x) 1 0 ≤ cond (q x) 1 0 = step (p x) (q x) (f x) in
    omega arith
  where
    step : (s t : Bool) → (s ≡ true → t ≡ true) → cond s 1 0 ≤ cond t 1 0
    step true t g = let e = g refl in subst (λ b. 1 ≤ cond b 1 0) (sym e) (omega arith)
    step false t g = omega arith

-- ---- the fronts reach as far as they are legal

pub front_reaches : (base : Counters) (h : List Event) (r : Replayed) (to : ℕ) → IsFront base h r → to ≤ length h → IsLegal base (take to h) → to ≤ length r.events
front_reaches base h r to front fits legal =
    ⊎_elim
    (λ (l : length r.events < to).
    let e = there_is h (length r.events) (omega arith) in
    let at : slice_get (take to h) (length r.events) ≡ Some e.0 = got (length r.events) to h l ∙ e.1 in
    let before : take (length r.events) (take to h) ≡ r.events = taken (length r.events) to h (omega arith) ∙ sym front.events_are in
    let may = subst (λ (t : List Event). MayCome base t e.0) before (legal.rules (length r.events) e.0 at) in
    let turn = subst (λ (t : List Event). ComesInTurn t e.0) before (legal.turns (length r.events) e.0 at) in
    absurd (front.ends e.0 e.1 (subst (λ (b : Counters). MayCome b r.events e.0) (sym front.base_is) may, turn)))
    (λ (l : to ≤ length r.events). l)
    (cases_lt (length r.events) to)

pub multi_front_reaches : (base : Counters) (h : List MultiEvent) (r : MultiReplayed) (to : ℕ) → IsMultiFront base r.starts h r → to ≤ length h → AreLegalMultis base (BeginsAs r.starts) (take to h) → to ≤ length r.events
multi_front_reaches base h r to front fits legal =
    ⊎_elim
    (λ (l : length r.events < to).
    let e = there_is h (length r.events) (omega arith) in
    let at : slice_get (take to h) (length r.events) ≡ Some e.0 = got (length r.events) to h l ∙ e.1 in
    let before : take (length r.events) (take to h) ≡ r.events = taken (length r.events) to h (omega arith) ∙ sym front.events_are in
    let may = subst (λ (t : List MultiEvent). MultiMayCome base (BeginsAs r.starts) t e.0) before (legal (length r.events) e.0 at) in
    absurd (front.ends e.0 e.1 (subst (λ (b : Counters). MultiMayCome b (BeginsAs r.starts) r.events e.0) (sym front.base_is) may)))
    (λ (l : to ≤ length r.events). l)
    (cases_lt (length r.events) to)

any_left : {X : Type 0} (p : X → Bool) (xs ys : List X) → list_any p xs ≡ true → list_any p (xs ++ ys) ≡ true
any_left {X} p [] ys e = absurd cc
any_left {X} p (x ∷ xs) ys e = step (p x) (list_any p xs) (list_any p (xs ++ ys)) (any_left p xs ys) e
  where
    step : (a b c : Bool) → (b ≡ true → c ≡ true) → (a || b) ≡ true → (a || c) ≡ true
    step true b c f e = refl
    step false b c f e = f e

pub spans : (j : Judged) (rounds lines : List Line) (start end from to : ℕ) → rounds ≡ take start (lines_of j) → rounds ++ lines ≡ take end (lines_of j)
    → from ≡ count_by (has_line (take start (lines_of j))) j.life.events → to ≡ count_by (has_line (take end (lines_of j))) j.life.events → (from ≤ to) × (to ≤ length j.life.events)
spans j rounds lines start end from to first whole f t =
    let h = j.life.events in
    let from_is : from ≡ count_by (has_line rounds) h = f ∙ ap (λ (ls : List Line). count_by (has_line ls) h) (sym first) in
    let to_is : to ≡ count_by (has_line (rounds ++ lines)) h = t ∙ ap (λ (ls : List Line). count_by (has_line ls) h) (sym whole) in
    let rises = more_theirs (has_line rounds) (has_line (rounds ++ lines)) (λ e u. any_left (λ l. same_by l.by (by_of e)) rounds lines u) h in
    let few = count_few (has_line (rounds ++ lines)) h in
    (omega arith, omega arith)

-- what is told of a round is so
pub round_is : (j : Judged) (rounds lines : List Line) (k : Known) → IsKnown j k → (start end : ℕ) → rounds ≡ take start (lines_of j) → rounds ++ lines ≡ take end (lines_of j) → (from to multi_from multi_to : ℕ) (reach : Reach) (a b t : Bool)
    → from ≡ count_by (has_line (take start (lines_of j))) j.life.events → to ≡ count_by (has_line (take end (lines_of j))) j.life.events
    → multi_from ≡ count_by (has_multi_line (take start (lines_of j))) j.life.multis → multi_to ≡ count_by (has_multi_line (take end (lines_of j))) j.life.multis
    → IsReach j.begun.counters j.life.events (span from to) reach
    → IsTrue a ↔ IsJudged j.begun.counters j.life.events rounds lines → IsTrue b ↔ AreMultisJudged j.begun.counters (of_records j.begun.counters j.begun.recorded) j.life.multis rounds lines → IsTrue t ↔ (IsTrue a × IsTrue b)
    → IsRoundAt j rounds lines k (record { from = from; to = to; multi_from = multi_from; multi_to = multi_to; reach = reach; judged = t })
round_is j rounds lines k known start end first whole from to multi_from multi_to reach a b t f1 t1 f2 t2 is_reach is_a is_b is_t =
    let h = j.life.events in
    let m = j.life.multis in
    let from_is : from ≡ count_by (has_line rounds) h = f1 ∙ ap (λ (ls : List Line). count_by (has_line ls) h) (sym first) in
    let to_is : to ≡ count_by (has_line (rounds ++ lines)) h = t1 ∙ ap (λ (ls : List Line). count_by (has_line ls) h) (sym whole) in
    let multi_from_is : multi_from ≡ count_by (has_multi_line rounds) m = f2 ∙ ap (λ (ls : List Line). count_by (has_multi_line ls) m) (sym first) in
    let multi_to_is : multi_to ≡ count_by (has_multi_line (rounds ++ lines)) m = t2 ∙ ap (λ (ls : List Line). count_by (has_multi_line ls) m) (sym whole) in
    let rises = more_theirs (has_line rounds) (has_line (rounds ++ lines)) (λ e u. any_left (λ l. same_by l.by (by_of e)) rounds lines u) h in
    let multi_rises = more_theirs (has_multi_line rounds) (has_multi_line (rounds ++ lines)) (λ e u. any_left (λ l. same_by l.by (multi_by e)) rounds lines u) m in
    let few = count_few (has_line (rounds ++ lines)) h in
    let multi_few = count_few (has_multi_line (rounds ++ lines)) m in
    let of = of_records j.begun.counters j.begun.recorded in
    record {
      from = from_is;
      to = to_is;
      forward = omega arith;
      multi_from = multi_from_is;
      multi_to = multi_to_is;
      multi_forward = omega arith;
      reach = subst (λ n. IsReach j.begun.counters h (span n (count_by (has_line (rounds ++ lines)) h)) reach) from_is (subst (λ n. IsReach j.begun.counters h (span from n) reach) to_is is_reach);
      judged = (λ u. let w = is_t.0 u in (is_a.0 w.0, is_b.0 w.1), λ w. is_t.1 (is_a.1 w.0, is_b.1 w.1));
      within = λ u.
          let legal = (is_a.0 (is_t.0 u).0).legal in
          front_reaches j.begun.counters h k.places to known.front (omega arith) (subst (λ n. IsLegal j.begun.counters (take n h)) (sym to_is) legal);
      multi_within = λ u.
          let legal = (is_b.0 (is_t.0 u).1).legal in
          let same = legal_same j.begun.counters (BeginsAs k.multi_places.starts) of (λ before multi offset. known.offsets multi offset) (take multi_to m) in
          multi_front_reaches j.begun.counters m k.multi_places multi_to known.multi_front (omega arith) (same.1 (subst (λ n. AreLegalMultis j.begun.counters of (take n m)) (sym multi_to_is) legal));
    }
