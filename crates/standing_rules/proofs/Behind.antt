-- How sessions stand behind one line more.
use Rattle.std.proofs.Common.{◌≡◌, ◌≢◌, ℕ, zero, suc, ◌<◌, Bool, true, false, cond, List, [], ◌∷◌, ◌++◌, Option, Some, None, length, get_or, set, refl, sym, ap, subst, ◌∙◌, arith, ⊎_elim, eqb-true, ◌==◌}
use Rattle.std.specs.List.{AllByRecursion, filter}
use Rattle.std.specs.Prelude.{nat_lt}
use Rattle.std.proofs.lemmas.Bool.{cases_Bool, false≢true}
use Rattle.std.proofs.lemmas.List.{append-nil, get_or-set_other, get_or-set_same, length-set}
use Rattle.tx_events.specs.declared.event.Event.{Event}
use Rattle.tx_events.specs.declared.multi.MultiEvent.{MultiEvent}
use Rattle.tx_events.specs.declared.record.Rec.{Rec}
use Rattle.tx_events.specs.declared.refusal.Refusal.{Refusal}
use Rattle.tx_events.specs.Events.{events_of, given}
use Rattle.tx_events.proofs.ListSteps.{eqb-refl}
use Rattle.tx_model.specs.declared.report.Line.{Line}
use Rattle.tx_model.specs.Lines.{is_line_of, stance}
use Rattle.tx_model.specs.Stance.{Stance, after, nothing_yet, stance_from, top_level}
use Rattle.life_law.specs.Pending.{is_recorded, pending, pending_after, pending_from}
use Rattle.report_law.specs.Places.{multis_of}
use Rattle.report_law.specs.Standing.{Unfinished, none, unfinished, unfinished_behind, unfinished_from}
use Rattle.standing_rules.specs.Told.{told_of}
use Rattle.standing_rules.specs.declared.sessions.Session.{Session}
use Rattle.standing_rules.specs.Sessions.{AreBehind, IsAdded, IsBehind, IsFresh, Lived, with_line}

-- ---- a session's lines

filter_append : (session : ℕ) (xs ys : List Line) → filter (is_line_of session) (xs ++ ys) ≡ filter (is_line_of session) xs ++ filter (is_line_of session) ys
filter_append session [] ys = refl
filter_append session (x ∷ xs) ys = step (is_line_of session x) (filter_append session xs ys)
  where
    step : (b : Bool) → filter (is_line_of session) (xs ++ ys) ≡ filter (is_line_of session) xs ++ filter (is_line_of session) ys
        → cond b (x ∷ filter (is_line_of session) (xs ++ ys)) (filter (is_line_of session) (xs ++ ys)) ≡ cond b (x ∷ filter (is_line_of session) xs) (filter (is_line_of session) xs) ++ filter (is_line_of session) ys
    step true e = ap (λ (l : List Line). x ∷ l) e
    step false e = e

own_line : (l : Line) (xs : List Line) → filter (is_line_of l.by.session) (xs ++ l ∷ []) ≡ filter (is_line_of l.by.session) xs ++ l ∷ []
own_line l xs = filter_append l.by.session xs (l ∷ []) ∙ ap (λ b. filter (is_line_of l.by.session) xs ++ cond b (l ∷ []) []) (eqb-refl l.by.session)

other_line : (session : ℕ) (l : Line) (xs : List Line) → (l.by.session == session) ≡ false → filter (is_line_of session) (xs ++ l ∷ []) ≡ filter (is_line_of session) xs
other_line session l xs e = filter_append session xs (l ∷ []) ∙ ap (λ b. filter (is_line_of session) xs ++ cond b (l ∷ []) []) e ∙ append-nil (filter (is_line_of session) xs)

-- ---- what they leave

stance_push : (s : Stance) (h : List Event) (xs : List Line) (l : Line) → stance_from s h (xs ++ l ∷ []) ≡ after (stance_from s h xs) l.by.command l.command l.reply (given (events_of l.by h))
stance_push s h [] l = refl
stance_push s h (x ∷ xs) l = stance_push (after s x.by.command x.command x.reply (given (events_of x.by h))) h xs l

pending_push : (recs : List Rec) (h : List Event) (s : Stance) (old : Option Refusal) (xs : List Line) (l : Line) → pending_from recs h s old (xs ++ l ∷ []) ≡ pending_after recs (stance_from s h xs) (pending_from recs h s old xs) l.command l.reply
pending_push recs h s old [] l = refl
pending_push recs h s old (x ∷ xs) l = pending_push recs h (after s x.by.command x.command x.reply (given (events_of x.by h))) (pending_after recs s old x.command x.reply) xs l

unfinished_push : (h : List MultiEvent) (old : Unfinished) (xs : List Line) (l : Line) → unfinished_from h old (xs ++ l ∷ []) ≡ unfinished_behind (unfinished_from h old xs) (nat_lt 0 (length (multis_of l.by h))) l.command l.reply
unfinished_push h old [] l = refl
unfinished_push h old (x ∷ xs) l = unfinished_push h (unfinished_behind old (nat_lt 0 (length (multis_of x.by h))) x.command x.reply) xs l

pub stance_more : (h : List Event) (xs : List Line) (l : Line) → stance h (xs ++ l ∷ []) l.by.session ≡ after (stance h xs l.by.session) l.by.command l.command l.reply (given (events_of l.by h))
stance_more h xs l = ap (stance_from nothing_yet h) (own_line l xs) ∙ stance_push nothing_yet h (filter (is_line_of l.by.session) xs) l

pub pending_more : (recs : List Rec) (h : List Event) (xs : List Line) (l : Line) → pending recs h (xs ++ l ∷ []) l.by.session ≡ pending_after recs (stance h xs l.by.session) (pending recs h xs l.by.session) l.command l.reply
pending_more recs h xs l = ap (pending_from recs h nothing_yet None) (own_line l xs) ∙ pending_push recs h nothing_yet None (filter (is_line_of l.by.session) xs) l

pub unfinished_more : (h : List MultiEvent) (xs : List Line) (l : Line) → unfinished h (xs ++ l ∷ []) l.by.session ≡ unfinished_behind (unfinished h xs l.by.session) (nat_lt 0 (length (multis_of l.by h))) l.command l.reply
unfinished_more h xs l = ap (unfinished_from h none) (own_line l xs) ∙ unfinished_push h none (filter (is_line_of l.by.session) xs) l

pub behind_added : (v : Lived) (l : Line) (ids : List ℕ) (gave recorded : Bool) (old new : Session) → IsAdded v l ids gave → IsBehind v l.by.session old → recorded ≡ is_recorded v.recs (top_level old.standing.levels)
    → new.standing ≡ after old.standing l.by.command l.command l.reply ids
    → ((recs : List Rec) (s : Stance) → recorded ≡ is_recorded recs (top_level s.levels) → new.pending ≡ pending_after recs s old.pending l.command l.reply)
    → told_of new.unfinished ≡ unfinished_behind (told_of old.unfinished) gave l.command l.reply → IsBehind (with_line v l) l.by.session new
behind_added v l ids gave recorded old new added b recorded_is stands held left =
    let s = stance v.events v.lines l.by.session in
    record {
      stands = stands ∙ ap (λ (x : Stance). after x l.by.command l.command l.reply ids) b.stands
          ∙ ap (after s l.by.command l.command l.reply) added.given_ids ∙ sym (stance_more v.events v.lines l);
      held = held v.recs s (recorded_is ∙ ap (λ (x : Stance). is_recorded v.recs (top_level x.levels)) b.stands)
          ∙ ap (λ (o : Option Refusal). pending_after v.recs s o l.command l.reply) b.held ∙ sym (pending_more v.recs v.events v.lines l);
      left = left ∙ ap (λ (u : Unfinished). unfinished_behind u gave l.command l.reply) b.left
          ∙ ap (λ (g : Bool). unfinished_behind (unfinished v.multis v.lines l.by.session) g l.command l.reply) added.gave_one ∙ sym (unfinished_more v.multis v.lines l);
    }

-- ---- another session stands as before

other_behind : (v : Lived) (l : Line) (session : ℕ) (s : Session) → (l.by.session == session) ≡ false → IsBehind v session s → IsBehind (with_line v l) session s
other_behind v l session s e b =
    let same = sym (other_line session l v.lines e) in
    record {
      stands = b.stands ∙ ap (stance_from nothing_yet v.events) same;
      held = b.held ∙ ap (pending_from v.recs v.events nothing_yet None) same;
      left = b.left ∙ ap (unfinished_from v.multis none) same;
    }

pub all_behind : (v : Lived) (l : Line) (all : List Session) (s : Session) → l.by.session < length all → AreBehind v (length all) all → IsBehind (with_line v l) l.by.session s → AreBehind (with_line v l) (length all) (set all l.by.session s)
all_behind v l all s within a b = record {
  size = length-set all l.by.session s;
  each = λ n m d. ⊎_elim
      (λ (own : (l.by.session == n) ≡ true).
      let same : l.by.session ≡ n = eqb-true l.by.session n own in
      let now : get_or (set all l.by.session s) n d ≡ s = ap (λ k. get_or (set all l.by.session s) k d) (sym same) ∙ get_or-set_same all l.by.session s d within in
      subst (λ (x : Session). IsBehind (with_line v l) n x) (sym now) (subst (λ k. IsBehind (with_line v l) k s) same b))
      (λ (other : (l.by.session == n) ≡ false).
      let apart : n ≢ l.by.session = λ q. false≢true (sym other ∙ ap (λ y. y == n) (sym q) ∙ eqb-refl n) in
      let now : get_or (set all l.by.session s) n d ≡ get_or all n d = get_or-set_other all l.by.session n s d apart in
      subst (λ (x : Session). IsBehind (with_line v l) n x) (sym now) (other_behind v l n (get_or all n d) other (a.each n m d)))
      (cases_Bool (l.by.session == n));
}

-- ---- before any line

fresh_at : (all : List Session) (n : ℕ) (d : Session) → AllByRecursion IsFresh all → n < length all → IsFresh (get_or all n d)
fresh_at [] n d a l = absurd (omega arith)
fresh_at (s ∷ all) zero d a l = a.0
fresh_at (s ∷ all) (suc n) d a l = fresh_at all n d a.1 (omega arith)

fresh_one : (v : Lived) (n : ℕ) (s : Session) → v.lines ≡ [] → IsFresh s → IsBehind v n s
fresh_one v n s none_yet f = record {
  stands = f.stands ∙ ap (λ (xs : List Line). stance v.events xs n) (sym none_yet);
  held = f.held ∙ ap (λ (xs : List Line). pending v.recs v.events xs n) (sym none_yet);
  left = ap told_of f.left ∙ ap (λ (xs : List Line). unfinished v.multis xs n) (sym none_yet);
}

pub fresh_behind : (v : Lived) (count : ℕ) (all : List Session) → v.lines ≡ [] → length all ≡ count → AllByRecursion IsFresh all → AreBehind v count all
fresh_behind v count all none_yet size a = record {
  size = size;
  each = λ n l d. fresh_one v n (get_or all n d) none_yet (fresh_at all n d a (omega arith));
}
