-- A snapshot that a session has was taken by a command of a line before.
use Rattle.std.proofs.Common.{◌≡◌, ℕ, suc, Bool, true, false, cond, List, [], ◌∷◌, Some, take, refl, ap, sym, subst, ◌∙◌, eqb-true}
use Rattle.std.specs.List.{AllByRecursion, filter, find, slice_get}
use Rattle.tx_events.specs.declared.event.Event.{Event}
use Rattle.tx_events.specs.Events.{events_of, given, same_name}
use Rattle.tx_events.proofs.ListSteps.{all_filter, all_push}
use Rattle.tx_model.specs.declared.command.Command.{Command}
use Rattle.tx_model.specs.declared.command.Command.TheVariants as commands
use Rattle.tx_model.specs.declared.reply.Reply.{Reply}
use Rattle.tx_model.specs.declared.reply.Reply.TheVariants as replies
use Rattle.tx_model.specs.declared.report.Line.{Line}
use Rattle.tx_model.specs.Lines.{is_line_of, stance}
use Rattle.tx_model.specs.Stance.{Stance, after, nothing_yet, second_of, snap_of, stance_from}
use Rattle.report_law.proofs.Fronts.{got, got_within}
use Rattle.reply_lines.specs.At.{IsSnapAsked, Spot, before_at, lines_at, rounds_at, stance_at}
use Rattle.reply_lines.proofs.Spots.{behind}

-- what all numbers of snapshots have
abbrev AllHave : (ℕ → Type 0) → Stance → Type 0
AllHave P s = AllByRecursion (λ (p : List ℕ × ℕ). P p.1) s.snaps

after_has : (P : ℕ → Type 0) (s : Stance) (number : ℕ) (command : Command) (reply : Reply) (ids : List ℕ) → P number → AllHave P s → AllHave P (after s number command reply ids)
after_has P s number commands.Begin replies.Done ids p a = a
after_has P s number commands.Save replies.Done ids p a = a
after_has P s number commands.Write reply ids p a = a
after_has P s number commands.Release replies.Done ids p a = a
after_has P s number commands.Undo replies.Done ids p a = a
after_has P s number commands.Commit replies.Done ids p a = a
after_has P s number commands.Abort replies.Done ids p a = a
after_has P s number (commands.Snap name) (replies.Snapped lists) ids p a = all_push (λ (q : List ℕ × ℕ). P q.1) s.snaps (name, number) a p
after_has P s number (commands.DropSnap name) replies.Done ids p a = all_filter (λ (q : List ℕ × ℕ). P q.1) _ s.snaps a
after_has P s number command reply ids p a = a

all_have : (P : ℕ → Type 0) (h : List Event) (lines : List Line) (s : Stance) → AllByRecursion (λ (l : Line). P l.by.command) lines → AllHave P s → AllHave P (stance_from s h lines)
all_have P h [] s each a = a
all_have P h (l ∷ lines) s each a =
    all_have P h lines (after s l.by.command l.command l.reply (given (events_of l.by h))) each.1 (after_has P s l.by.command l.command l.reply (given (events_of l.by h)) each.0 a)

found_has : (P : ℕ → Type 0) (q : List ℕ × ℕ → Bool) (xs : List (List ℕ × ℕ)) (n : ℕ) → AllByRecursion (λ (p : List ℕ × ℕ). P p.1) xs → second_of (find q xs) ≡ Some n → P n
found_has P q [] n a e = absurd cc
found_has P q (x ∷ xs) n a e = step (q x) (found_has P q xs n a.1) e
  where
    step : (b : Bool) → (second_of (find q xs) ≡ Some n → P n) → second_of (cond b (Some x) (find q xs)) ≡ Some n → P n
    step true rest e = let same : x.1 ≡ n = cc in subst P same a.0
    step false rest e = rest e

-- a line of the session's among these
abbrev StandsIn : List Line → ℕ → ℕ → Type 0
StandsIn before session n = (i : ℕ) × (l : Line) × (slice_get before i ≡ Some l) × (l.by ≡ record { session = session; command = n })

each_stands : (before : List Line) (session : ℕ) (xs : List Line) → ((i : ℕ) (l : Line) → slice_get xs i ≡ Some l → (k : ℕ) × (slice_get before k ≡ Some l)) → AllByRecursion (λ (l : Line). StandsIn before session l.by.command) (filter (is_line_of session) xs)
each_stands before session [] f = tt
each_stands before session (x ∷ xs) f = step (is_line_of session x) refl (each_stands before session xs (λ i l e. f (suc i) l e))
  where
    step : (b : Bool) → is_line_of session x ≡ b → AllByRecursion (λ (l : Line). StandsIn before session l.by.command) (filter (is_line_of session) xs)
        → AllByRecursion (λ (l : Line). StandsIn before session l.by.command) (cond b (x ∷ filter (is_line_of session) xs) (filter (is_line_of session) xs))
    step true e rest =
        let k = f 0 x refl in
        let its : x.by ≡ record { session = session; command = x.by.command } = ap (λ n. record { session = n; command = x.by.command }) (eqb-true x.by.session session e) in
        ((k.0, x, k.1, its), rest)
    step false e rest = rest

pub snap_stands : (h : List Event) (before : List Line) (session : ℕ) (name : List ℕ) (n : ℕ) → snap_of name (stance h before session) ≡ Some n → StandsIn before session n
snap_stands h before session name n e =
    found_has (StandsIn before session) (λ p. same_name p.0 name) (stance h before session).snaps n
    (all_have (StandsIn before session) h (filter (is_line_of session) before) nothing_yet (each_stands before session before (λ i l at. (i, at))) tt) e

front_of : {X : Type 0} (p : ℕ) (xs : List X) (n : ℕ) (x : X) → slice_get (take p xs) n ≡ Some x → slice_get xs n ≡ Some x
front_of {X} p xs n x e = sym (got n p xs (got_within n p xs x e)) ∙ e

pub snap_asked : (s : Spot) (name : List ℕ) (n : ℕ) → snap_of name (stance_at s.at s.asking.by) ≡ Some n → IsSnapAsked (record { spot = s; number = n })
snap_asked s name n e =
    let t = snap_stands s.at.j.life.events (before_at s.at) s.asking.by.session name n e in
    (t.0, t.1, behind (rounds_at s.at) (take s.at.place (lines_at s.at)) (lines_at s.at) t.1 (λ k at. front_of s.at.place (lines_at s.at) k t.1 at) t.0 t.2, t.3)
