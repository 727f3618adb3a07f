-- A command gives no more ids than there are levels that lack one, and makes one level at most.
use Rattle.std.proofs.Common.{List, None, Option, Some, [], ap, arith, length, refl, subst, sym, zero, suc, take, ℕ, ⊎_elim, ◌+◌, ◌-◌, ◌∷◌, ◌≡◌, ◌∙◌, ◌≤◌, ◌&&◌, nat_le, cond, is_none, true, false}
use Rattle.std.proofs.lemmas.List.Sums.{sum_by-append, sum_by-cons}
use Rattle.tx_events.specs.declared.event.By.{By}
use Rattle.tx_events.specs.declared.event.Event.{Event}
use Rattle.tx_events.specs.declared.event.Event.TheVariants as events
use Rattle.tx_events.specs.Events.{given}
use Rattle.life_law.specs.Commands.{makes_level}
use Rattle.tx_model.specs.declared.command.Command.{Command}
use Rattle.tx_model.specs.declared.command.Command.TheVariants as commands
use Rattle.tx_model.specs.declared.reply.Reply.{Reply}
use Rattle.tx_model.specs.declared.reply.Reply.TheVariants as replies
use Rattle.tx_model.specs.CommandEvents.{HasEvents, abort_event, ask_event, commit_event, giving, innermost, level_events, undo_event, was_asked}
use Rattle.tx_model.specs.Stance.{Stance, after, filled, lacking, top_level}

-- an id's event gives it
given_giving : (by : By) (parent : Option ℕ) (id : ℕ) (es : List Event) → given (giving by parent id ∷ es) ≡ id ∷ given es
given_giving by None id es = refl
given_giving by (Some p) id es = refl

lacking_some : (x : ℕ) (levels : List (Option ℕ)) → lacking (Some x ∷ levels) ≡ lacking levels
lacking_some x levels = let e = sum_by-cons (λ (l : Option ℕ). cond (is_none l) 1 0) (Some x) levels in omega (arith, e)

lacking_none : (levels : List (Option ℕ)) → lacking (None ∷ levels) ≡ 1 + lacking levels
lacking_none levels = sum_by-cons (λ (l : Option ℕ). cond (is_none l) 1 0) None levels

-- the ids fill the levels
fills : (by : By) (parent : Option ℕ) (levels : List (Option ℕ)) (ids : List ℕ) → length (given (level_events by parent levels ids)) + lacking (filled levels (given (level_events by parent levels ids))) ≡ lacking levels
fills by parent [] ids = refl
fills by parent (Some x ∷ levels) ids =
    let g : List ℕ = given (level_events by (Some x) levels ids) in
    let e = lacking_some x (filled levels g) in
    let f = lacking_some x levels in
    let r = fills by (Some x) levels ids in
    omega (arith, e, f, r)
fills by parent (None ∷ levels) [] = omega arith
fills by parent (None ∷ levels) (id ∷ ids) =
    let es : List Event = level_events by (Some id) levels ids in
    let r = fills by (Some id) levels ids in
    let e = lacking_some id (filled levels (given es)) in
    let f = lacking_none levels in
    subst (λ (t : List ℕ). length t + lacking (filled (None ∷ levels) t) ≡ lacking (None ∷ levels)) (sym (given_giving by parent id es)) (omega (arith, e, f, r))

fills_none : (levels : List (Option ℕ)) → lacking (filled levels []) ≡ lacking levels
fills_none [] = refl
fills_none (Some x ∷ levels) = let e = lacking_some x (filled levels []) in let f = lacking_some x levels in let r = fills_none levels in omega (arith, e, f, r)
fills_none (None ∷ levels) = refl

lacking_take : (n : ℕ) (levels : List (Option ℕ)) → lacking (take n levels) ≤ lacking levels
lacking_take zero levels = omega arith
lacking_take (suc n) [] = omega arith
lacking_take (suc n) (Some x ∷ levels) = let e = lacking_some x (take n levels) in let f = lacking_some x levels in let r = lacking_take n levels in omega (arith, e, f, r)
lacking_take (suc n) (None ∷ levels) = let e = lacking_none (take n levels) in let f = lacking_none levels in let r = lacking_take n levels in omega (arith, e, f, r)

-- what a command does to the ids given and the levels that lack one
abbrev pub Bounds : ℕ → Stance → Command → Reply → List Event → Type 0
Bounds number s command reply added = length (given added) + lacking (after s number command reply (given added)).levels ≤ lacking s.levels + cond (makes_level command) 1 0

none_given : (number : ℕ) (s : Stance) (command : Command) (reply : Reply) (added : List Event) → added ≡ [] → lacking (after s number command reply []).levels ≤ lacking s.levels + cond (makes_level command) 1 0 → Bounds number s command reply added
none_given number s command reply added e l = subst (Bounds number s command reply) (sym e) (omega (arith, l))

undo_given : (by : By) (o : Option ℕ) → given (undo_event by o) ≡ []
undo_given by None = refl
undo_given by (Some id) = refl

commit_given : (by : By) (o : Option ℕ) → given (commit_event by o) ≡ []
commit_given by None = refl
commit_given by (Some id) = refl

abort_given : (by : By) (o : Option ℕ) → given (abort_event by o) ≡ []
abort_given by None = refl
abort_given by (Some id) = refl

ask_given : (by : By) (x : ℕ) (reply : Reply) → given (ask_event by x reply) ≡ []
ask_given by x reply = elim (was_asked reply && nat_le 3 x) as (λ b. given (cond b (events.Ask by x ∷ []) []) ≡ []) [ true ↦ refl | false ↦ refl ]

pub bounds_of : (by : By) (number : ℕ) (s : Stance) (command : Command) (reply : Reply) (added : List Event) → HasEvents by s command reply added → Bounds number s command reply added
bounds_of by number s commands.Begin replies.Done added h = none_given number s commands.Begin replies.Done added h (omega arith)
bounds_of by number s commands.Save replies.Done added h = none_given number s commands.Save replies.Done added h (let e = sum_by-append (λ (l : Option ℕ). cond (is_none l) 1 0) s.levels (None ∷ []) in omega (arith, e))
bounds_of by number s commands.Write (replies.Wrote warn ids) added h =
    subst (Bounds number s commands.Write (replies.Wrote warn ids)) (sym h.0) (let e = fills by None s.levels ids in omega (arith, e))
bounds_of by number s commands.Write (replies.Refused refusal) added h =
    ⊎_elim
    (λ (q : added ≡ []). none_given number s commands.Write (replies.Refused refusal) added q (let e = fills_none s.levels in omega (arith, e)))
    (λ q. subst (Bounds number s commands.Write (replies.Refused refusal)) (sym q.1) (let e = fills by None s.levels q.0 in omega (arith, e)))
    h
bounds_of by number s commands.Write reply added h = none_given number s commands.Write reply added h (let e = fills_none s.levels in omega (arith, e))
bounds_of by number s commands.Release replies.Done added h = none_given number s commands.Release replies.Done added h (let e = lacking_take (length s.levels - 1) s.levels in omega (arith, e))
bounds_of by number s commands.Undo replies.Done added h =
    let e = lacking_take (length s.levels - 1) s.levels in let g = ap length (ap given h ∙ undo_given by (innermost s.levels)) in omega (arith, e, g)
bounds_of by number s commands.Commit replies.Done added h = let g = ap length (ap given h ∙ commit_given by (top_level s.levels)) in omega (arith, g)
bounds_of by number s commands.Abort replies.Done added h = let g = ap length (ap given h ∙ abort_given by (top_level s.levels)) in omega (arith, g)
bounds_of by number s (commands.Snap name) (replies.Snapped lists) added h = let g = ap (λ es. length (given es)) h in omega (arith, g)
bounds_of by number s (commands.DropSnap name) replies.Done added h = let g = ap (λ es. length (given es)) h in omega (arith, g)
bounds_of by number s (commands.Status x) reply added h = let g = ap length (ap given h ∙ ask_given by x reply) in omega (arith, g)
bounds_of by number s (commands.Freeze oldest) replies.Done added h = let g = ap (λ es. length (given es)) h in omega (arith, g)
bounds_of by number s command reply added h = none_given number s command reply added h (omega arith)
