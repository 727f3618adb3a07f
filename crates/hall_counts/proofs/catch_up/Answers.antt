use Rattle.hall_counts.proofs.Counting.{catches, caught_by}
use Rattle.std.proofs.Common.{arith, ap, refl, subst, sym, ◌∙◌, ◌+◌, ◌≡◌, ℕ, List, ◌++◌, ◌∷◌, []}
use Rattle.notes.specs.Lists.{at}
use Rattle.hall.specs.Calls.{view}
use Rattle.hall_counts.specs.declared.Entry.{Entry}
use Rattle.hall_counts.specs.Tally.{total, last, May}
use Rattle.hall_counts.specs.Keeping.{total_more}
use Rattle.hall_counts.proofs.Counting.{catches_may}
use Rattle.hall_counts.proofs.catch_up.Goals as goal

pub leave-requires-clause-may : goal.leave-requires-clause-may
leave-requires-clause-may g c =
    let e = c.enter-value.ensures in let i = e.view.2 in let r = c.read_post-said.ensures in let l = r.view in let cells = c.requires.sizes.0 in
    let same = (l.moment.locked _ (ap (λ z. z.stage) i.view_is)).whole 1 refl in
    let seen = ap (λ z. z.seen) i.view_is in
    let found : c.enter-value.result ≡ total (at (view c.enter-value.new.pass).seen 1) = subst (λ (z : List (List Entry)). c.enter-value.result ≡ total (at z 1)) (sym seen) i.stood in
    let word : c.args.hall.now.cells + 0 ≡ 2 = omega arith in
    let said : last (at l.lists 2) ≡ c.read_post-said.result = subst (λ (z : ℕ). last (at l.lists z) ≡ c.read_post-said.result) word l.shown in
    subst (λ (z : List (List Entry)). May z c.read_post-said.new.pass.cell c.by-entry.result.value) (sym (ap (λ z. z.seen) l.view_is))
    (catches_may l.lists c.enter-value.result c.read_post-said.result _ c.by-entry.result.value l.moment.law (found ∙ ap total same) said (r.cell ∙ e.cell)
    (ap (λ (z : Entry). z.amount) c.by-entry.ensures ∙ c.saturating_sub-amount.ensures))

pub leave-requires-clause-stands : goal.leave-requires-clause-stands
leave-requires-clause-stands g c =
    let e = c.enter-value.ensures in let i = e.view.2 in let r = c.read_post-said.ensures in let l = r.view in
    let cell = r.cell ∙ e.cell in
    let same = (l.moment.locked _ (ap (λ z. z.stage) i.view_is)).whole 1 refl in
    let seen = ap (λ z. z.seen) i.view_is in
    let found : c.enter-value.result ≡ total (at (view c.enter-value.new.pass).seen 1) = subst (λ (z : List (List Entry)). c.enter-value.result ≡ total (at z 1)) (sym seen) i.stood in
    let now : c.enter-value.result ≡ total (at (view c.read_post-said.new.pass).seen 1) = found ∙ (ap total same ∙ sym (ap (λ z. total (at z.seen 1)) l.view_is)) in
    let more = total_more (at (view c.read_post-said.new.pass).seen 1) c.by-entry.result.value in
    let much = ap (λ (z : Entry). z.amount) c.by-entry.ensures in
    subst (λ (z : ℕ). c.enter-value.result + c.saturating_sub-amount.result ≡ total (at (view c.read_post-said.new.pass).seen z ++ c.by-entry.result.value ∷ [])) (sym cell) (omega arith)

pub returns-clause-caught_up : goal.returns-clause-caught_up
returns-clause-caught_up g c =
    let e = c.enter-value.ensures in let i = e.view.2 in let r = c.read_post-said.ensures in let l = r.view in let cells = c.requires.sizes.0 in let posts = c.requires.sizes.1 in let wide = r.own.0.wide in
    let same = (l.moment.locked _ (ap (λ z. z.stage) i.view_is)).whole 1 refl in
    let seen = ap (λ z. z.seen) i.view_is in
    let found : c.enter-value.result ≡ total (at (view c.enter-value.new.pass).seen 1) = subst (λ (z : List (List Entry)). c.enter-value.result ≡ total (at z 1)) (sym seen) i.stood in
    let now : c.enter-value.result ≡ total (at (view c.read_post-said.new.pass).seen 1) = found ∙ (ap total same ∙ sym (ap (λ z. total (at z.seen 1)) l.view_is)) in
    let word : c.args.hall.now.cells + 0 ≡ 2 = omega arith in
    let said : last (at (view c.read_post-said.new.pass).seen 2) ≡ c.read_post-said.result = ap (λ z. last (at z.seen 2)) l.view_is ∙ subst (λ (z : ℕ). last (at l.lists z) ≡ c.read_post-said.result) word l.shown in
    caught_by (view c.args.pass.now) (view c.read_post-said.new.pass) (view c.leave.new.pass) _ (ap (λ z. z.name) l.view_is ∙ (ap (λ z. z.name) i.view_is ∙ ap (λ z. z.name) e.view.1.1))
    (catches (view c.read_post-said.new.pass) (view c.leave.new.pass) _ _ _ c.enter-value.result c.by-entry.result.value (r.cell ∙ e.cell) (omega arith) c.leave.ensures.view now said (let s = c.saturating_sub-amount.ensures in omega arith) (c.by-entry.ensures ∙ ap (λ (z : ℕ). record { by = (view c.read_post-said.new.pass).name; amount = z }) c.saturating_sub-amount.ensures))
