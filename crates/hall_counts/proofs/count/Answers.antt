use Rattle.hall_counts.proofs.Counting.{adds}
use Rattle.std.proofs.Common.{arith, ap, subst, sym, ◌∙◌, ◌+◌, ◌≤◌, List}
use Rattle.notes.specs.Lists.{at}
use Rattle.hall.specs.Calls.{view}
use Rattle.hall_counts.specs.declared.Entry.{Entry}
use Rattle.hall_counts.specs.Tally.{May}
use Rattle.hall_counts.specs.Keeping.{last_more}
use Rattle.hall_counts.proofs.Counting.{adds_may}
use Rattle.hall_counts.proofs.count.Goals as goal
use Rattle.hall_counts.proofs.count.Goals.{then-value-lt18446744073709551615, else-value-lt18446744073709551615}

pub post-requires-clause-number : goal.post-requires-clause-number
post-requires-clause-number c = last_more 0 (at (view c.args.pass.now).seen (c.args.hall.now.cells + 0)) c.by-said.result.value ∙ ap (λ (z : Entry). z.amount) c.by-said.ensures

pub leave-requires-clause-may : goal.leave-requires-clause-may
leave-requires-clause-may c =
    let cells = c.requires.sizes.0 in
    let few : c.if-value-lt18446744073709551615.amount ≤ 1 = elim c.if-value-lt18446744073709551615.branch [ then-value-lt18446744073709551615 w ↦ (let a = w.amount-is in omega arith) | else-value-lt18446744073709551615 w ↦ (let a = w.amount-is in omega arith) ] in
    let much = ap (λ (z : Entry). z.amount) c.by-entry.ensures in
    subst (λ (z : List (List Entry)). May z c.post.new.pass.cell c.by-entry.result.value) (sym (ap (λ z. z.seen) c.post.ensures.view))
    (adds_may (view c.args.pass.now).seen (c.args.hall.now.cells + 0) _ c.by-said.result.value c.by-entry.result.value (omega arith) (c.post.ensures.cell ∙ c.requires.cell) (let w = c.requires.own.wide in let p = c.requires.sizes.1 in omega arith)
    (ap (λ (z : Entry). z.amount) c.by-said.ensures ∙ c.requires.value) (omega arith))

pub returns-clause-added : goal.returns-clause-added
returns-clause-added c =
    let cells = c.requires.sizes.0 in let wide = c.requires.own.wide in let posts = c.requires.sizes.1 in let value = c.requires.value in
    adds (view c.args.pass.now) (view c.post.new.pass) (view c.leave.new.pass) _ _ _ c.if-value-lt18446744073709551615.amount c.by-said.result.value c.by-entry.result.value (omega arith) (c.post.ensures.cell ∙ c.requires.cell) (omega arith) c.post.ensures.view c.leave.ensures.view (omega arith) (c.by-entry.ensures ∙ ap (λ z. record { by = z.name; amount = c.if-value-lt18446744073709551615.amount }) c.post.ensures.view)
    (λ lt. elim c.if-value-lt18446744073709551615.branch [ then-value-lt18446744073709551615 w ↦ (let a = w.amount-is in omega arith) | else-value-lt18446744073709551615 w ↦ absurd (let q = w.if-value-lt18446744073709551615.false in omega arith) ])
    (λ at_end. elim c.if-value-lt18446744073709551615.branch [ then-value-lt18446744073709551615 w ↦ absurd (let q = w.if-value-lt18446744073709551615.true in omega arith) | else-value-lt18446744073709551615 w ↦ (let a = w.amount-is in omega arith) ])
