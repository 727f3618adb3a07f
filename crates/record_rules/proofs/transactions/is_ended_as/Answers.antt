use Rattle.std.proofs.Common.{◌≡◌, ℕ, ◌≤◌, List, None, Some, length, ap, sym, subst, ◌∙◌}
use Rattle.std.specs.List.{between}
use Rattle.std.proofs.lemmas.Bool.{false≢true}
use Rattle.near_map.specs.Near.{value_of}
use Rattle.record_rules.proofs.Ending.{ended_iff, never_ended}
use Rattle.record_rules.proofs.transactions.is_ended_as.Goals as goal

pub returns-then-is_same_end : goal.returns-then-is_same_end
returns-then-is_same_end c = λ base h legal a.
    let ends = c.args.ends.now in
    let e = c.in-Some.ended in
    let found : value_of ends.by_top c.args.top ≡ Some e = ap (λ (k : ℕ). value_of ends.by_top k) (sym c.number.ensures.value) ∙ sym c.get.ensures ∙ c.in-Some.is in
    let at = a.each c.args.top e found in
    let part : c.part_of-ids.result.now ≡ between e.from e.end ends.ids.items =
    c.part_of-ids.ensures at.order (subst (λ (t : List ℕ). e.end ≤ length t) (sym c.as_slice.ensures.value) at.within) ∙ ap (λ (t : List ℕ). between e.from e.end t) c.as_slice.ensures.value in
    ended_iff base h ends c.args.how c.args.top c.args.subs.now e c.is_whole.result legal a found
    (λ t. (c.is_same_end.ensures.0 c.if-is_same_end.true, sym part ∙ c.is_whole.ensures.0 t), λ p. c.is_whole.ensures.1 (part ∙ p.1))

pub returns-else-is_same_end : goal.returns-else-is_same_end
returns-else-is_same_end c = λ base h legal a.
    let ends = c.args.ends.now in
    let found : value_of ends.by_top c.args.top ≡ Some c.in-Some.ended = ap (λ (k : ℕ). value_of ends.by_top k) (sym c.number.ensures.value) ∙ sym c.get.ensures ∙ c.in-Some.is in
    ended_iff base h ends c.args.how c.args.top c.args.subs.now c.in-Some.ended c.is_same_end.result legal a found
    (λ t. absurd (false≢true (sym c.if-is_same_end.false ∙ t)), λ p. c.is_same_end.ensures.1 p.0)

pub returns-in-None : goal.returns-in-None
returns-in-None c = λ base h legal a.
    let ends = c.args.ends.now in
    let none : value_of ends.by_top c.args.top ≡ None = ap (λ (k : ℕ). value_of ends.by_top k) (sym c.number.ensures.value) ∙ sym c.get.ensures ∙ c.in-None.is in
    (λ t. absurd (false≢true t), λ e. absurd (never_ended h ends c.args.how c.args.top c.args.subs.now a none e))
