use Rattle.std.proofs.Common.{◌≡◌, drop, sym, ap, ◌∙◌, rules}
use Rattle.std.proofs.lemmas.Fn.{filter_same}
use Rattle.proc_table.proofs.TailLemmas.{taken_off}
use Rattle.proc_table.proofs.entry.without.Goals as goal

pub returns-then-are_same : goal.returns-then-are_same
returns-then-are_same c =
    let tail : drop c.saturating_sub-from.result c.args.items.now.items ≡ c.args.ids.now = ap (drop c.saturating_sub-from.result) (sym c.deref.ensures.value) ∙ sym c.items_from.ensures ∙ c.are_same.ensures c.if-are_same.true in
    c.truncate.ensures.items ∙ sym (taken_off c.args.items.now.items c.args.ids.now c.saturating_sub-from.result c.requires.items tail)

pub returns-else-are_same : goal.returns-else-are_same
returns-else-are_same c = filter_same _ _ _ (λ x b f' k. search (rules, c.requires.ids)) _ _ c.retain.ensures.filtered
