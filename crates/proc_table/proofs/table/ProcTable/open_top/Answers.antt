use Rattle.std.proofs.Common.{◌≡◌, sym, ◌∙◌, subst, ap}
use Rattle.std.proofs.Common.{◌==◌}
use Rattle.std.specs.List.{Any, list_any}
use Rattle.tx_events.specs.Running.{open_ids}
use Rattle.proc_table.specs.declared.entry.Entry.{Entry}
use Rattle.proc_table.specs.Table.{Table, IsOpenTop}
use Rattle.proc_table.proofs.ReaderLemmas.{some_weaker, none_weaker, open_top_is}
use Rattle.proc_table.proofs.table.ProcTable.open_top.Goals as goal

pub returns-clause-some : goal.returns-clause-some
returns-clause-some c =
    some_weaker (λ t. Any (λ (e : Entry). (e.session ≡ c.args.session) × (t ≡ e.top)) c.deref.result.now) (IsOpenTop c.args.self.now c.args.session) c.top_of.result
    (λ t a. subst (λ (now : Table). IsOpenTop now c.args.session t) c.self.view_is (open_top_is _ _ _ _ _ _ _ _ c.args.session t c.self.invariant.0 (subst (Any (λ (e : Entry). (e.session ≡ c.args.session) × (t ≡ e.top))) c.deref.ensures.value a)))
    c.top_of.ensures.some

pub returns-clause-none : goal.returns-clause-none
returns-clause-none c =
    none_weaker c.top_of.result
    (λ e. sym (ap (λ (now : Table). open_ids c.args.session now.events) c.self.view_is) ∙ c.self.invariant.0.others c.args.session (sym (ap (list_any (λ (e : Entry). e.session == c.args.session)) c.deref.ensures.value) ∙ e))
    c.top_of.ensures.none
