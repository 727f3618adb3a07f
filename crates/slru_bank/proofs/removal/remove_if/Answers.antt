use Rattle.std.proofs.Common.{◌≡◌, ℕ, Bool, true, sym, ◌∙◌}
use Rattle.slru_bank.specs.Crash.{one_call, no_call}
use Rattle.slru_bank.specs.Removal.{removes, MayLack}
use Rattle.slru_bank.proofs.RemovalLists.{nothing_lacks, removed_lack}
use Rattle.slru_bank.proofs.removal.remove_if.Goals as goal

pub returns-then-takes-clause-crash : goal.returns-then-takes-clause-crash
returns-then-takes-clause-crash g c told =
    let d = g.P.PageDisk in
    let gone : ℕ → Bool = removes g.O.PageRule.shape g.O.PageRule.per_page c.args.removal in
    let taken : gone c.args.page ≡ true = sym c.takes.ensures.is ∙ c.if-takes.true in
    one_call d.images d.moment d.left_at (MayLack gone) c.args.disk.now c.remove.new.self (nothing_lacks gone) (c.remove.ensures.time told) (λ x left. g.met.P.PageDisk.only_now c.args.disk.now x told left)
    (λ x left. let from = c.remove.ensures.crash told x left in (from.0, from.1, removed_lack gone c.args.page from.0 x taken from.2))

pub returns-in_err-remove-clause-others : goal.returns-in_err-remove-clause-others
returns-in_err-remove-clause-others g c told =
    let gone : ℕ → Bool = removes g.O.PageRule.shape g.O.PageRule.per_page c.args.removal in
    removed_lack gone c.args.page (g.P.PageDisk.pages c.args.disk.now) (g.P.PageDisk.pages c.remove.new.self) (sym c.takes.ensures.is ∙ c.if-takes.true) (c.remove.ensures.others told)

pub returns-in_err-remove-clause-crash : goal.returns-in_err-remove-clause-crash
returns-in_err-remove-clause-crash g c told =
    let d = g.P.PageDisk in
    let gone : ℕ → Bool = removes g.O.PageRule.shape g.O.PageRule.per_page c.args.removal in
    let taken : gone c.args.page ≡ true = sym c.takes.ensures.is ∙ c.if-takes.true in
    one_call d.images d.moment d.left_at (MayLack gone) c.args.disk.now c.remove.new.self (nothing_lacks gone) (c.remove.ensures.time told) (λ x left. g.met.P.PageDisk.only_now c.args.disk.now x told left)
    (λ x left. let from = c.remove.ensures.crash told x left in (from.0, from.1, removed_lack gone c.args.page from.0 x taken from.2))

pub returns-clause-crash : goal.returns-clause-crash
returns-clause-crash g c told =
    let d = g.P.PageDisk in
    let gone : ℕ → Bool = removes g.O.PageRule.shape g.O.PageRule.per_page c.args.removal in
    no_call d.images d.moment d.left_at (MayLack gone) c.args.disk.now (nothing_lacks gone) (λ x left. g.met.P.PageDisk.only_now c.args.disk.now x told left)
