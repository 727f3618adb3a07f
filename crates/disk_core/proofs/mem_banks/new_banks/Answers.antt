use Rattle.std.proofs.Common.{◌≡◌, ◌∷◌, [], sym, subst, arith, length-append, length, ◌+◌, ap, ◌∙◌}
use Rattle.std.specs.List.{All}
use Rattle.std.proofs.lemmas.List.Elements.{All-push}
use Rattle.disk_core.specs.MemMediaViews.{IsNewBank}
use Rattle.disk_core.proofs.mem_banks.new_banks.Goals as goal

pub loop-preserved : goal.loop-preserved
loop-preserved c =
    let items = c.in_ok-push.ensures.items in
    let old = c.loop.banks.items in
    let bank = c.in_ok-new_bank.field-0 in
    let long : length c.push.new.self.items ≡ c.loop.counter + 1 = ap length items ∙ omega (arith, length-append old (bank ∷ [])) in
    (long, subst (All IsNewBank) (sym items) (All-push IsNewBank old bank c.loop.invariant.1 c.in_ok-new_bank.ensures))
