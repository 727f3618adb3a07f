use Rattle.std.proofs.Common.{List, ap, subst, sym, ◌∙◌}
use Rattle.std.specs.Prelude.{Contains}
use Rattle.std.proofs.lemmas.List.Elements.{Contains-get_or}
use Rattle.tx_events.specs.declared.multi.Member.{Member}
use Rattle.tx_events.specs.declared.multi.MultiEvent.{MultiEvent}
use Rattle.tx_events.specs.declared.multi.MultiEvent.TheVariants as multi_events
use Rattle.reply_rules.specs.Gens.{IsStrayRec}
use Rattle.reply_rules.proofs.in_turn.behind_its.Goals as goal

pub returns-else-not-is_gen_of : goal.returns-else-not-is_gen_of
returns-else-not-is_gen_of c = λ s.
    let all = c.args.multis.now in
    let e = c.index-multis-at.result in
    let f = c.is_gen_of.ensures.0 c.if-not-is_gen_of.false in
    let is = f.1 ∙ ap (λ (m : List Member). multi_events.Gen f.0 c.in-Multi.multi c.in-Multi.offset m) c.items.ensures in
    let there = subst (λ (x : MultiEvent). Contains all x) (sym c.index-multis-at.is ∙ is) (Contains-get_or all c.in_ok-at-in-Multi.at e c.in_ok-at-in-Multi.ensures) in
    subst (IsStrayRec all) c.in-Multi.is s f.0 there
