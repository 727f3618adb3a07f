use Rattle.std.proofs.Common.{◌≡◌, ℕ, sym, ◌∙◌, subst, arith, ◌<◌, ◌≤◌, true}
use Rattle.std.specs.Prelude.{nat_le}
use Rattle.std.proofs.lemmas.Bool.Decides.{nat_tests}
use Rattle.tx_events.specs.declared.record.Counters.{Counters}
use Rattle.tx_events.specs.Multis.{oldest_offset}
use Rattle.multi_store.specs.Generator.{Generator, Begins}
use Rattle.multi_store.proofs.Beginnings.{begins_old, old_begins}
use Rattle.multi_store.proofs.LegalSound.{legal_sound}
use Rattle.multi_store.proofs.Numbers.{lt_from_cmp}
use Rattle.multi_store.proofs.generator.MultiGen.begins_at.Goals as goal

to_from : (a b : ℕ) → nat_le a b ≡ true → a ≤ b
to_from a b e = grind (arith, nat_tests)

from_to : (a b : ℕ) → a ≤ b → nat_le a b ≡ true
from_to a b h = grind (arith, nat_tests)

pub returns-then-self-offset : goal.returns-then-self-offset
returns-then-self-offset c =
    let inv = c.self.invariant.0 in
    let s = legal_sound _ _ inv.base_is inv.legal in
    let old : c.args.multi < c.self.inside.base.multi = lt_from_cmp _ _ (sym c.lt.ensures ∙ c.if-lt.true) in
    let from : oldest_offset c.self.inside.base.oldest_offset c.self.inside.events.items ≤ c.args.offset = subst (λ (k : Counters). k.oldest_offset ≤ c.args.offset) inv.counters_are c.if-self-offset.true in (
      λ e. subst (λ (g : Generator). Begins g c.args.multi c.args.offset) c.self.view_is (begins_old _ _ _ _ old s.next from (to_from _ _ e)),
      λ b. from_to _ _ (old_begins _ _ _ _ old (subst (λ (g : Generator). Begins g c.args.multi c.args.offset) (sym c.self.view_is) b)).1,
    )
