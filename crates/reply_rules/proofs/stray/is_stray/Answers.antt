use Rattle.std.proofs.Common.{◌≡◌, ◌↔◌, List, ℕ, not, ap, sym, subst, ◌∙◌}
use Rattle.std.specs.Prelude.{IsTrue}
use Rattle.std.specs.List.{list_any}
use Rattle.tx_events.specs.declared.multi.Member.{Member}
use Rattle.tx_events.specs.declared.record.Rec.{Rec}
use Rattle.reply_rules.specs.Gens.{IsStrayRec, is_gen_of, key_of}
use Rattle.reply_rules.proofs.Strays.{stray_is}
use Rattle.reply_rules.proofs.stray.is_stray.Goals as goal

pub returns-in_ok-key-in-Multi : goal.returns-in_ok-key-in-Multi
returns-in_ok-key-in-Multi c = λ multis are.
    let members = c.in-Multi.members in
    let key : c.in_ok-key-in-Multi.key.items ≡ key_of c.in-Multi.multi c.in-Multi.offset members =
    c.in_ok-key-in-Multi.ensures ∙ ap (λ (m : List Member). key_of c.in-Multi.multi c.in-Multi.offset m) c.items.ensures in
    let is : c.contains.result ≡ list_any (is_gen_of (key_of c.in-Multi.multi c.in-Multi.offset members)) multis =
    c.contains.ensures ∙ are c.in_ok-key-in-Multi.key ∙ ap (λ (k : List ℕ). list_any (is_gen_of k) multis) key in
    subst (λ (r : Rec). IsTrue (not c.contains.result) ↔ IsStrayRec multis r) (sym c.in-Multi.is) (stray_is multis c.contains.result c.in-Multi.multi c.in-Multi.offset members is)
