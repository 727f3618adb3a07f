use Rattle.std.proofs.Common.{◌≡◌, List, ℕ, cond, true, ap, sym, ◌∙◌, ◌||◌}
use Rattle.std.specs.BTreeSet.{contains}
use Rattle.std.specs.Cmp.Lexicographic.{slice_cmp}
use Rattle.std.specs.Ordering.{is_eq, nat_cmp}
use Rattle.tx_events.specs.declared.multi.Member.{Member}
use Rattle.tx_events.specs.declared.multi.MultiEvent.{MultiEvent}
use Rattle.reply_rules.specs.Gens.{is_gen_of, key_cmp, key_of}
use Rattle.reply_rules.proofs.Strays.{noted}
use Rattle.reply_rules.proofs.stray.note_gen.Goals as goal

pub returns-in_ok-insert-in-Gen : goal.returns-in_ok-insert-in-Gen
returns-in_ok-insert-in-Gen c = λ q.
    let members = c.in-Gen.members in
    let key : c.in_ok-key-in-Gen.key.items ≡ key_of c.in-Gen.multi c.in-Gen.offset members =
    c.in_ok-key-in-Gen.ensures ∙ ap (λ (m : List Member). key_of c.in-Gen.multi c.in-Gen.offset m) c.items.ensures in
    let now : contains key_cmp c.insert.new.self q ≡ cond (is_eq (slice_cmp nat_cmp c.in_ok-key-in-Gen.key.items q.items)) true (contains key_cmp c.args.gens.now q) = c.in_ok-insert-in-Gen.ensures.updates.0 q in
    now ∙ ap (λ (k : List ℕ). cond (is_eq (slice_cmp nat_cmp k q.items)) true (contains key_cmp c.args.gens.now q)) key
    ∙ noted (is_eq (slice_cmp nat_cmp (key_of c.in-Gen.multi c.in-Gen.offset members) q.items)) (contains key_cmp c.args.gens.now q)
    ∙ ap (λ (e : MultiEvent). contains key_cmp c.args.gens.now q || is_gen_of q.items e) (sym c.in-Gen.is)
