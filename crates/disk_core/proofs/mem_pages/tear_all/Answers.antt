use Rattle.std.proofs.Common.{◌≡◌, ℕ, None, ◌∙◌, sym, arith}
use Rattle.std.proofs.lemmas.Grind.{common_steps}
use Rattle.std.specs.Ordering.{nat_cmp}
use Rattle.std.specs.BTreeMap as tree
use Rattle.disk_core.proofs.Notes.{Unnotes, torn_same, torn_settled}
use Rattle.disk_core.proofs.mem_pages.tear_all.Goals as goal

pub loop-page-preserved : goal.loop-page-preserved
loop-page-preserved c q =
    let b = (λ (k : ℕ). tree.get nat_cmp c.loop-page.before k) in let b_2 = (λ (k : ℕ). tree.get nat_cmp c.pop_first.new.self k) in
    let w = (λ (k : ℕ). tree.get nat_cmp c.loop-page.now k) in let v = (λ (k : ℕ). tree.get nat_cmp c.tear_page.new.map k) in
    let taken : Unnotes c.in-Some.page c.in-Some.old b b_2 = record {
      was = grind (arith, common_steps);
      gone = grind (arith, common_steps);
      others = λ k apart. grind (arith, common_steps);
    } in
    torn_same b b_2 w v c.in-Some.page c.in-Some.old taken c.tear_page.ensures q ∙ c.loop-page.invariant q

pub returns-clause-torn : goal.returns-clause-torn
returns-clause-torn c q =
    let b = (λ (k : ℕ). tree.get nat_cmp c.loop-page.before k) in let w = (λ (k : ℕ). tree.get nat_cmp c.loop-page.now k) in
    let none : (k : ℕ) → tree.get nat_cmp c.loop-page.before k ≡ None = λ k. grind (arith, common_steps) in
    sym (torn_settled b w none q) ∙ c.loop-page.invariant q
