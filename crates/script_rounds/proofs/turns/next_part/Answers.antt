use Rattle.std.proofs.Common.{None, ap, arith, get_or, inl, length, refl, subst, sym, take, ◌<◌, ◌≡◌, ◌∙◌}
use Rattle.std.proofs.Math.Seq.{take-length}
use Rattle.std.proofs.lemmas.List.{drop_all, get_or_default, take_all}
use Rattle.std.specs.List.{All}
use Rattle.session_lang.specs.Rounds.{crash_in}
use Rattle.session_lang.specs.declared.script.Item.TheVariants as items
use Rattle.run_law.specs.Lives.{IsFirstPart}
use Rattle.script_rounds.proofs.ItemLemmas.{no_crash_there, part_at}
use Rattle.script_rounds.proofs.ListLemmas.{all_more}
use Rattle.script_rounds.proofs.turns.next_part.Goals as goal

pub loop-i-preserved : goal.loop-i-preserved
loop-i-preserved c =
    let all = c.args.items.now in
    let i = c.loop-i.i in
    let x = get_or all i items.Round in
    let low : i < length all = omega (arith, c.loop-i-test.true, c.len-count.ensures) in
    all_more (λ item. crash_in item ≡ None) all i x low (get_or_default all i items.Round x low) c.loop-i.invariant
    (no_crash_there x c.crash_at-crash.result c.crash_at-crash.ensures (sym c.is_some.ensures ∙ c.if-is_some.false))

pub returns-then-is_some : goal.returns-then-is_some
returns-then-is_some c =
    let all = c.args.items.now in
    let i = c.loop-i.i in
    let x = get_or all i items.Round in
    let low : i < length all = omega (arith, c.loop-i-test.true, c.len-count.ensures) in
    subst (λ its. IsFirstPart all its c.crash_at-crash.result c.behind.result) (sym c.front.ensures)
    (subst (λ rest. IsFirstPart all (take i all) c.crash_at-crash.result rest) (sym c.behind.ensures)
    (part_at all i x c.crash_at-crash.result low (get_or_default all i items.Round x low) c.crash_at-crash.ensures (sym c.is_some.ensures ∙ c.if-is_some.true) c.loop-i.invariant))

pub returns : goal.returns
returns c =
    let all = c.args.items.now in
    let whole = c.front-2.ensures ∙ take_all c.len-count.result all (omega (arith, c.len-count.ensures)) in
    let none = c.behind-2.ensures ∙ drop_all c.len-count.result all (omega (arith, c.len-count.ensures)) in
    record {
      none = subst (All (λ item. crash_in item ≡ None)) (ap (λ n. take n all) (omega arith) ∙ take-length all ∙ sym whole) c.loop-i.invariant;
      split = inl (refl, sym whole, none);
    }
