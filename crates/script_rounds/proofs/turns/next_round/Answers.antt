use Rattle.std.proofs.Common.{◌≡◌, ◌<◌, true, not, arith, inl, sym, ap, ◌∙◌, subst, get_or, length, take}
use Rattle.std.proofs.Math.Seq.{take-length}
use Rattle.std.proofs.lemmas.List.{drop_all, get_or_default, take_all}
use Rattle.std.specs.List.{All}
use Rattle.std.specs.Option.{is_some}
use Rattle.session_lang.specs.declared.script.Item.TheVariants as items
use Rattle.run_law.specs.Turns.{IsFirstRound, is_command}
use Rattle.script_rounds.proofs.ItemLemmas.{has_session, round_at}
use Rattle.script_rounds.proofs.ListLemmas.{all_more}
use Rattle.script_rounds.proofs.turns.next_round.Goals as goal

pub loop-i-preserved : goal.loop-i-preserved
loop-i-preserved c =
    let all = c.args.items.now in
    let i = c.loop-i.i in
    let x = get_or all i items.Round in
    let low : i < length all = omega (arith, c.loop-i-test.true, c.len-count.ensures) in
    let command : is_command x ≡ true = has_session x ∙ ap is_some (sym c.session_at.ensures) ∙ c.is_none.ensures ∙ ap not c.if-is_none.false in
    all_more (λ item. is_command item ≡ true) all i x low (get_or_default all i items.Round x low) c.loop-i.invariant command

pub returns-then-is_none : goal.returns-then-is_none
returns-then-is_none c =
    let all = c.args.items.now in
    let i = c.loop-i.i in
    let x = get_or all i items.Round in
    let low : i < length all = omega (arith, c.loop-i-test.true, c.len-count.ensures) in
    let other = has_session x ∙ ap is_some (sym c.session_at.ensures) ∙ c.is_none.ensures ∙ ap not c.if-is_none.true in
    subst (λ round. IsFirstRound all round c.behind.result) (sym c.front.ensures) (subst (λ rest. IsFirstRound all (take i all) rest) (sym c.behind.ensures) (round_at all i x low (get_or_default all i items.Round x low) other c.loop-i.invariant))

pub returns : goal.returns
returns c =
    let all = c.args.items.now in
    let whole = c.front-2.ensures ∙ take_all c.len-count.result all (omega (arith, c.len-count.ensures)) in
    let none = c.behind-2.ensures ∙ drop_all c.len-count.result all (omega (arith, c.len-count.ensures)) in
    record {
      commands = subst (All (λ item. is_command item ≡ true)) (ap (λ n. take n all) (omega arith) ∙ take-length all ∙ sym whole) c.loop-i.invariant;
      split = inl (sym whole, none);
    }
