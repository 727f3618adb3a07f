use Rattle.std.proofs.Common.{rules, sym, ap, ◌∙◌, Err}
use Rattle.script_lines.specs.LineWords.{words_in}
use Rattle.script_lines.specs.Arguments.{stored_in}
use Rattle.script_lines.specs.Members.{mode_in}
use Rattle.script_lines.proofs.MemberWords.{all_pairs, bad_number, next_pair, pairs_of}
use Rattle.script_lines.proofs.member.pairs_in.Goals as goal

pub loop-word-init : goal.loop-word-init
loop-word-init c =
    ap (λ ps. pairs_of ps (words_in c.args.words.now)) c.new-pairs.ensures ∙ all_pairs (words_in c.args.words.now)

pub returns-in-Err : goal.returns-in-Err
returns-in-Err c =
    sym c.loop-word.invariant ∙ ap (pairs_of c.loop-word.pairs) c.in-Some.ensures.some
    ∙ bad_number c.loop-word.pairs c.in-Some.word.now (words_in c.in-Some.more.now) c.in_ok-mode.mode c.in-Err.kind
    (ap mode_in (sym c.parts_of.ensures.mode) ∙ sym c.in_ok-mode.ensures)
    (ap (stored_in 0) (sym c.parts_of.ensures.id) ∙ sym c.in-Err.ensures)
    ∙ ap Err (sym c.number_fault.ensures)

pub loop-word-preserved : goal.loop-word-preserved
loop-word-preserved c =
    ap (λ ps. pairs_of ps (words_in c.in-Some.more.now)) c.in_ok-push-in-Ok.ensures.ok
    ∙ sym (next_pair c.loop-word.pairs c.in-Some.word.now (words_in c.in-Some.more.now) c.in-Ok.number c.in_ok-mode.mode
    (ap mode_in (sym c.parts_of.ensures.mode) ∙ sym c.in_ok-mode.ensures)
    (ap (stored_in 0) (sym c.parts_of.ensures.id) ∙ sym c.in-Ok.ensures))
    ∙ ap (pairs_of c.loop-word.pairs) (sym c.in-Some.ensures.some) ∙ c.loop-word.invariant
