use Rattle.std.proofs.Common.{◌/◌, ◌%◌, ◌∙◌, ◌∷◌, ◌≡◌, ◌≤◌, [], ap, arith, subst, sym, true}
use Rattle.tx_events.specs.PageOrder.{Multis, is_cut}
use Rattle.store_pages.specs.Layouts.{word_page_of}
use Rattle.replay_multis.specs.Named.{IsOffsetByte, IsWordByte}
use Rattle.replay_multis.proofs.Naming.{its_word, multi_kept, word_of}
use Rattle.replay_multis.proofs.Stepping.{same_named}
use Rattle.replay_multis.proofs.redo_offsets.redo_offset.Goals as goal

pub put_offset-requires : goal.put_offset-requires
put_offset-requires g c = record {
  kept = λ cut.
      let from : c.args.oldest ≤ c.in-Multi.multi = grind (arith, c.lt.ensures, c.if-lt.false) in
      multi_kept c.args.oldest c.in-Multi.multi from (c.requires.near c.in-Multi.multi c.in-Multi.offset c.in-Multi.members (0, omega arith, c.in-Multi.is)) (subst (λ z. is_cut Multis 2048 z (word_page_of c.in-Multi.multi) ≡ true) c.requires.kept cut);
}

pub returns : goal.returns
returns g c =
    let from : c.args.oldest ≤ c.in-Multi.multi = grind (arith, c.lt.ensures, c.if-lt.false) in
    let page : c.offset_page.result ≡ word_page_of c.in-Multi.multi = c.offset_page.ensures.page ∙ ap (λ n. n / 2048) c.low.ensures in
    let on : word_page_of c.in-Multi.multi % c.args.share.now.banks ≡ c.args.share.now.bank = ap (λ n. n % c.args.share.now.banks) (sym page) ∙ c.has_page.ensures.0 (grind (arith, c.if-not-has_page.false)) in
    same_named (IsWordByte c.in-Multi.multi c.in-Multi.offset) (IsOffsetByte c.args.share.now c.args.oldest (c.args.rec.now ∷ [])) c.args.bank.now c.put_offset.new.bank c.put_offset.result
    (its_word c.args.share.now c.args.oldest c.args.rec.now c.in-Multi.multi c.in-Multi.offset c.in-Multi.members c.in-Multi.is from on)
    (λ q i b h. (word_of c.args.share.now c.args.oldest c.args.rec.now c.in-Multi.multi c.in-Multi.offset c.in-Multi.members c.in-Multi.is q i b h).2) c.put_offset.ensures
