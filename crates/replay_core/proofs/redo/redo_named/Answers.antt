use Rattle.std.proofs.Common.{ap, ◌/◌, ◌%◌, ◌∙◌, ◌≡◌, ◌≤◌, ◌∷◌, [], arith, refl, subst, sym, true}
use Rattle.tx_events.specs.PageOrder.{Ids, is_cut}
use Rattle.store_pages.specs.Layouts.{xact_page_of}
use Rattle.replay_core.specs.Redo.{IsNamed, IsOne}
use Rattle.replay_core.proofs.Redoing.{named_one, one_named, same_named}
use Rattle.replay_core.proofs.Restoring.{page_kept}
use Rattle.replay_core.proofs.redo.redo_named.Goals as goal

pub redo_id-requires : goal.redo_id-requires
redo_id-requires g c = record {
  kept = λ cut.
      let from : c.args.oldest ≤ c.args.id = grind (arith, c.lt.ensures, c.if-lt.false) in
      page_kept c.args.oldest c.args.id from (c.requires.near c.args.id (0, omega arith, refl)) (subst (λ z. is_cut Ids 32768 z (xact_page_of c.args.id) ≡ true) c.requires.kept cut);
}

pub returns : goal.returns
returns g c =
    let from : c.args.oldest ≤ c.args.id = grind (arith, c.lt.ensures, c.if-lt.false) in
    let page : c.xact_page.result ≡ xact_page_of c.args.id = c.xact_page.ensures.page ∙ ap (λ n. n / 32768) c.low.ensures in
    let on : xact_page_of c.args.id % c.args.share.now.banks ≡ c.args.share.now.bank = ap (λ n. n % c.args.share.now.banks) (sym page) ∙ c.has_page.ensures.0 (grind (arith, c.if-not-has_page.false)) in
    same_named (IsOne c.args.id) (IsNamed c.args.share.now c.args.oldest (c.args.id ∷ [])) c.args.bank.now c.redo_id.new.bank c.redo_id.result
    (one_named c.args.share.now c.args.oldest c.args.id from on)
    (λ y h. sym (named_one c.args.share.now c.args.oldest c.args.id y h)) c.redo_id.ensures
