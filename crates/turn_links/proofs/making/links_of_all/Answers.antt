use Rattle.std.proofs.Common.{◌≡◌, ◌+◌, List, ap, get_or, length, subst, sym, take, ◌∙◌}
use Rattle.std.specs.Global.{Vec}
use Rattle.place_columns.specs.declared.own.Own.{Own}
use Rattle.turn_links.specs.declared.links.Link.{Link}
use Rattle.turn_links.specs.Links.{AreAllLinks, AreLinks}
use Rattle.turn_links.proofs.Linking.{all_more}
use Rattle.turn_links.proofs.making.links_of_all.Goals as goal

pub loop-own-preserved : goal.loop-own-preserved
loop-own-preserved c =
    let lists = c.args.lists.now in
    let n = c.loop-own.own-index in
    let own = c.own-item.result in
    let links = c.in_ok-links_of.field-0 in
    let same : c.as_slice.result.now ≡ (get_or lists n own).items = c.as_slice.ensures.value ∙ ap (λ (v : Vec Own). v.items) c.own-item.is in
    let are : AreLinks (get_or lists n own).items links.items = subst (λ (t : List Own). AreLinks t links.items) same c.in_ok-links_of.ensures.links in
    let size : length links.items ≡ length (get_or lists n own).items = c.in_ok-links_of.ensures.size ∙ ap (λ (t : List Own). length t) same in
    subst (λ (t : List (Vec Link)). AreAllLinks (take (n + 1) lists) t) (sym c.in_ok-push.ensures.items)
    (all_more lists c.loop-own.all.items n own links c.loop-own-test.true c.loop-own.invariant are size)
