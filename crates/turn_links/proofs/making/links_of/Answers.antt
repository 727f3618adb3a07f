use Rattle.std.proofs.Common.{◌+◌, List, length, ap, sym, subst, ◌∙◌}
use Rattle.turn_links.specs.declared.links.Link.{Link}
use Rattle.turn_links.specs.Links.{AreLinks}
use Rattle.turn_links.proofs.Linking.{length_push, link_more}
use Rattle.turn_links.proofs.making.links_of.Goals as goal

pub loop-place-preserved : goal.loop-place-preserved
loop-place-preserved c =
    let size = c.loop-place.invariant.size in
    let low = c.loop-place-test.true in
    let pushed = c.in_ok-push.ensures.items in
    record {
      size = ap (λ (t : List Link). length t) pushed ∙ length_push c.loop-place.links.items c.in_ok-link.link ∙ ap (λ n. n + 1) size;
      links = subst (λ (t : List Link). AreLinks c.args.own.now t) (sym pushed) (link_more c.args.own.now c.loop-place.links.items c.loop-place.place c.in_ok-link.link c.loop-place.invariant.links (sym size) low c.in_ok-link.ensures);
    }
